-- What opening finds in a journal's text, and what it leaves of the redo text.
use Rattle.std.specs.Prelude.{◌≡◌, ◌⊎◌, ◌≤◌, ℕ, Option, None, Some, List, length, take, IfSome, Result, IfOk, IfErr, MatchResult, OnOk, OnErr}
use Rattle.bx_image.specs.Power.{NoMore}
use Rattle.bx_journal_store.specs.declared.store.TextStore.{Ghosts as StoreViews}
use Rattle.bx_journal_model.specs.declared.answers.Recovered.{Recovered}
use Rattle.bx_journal_model.specs.declared.fault.SessionFault.{SessionFault}
use Rattle.bx_journal_model.specs.declared.fault.SessionFault.TheVariants.{DeviceFailed, Damaged, Interrupted, LengthDiffers, RedoDamaged}
use Rattle.bx_journal_model.specs.Fault.{DeviceFault}
use Rattle.bx_journal_read.specs.declared.scan.journal.Found.{Found}
use Rattle.bx_journal_read.specs.declared.scan.journal.Found.TheVariants.{Finished, Unfinished}
use Rattle.bx_journal_model.specs.declared.mark.Mark.{Mark}
use Rattle.bx_journal_read.specs.declared.scan.torn.Torn.{Torn}
use Rattle.bx_journal_format.specs.count.Mark.{IsMark}
use Rattle.bx_journal_read.specs.scan.Judging.{RefusesRedo}
use Rattle.bx_journal_model.specs.Looking.{LooksAt, LookFault}
use Rattle.bx_journal_model.specs.Phase.{IsAtRest}
use Rattle.bx_journal_model.specs.Stack.{Recovers, image_at}
use Rattle.bx_journal_model.specs.Redo.{IsClean, IsRedoOf, IsRefusedAt, found_undone}
use Rattle.bx_journal_model.specs.Restoring.{StandsAt}
use Rattle.bx_journal_format.specs.Parsed.{told_by}
use Rattle.bx_journal_format.specs.count.Tally.{IsCounted}
use Rattle.bx_journal_format.specs.Shown.{shown}
use Rattle.bx_journal_format.specs.Text.{Stage, Between, Saving, Ending, Reading, Reads, IsDamagedAt}

-- `count` finished entries alone were counted: the store's, where that is faithful
pub record IsCountedIn (faithful : Type 0) (stored : List ℕ) (count : ℕ) (told : Option ℕ) : Type 0 where
  pub text : List ℕ
  pub is : faithful → stored ≡ text
  pub counted : IsCounted text count told
  pub few : count ≤ 65535

-- where the change of what is unfinished was under way its record stands at a mark, and elsewhere there is no mark
abbrev pub HasMark : List ℕ → Stage → Option Mark → Type 0
HasMark text Between None = Unit {0}
HasMark text (Saving v s) None = Unit {0}
HasMark text (Ending v s) (Some mark) = StandsAt text mark s
HasMark text Between (Some mark) = ⊥
HasMark text (Saving v s) (Some mark) = ⊥
HasMark text (Ending v s) None = ⊥

-- what is unfinished at the end of a text that reads so
pub record IsTorn (text : List ℕ) (r : Reading) (t : Torn) : Type 0 where
  pub reads : Reads text r
  pub begins : IsMark text t.begins (record { entries = r.entries; stage = Between })
  pub count : t.count ≡ length r.entries
  pub told : t.told ≡ told_by r.entries
  pub few : t.count ≤ 65535
  pub mark : HasMark text r.stage t.mark

-- something is torn at the end of a text
pub record HasTorn (text : List ℕ) (t : Torn) : Type 0 where
  pub reading : Reading
  pub torn : IsTorn text reading t

-- the first n bytes of a journal have such an end: of the store's, where that is faithful
pub record IsTornFront (faithful : Type 0) (stored : List ℕ) (n : ℕ) (t : Torn) : Type 0 where
  pub torn : faithful → HasTorn (take n stored) t
  pub few : t.count ≤ 65535
  pub order : IfSome t.mark (λ m. m.lines ≤ m.saved)
  pub within : t.begins ≤ n

-- so does this text, which isn't finished entries alone
pub record IsTornIn (text : List ℕ) (t : Torn) : Type 0 where
  pub reading : Reading
  pub torn : IsTorn (shown text) reading t
  pub unfinished : IsClean text → ⊥

-- something unfinished was found at the end of a journal: of the store's, where that is faithful
pub record IsUnfinishedIn (faithful : Type 0) (stored : List ℕ) (t : Torn) : Type 0 where
  pub torn : faithful → IsTornIn stored t
  pub few : t.count ≤ 65535
  pub order : IfSome t.mark (λ m. m.lines ≤ m.saved)

-- what was found is the store's, where that is faithful
abbrev pub IsFoundIn : Type 0 → List ℕ → Found → Type 0
IsFoundIn faithful stored (Finished counted) = IsCountedIn faithful stored counted.count counted.told
IsFoundIn faithful stored (Unfinished torn) = IsUnfinishedIn faithful stored torn

-- a sound pair keeps its stack: at rest, or behind a fault so that opening finds it again
abbrev pub KeepsStack : {T E : Type 0} → Result T E → List ℕ → List ℕ → List ℕ → List ℕ → Type 0
KeepsStack result text x new y =
    (stack : List (List ℕ)) → Recovers (shown text) x stack → OnOk result (IsAtRest new y stack) × OnErr result (Recovers (shown new) y stack)

-- which fault reading the journal may answer
abbrev pub FindFault : Type 0 → List ℕ → SessionFault → Type 0
FindFault faithful text (Damaged line) = faithful → IsDamagedAt text line
FindFault faithful text e = DeviceFault e

-- A call that looks at what a journal's text is: it answers that, or why the text can't be read
pub record FindsText {T : Type 0} (t : StoreViews T) (result : Result Found SessionFault) (old new : T) : Type 0 where
  pub found : IfOk result (IsFoundIn (t.faithful old) (t.text old))
  pub fault : IfErr result (FindFault (t.faithful old) (shown (t.text old)))
  pub looks : LooksAt t.faithful t.text t.failures result old new
  pub found_before : t.faithful old → NoMore (t.survives old) (t.survives new)

-- which fault taking back what is unfinished may answer
abbrev pub RecoverFault : SessionFault → Type 0
RecoverFault (LengthDiffers expected) = Unit {0}
RecoverFault Interrupted = Unit {0}
RecoverFault e = DeviceFault e

-- the redo text of an image and `changes` changes has `count` undone images
abbrev pub HasUndoneCount : List ℕ → List ℕ → ℕ → ℕ → Type 0
HasUndoneCount redo x changes count = (undone : List (List ℕ)) × IsRedoOf redo x changes undone × (count ≡ length undone)

-- what opening leaves of the redo text and the image stands for the undone images that it keeps, and it tells their number
abbrev pub KeepsUndone : List ℕ → List ℕ → Recovered → List (List ℕ) → Type 0
KeepsUndone redo x o undone = IsRedoOf redo x o.changes (found_undone o.how undone) × (o.undone ≡ length (found_undone o.how undone))

-- the image has the length that is recorded, if any
abbrev pub HasToldLength : Option ℕ → List ℕ → Type 0
HasToldLength told x = IfSome told (λ n. length x ≡ n)

-- the image hasn't this length, which is recorded
abbrev pub HasOtherLength : Option ℕ → List ℕ → ℕ → Type 0
HasOtherLength told x n = (told ≡ Some n) × (length x ≡ n → ⊥)

-- which fault opening beside finished entries alone may answer: of the image, and of the image and the redo text, if faithful
abbrev pub FinishedFault : Type 0 → Type 0 → List ℕ → List ℕ → ℕ → Option ℕ → SessionFault → Type 0
FinishedFault image both redo x changes told (LengthDiffers n) = image → HasOtherLength told x n
FinishedFault image both redo x changes told (RedoDamaged line) = (image → HasToldLength told x) × (both → IsRefusedAt redo x changes line)
FinishedFault image both redo x changes told e = DeviceFault e

-- a length that is recorded and that the image, if faithful, doesn't have, or a failed device
abbrev pub LengthFault : Type 0 → Option ℕ → List ℕ → SessionFault → Type 0
LengthFault faithful told x e = (e ≡ DeviceFailed) ⊎ ((n : ℕ) × (e ≡ LengthDiffers n) × (faithful → HasOtherLength told x n))

-- which fault may come between reading a journal and the first write
abbrev pub LookReadFault : Type 0 → Reading → List ℕ → SessionFault → Type 0
LookReadFault faithful r x e = LookFault faithful r.entries (image_at r.stage x) e

-- the same of an image and a redo text, which are faithful by themselves
abbrev pub FaultBeside : Type 0 → Type 0 → List ℕ → List ℕ → ℕ → Option ℕ → SessionFault → Type 0
FaultBeside image text redo x changes told e = FinishedFault image (image × text) redo x changes told e

-- a redo text that is refused beside finished entries, whose length is the image's, is refused at that line, unless another fault came before
abbrev pub RefusesBeside : {V : Type 0} → List ℕ → List ℕ → ℕ → Option ℕ → Result V SessionFault → Type 0
RefusesBeside redo x changes told result = (line : ℕ) → HasToldLength told x → IsRefusedAt redo x changes line → MatchResult result (λ v. ⊥) (RefusesRedo line)

-- the redo text and the image stand for as many undone images as are reported
abbrev pub TellsCount : {E : Type 0} → List ℕ → List ℕ → ℕ → Result Recovered E → Type 0
TellsCount redo x changes result = IfOk result (λ o. HasUndoneCount redo x changes o.undone)
