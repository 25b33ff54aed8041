-- What opening leaves of image and journal, step by step.
use Rattle.std.specs.Prelude.{◌≡◌, ◌↔◌, ◌⊎◌, [], ℕ, List, Result, IfOk, IfErr, MatchResult, OnErr, OnOk}
use Rattle.bx_image.specs.declared.device.Device.{Ghosts as DeviceViews}
use Rattle.bx_journal_store.specs.declared.store.TextStore.{Ghosts as StoreViews}
use Rattle.bx_image.specs.Power.{Only}
use Rattle.bx_journal_model.specs.declared.devices.Devices.{Devices}
use Rattle.bx_journal_model.specs.ThreeDevices.{AreCounted, AreUnfailed}
use Rattle.bx_journal_model.specs.declared.answers.RecoveryOutcome.TheVariants.{Clean}
use Rattle.bx_journal_model.specs.declared.answers.Recovered.{Recovered}
use Rattle.bx_journal_model.specs.declared.fault.SessionFault.{SessionFault}
use Rattle.bx_journal_model.specs.declared.fault.SessionFault.TheVariants.{Damaged, Interrupted}
use Rattle.bx_journal_read.specs.declared.scan.torn.Torn.{Torn}
use Rattle.bx_journal_format.specs.Shown.{shown}
use Rattle.bx_journal_format.specs.Text.{IsAccepted, IsDamagedAt, Reading, Reads}
use Rattle.bx_journal_model.specs.Calls.{AfterFault}
use Rattle.bx_journal_model.specs.Opening.{IsOpened, RefusesText}
use Rattle.bx_journal_model.specs.Redo.{IsClean}
use Rattle.bx_journal_read.specs.scan.Recovery.{IsTorn, LookReadFault}
use Rattle.bx_journal_model.specs.Undoing.{HasLeft}
use Rattle.bx_journal_model.specs.Stack.{HaveLengths, image_at}
use Rattle.bx_journal.specs.Opened.{FaultsAsRead, FindsAgain, KeepsFoundUndone, KeepsPair, KeepsRedoText, IsLengthRefused, SparesClean, SparesPair, TellsRefused, TellsUndone, TellsUnfit}
use Rattle.bx_journal.specs.Recovery.{OpenKind}

-- what is left stands for what the journal's reading recovers, where the lengths that its entries record are those of the images
abbrev pub OpensRead : {D T E : Type 0} → DeviceViews D → StoreViews T → D → T → D → T → Result Recovered E → Type 0
OpensRead d t x s x_new s_new result =
    d.faithful x → t.faithful s → (r : Reading) → Reads (shown (t.text s)) r → HaveLengths r.entries (image_at r.stage (d.image x))
    → IfOk result (λ o. IsOpened (t.text s) (d.image x) r (t.text s_new) (d.image x_new) o.how o.changes)

-- of a journal that is read, its finished entries are left
abbrev pub LeavesRead : {T V E : Type 0} → StoreViews T → T → T → Result V E → Type 0
LeavesRead t old new result = t.faithful old → (r : Reading) → Reads (shown (t.text old)) r → OnOk result (HasLeft (t.text old) (t.text new) r.entries)

-- a line that is reported of the journal is one at which it is damaged
abbrev pub TellsDamage : {T V : Type 0} → StoreViews T → T → Result V SessionFault → Type 0
TellsDamage t s result = t.faithful s → IfErr result (λ e. (line : ℕ) → e ≡ Damaged line → IsDamagedAt (shown (t.text s)) line)

-- behind a fault the journal is as it was, or the redo text is empty
abbrev pub EmptiesFirst : {D T V E : Type 0} → StoreViews T → Devices D T → Devices D T → Result V E → Type 0
EmptiesFirst t old new result =
    t.faithful old.journal → t.faithful old.redo → OnErr result ((t.text new.journal ≡ t.text old.journal) ⊎ (t.text new.redo ≡ []))

-- Behind a success the redo text is empty, and it is emptied before the journal is touched
pub record EmptiesRedo {D T V E : Type 0} (t : StoreViews T) (old new : Devices D T) (result : Result V E) : Type 0 where
  pub emptied : t.faithful old.redo → OnOk result (t.text new.redo ≡ [])
  pub emptied_first : EmptiesFirst t old new result

-- where image and journal are faithful, and on the disk as they are, this holds
abbrev pub WherePairSettled : {D T : Type 0} → DeviceViews D → StoreViews T → D → T → Type 0 → Type 0
WherePairSettled d t x s holds = d.faithful x → t.faithful s → Only (d.image x) (d.survives x) → Only (t.text s) (t.survives s) → holds

-- a fault is one of looking at an image beside what is unfinished, whatever text and reading that is of
abbrev pub FaultsOfTorn : {D V : Type 0} → DeviceViews D → D → Torn → Result V SessionFault → Type 0
FaultsOfTorn d x torn result = (text : List ℕ) (r : Reading) → IsTorn text r torn → IfErr result (LookReadFault (d.faithful x) r (d.image x))

-- Of three devices before opening.
module _ {D T : Type 0} (d : DeviceViews D) (t : StoreViews T) (old : Devices D T) where
  -- A journal that isn't accepted is never opened, and one that is accepted is never called damaged
  pub record JudgesJournal (result : Result Recovered SessionFault) : Type 0 where
    pub accepted : t.faithful old.journal → OnOk result (IsAccepted (shown (t.text old.journal)))
    pub damaged : TellsDamage t old.journal result
    pub unaccepted : t.faithful old.journal → (IsAccepted (shown (t.text old.journal)) → ⊥) → MatchResult result (λ _. ⊥) RefusesText

  -- Which fault comes: one that the journal's reading gives, an interruption only where something was unfinished
  pub record AnswersAsRead (result : Result Recovered SessionFault) : Type 0 where
    pub faults : FaultsAsRead d t old result
    pub kind : IfErr result OpenKind
    pub unfinished : t.faithful old.journal → IfErr result (λ e. e ≡ Interrupted → IsClean (t.text old.journal) → ⊥)
    pub differs : IsLengthRefused d t old result

  -- What is left: beside finished entries alone, and behind each fault but an interruption, all is as it was
  pub record SparesAll (new : Devices D T) (result : Result Recovered SessionFault) : Type 0 where
    pub clean : SparesClean d t old new result
    pub refused : SparesPair d t old new result
    pub redo_same : t.faithful old.redo → IfErr result (λ e. AfterFault e (Unit {0}) (t.text new.redo ≡ t.text old.redo))
    pub keeps : KeepsPair d t old new result
    pub finds_err : FindsAgain d t old new result

  -- What becomes of the redo text: beside a finished journal it stays, and what is unfinished empties it
  pub record SetsRedo (new : Devices D T) (result : Result Recovered SessionFault) : Type 0 where
    pub clean_redo : t.faithful old.redo → IfOk result (λ o. o.how ≡ Clean → t.text new.redo ≡ t.text old.redo)
    pub emptied : t.faithful old.redo → IfOk result (λ o. (o.how ≡ Clean → ⊥) → (t.text new.redo ≡ []) × (o.undone ≡ 0))
    pub undone : TellsUndone d t old new result
    pub keeps_undone : KeepsFoundUndone d t old new result

  -- A redo text is refused exactly where it isn't one of the image and of as many changes, and then at the one line
  pub record RefusesRedoText (result : Result Recovered SessionFault) : Type 0 where
    pub redo_refused : TellsRefused d t old result
    pub redo_unfit : TellsUnfit d t old result
    pub redo_kept : KeepsRedoText d t old result

  -- Each device is faithful as it was, and the fault tells whether one of them counts a failure more
  pub record CallsCount (new : Devices D T) (result : Result Recovered SessionFault) : Type 0 where
    pub image_faith : d.faithful new.image ↔ d.faithful old.image
    pub journal_faith : t.faithful new.journal ↔ t.faithful old.journal
    pub redo_faith : t.faithful new.redo ↔ t.faithful old.redo
    pub no_failure : AreUnfailed d t old new result
    pub counts : AreCounted d t old new result
