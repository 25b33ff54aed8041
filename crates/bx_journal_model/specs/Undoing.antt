-- What undoing starts from and leaves.
use Rattle.std.specs.Prelude.{◌≡◌, ◌⊎◌, ℕ, List, length, drop, Result, OnOk, ◌+◌, ◌-◌}
use Rattle.bx_journal_model.specs.declared.fault.SessionFault.{SessionFault}
use Rattle.bx_journal_model.specs.declared.fault.SessionFault.TheVariants.{Damaged, TooFew, NothingToRedo, RedoDamaged}
use Rattle.bx_journal_format.specs.Finished.{IsFinished}
use Rattle.bx_journal_format.specs.Text.{Entry, IsPrefix, IsDamagedAt, IsAccepted, Between}
use Rattle.bx_journal_model.specs.Fault.{DeviceFault, WritingFault}
use Rattle.bx_journal_format.specs.declared.read.types.EntryRead.{EntryRead}
use Rattle.bx_journal_format.specs.count.Mark.{IsMark}
use Rattle.bx_journal_format.specs.Parsed.{AllKept, AreMarked, entries_onto}

-- what is left of a text: a prefix, which is these finished entries alone
pub record HasLeft (old new : List ℕ) (entries : List Entry) : Type 0 where
  pub front : IsPrefix new old
  pub finished : IsFinished new entries

-- of a text that is finished entries alone a prefix is left, which is these without the newest k
abbrev pub LeavesFront : {V E : Type 0} → List ℕ → ℕ → List ℕ → Result V E → Type 0
LeavesFront text k new result = (all : List Entry) → IsFinished text all → OnOk result (HasLeft text new (drop k all))

-- the text is `count` finished entries alone
abbrev pub HasCount : List ℕ → ℕ → Type 0
HasCount text count = (entries : List Entry) × IsFinished text entries × (length entries ≡ count)

-- where a text that isn't `count` finished entries alone is called damaged: at its damaged line, or at line 1 where it is accepted
abbrev pub IsOutOfStep : List ℕ → ℕ → ℕ → Type 0
IsOutOfStep text count line = IsDamagedAt text line ⊎ ((line ≡ 1) × IsAccepted text × (HasCount text count → ⊥))

-- which fault reading again may answer: want of memory, a failed device, or a text that is out of step
abbrev pub AgainFault : Type 0 → List ℕ → ℕ → SessionFault → Type 0
AgainFault faithful text count (Damaged line) = faithful → IsOutOfStep text count line
AgainFault faithful text count e = DeviceFault e

-- which fault undoing may answer, where `count` changes stand
abbrev pub UndoFault : ℕ → SessionFault → Type 0
UndoFault count (TooFew have) = have ≡ count
UndoFault count (Damaged line) = Unit {0}
UndoFault count e = WritingFault e

-- which fault redoing may answer, where `undone` changes are undone
abbrev pub RedoFault : ℕ → SessionFault → Type 0
RedoFault undone (NothingToRedo have) = have ≡ undone
RedoFault undone (RedoDamaged line) = Unit {0}
RedoFault undone e = WritingFault e

-- the last of `count` finished entries alone, with their places; the entries before them are `older`, the newest first
pub record IsReadLast {A : Type 0} (text : List ℕ) (es : List (EntryRead A)) (count : ℕ) : Type 0 where
  pub older : List Entry
  pub finished : IsFinished text (entries_onto older es)
  pub mark : IsMark text (length text) (record { entries = entries_onto older es; stage = Between })
  pub marked : AreMarked text older 0 es (length text)
  pub counted : length older + length es ≡ count

-- what the last k entries of a text that was read restore has room
abbrev pub HasRoomFor : {A V E : Type 0} → ℕ → List (EntryRead A) → ℕ → Result V E → Type 0
HasRoomFor room es k result = (text : List ℕ) (count : ℕ) → IsReadLast text es count → OnOk result (AllKept room (drop (length es - k) es))

-- the same of a text of this length: the store's, where that is faithful
pub record IsLastFrom {A : Type 0} (faithful : Type 0) (stored : List ℕ) (len : ℕ) (es : List (EntryRead A)) (count : ℕ) : Type 0 where
  pub text : List ℕ
  pub is : faithful → stored ≡ text
  pub long : len ≡ length text
  pub read : IsReadLast text es count

-- the text of a store, where that is faithful, is some older entries and these alone, with the places of these
pub record AreReadFrom {A : Type 0} (faithful : Type 0) (stored : List ℕ) (es : List (EntryRead A)) : Type 0 where
  pub text : List ℕ
  pub older : List Entry
  pub is : faithful → stored ≡ text
  pub mark : IsMark text (length text) (record { entries = entries_onto older es; stage = Between })
  pub marked : AreMarked text older 0 es (length text)

-- which fault reading the redo text again may answer
abbrev pub RedoAgainFault : Type 0 → List ℕ → ℕ → SessionFault → Type 0
RedoAgainFault faithful text count (RedoDamaged line) = faithful → IsOutOfStep text count line
RedoAgainFault faithful text count e = DeviceFault e
