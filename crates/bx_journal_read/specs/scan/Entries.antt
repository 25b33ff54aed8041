-- What is read of finished entries alone: all of them again, or the last of them.
use Rattle.std.specs.Prelude.{◌≡◌, ℕ, List, length, Result, ◌≤◌, ◌<◌, ◌^◌, [], take, Option, IfOk, IfErr, IfSome}
use Rattle.bx_journal_model.specs.declared.fault.SessionFault.{SessionFault}
use Rattle.bx_journal_format.specs.Finished.{IsFinished}
use Rattle.bx_journal_format.specs.Text.{Entry, Between, split}
use Rattle.bx_journal_model.specs.Fault.{LacksOrFails}
use Rattle.std.proofs.Common.{subst, sym}
use Rattle.std.proofs.Math.Seq.{take-length}
use Rattle.bx_image.specs.Power.{NoMore}
use Rattle.bx_journal_store.specs.declared.store.TextStore.{Ghosts as StoreViews}
use Rattle.bx_journal_format.specs.declared.read.types.EntryRead.{EntryRead}
use Rattle.bx_journal_format.specs.declared.read.lines.LinesRead.{LinesRead}
use Rattle.bx_journal_format.specs.declared.read.types.Front.{Front}
use Rattle.bx_journal_format.specs.read.Lines.{IsReadUpTo}
use Rattle.bx_journal_format.specs.count.Mark.{IsMark}
use Rattle.bx_journal_format.specs.Parsed.{AreMarked, entries_of}
use Rattle.bx_journal_model.specs.Looking.{LooksAt}
use Rattle.bx_journal_model.specs.declared.entries.FinishedRead.{FinishedRead}
use Rattle.bx_journal_model.specs.Undoing.{IsReadLast, IsLastFrom}

-- a text that was read again, as finished entries alone, with their places
pub record IsReadAgain {A : Type 0} (text : List ℕ) (es : List (EntryRead A)) (count : ℕ) : Type 0 where
  pub finished : IsFinished text (entries_of es)
  pub mark : IsMark text (length text) (record { entries = entries_of es; stage = Between })
  pub marked : AreMarked text [] 0 es (length text)
  pub counted : length es ≡ count
  pub few : length es ≤ 65535

-- `count` finished entries alone, as a text of `len` bytes was read again: the store's, where that is faithful
pub record IsReadFrom {A : Type 0} (faithful : Type 0) (stored : List ℕ) (len : ℕ) (es : List (EntryRead A)) (count : ℕ) : Type 0 where
  pub text : List ℕ
  pub is : faithful → stored ≡ text
  pub long : len ≡ length text
  pub countable : length text < 2 ^ 64
  pub read : IsReadAgain text es count

-- where this was read behind a front of `first` entries up to a length, what is found of it is the last of the entries
abbrev pub FindsLast : {A : Type 0} → LinesRead A → ℕ → ℕ → ℕ → Option (FinishedRead A) → Type 0
FindsLast read first len count found =
    (text : List ℕ) (older : List Entry) (front : Front) → IsReadUpTo text older front read → first ≡ front.count → read.at ≡ len
    → IfSome found (λ o. IsReadLast text o.entries.items count)

-- what was read behind older entries is whole lines
pub read_whole : {A : Type 0} → (text : List ℕ) (older : List Entry) (front : Front) (r : LinesRead A) → IsReadUpTo text older front r → (split text).rest ≡ []
read_whole text older front r read = subst (λ t. (split t).rest ≡ []) (take-length text) (subst (λ n. (split (take n text)).rest ≡ []) (sym read.long) read.read.mark.whole)

-- a text was read so far behind a front of it: the store's, where that is faithful
pub record IsReadBehind {A : Type 0} (faithful : Type 0) (stored : List ℕ) (front : Front) (r : LinesRead A) : Type 0 where
  pub text : List ℕ
  pub older : List Entry
  pub is : faithful → text ≡ take r.at stored
  pub read : IsReadUpTo text older front r

-- A call that looks for the last k entries, at least, of `count` finished entries alone: it answers them, or none, and its fault
-- isn't the text's
pub record LooksForLast {T A : Type 0} (t : StoreViews T) (count k : ℕ) (result : Result (Option (FinishedRead A)) SessionFault) (old new : T) : Type 0 where
  pub read : IfOk result (λ found. IfSome found (λ o. IsLastFrom (t.faithful old) (t.text old) o.len o.entries.items count))
  pub few : IfOk result (λ found. IfSome found (λ o. k ≤ length o.entries.items))
  pub fault : IfErr result LacksOrFails
  pub looks : LooksAt t.faithful t.text t.failures result old new
  pub found_before : t.faithful old → NoMore (t.survives old) (t.survives new)
