-- Where the record of an unfinished entry stands in a text, from which it is restored a window at a time.
use Rattle.std.specs.Prelude.{◌≡◌, ◌<◌, ◌≤◌, ◌+◌, ℕ, None, List, [], ◌∷◌, length, take, drop}
use Rattle.bx_image.specs.Change.{AllWithin, byte_in, placed}
use Rattle.bx_journal_format.specs.Kept.{Kept, Run, with_runs}
use Rattle.bx_journal_format.specs.count.Mark.{IsMark}
use Rattle.bx_journal_format.specs.count.Parts.{IsIn, TakesSome}
use Rattle.bx_journal_format.specs.Text.{Entry, Saving, Ending, split}
use Rattle.bx_journal_format.specs.declared.format.version.Version.{Version}
use Rattle.bx_journal_model.specs.declared.mark.Mark.{Mark}
use Rattle.bx_journal_model.specs.Phase.{IsPartOf}

-- a window of this size is enough to read any line with
abbrev pub IsEnough : ℕ → Type 0
IsEnough size = 1024 < size

-- The saved lines of this record begin at the one place, and its save line ends at the other
pub record StandsAt (text : List ℕ) (m : Mark) (s : Kept) : Type 0 where
  pub entries : List Entry
  pub version : Version
  pub len : s.len ≡ m.len
  pub begins : IsMark text m.lines (record { entries = entries; stage = Saving version (record { len = m.len; runs = [] }) })
  pub ends : IsMark text m.saved (record { entries = entries; stage = Ending version s })
  pub order : m.lines ≤ m.saved

-- below its length the one record leaves out only addresses that the other one leaves out, and that lie below its length too
abbrev pub Names : Kept → Kept → Type 0
Names r s = (i : ℕ) → i < r.len → byte_in r.runs i ≡ None → (i < s.len) × (byte_in s.runs i ≡ None)

-- the record names each address of these runs, as far as its length goes
abbrev pub AreNamed : Kept → List Run → Type 0
AreNamed r [] = Unit {0}
AreNamed r (run ∷ runs) = IsPartOf r run.at (length run.bytes) × AreNamed r runs

-- the first n of some bytes of a text at a place are saved lines in an entry of an image of this length, and their runs were placed on the image
pub record RestoresWindow (text : List ℕ) (len more room at n : ℕ) (x y : List ℕ) : Type 0 where
  pub runs : List Run
  pub within : AllWithin len runs
  pub leads : (entries : List Entry) (v : Version) (old : List Run) → IsIn (take at text) entries v (record { len = len; runs = old })
      → IsIn (take (at + n) text) entries v (record { len = len; runs = with_runs old runs })
  pub some : TakesSome len (take more (drop at text)) room n
  pub image : y ≡ placed runs x

-- the saved lines of an entry up to a place are restored, from the image x on
pub record IsRestoredTo (text : List ℕ) (entries : List Entry) (v : Version) (len at : ℕ) (x y : List ℕ) : Type 0 where
  pub runs : List Run
  pub within : AllWithin len runs
  pub inside : IsIn (take at text) entries v (record { len = len; runs = with_runs [] runs })
  pub image : y ≡ placed runs x
