-- Laws of what a look at the next undos shows: it is what they write, and of one step, beside the image, a patch.
use Rattle.std.specs.Prelude.{◌≡◌, ◌<◌, ℕ, true, Option, None, Some, Ok, is_some, IsTrue, List, [], ◌∷◌, take, map, flat_map, All}
use Rattle.bx_image.specs.Change.{effect, placed}
use Rattle.bx_image.specs.Image.{cut}
use Rattle.bx_journal_format.specs.Finished.{IsFinished}
use Rattle.bx_journal_format.specs.Kept.{Run}
use Rattle.bx_journal_format.specs.Line.{saved_in}
use Rattle.bx_journal_format.specs.Spelled.{EntryLines, IsSpelled, entry_in}
use Rattle.bx_journal_format.specs.Text.{Entry}
use Rattle.bx_journal_read.specs.declared.show.way.Steps.{Steps}
use Rattle.bx_journal_model.specs.Images.{Images}
use Rattle.bx_journal_model.specs.Machine.{RedoStep, UndoStep, changes_of, top}
use Rattle.bx_journal_model.specs.Redo.{IsRedoOf}
use Rattle.bx_journal_model.specs.Stack.{StandsFor}
use Rattle.bx_journal_read.specs.show.Differences.{made_text, signed_line}
use Rattle.bx_journal_read.specs.show.ShownSteps.{shows_patch}
use Rattle.bx_journal.specs.ShownText.{shown_patch}
use Rattle.bx_patch.specs.Grammar.{IsPatch}
use Rattle.bx_patch.specs.Patch.{Agrees, Asked, patch_change}

-- a run, if there is one, in front of others
abbrev pub run_then : Option Run → List Run → List Run
run_then None runs = runs
run_then (Some run) runs = run ∷ runs

-- the runs that are shown of saved lines in an entry of this length: each line gives its own
abbrev pub shown_runs : ℕ → List (List ℕ) → List Run
shown_runs len [] = []
shown_runs len (line ∷ lines) = run_then (saved_in len line) (shown_runs len lines)

-- xxd's default line for each of them
abbrev pub dump_of : List Run → List ℕ
dump_of runs = flat_map (λ (run : Run). signed_line [] run.at run.bytes) runs

-- the runs that are shown of an entry, placed onto an image that is cut, or filled up with zeros, to the entry's length
abbrev pub step_onto : EntryLines → List ℕ → List ℕ
step_onto c x = placed (shown_runs c.entry.saved.len c.saved) (cut x c.entry.saved.len)

-- so with entry after entry, in the order in which they are shown
abbrev pub steps_onto : List EntryLines → List ℕ → List ℕ
steps_onto [] x = x
steps_onto (c ∷ older) x = steps_onto older (step_onto c x)

-- What is shown of an entry's saved lines is xxd's default line for each of the runs
abbrev pub ShowsAsDump : Type 0
ShowsAsDump = (len : ℕ) (lines : List (List ℕ)) → made_text len lines ≡ dump_of (shown_runs len lines)

-- and an undo of k makes of the image what those of the newest k entries make of it
abbrev pub ShownIsWritten : Type 0
ShownIsWritten = (text x : List ℕ) (old new : List (List ℕ)) (entries : List EntryLines) (k left : ℕ)
    → StandsFor text x old → IsSpelled text entries → UndoStep old k (Ok left) new → top new ≡ steps_onto (take k entries) x

-- each text of finished entries alone is spelled: the lines of its entries are there to be shown
abbrev pub FinishedIsSpelled : Type 0
FinishedIsSpelled = (text : List ℕ) (entries : List Entry) → IsFinished text entries
    → (lines : List EntryLines) × (map entry_in lines ≡ entries) × IsSpelled text lines

-- the newest entry tells the length after its change
abbrev pub NewestTells : List EntryLines → Type 0
NewestTells [] = ⊥
NewestTells (c ∷ older) = IsTrue (is_some c.entry.after)

-- What is shown of steps over entries, beside x, is a patch that agrees with x and makes y of it
abbrev pub IsShownPatch : (A : Type 0) → Steps → List EntryLines → List ℕ → List ℕ → Type 0
IsShownPatch A s entries x y = (p : Asked) × IsPatch (shown_patch s x entries) p × Agrees p x × (effect {A = A} (patch_change p) x ≡ y)

-- What is shown of one undo, beside the image, is a patch of it that makes what the undo makes
abbrev pub ShownUndoIsAPatch : (A : Type 0) → Type 0
ShownUndoIsAPatch A = (s : Steps) (text x : List ℕ) (old new : List (List ℕ)) (entries : List EntryLines) (left : ℕ) → shows_patch s ≡ true
    → All (λ b. b < 256) x → StandsFor text x old → IsSpelled text entries → NewestTells entries → UndoStep old 1 (Ok left) new
    → IsShownPatch A s entries x (top new)

-- What is shown of one redo is a patch of the image that makes what the redo makes
abbrev pub ShownRedoIsAPatch : (A : Type 0) → Type 0
ShownRedoIsAPatch A = (s : Steps) (redo x : List ℕ) (old new : Images) (entries : List EntryLines) (changes : ℕ) → shows_patch s ≡ true
    → All (λ b. b < 256) x → IsRedoOf redo x (changes_of old.stack) old.undone → IsSpelled redo entries → RedoStep old 1 (Ok changes) new
    → IsShownPatch A s entries x (top new.stack)
