-- What a look at the next undos shows, without its headings: a dump, which a revert takes.
use Rattle.std.specs.Prelude.{◌≡◌, ◌==◌, ℕ, false, Ok, List, [], ◌∷◌, ◌++◌, length, flat_map, if◌then◌else◌, codes, All}
use Rattle.bx_image.specs.Change.{effect}
use Rattle.bx_image.specs.declared.change.Change.{Change}
use Rattle.bx_read.specs.Text.{contents, dump_pieces, lines_of}
use Rattle.bx_journal.specs.Steps.{Steps}
use Rattle.bx_journal.specs.Differences.{made_text}
use Rattle.bx_journal.specs.ShowLaws.{shown_runs, steps_onto}
use Rattle.bx_journal.specs.Spelled.{EntryLines}
use Rattle.bx_journal.specs.ShownSteps.{steps_text, unfinished_line}
use Rattle.bx_journal.specs.Text.{Stage}
use Rattle.bx_cli_commands.specs.Command.{dump_change}
use Rattle.bx_cli_commands.specs.Reading.{IsChangeOf}
use Rattle.bx_cli_commands.specs.declared.reading.Form.TheVariants.{Dump}

-- a line as it stands in a text; nothing of a heading, which begins with `#`
abbrev pub unless_heading : List ℕ → List ℕ
unless_heading [] = codes "\n"
unless_heading (c ∷ line) = if c == 35 then [] else (c ∷ line) ++ codes "\n"

-- a text without its headings
abbrev pub unheaded : List ℕ → List ℕ
unheaded text = flat_map unless_heading (lines_of text)

-- the steps over entries as they are shown, each without its heading: the saved lines, and an empty line
abbrev pub shown_dump : List EntryLines → List ℕ
shown_dump entries = flat_map (λ (c : EntryLines). made_text c.entry.saved.len c.saved ++ codes "\n") entries

-- the addresses and bytes of the runs that are shown
abbrev pub shown_pieces : List EntryLines → List (ℕ × List ℕ)
shown_pieces entries = flat_map (λ (c : EntryLines). contents (shown_runs c.entry.saved.len c.saved)) entries

-- Steps that aren't compared with an image are this without their headings
abbrev pub ShownUnheaded : Type 0
ShownUnheaded = (s : Steps) (image : List ℕ) (n : ℕ) (entries : List EntryLines) → s.compares ≡ false
    → unheaded (steps_text s image n entries) ≡ shown_dump entries

-- and the line on what is unfinished is a heading
abbrev pub UnfinishedUnheaded : Type 0
UnfinishedUnheaded = (n : ℕ) (stage : Stage) (text : List ℕ) → unheaded (unfinished_line n stage ++ text) ≡ unheaded text

-- no change of these entries changed the length of the image
abbrev pub KeepLength : List EntryLines → List ℕ → Type 0
KeepLength entries x = All (λ (c : EntryLines). c.entry.saved.len ≡ length x) entries

-- It is read as a dump, and gives exactly these
abbrev pub ShownIsADump : Type 0
ShownIsADump = (entries : List EntryLines) → dump_pieces (shown_dump entries) ≡ Ok (shown_pieces entries)

-- Where no change changed the length, the change that these ask for makes of the image what the undo makes of it
abbrev pub ShownReverts : (A : Type 0) → Type 0
ShownReverts A = (entries : List EntryLines) (x : List ℕ) → KeepLength entries x
    → effect {A = A} (dump_change 0 (shown_pieces entries)) x ≡ steps_onto entries x

-- and so does each change for which a revert reads it
abbrev pub ShownIsUndone : (A : Type 0) → Type 0
ShownIsUndone A = (entries : List EntryLines) (x : List ℕ) (change : Change A) → KeepLength entries x → IsChangeOf Dump (shown_dump entries) 0 change
    → effect change x ≡ steps_onto entries x
