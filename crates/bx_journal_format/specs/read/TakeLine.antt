-- What one more line makes of a reading, and of the places of what was read.
use Rattle.std.specs.Prelude.{◌≡◌, ◌≤◌, ◌+◌, ℕ, Option, Some, List, ◌∷◌, length}
use Rattle.bx_journal_format.specs.declared.format.line.SavedLine.{SavedLine}
use Rattle.bx_journal_format.specs.declared.format.version.Version.{Version}
use Rattle.bx_journal_format.specs.declared.read.types.EntryRead.{EntryRead}
use Rattle.bx_journal_format.specs.declared.read.types.StageRead.{StageRead}
use Rattle.bx_journal_format.specs.declared.read.types.StageRead.TheVariants.{Between as BetweenRead}
use Rattle.bx_journal_format.specs.Kept.{Kept}
use Rattle.bx_journal_format.specs.Text.{Entry, Saving, Ending}
use Rattle.bx_journal_format.specs.read.Event.{kept_with, run_in}
use Rattle.bx_journal_format.specs.count.Mark.{IsMark}
use Rattle.bx_journal_format.specs.Parsed.{IsStageMarked, KeepsMarks, Leads, entries_onto, reading_onto, stage_of}

-- what was read with a stage has its places with another one too, up to a place further on
abbrev pub MovesMarks : {A : Type 0} → StageRead A → StageRead A → ℕ → Type 0
MovesMarks {A = A} old new after =
    (text : List ℕ) (older : List Entry) (es : List (EntryRead A)) (at : ℕ) → IsStageMarked text older es old at → at ≤ after
    → KeepsMarks text older es after (Some new)

-- a stage among saved lines, with one more of them
abbrev pub IsSavedOn : {A : Type 0} → StageRead A → SavedLine → StageRead A → Type 0
IsSavedOn old l new = (v : Version) (s : Kept)
    → stage_of old ≡ Saving v s → (stage_of new ≡ Saving v (kept_with s (run_in l))) × ((after : ℕ) → MovesMarks old new after)

-- the stage behind a save line that ends at a place
abbrev pub IsCompleted : {A : Type 0} → StageRead A → ℕ → StageRead A → Type 0
IsCompleted old saved new = (v : Version) (s : Kept) → stage_of old ≡ Saving v s → (stage_of new ≡ Ending v s) × MovesMarks old new saved

-- the entries with one more, which is finished from a stage
abbrev pub IsFinishedBy : {A : Type 0} → List (EntryRead A) → StageRead A → Option ℕ → List (EntryRead A) → Type 0
IsFinishedBy es old after news = (v : Version) (s : Kept) → stage_of old ≡ Ending v s
    → ((older : List Entry) → entries_onto older news ≡ record { saved = s; after = after } ∷ entries_onto older es)
    × ((text : List ℕ) (older : List Entry) (at to : ℕ) → IsStageMarked text older es old at → at ≤ to → IsStageMarked text older news BetweenRead to)

-- where a line at a place leads from entries and a stage, if it is in place, and what was read keeps its places
pub record TakesLine {A : Type 0} (older : List Entry) (es : List (EntryRead A)) (stage : StageRead A) (at : ℕ) (line : List ℕ)
    (news : List (EntryRead A)) (found : Option (StageRead A)) : Type 0 where
  pub leads : Leads (reading_onto older es stage) line (entries_onto older news) found
  pub marked : (text : List ℕ) (after : ℕ) → IsStageMarked text older es stage at → IsMark text at (reading_onto older es stage)
      → after ≡ at + length line + 1 → KeepsMarks text older news after found
