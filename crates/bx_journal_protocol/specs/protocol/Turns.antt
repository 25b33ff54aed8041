-- One entry more is undone or redone.
use Rattle.std.specs.Prelude.{ℕ, nat_le, List, [], ◌++◌, if◌then◌else◌}
use Rattle.bx_image.specs.declared.change.TheConstants.{MAX_LEN}
use Rattle.bx_journal_format.specs.Kept.{Kept}
use Rattle.bx_journal_format.specs.Entry.{entry_text}
use Rattle.bx_journal_model.specs.Machine.{changes_of}
use Rattle.bx_journal_model.specs.Phase.{IsAtRest}
use Rattle.bx_journal_model.specs.Stack.{StandsFor}
use Rattle.bx_journal_protocol.specs.declared.protocol.redo_text.RedoCut.{RedoCut}
use Rattle.bx_journal_protocol.specs.declared.protocol.redo_text.RedoCut.TheVariants.{All, From}
use Rattle.bx_journal_model.specs.Images.{Images}
use Rattle.bx_journal_model.specs.Redo.{IsRedoOf, Side}

-- the redo text behind an undone entry: with what it overwrote, or empty where the image was too long
abbrev pub kept_text : List ℕ → Kept → ℕ → ℕ → List ℕ
kept_text text s n after = if nat_le s.len MAX_LEN then text ++ entry_text n s after else []

-- journal, image and redo text between two entries
pub record AreAtRest (text x redo : List ℕ) (s : Images) : Type 0 where
  pub rest : IsAtRest text x s.stack
  pub undone : IsRedoOf redo x (changes_of s.stack) s.undone

-- how much of the redo text a change leaves
abbrev pub cut_place : RedoCut → ℕ
cut_place All = 0
cut_place (From begins) = begins

-- the side of a pair at rest
abbrev pub side_of : List (List ℕ) → List ℕ → List ℕ → Side
side_of stack x redo = record { stack = stack; image = x; redo = redo }

-- the same of a pair that need not be sound
pub record AreStanding (text x redo : List ℕ) (s : Images) : Type 0 where
  pub stands : StandsFor text x s.stack
  pub undone : IsRedoOf redo x (changes_of s.stack) s.undone
