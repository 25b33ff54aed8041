-- A line of a text.
use Rattle.std.proofs.Common.{◌≡◌, ℕ, List, ◌∷◌, ◌++◌}
use Rattle.bx_journal_format.specs.read.Plain.{HasNoNewline}

-- a line and what follows it
pub record IsLine (text line rest : List ℕ) : Type 0 where
  pub plain : HasNoNewline line
  pub is : text ≡ line ++ 10 ∷ rest
