-- Full lines that go on with a run.
use Rattle.std.specs.Prelude.{◌≡◌, ◌≤◌, ℕ, ◌+◌, List, length}
use Rattle.bx_read.specs.Text.{lines_of, answers}
use Rattle.bx_read.specs.private.NextLine.{runs_with}

-- The text begins with `count` lines that go on with the run `old` at an address, which is then `new`, and with the rest.
pub record GoesOnWith (text rest : List ℕ) (count at : ℕ) (old new : List ℕ) : Type 0 where
  -- whatever line the text begins with, the runs are the same
  pub joins : (p : ℕ) → runs_with (at, old) (answers p (lines_of text)) ≡ runs_with (at, new) (answers (p + count) (lines_of rest))
  pub fewer : (p : ℕ) → length (answers (p + count) (lines_of rest)) ≤ length (answers p (lines_of text))
  pub shorter : count + length rest ≤ length text
