-- Failures that count from a number.
use Rattle.std.specs.Prelude.{ℕ}

-- What callers see of a text whose failures count from a number: the one within, and the number.
pub record Counting (T : Type 0) : Type 0 where
  pub within : T
  pub first : ℕ
