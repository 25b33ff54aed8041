-- A line of xxd's default form that holds 16 bytes.
use Rattle.std.specs.Prelude.{◌≡◌, ◌≢◌, ℕ, List, ◌∷◌, ◌++◌, length, All}
use Rattle.bx_read.specs.Grammar.{IsLine}

-- The text begins with a line of the grammar and its newline.
pub record IsFull (text : List ℕ) (at : ℕ) (bytes : List ℕ) : Type 0 where
  pub line : List ℕ
  pub rest : List ℕ
  pub hex : List ℕ
  pub spelled : text ≡ line ++ 10 ∷ rest
  pub long : length line ≡ 67
  pub whole : All (λ c. c ≢ 10) line
  pub is : IsLine line at hex bytes
