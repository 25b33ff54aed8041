-- The line that ends an entry of a journal.
use Rattle.std.specs.Prelude.{ℕ, ◌≡◌, ◌^◌, ◌<◌, List, ◌++◌, codes}
use Rattle.bx_journal_image.specs.Line.{field}

-- the line that ends an entry of the newer form
unfoldable pub ending_line : ℕ → ℕ → List ℕ
ending_line n after = field (codes "done2 ") 8 n ++ field (codes " ") 16 after ++ codes "\n"

-- the text ends with that of entry n
pub record EndsIn (text : List ℕ) (n : ℕ) : Type 0 where
  pub front : List ℕ
  pub after : ℕ
  pub number : n < 16 ^ 8
  pub fits : after < 16 ^ 16
  pub is : text ≡ front ++ ending_line n after
