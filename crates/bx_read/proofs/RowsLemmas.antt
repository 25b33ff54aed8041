-- Texts of written lines; each line gives a piece.
use Rattle.std.proofs.Common.{◌≡◌, ◌≢◌, ℕ, zero, suc, ◌+◌, ◌<◌, ◌≤◌, List, [], ◌∷◌, ◌++◌, map, refl, arith, ap, ◌∙◌, append_assoc, inr}
use Rattle.std.specs.List.{All, flat_map, range_with_len}
use Rattle.bx_read.specs.Grammar.{IsLine, GivesPieces}
use Rattle.bx_read.specs.Text.{lines_of}
use Rattle.bx_read.proofs.FullLines.{first_line}

-- a line of the grammar with no newline inside, and the newline that ends it
pub record IsRow (text : List ℕ) (at : ℕ) (bytes : List ℕ) : Type 0 where
  pub line : List ℕ
  pub hex : List ℕ
  pub spelled : text ≡ line ++ 10 ∷ []
  pub is : IsLine line at hex bytes
  pub whole : All (λ c. c ≢ 10) line

-- rows one behind another give their pieces
pub rows_give : (row : ℕ → List ℕ) (piece : ℕ → ℕ × List ℕ) (from n : ℕ) → ((k : ℕ) → from ≤ k → k < from + n → IsRow (row k) (piece k).0 (piece k).1) →
    GivesPieces (lines_of (flat_map row (range_with_len from n))) (map piece (range_with_len from n))
rows_give row piece from zero each = refl
rows_give row piece from (suc n) each =
    let first = each from (omega arith) (omega arith) in
    let text = flat_map row (range_with_len (from + 1) n) in
    let later = rows_give row piece (from + 1) n (λ k above below. each k (omega arith) (omega arith)) in
    let lines : lines_of (row from ++ text) ≡ first.line ∷ lines_of text =
    ap (λ t. lines_of (t ++ text)) first.spelled ∙ ap lines_of (append_assoc first.line (10 ∷ []) text) ∙ first_line first.line text first.whole in
    rw lines (inr ((piece from).0, first.hex, (piece from).1, map piece (range_with_len (from + 1) n), first.is, refl, later))
