-- Equal lists of bytes have the last line alone, and others have more.
use Rattle.std.proofs.Common.{◌≡◌, ℕ, zero, suc, ◌+◌, ◌*◌, List, [], ◌∷◌, ◌++◌, length, refl, sym, ap, ◌∙◌, arith}
use Rattle.std.specs.Prelude.{codes}
use Rattle.std.specs.Fmt.{decimal}
use Rattle.std.proofs.lemmas.Fmt.{decimal_digit}
use Rattle.std.specs.List.{flat_map}
use Rattle.bx_text.specs.Fold.{line_bytes}
use Rattle.bx_patch.specs.Laws.{EqualIsEmpty}
use Rattle.bx_patch.specs.declared.diff.row.Extent.{Extent}
use Rattle.bx_patch.specs.Text.{PatchLine, with_end, headed, length_text, signed_line_text, patch_lines, patch_text, row_count, row_lines, rows_from}
use Rattle.bx_patch.proofs.UniqueLemmas.{first_of}
use Rattle.bx_patch.proofs.WritingLemmas.{no_more}
use Rattle.bx_patch.proofs.MakesLemmas.{no_lines}
use Rattle.bx_patch.proofs.PushLemmas.{equal_rows, flat_more}

none_from : (extent : Extent) (x : List ℕ) (k n : ℕ) → flat_map signed_line_text (rows_from extent x x k n) ≡ []
none_from extent x k zero = refl
none_from extent x k (suc n) =
    let row = row_lines extent (16 * k) (line_bytes x k) (line_bytes x k) in
    flat_more signed_line_text row (rows_from extent x x (k + 1) n) ∙ ap (λ t. t ++ flat_map signed_line_text (rows_from extent x x (k + 1) n)) (equal_rows extent (16 * k) (line_bytes x k) (line_bytes x k) refl)
    ∙ none_from extent x (k + 1) n

same_none : (extent : Extent) (x : List ℕ) → patch_lines extent x x ≡ []
same_none extent x = no_more (patch_lines extent x x) (ap length (none_from extent x 0 (row_count x x)))

-- a text of the last line alone has no line in front, as it begins with another letter
alone : (old new : ℕ) (lines : List PatchLine) → with_end (headed (length_text old new ++ codes "\n") lines) ≡ codes "end 0\n" → lines ≡ []
alone old new [] e = refl
alone old new (l ∷ lines) e = absurd (omega (arith, ap first_of e))

zero_text : decimal 0 ≡ codes "0"
zero_text = decimal_digit 0 (omega arith)

pub equal_is_empty : EqualIsEmpty
equal_is_empty extent x y = (
  λ empty. no_lines extent x y (alone (length x) (length y) (patch_lines extent x y) empty),
  λ same. ap (patch_text extent x) (sym same) ∙ ap (λ lines. with_end (headed (length_text (length x) (length x) ++ codes "\n") lines)) (same_none extent x)
      ∙ ap (λ digits. codes "end " ++ digits ++ codes "\n") zero_text,
)
