-- The blocks of a line, one behind another.
use Rattle.std.proofs.Common.{◌≡◌, ◌⊎◌, inl, inr, ℕ, ◌+◌, ◌<◌, Option, None, Some, List, ◌++◌, length, drop, get_or, refl, ap, subst, sym, ◌∙◌, arith, append_assoc, length-append}
use Rattle.std.specs.Prelude.{codes, slice_set}
use Rattle.std.proofs.lemmas.Bool.{cases_eq}
use Rattle.std.proofs.lemmas.List.{drop_more, get_or-set_same, get_or-set_other}
use Rattle.bx_journal_format.specs.Hex.{hex_digits, number_after}
use Rattle.bx_journal_format.proofs.HexLemmas.{length-hex_digits}
use Rattle.bx_journal_image.specs.Line.{FitsMark, mark_text, marks_text}
use Rattle.bx_journal_image.proofs.LineLemmas.{fronts, number_is}

abbrev pub digits_of : Option ℕ → List ℕ
digits_of None = codes "--------"
digits_of (Some n) = hex_digits 8 n

mark_is : (m : Option ℕ) → mark_text m ≡ codes " " ++ digits_of m
mark_is None = refl
mark_is (Some n) = refl

digits_long : (m : Option ℕ) → length (digits_of m) ≡ 8
digits_long None = refl
digits_long (Some n) = length-hex_digits 8 n

pub mark_long : (m : Option ℕ) (more text : List ℕ) → text ≡ mark_text m ++ more → length text ≡ 9 + length more
mark_long m more text is =
    omega (arith, ap length is, length-append (mark_text m) more, ap length (mark_is m), length-append (codes " ") (digits_of m), digits_long m)

-- a text that begins with what is known of a block, in three parts
pub mark_parts : (m : Option ℕ) (more a behind digits rest text : List ℕ) → text ≡ mark_text m ++ more → text ≡ a ++ behind → length a ≡ 1 → behind ≡ digits ++ rest → length digits ≡ 8
    → (digits ≡ digits_of m) × (rest ≡ more)
mark_parts m more a behind digits rest text is first la second ld =
    let spelled : a ++ (digits ++ rest) ≡ codes " " ++ (digits_of m ++ more) =
    ap (λ s. a ++ s) (sym second) ∙ sym first ∙ is ∙ ap (λ s. s ++ more) (mark_is m) ∙ append_assoc (codes " ") (digits_of m) more in
    let one = fronts a (codes " ") (digits ++ rest) (digits_of m ++ more) la spelled in
    fronts digits (digits_of m) rest more (ld ∙ sym (digits_long m)) one.1

-- its digits tell it
pub mark_told : (m : Option ℕ) (digits : List ℕ) → FitsMark m → digits ≡ digits_of m → number_after 0 digits ≡ m
unfolding number_after
mark_told None digits fits is = ap (number_after 0) is
mark_told (Some n) digits fits is = number_is digits 8 n fits is

-- a block more
pub marks_step : (ms : List (Option ℕ)) (i : ℕ) (more rest : List ℕ) → i < length ms → rest ≡ marks_text (drop i ms) ++ more
    → rest ≡ mark_text (get_or ms i None) ++ (marks_text (drop (i + 1) ms) ++ more)
marks_step ms i more rest below is =
    is ∙ ap (λ (left : List (Option ℕ)). marks_text left ++ more) (drop_more ms i None below)
    ∙ append_assoc (mark_text (get_or ms i None)) (marks_text (drop (i + 1) ms)) more

pub marked_more : (f : ℕ → Option ℕ) (marks : List (Option ℕ)) (k : ℕ) (m : Option ℕ) (p : ℕ) → length marks ≡ 32 → k < 32 → ((q : ℕ) → q < k → get_or marks q None ≡ f q) → m ≡ f k
    → p < k + 1 → get_or (slice_set marks k m) p None ≡ f p
marked_more f marks k m p long few so_far is below = at (cases_eq p k)
  where
    at : (p ≡ k) ⊎ (p ≡ k → ⊥) → get_or (slice_set marks k m) p None ≡ f p
    at (inl same) = subst (λ (q : ℕ). get_or (slice_set marks k m) q None ≡ f q) (sym same) (get_or-set_same marks k m None (omega (arith, few, long)) ∙ is)
    at (inr other) = get_or-set_other marks k p m None other ∙ so_far p (omega (arith, below, other))
