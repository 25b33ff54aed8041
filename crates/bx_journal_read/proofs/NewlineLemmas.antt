-- Newlines that are counted.
use Rattle.std.proofs.Common.{◌≡◌, ℕ, ◌+◌, ◌<◌, List, [], ◌∷◌, ◌++◌, length, take, drop, get_or, refl, ap, sym, ◌∙◌, arith, Bool, true, false, eqb, cond}
use Rattle.std.specs.Prelude.{◌==◌, if◌then◌else◌}
use Rattle.std.proofs.lemmas.Grind.{common_steps}
use Rattle.std.proofs.lemmas.List.{take_more}
use Rattle.bx_journal_format.specs.Text.{Split, split, with_first_byte}
use Rattle.bx_journal_format.proofs.TallyLemmas.{take_sum}

-- the newlines of a text, counted byte by byte
one_newline : ℕ → ℕ
one_newline b = if b == 10 then 1 else 0

newlines_of : List ℕ → ℕ
newlines_of [] = 0
newlines_of (b ∷ text) = one_newline b + newlines_of text

front_lines : (b : ℕ) (s : Split) → length (with_first_byte b s).lines ≡ length s.lines
front_lines b s = by_lines s.lines
  where
    by_lines : (lines : List (List ℕ)) → length (with_first_byte b (record { lines = lines; rest = s.rest })).lines ≡ length lines
    by_lines [] = refl
    by_lines (l ∷ ls) = refl

lines_counted : (text : List ℕ) → length (split text).lines ≡ newlines_of text
unfolding split newlines_of one_newline
lines_counted [] = refl
lines_counted (b ∷ text) = by_test (eqb b 10) (lines_counted text)
  where
    by_test : (is : Bool) → length (split text).lines ≡ newlines_of text
        → length (cond is (record { lines = [] ∷ (split text).lines; rest = (split text).rest }) (with_first_byte b (split text))).lines ≡ cond is 1 0 + newlines_of text
    by_test true ih = omega (arith, ih)
    by_test false ih = omega (arith, ih, front_lines b (split text))

newlines_push : (text : List ℕ) (b : ℕ) → newlines_of (text ++ b ∷ []) ≡ newlines_of text + one_newline b
unfolding newlines_of
newlines_push [] b = omega arith
newlines_push (c ∷ text) b = let more = newlines_push text b in omega (arith, more)

newlines_more : (text : List ℕ) (i d : ℕ) → i < length text → length (split (take (i + 1) text)).lines ≡ length (split (take i text)).lines + one_newline (get_or text i d)
newlines_more text i d within =
    lines_counted (take (i + 1) text) ∙ ap newlines_of (take_more text i d within) ∙ newlines_push (take i text) (get_or text i d)
    ∙ ap (λ n. n + one_newline (get_or text i d)) (sym (lines_counted (take i text)))

-- one more byte
pub newline_more : (text : List ℕ) (i count : ℕ) → i < length text → get_or text i 0 ≡ 10 → count ≡ length (split (take i text)).lines → count + 1 ≡ length (split (take (i + 1) text)).lines
unfolding one_newline
newline_more text i count within ten counted =
    let one : one_newline (get_or text i 0) ≡ 1 = ap one_newline ten in
    omega (arith, newlines_more text i 0 within, one, counted)

apart_ten : (b : ℕ) → (b ≡ 10 → ⊥) → one_newline b ≡ 0
unfolding one_newline
apart_ten b apart = by_test (eqb b 10) refl
  where
    by_test : (is : Bool) → eqb b 10 ≡ is → cond is (let one : ℕ = 1 in one) 0 ≡ 0
    by_test true is = absurd (let ten : b ≡ 10 = grind (arith, common_steps) in apart ten)
    by_test false is = refl

pub newline_same : (text : List ℕ) (i count : ℕ) → i < length text → (get_or text i 0 ≡ 10 → ⊥) → count ≡ length (split (take i text)).lines → count ≡ length (split (take (i + 1) text)).lines
newline_same text i count within apart counted = omega (arith, newlines_more text i 0 within, apart_ten (get_or text i 0) apart, counted)

newlines_append : (a b : List ℕ) → newlines_of (a ++ b) ≡ newlines_of a + newlines_of b
unfolding newlines_of
newlines_append [] b = omega arith
newlines_append (x ∷ a) b = let more = newlines_append a b in omega (arith, more)

-- a window more
pub newlines_on : (text part : List ℕ) (at n count : ℕ) → part ≡ take n (drop at text) → count ≡ length (split (take at text)).lines → count + length (split part).lines ≡ length (split (take (at + n) text)).lines
newlines_on text part at n count is counted =
    let seam : newlines_of (take (at + n) text) ≡ newlines_of (take at text) + newlines_of part =
    ap newlines_of (take_sum at n text ∙ ap (λ u. take at text ++ u) (sym is)) ∙ newlines_append (take at text) part in
    omega (arith, counted, seam, lines_counted part, lines_counted (take at text), lines_counted (take (at + n) text))
