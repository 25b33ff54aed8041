-- How many places agree, from the front on.
use Rattle.std.proofs.Common.{◌≡◌, ◌≢◌, ℕ, ◌+◌, ◌<◌, ◌==◌, length, drop, List, [], ◌∷◌, refl, slice_index, arith}
use Rattle.bx_hints.specs.private.Beside.{agreeing}

pub agreeing_same : (xs ys : List ℕ) → 0 < length xs → 0 < length ys → slice_index xs 0 ≡ slice_index ys 0 →
    agreeing xs ys ≡ agreeing (drop 1 xs) (drop 1 ys) + 1
unfolding agreeing
agreeing_same [] ys p q e = absurd (omega (arith, p))
agreeing_same (x ∷ xs) [] p q e = absurd (omega (arith, q))
agreeing_same (x ∷ xs) (y ∷ ys) p q e = grind (arith, e)

pub agreeing_other : (xs ys : List ℕ) → 0 < length xs → 0 < length ys → slice_index xs 0 ≢ slice_index ys 0 →
    agreeing xs ys ≡ agreeing (drop 1 xs) (drop 1 ys)
unfolding agreeing
agreeing_other [] ys p q e = absurd (omega (arith, p))
agreeing_other (x ∷ xs) [] p q e = absurd (omega (arith, q))
agreeing_other (x ∷ xs) (y ∷ ys) p q e = grind (arith, e)

pub agreeing_none : (xs ys : List ℕ) → length xs ≡ 0 → agreeing xs ys ≡ 0
unfolding agreeing
agreeing_none [] ys p = refl
agreeing_none (x ∷ xs) ys p = absurd (omega (arith, p))

pub agreeing_no_text : (xs ys : List ℕ) → length ys ≡ 0 → agreeing xs ys ≡ 0
unfolding agreeing
agreeing_no_text [] ys p = refl
agreeing_no_text (x ∷ xs) [] p = refl
agreeing_no_text (x ∷ xs) (y ∷ ys) p = absurd (omega (arith, p))
