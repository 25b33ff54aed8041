-- Texts of the numbers of a range, one after another.
use Rattle.std.proofs.Common.{◌≡◌, ℕ, zero, suc, ◌+◌, ◌<◌, List, ◌++◌, refl, sym, ap, ◌∙◌, arith, add-zero, append_assoc}
use Rattle.std.specs.List.{flat_map, range_with_len}

-- the same texts for numbers that go along
pub flat_map_along : (f g : ℕ → List ℕ) (a b n : ℕ) → ((k : ℕ) → k < n → f (a + k) ≡ g (b + k)) → flat_map f (range_with_len a n) ≡ flat_map g (range_with_len b n)
flat_map_along f g a b zero same = refl
flat_map_along f g a b (suc n) same =
    let first : f a ≡ g b = simp add-zero at (same 0 (omega arith)) in
    let rest = flat_map_along f g (a + 1) (b + 1) n (λ k inside.
    let e : a + (k + 1) ≡ a + 1 + k = omega arith in
    let d : b + (k + 1) ≡ b + 1 + k = omega arith in
    sym (ap f e) ∙ same (k + 1) (omega arith) ∙ ap g d) in
    ap (λ t. t ++ flat_map f (range_with_len (a + 1) n)) first ∙ ap (λ t. g b ++ t) rest

-- numbers in two runs
pub flat_map_split : (f : ℕ → List ℕ) (a m n : ℕ) → flat_map f (range_with_len a (m + n)) ≡ flat_map f (range_with_len a m) ++ flat_map f (range_with_len (a + m) n)
flat_map_split f a zero n =
    let none : 0 + n ≡ n = omega arith in
    let same : a + 0 ≡ a = omega arith in
    rw (none, same) refl
flat_map_split f a (suc m) n =
    let one : suc m + n ≡ suc (m + n) = omega arith in
    let same : a + 1 + m ≡ a + suc m = omega arith in
    rw one (ap (λ t. f a ++ t) (rw same at (flat_map_split f (a + 1) m n)) ∙ sym (append_assoc (f a) (flat_map f (range_with_len (a + 1) m)) (flat_map f (range_with_len (a + suc m) n))))
