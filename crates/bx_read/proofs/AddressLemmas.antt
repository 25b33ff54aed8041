-- An address in digits.
use Rattle.std.proofs.Common.{◌≡◌, ℕ, zero, suc, ◌+◌, ◌*◌, ◌/◌, ◌%◌, ◌^◌, ◌<◌, ◌≤◌, true, false, List, [], ◌∷◌, ◌++◌, length, get_or, replicate, refl, arith, add-one, sym, ap, ⊎_elim}
use Rattle.std.specs.Fmt.{digits, digits_onto, digit_glyph}
use Rattle.std.specs.Str.Parse.{digits_value, AllDigits}
use Rattle.std.specs.Char.{digit_value}
use Rattle.std.proofs.lemmas.Bool.{lt-ltb, cases_eq}
use Rattle.std.proofs.lemmas.Nat.{div_below}
use Rattle.std.proofs.Math.Nat.{pow-suc}
use Rattle.bx_text.proofs.FieldLemmas.{digits_onto-last, digits_onto-more, digits_start}
use Rattle.bx_read.specs.Digits.{is_hex}

pub all_hex : (ds : List ℕ) → AllDigits 16 ds → (k d : ℕ) → k < length ds → is_hex (get_or ds k d) ≡ true
all_hex [] all k d inside = absurd (omega arith)
all_hex (c ∷ cs) all zero d inside = lt-ltb (digit_value c) 16 all.0
all_hex (c ∷ cs) all (suc k) d inside = all_hex cs all.1 k d (omega arith)

-- zeros in front change neither the value nor that all are digits
pub value-zeros : (k : ℕ) (ds : List ℕ) → digits_value 16 (replicate k 48 ++ ds) ≡ digits_value 16 ds
value-zeros zero ds = refl
value-zeros (suc k) ds = value-zeros k ds

pub digits-zeros : (k : ℕ) (ds : List ℕ) → AllDigits 16 ds → AllDigits 16 (replicate k 48 ++ ds)
digits-zeros zero ds all = all
digits-zeros (suc k) ds all = (omega arith, digits-zeros k ds all)

-- how many digits there are
length_onto : (k m n : ℕ) (acc : List ℕ) → n < 16 ^ (m + 1) → length (digits_onto k 16 false n acc) ≤ m + 1 + length acc
length_onto zero m n acc small = omega arith
length_onto (suc k) zero n acc small =
    let one : n < 16 = small in
    let z : n / 16 ≡ 0 = omega arith in
    omega (arith, ap length (digits_onto-last (suc k) k 16 false n acc (sym (add-one k)) z))
length_onto (suc k) (suc m) n acc small =
    let power : 16 ^ (suc m + 1) ≡ 16 ^ (m + 1) * 16 = rw (add-one, add-one) (pow-suc 16 (suc m)) in
    let below : n / 16 < 16 ^ (m + 1) = div_below n 16 (16 ^ (m + 1)) (omega arith) (omega arith) in
    let later = length_onto k m (n / 16) (digit_glyph false (n % 16) ∷ acc) below in
    ⊎_elim
    (λ z. omega (arith, ap length (digits_onto-last (suc k) k 16 false n acc (sym (add-one k)) z)))
    (λ z. omega (arith, ap length (digits_onto-more (suc k) k 16 false n acc (sym (add-one k)) z), later))
    (cases_eq (n / 16) 0)

pub length-hex : (m n : ℕ) → n < 16 ^ (m + 1) → length (digits 16 false n) ≤ m + 1
length-hex m n small = omega (arith, ap length (digits_start 64 16 false n refl), length_onto 64 m n [] small)
