-- od's decimal values of two bytes, lane by lane.
use Rattle.std.proofs.Common.{◌≡◌, ℕ, zero, suc, ◌+◌, ◌-◌, ◌*◌, ◌/◌, ◌%◌, ◌^◌, ◌<◌, ◌≤◌, ltb, ltb-false, cond, Bool, true, false, List, [], ◌∷◌, ◌++◌, map, length, replicate, Fits, w8, w16, take, subst, refl, ap, ◌∙◌, arith, inl, inr}
use Rattle.std.proofs.Math.Nat.{div-le_self}
use Rattle.std.proofs.lemmas.Bool.{cases_Bool}
use Rattle.std.proofs.lemmas.Simd.{Each2-splat, Each1-all, pick_l_whole}
use Rattle.std.specs.List.{flat_map}
use lib.Lanes.{zip2, pick_l, sel_l, top, number_l, digits_l, Each1, Each2}
use Rattle.bx_dump_columns.specs.Decimal.{words, amount, front, decimal_char, last_char, cells, cells_len}

-- what is done to the lanes
abbrev pub below : ℕ → ℕ → ℕ
below a b = cond (ltb a b) 65535 0

abbrev pub add16 : ℕ → ℕ → ℕ
add16 a b = (a + b) % 2 ^ 16

abbrev pub sub16 : ℕ → ℕ → ℕ
sub16 a b = (a + (2 ^ 16 - b)) % 2 ^ 16

abbrev pub mul16 : ℕ → ℕ → ℕ
mul16 a b = a * b % 2 ^ 16

abbrev pub div16 : ℕ → ℕ → ℕ
div16 a b = a / b

-- bytes as lanes of two bytes
pub words_are : (n : ℕ) (bytes : List ℕ) → length bytes ≡ 2 * n → Each1 (Fits w8) bytes → digits_l 65536 n (number_l 256 bytes) ≡ words bytes
words_are n [] long small = let o : n ≡ 0 = omega arith in rw o refl
words_are zero (a ∷ rest) long small = absurd (omega arith)
words_are (suc n) (a ∷ []) long small = absurd (omega arith)
words_are (suc n) (a ∷ b ∷ rest) long small =
    let x = number_l 256 rest in
    let first : a < 2 ^ 8 = small.0.fits in
    let second : b < 2 ^ 8 = small.1.0.fits in
    let low : (a + 256 * (b + 256 * x)) % 65536 ≡ a + 256 * b = omega arith in
    let high : (a + 256 * (b + 256 * x)) / 65536 ≡ x = omega arith in
    (λ i. low i ∷ digits_l 65536 n (high i)) ∙ ap (λ l. (a + 256 * b) ∷ l) (words_are n rest (omega arith) small.1.1)

-- the number without its sign
amount_one : (v : ℕ) → v < 65536 → cond (top 15 (below v 32768)) v (sub16 0 v) ≡ amount true v
amount_one v fits = elim (cases_Bool (ltb v 32768)) [
  | inl e ↦ rw e refl
  | inr e ↦ let large = ltb-false v 32768 e in let is : (0 + (2 ^ 16 - v)) % 2 ^ 16 ≡ 65536 - v = omega arith in rw e is
]

pub amounts_are : (n : ℕ) (vs : List ℕ) → length vs ≡ n → Each1 (Fits w16) vs → sel_l (map (top 15) (zip2 below vs (replicate n 32768))) vs (zip2 sub16 (replicate n 0) vs) ≡ map (amount true) vs
amounts_are n [] long fits = refl
amounts_are zero (v ∷ vs) long fits = absurd (omega arith)
amounts_are (suc n) (v ∷ vs) long fits = let one = amount_one v fits.0.fits in let more = amounts_are n vs (omega arith) fits.1 in λ i. one i ∷ more i

pub amounts_same : (vs : List ℕ) → vs ≡ map (amount false) vs
amounts_same [] = refl
amounts_same (v ∷ vs) = ap (λ l. v ∷ l) (amounts_same vs)

-- what stands in front
front_one : (v : ℕ) → cond (top 15 (below v 32768)) 32 45 ≡ front true v
front_one v = elim (cases_Bool (ltb v 32768)) [ inl e ↦ rw e refl | inr e ↦ rw e refl ]

pub fronts_are : (n : ℕ) (vs : List ℕ) → length vs ≡ n → sel_l (map (top 15) (zip2 below vs (replicate n 32768))) (replicate n 32) (replicate n 45) ≡ map (front true) vs
fronts_are n [] long = refl
fronts_are zero (v ∷ vs) long = absurd (omega arith)
fronts_are (suc n) (v ∷ vs) long = let one = front_one v in let more = fronts_are n vs (omega arith) in λ i. one i ∷ more i

pub fronts_same : (n : ℕ) (vs : List ℕ) → length vs ≡ n → replicate n 32 ≡ map (front false) vs
fronts_same n [] long = let o : n ≡ 0 = omega arith in rw o refl
fronts_same zero (v ∷ vs) long = absurd (omega arith)
fronts_same (suc n) (v ∷ vs) long = ap (λ l. 32 ∷ l) (fronts_same n vs (omega arith))

-- a digit
abbrev digit16 : ℕ → ℕ
digit16 u = add16 (sub16 u (mul16 (div16 u 10) 10)) 48

digit_one : (u : ℕ) → u < 65536 → digit16 u ≡ 48 + u % 10
digit_one u fits = omega arith

amount_fits : (signed : Bool) (v : ℕ) → v < 65536 → amount signed v < 65536
amount_fits false v fits = fits
amount_fits true v fits = elim (cases_Bool (ltb v 32768)) [ inl e ↦ rw e fits | inr e ↦ let large = ltb-false v 32768 e in let is : 65536 - v < 65536 = omega arith in rw e is ]

-- a character
char_one : (power : ℕ) (signed : Bool) (v : ℕ) → v < 65536 →
    let a = amount signed v in cond (top 15 (below a power)) (cond (top 15 (below a (power / 10))) 32 (front signed v)) (digit16 (div16 a power)) ≡ decimal_char signed power v
char_one power signed v fits =
    let a = amount signed v in
    elim (cases_Bool (ltb a power)) [
      | inl e ↦ elim (cases_Bool (ltb a (power / 10))) [ inl f ↦ rw (e, f) refl | inr f ↦ rw (e, f) refl ]
      | inr e ↦ rw e (digit_one (a / power) (let small = amount_fits signed v fits in let less = div-le_self a power in omega arith))
    ]

abbrev pub lanes : ℕ → ℕ → List ℕ → List ℕ → List ℕ
lanes n power ns fs =
    sel_l (map (top 15) (zip2 below ns (replicate n power))) (sel_l (map (top 15) (zip2 below ns (replicate n (power / 10)))) (replicate n 32) fs)
    (zip2 add16 (zip2 sub16 (zip2 div16 ns (replicate n power)) (zip2 mul16 (zip2 div16 (zip2 div16 ns (replicate n power)) (replicate n 10)) (replicate n 10))) (replicate n 48))

pub chars_are : (n power : ℕ) (signed : Bool) (vs : List ℕ) → length vs ≡ n → Each1 (Fits w16) vs → lanes n power (map (amount signed) vs) (map (front signed) vs) ≡ map (decimal_char signed power) vs
chars_are n power signed [] long fits = refl
chars_are zero power signed (v ∷ vs) long fits = absurd (omega arith)
chars_are (suc n) power signed (v ∷ vs) long fits = let one = char_one power signed v fits.0.fits in let more = chars_are n power signed vs (omega arith) fits.1 in λ i. one i ∷ more i

-- the character in front of the fifth digit
first_one : (signed : Bool) (v : ℕ) → v < 65536 → cond (top 15 (below (amount signed v) 10000)) 32 (front signed v) ≡ decimal_char signed 100000 v
first_one signed v fits =
    let a = amount signed v in
    let small = amount_fits signed v fits in
    let less = Rattle.std.proofs.lemmas.Bool.lt-ltb a 100000 (omega arith) in
    elim (cases_Bool (ltb a 10000)) [ inl f ↦ rw (less, f) refl | inr f ↦ rw (less, f) refl ]

pub first_are : (n : ℕ) (signed : Bool) (vs : List ℕ) → length vs ≡ n → Each1 (Fits w16) vs →
    sel_l (map (top 15) (zip2 below (map (amount signed) vs) (replicate n 10000))) (replicate n 32) (map (front signed) vs) ≡ map (decimal_char signed 100000) vs
first_are n signed [] long fits = refl
first_are zero signed (v ∷ vs) long fits = absurd (omega arith)
first_are (suc n) signed (v ∷ vs) long fits = let one = first_one signed v fits.0.fits in let more = first_are n signed vs (omega arith) fits.1 in λ i. one i ∷ more i

-- the last digit
pub last_are : (n : ℕ) (signed : Bool) (vs : List ℕ) → length vs ≡ n → Each1 (Fits w16) vs → let ns = map (amount signed) vs in
    zip2 add16 (zip2 sub16 ns (zip2 mul16 (zip2 div16 ns (replicate n 10)) (replicate n 10))) (replicate n 48) ≡ map (last_char signed) vs
last_are n signed [] long fits = refl
last_are zero signed (v ∷ vs) long fits = absurd (omega arith)
last_are (suc n) signed (v ∷ vs) long fits =
    let one = digit_one (amount signed v) (amount_fits signed v fits.0.fits) in let more = last_are n signed vs (omega arith) fits.1 in λ i. one i ∷ more i

-- characters are bytes
front_small : (signed : Bool) (v : ℕ) → front signed v < 256
front_small false v = omega arith
front_small true v = elim (cases_Bool (ltb v 32768)) [ inl e ↦ rw e (let is : 32 < 256 = omega arith in is) | inr e ↦ rw e (let is : 45 < 256 = omega arith in is) ]

char_small : (power : ℕ) (signed : Bool) (v : ℕ) → decimal_char signed power v < 256
char_small power signed v =
    let a = amount signed v in
    elim (cases_Bool (ltb a power)) [
      | inl e ↦ elim (cases_Bool (ltb a (power / 10))) [ inl f ↦ rw (e, f) (let is : 32 < 256 = omega arith in is) | inr f ↦ rw (e, f) (front_small signed v) ]
      | inr e ↦ rw e (let is : 48 + a / power % 10 < 256 = omega arith in is)
    ]

pub chars_fit : (power : ℕ) (signed : Bool) (vs : List ℕ) → Each1 (Fits w8) (map (decimal_char signed power) vs)
chars_fit power signed [] = tt
chars_fit power signed (v ∷ vs) = (record { fits = char_small power signed v }, chars_fit power signed vs)

pub last_fit : (signed : Bool) (vs : List ℕ) → Each1 (Fits w8) (map (last_char signed) vs)
last_fit signed [] = tt
last_fit signed (v ∷ vs) = (record { fits = let is : 48 + amount signed v % 10 < 256 = omega arith in is }, last_fit signed vs)

pub same : (xs : List ℕ) → map (λ x. x) xs ≡ xs
same [] = refl
same (x ∷ xs) = ap (λ l. x ∷ l) (same xs)

-- lanes are divided by what isn't 0
pub divides : (xs : List ℕ) (n y : ℕ) → 0 < y → Each2 (λ (a b : ℕ). 0 < b) xs (replicate n y)
divides xs n y some = Each2-splat (λ (a b : ℕ). 0 < b) xs n y (Each1-all (λ a. 0 < y) (λ a. some) xs)

-- the characters of each value, one value behind the other
abbrev pub columns : Bool → List ℕ → List ℕ
columns signed v =
    ((map (decimal_char signed 10) v ++ map (last_char signed) v) ++ (map (decimal_char signed 1000) v ++ map (decimal_char signed 100) v))
    ++ ((map (decimal_char signed 100000) v ++ map (decimal_char signed 10000) v) ++ replicate 16 32)

abbrev pub signed_places : List ℕ
signed_places = 48 ∷ 32 ∷ 40 ∷ 16 ∷ 24 ∷ 0 ∷ 8 ∷ 48 ∷ 33 ∷ 41 ∷ 17 ∷ 25 ∷ 1 ∷ 9 ∷ 48 ∷ 34 ∷ 42 ∷ 18 ∷ 26 ∷ 2 ∷ 10 ∷ 48 ∷ 35 ∷ 43 ∷ 19 ∷ 27 ∷ 3 ∷ 11 ∷ 48 ∷ 36 ∷ 44 ∷ 20 ∷ 28 ∷ 4 ∷ 12 ∷ 48 ∷ 37 ∷ 45 ∷ 21 ∷ 29 ∷ 5 ∷ 13 ∷ 48 ∷ 38 ∷ 46 ∷ 22 ∷ 30 ∷ 6 ∷ 14 ∷ 48 ∷ 39 ∷ 47 ∷ 23 ∷ 31 ∷ 7 ∷ 15 ∷ 48 ∷ 48 ∷ 48 ∷ 48 ∷ 48 ∷ 48 ∷ 48 ∷ 48 ∷ []

abbrev pub unsigned_places : List ℕ
unsigned_places = 48 ∷ 40 ∷ 16 ∷ 24 ∷ 0 ∷ 8 ∷ 48 ∷ 41 ∷ 17 ∷ 25 ∷ 1 ∷ 9 ∷ 48 ∷ 42 ∷ 18 ∷ 26 ∷ 2 ∷ 10 ∷ 48 ∷ 43 ∷ 19 ∷ 27 ∷ 3 ∷ 11 ∷ 48 ∷ 44 ∷ 20 ∷ 28 ∷ 4 ∷ 12 ∷ 48 ∷ 45 ∷ 21 ∷ 29 ∷ 5 ∷ 13 ∷ 48 ∷ 46 ∷ 22 ∷ 30 ∷ 6 ∷ 14 ∷ 48 ∷ 47 ∷ 23 ∷ 31 ∷ 7 ∷ 15 ∷ 48 ∷ 48 ∷ 48 ∷ 48 ∷ 48 ∷ 48 ∷ 48 ∷ 48 ∷ 48 ∷ 48 ∷ 48 ∷ 48 ∷ 48 ∷ 48 ∷ 48 ∷ 48 ∷ []

pub signed_is : (v : List ℕ) → length v ≡ 8 → take 56 (pick_l 0 (columns true v) signed_places) ≡ flat_map (cells true) v
signed_is v long = subst (λ l. take 56 (pick_l 0 (columns true l) signed_places) ≡ flat_map (cells true) l) (pick_l_whole 0 v 8 long) refl

pub unsigned_is : (v : List ℕ) → length v ≡ 8 → take 48 (pick_l 0 (columns false v) unsigned_places) ≡ flat_map (cells false) v
unsigned_is v long = subst (λ l. take 48 (pick_l 0 (columns false l) unsigned_places) ≡ flat_map (cells false) l) (pick_l_whole 0 v 8 long) refl

pub cells_fit : (signed : Bool) → cells_len signed ≤ 64
cells_fit true = omega arith
cells_fit false = omega arith
