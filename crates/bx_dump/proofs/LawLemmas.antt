-- The definitions in other words.
use Rattle.std.proofs.Common.{◌≡◌, ℕ, zero, suc, ◌+◌, ◌-◌, ◌*◌, ◌/◌, ◌^◌, ◌<◌, ◌≤◌, true, false, List, [], ◌∷◌, ◌++◌, length, take, drop, refl, sym, ap, subst, ◌∙◌, arith, append_assoc}
use Rattle.std.specs.Prelude.{nat_lt, ◌==◌, if◌then◌else◌, slice_index, sum_by, codes}
use Rattle.std.specs.List.{flat_map, range_with_len}
use Rattle.std.proofs.lemmas.Bool.{eq-eqb, ne_eqb}
use Rattle.std.proofs.lemmas.Bool.Decides.{nat_tests}
use Rattle.std.proofs.lemmas.List.Sums.{sum_by-cons}
use Rattle.std.proofs.Math.Nat.{pow-suc, pow-zero, mul-le-mul_left, div-eq_of_lt, le-div_iff_mul-le}
use Rattle.bx_dump_columns.specs.Values.{value_of}
use Rattle.bx_dump.specs.Laws.{item, items, ValueIsSum, ItemsAreBytes, ItemsAreLines, item_at, item_lines}
use Rattle.bx_dump.specs.private.Rows.{include_line, next_item}

sums : (x y s t : ℕ) → x ≡ 256 * y → s ≡ 256 * t → x + s ≡ 256 * (y + t)
sums x y s t p q = omega arith

-- a sum each of whose parts is 256 times another's
scaled : (f h : ℕ → ℕ) (a b n : ℕ) → ((k : ℕ) → f (a + k) ≡ 256 * h (b + k)) → sum_by f (range_with_len a n) ≡ 256 * sum_by h (range_with_len b n)
scaled f h a b zero same = refl
scaled f h a b (suc n) same =
    let e : a + 0 ≡ a = omega arith in
    let d : b + 0 ≡ b = omega arith in
    let first : f a ≡ 256 * h b = sym (ap f e) ∙ same 0 ∙ ap (λ m. 256 * h m) d in
    let rest = scaled f h (a + 1) (b + 1) n (λ k.
    let e : a + (k + 1) ≡ a + 1 + k = omega arith in
    let d : b + (k + 1) ≡ b + 1 + k = omega arith in
    sym (ap f e) ∙ same (k + 1) ∙ ap (λ m. 256 * h m) d) in
    sum_by-cons f a (range_with_len (a + 1) n)
    ∙ sums (f a) (h b) (sum_by f (range_with_len (a + 1) n)) (sum_by h (range_with_len (b + 1) n)) first rest
    ∙ ap (λ m. 256 * m) (sym (sum_by-cons h b (range_with_len (b + 1) n)))

one_place : (x p q : ℕ) → q ≡ p * 256 → x * q ≡ 256 * (x * p)
one_place x p q is = rw is (omega arith)

total : (b v x s t : ℕ) → x ≡ b → s ≡ 256 * t → v ≡ t → b + 256 * v ≡ x + s
total b v x s t p q r = omega arith

pub value_is_sum : ValueIsSum
value_is_sum [] = refl
value_is_sum (b ∷ bs) =
    let f = λ (i : ℕ). slice_index (b ∷ bs) i * 256 ^ i in
    let h = λ (i : ℕ). slice_index bs i * 256 ^ i in
    let each : (k : ℕ) → f (1 + k) ≡ 256 * h (0 + k) = λ k.
    let e : 1 + k ≡ suc k = omega arith in
    let d : 0 + k ≡ k = omega arith in
    ap f e ∙ one_place (slice_index bs k) (256 ^ k) (256 ^ suc k) (pow-suc 256 k) ∙ ap (λ m. 256 * h m) (sym d) in
    let first : b * 256 ^ 0 ≡ b = omega (arith, pow-zero 256) in
    total b (value_of bs) (b * 256 ^ 0) (sum_by f (range_with_len 1 (length bs))) (sum_by h (range_with_len 0 (length bs))) first (scaled f h 1 0 (length bs) each) (value_is_sum bs)
    ∙ sym (sum_by-cons f 0 (range_with_len 1 (length bs)))

-- the items behind the first, by their places
later_items : (x bs : List ℕ) (a : ℕ) → 0 < a → ((k : ℕ) → slice_index x (a + k) ≡ slice_index bs k) →
    flat_map next_item bs ≡ flat_map (item_at x) (range_with_len a (length bs))
later_items x [] a pos same = refl
later_items x (b ∷ bs) a pos same =
    let e : (a == 0) ≡ false = ne_eqb a 0 (λ z. absurd (omega arith)) in
    let d : a + 0 ≡ a = omega arith in
    let byte : slice_index x a ≡ b = ap (slice_index x) (sym d) ∙ same 0 in
    let first : item_at x a ≡ next_item b = rw e rw byte refl in
    let rest = later_items x bs (a + 1) (omega arith) (λ k.
    let e : a + 1 + k ≡ a + suc k = omega arith in
    ap (slice_index x) e ∙ same (suc k)) in
    ap (λ t. next_item b ++ t) rest ∙ ap (λ t. t ++ flat_map (item_at x) (range_with_len (a + 1) (length bs))) (sym first)

pub items_are_bytes : ItemsAreBytes
items_are_bytes [] = refl
items_are_bytes (b ∷ bs) =
    ap (λ t. item b ++ t) (later_items (b ∷ bs) bs 1 (omega arith) (λ k. let e : 1 + k ≡ suc k = omega arith in ap (slice_index (b ∷ bs)) e))

-- what stands between a line and what comes before it
abbrev between : ℕ → ℕ → List ℕ
between k n = if nat_lt k n then codes ",\n" else codes "\n"

-- commas in front of lines are commas behind those before
module _ (cols n : ℕ) (bytes : List ℕ) (pos : 0 < cols) where
  abbrev part : ℕ → List ℕ
  part k = items (take cols (drop (cols * k) bytes))

  abbrev fronted : ℕ → List ℕ
  fronted k = include_line (0 + cols * k) (take cols (drop (cols * k) bytes))

  abbrev ended : ℕ → List ℕ
  ended k = codes "  " ++ (part k ++ between (k + 1) n)

  first_line : fronted 0 ≡ codes "  " ++ part 0
  first_line = let e : (0 + cols * 0 == 0) ≡ true = eq-eqb (0 + cols * 0) 0 (omega arith) in rw e refl

  later_line : (k : ℕ) → 0 < k → fronted k ≡ codes ",\n  " ++ part k
  later_line k some =
      let e : (0 + cols * k == 0) ≡ false = ne_eqb (0 + cols * k) 0 (λ z. let p : cols * 1 ≤ cols * k = mul-le-mul_left cols (omega arith) in absurd (omega arith)) in
      rw e refl

  later : (m a : ℕ) → 0 < a → a + m ≡ n → flat_map fronted (range_with_len a m) ++ codes "\n" ≡ between a n ++ flat_map ended (range_with_len a m)
  later zero a some is =
      let e : nat_lt a n ≡ false = grind (arith, nat_tests) in
      rw e refl
  later (suc m) a some is =
      let e : nat_lt a n ≡ true = grind (arith, nat_tests) in
      let others = flat_map fronted (range_with_len (a + 1) m) in
      let lines = flat_map ended (range_with_len (a + 1) m) in
      append_assoc (fronted a) others (codes "\n")
      ∙ ap (λ t. fronted a ++ t) (later m (a + 1) (omega arith) (omega arith))
      ∙ ap (λ t. t ++ (between (a + 1) n ++ lines)) (later_line a some)
      ∙ joined (part a) (between (a + 1) n) lines
      ∙ ap (λ b. (if b then codes ",\n" else codes "\n") ++ (ended a ++ lines)) (sym e)
    where
      joined : (x y z : List ℕ) → (codes ",\n  " ++ x) ++ (y ++ z) ≡ codes ",\n" ++ ((codes "  " ++ (x ++ y)) ++ z)
      joined x y z = simp append_assoc

  whole : (m : ℕ) → suc m ≡ n → flat_map fronted (range_with_len 0 (suc m)) ++ codes "\n" ≡ flat_map ended (range_with_len 0 (suc m))
  whole m is =
      let others = flat_map fronted (range_with_len 1 m) in
      let lines = flat_map ended (range_with_len 1 m) in
      append_assoc (fronted 0) others (codes "\n")
      ∙ ap (λ t. fronted 0 ++ t) (later m 1 (omega arith) (omega arith))
      ∙ ap (λ t. t ++ (between 1 n ++ lines)) first_line
      ∙ joined (part 0) (between 1 n) lines
    where
      joined : (x y z : List ℕ) → (codes "  " ++ x) ++ (y ++ z) ≡ (codes "  " ++ (x ++ y)) ++ z
      joined x y z = simp append_assoc

pub items_are_lines : ItemsAreLines
items_are_lines cols [] pos =
    let none : (0 + cols - 1) / cols ≡ 0 = div-eq_of_lt (omega arith) in
    rw none refl
items_are_lines cols (b ∷ bs) pos =
    let n = item_lines cols (length (b ∷ bs)) in
    let some : 1 ≤ n = (le-div_iff_mul-le {k = cols} {x = 1} {y = length (b ∷ bs) + cols - 1} pos).1 (omega arith) in
    let m = n - 1 in
    let is : suc m ≡ n = omega arith in
    subst (λ k. flat_map (fronted cols n (b ∷ bs) pos) (range_with_len 0 k) ++ codes "\n" ≡ flat_map (ended cols n (b ∷ bs) pos) (range_with_len 0 k)) is (whole cols n (b ∷ bs) pos m is)
