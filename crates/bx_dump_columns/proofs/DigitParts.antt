-- Numbers in digits, by parts.
use Rattle.std.proofs.Common.{◌≡◌, ℕ, zero, suc, ◌+◌, ◌-◌, ◌*◌, ◌/◌, ◌%◌, ◌^◌, ◌<◌, ◌≤◌, Bool, false, true, if◌then◌else◌, List, [], ◌∷◌, ◌++◌, length, replicate, refl, sym, ap, ◌∙◌, arith, add-one, append_assoc, length-append, ⊎_elim}
use Rattle.std.specs.Fmt.{digits, digits_onto, digit_glyph}
use Rattle.std.specs.Prelude.{bytes_eq}
use Rattle.std.proofs.lemmas.Bool.{cases_eq, agree_below_at}
use Rattle.std.proofs.lemmas.Slice.Eq.{bytes_eq-Decides}
use Rattle.std.proofs.lemmas.Nat.{div_below, le-div}
use Rattle.std.proofs.lemmas.List.{length-replicate}
use Rattle.std.proofs.Math.Nat.{pow-suc, pow-zero, mul-add-div, mul-add-mod_self_left, mul-pos, div-add-mod, mod-lt, div-le_self, pow-le-pow_right}
use Rattle.bx_text.proofs.FieldLemmas.{digits_onto-last, digits_onto-more, digits_start}
use Rattle.bx_text.specs.Field.{left_filled}
use Rattle.bx_dump_columns.proofs.OdFixed.{based_onto, based_text}

-- digits in front of more text
based_acc : (base k n : ℕ) (acc : List ℕ) → based_onto base k n acc ≡ based_onto base k n [] ++ acc
based_acc base zero n acc = refl
based_acc base (suc k) n acc =
    let g = digit_glyph false (n % base) in
    based_acc base k (n / base) (g ∷ acc) ∙ sym (append_assoc (based_onto base k (n / base) []) (g ∷ []) acc) ∙ ap (λ t. t ++ acc) (sym (based_acc base k (n / base) (g ∷ [])))

based_length : (base k n : ℕ) (acc : List ℕ) → length (based_onto base k n acc) ≡ k + length acc
based_length base zero n acc = let none : length acc ≡ 0 + length acc = omega arith in none
based_length base (suc k) n acc = let e = based_length base k (n / base) (digit_glyph false (n % base) ∷ acc) in omega arith

module _ (base : ℕ) (big : 2 ≤ base) where
  positive : (k m : ℕ) → m < base ^ k → (m ≡ 0 → ⊥) → 0 < k
  positive zero m small some = absurd (some (omega (arith, pow-zero base)))
  positive (suc k) m small some = omega arith

  -- one digit less of a number in two parts
  less : (k a r : ℕ) → (a * base ^ suc k + r) / base ≡ a * base ^ k + r / base
  less k a r =
      let power : a * base ^ suc k + r ≡ base * (a * base ^ k) + r = omega (arith, ap (λ p. a * p) (pow-suc base k)) in
      rw power (mul-add-div {m = base} (omega arith) (a * base ^ k) r)

  last : (k a r : ℕ) → (a * base ^ suc k + r) % base ≡ r % base
  last k a r =
      let power : a * base ^ suc k + r ≡ base * (a * base ^ k) + r = omega (arith, ap (λ p. a * p) (pow-suc base k)) in
      rw power (mul-add-mod_self_left base (a * base ^ k) r)

  smaller : (k r : ℕ) → r < base ^ suc k → r / base < base ^ k
  smaller k r small = div_below r base (base ^ k) (omega arith) (rw (pow-suc base k) at small)

  -- the last k digits are those of the rest
  based_rest : (k a r : ℕ) (acc : List ℕ) → r < base ^ k → based_onto base k (a * base ^ k + r) acc ≡ based_onto base k r acc
  based_rest zero a r acc small = refl
  based_rest (suc k) a r acc small = rw (less k a r, last k a r) (based_rest k a (r / base) (digit_glyph false (r % base) ∷ acc) (smaller k r small))

  -- and before them stand those of the front
  based_plus : (k j a r : ℕ) (acc : List ℕ) → r < base ^ k → based_onto base (k + j) (a * base ^ k + r) acc ≡ based_onto base j a (based_onto base k r acc)
  based_plus zero j a r acc small =
      let one : a * base ^ 0 + r ≡ a = omega (arith, ap (λ p. a * p) (pow-zero base), pow-zero base) in
      let none : 0 + j ≡ j = omega arith in
      rw (none, one) refl
  based_plus (suc k) j a r acc small =
      let n = a * base ^ suc k + r in
      let many : suc k + j ≡ suc (k + j) = omega arith in
      ap (λ m. based_onto base m n acc) many
      ∙ ap (λ m. based_onto base (k + j) m (digit_glyph false (n % base) ∷ acc)) (less k a r)
      ∙ ap (λ m. based_onto base (k + j) (a * base ^ k + r / base) (digit_glyph false m ∷ acc)) (last k a r)
      ∙ based_plus k j a (r / base) (digit_glyph false (r % base) ∷ acc) (smaller k r small)

  -- a number below a power has no more digits, whatever is allowed
  fuel : (i j n : ℕ) (acc : List ℕ) → n < base ^ i → 0 < i → i ≤ j → digits_onto j base false n acc ≡ digits_onto i base false n acc
  fuel zero j n acc small some le = absurd (omega arith)
  fuel (suc i) zero n acc small some le = absurd (omega arith)
  fuel (suc i) (suc j) n acc small some le =
      let g = digit_glyph false (n % base) in
      ⊎_elim
      (λ z. digits_onto-last (suc j) j base false n acc (sym (add-one j)) z ∙ sym (digits_onto-last (suc i) i base false n acc (sym (add-one i)) z))
      (λ z. digits_onto-more (suc j) j base false n acc (sym (add-one j)) z ∙ fuel i j (n / base) (g ∷ acc) (smaller i n small) (positive i (n / base) (smaller i n small) z) (omega arith)
      ∙ sym (digits_onto-more (suc i) i base false n acc (sym (add-one i)) z))
      (cases_eq (n / base) 0)

  onto_acc : (j n : ℕ) (acc : List ℕ) → digits_onto j base false n acc ≡ digits_onto j base false n [] ++ acc
  onto_acc zero n acc = refl
  onto_acc (suc j) n acc =
      let g = digit_glyph false (n % base) in
      ⊎_elim
      (λ z. digits_onto-last (suc j) j base false n acc (sym (add-one j)) z ∙ ap (λ t. t ++ acc) (sym (digits_onto-last (suc j) j base false n [] (sym (add-one j)) z)))
      (λ z. digits_onto-more (suc j) j base false n acc (sym (add-one j)) z ∙ onto_acc j (n / base) (g ∷ acc)
      ∙ sym (append_assoc (digits_onto j base false (n / base) []) (g ∷ []) acc)
      ∙ ap (λ t. t ++ acc) (sym (onto_acc j (n / base) (g ∷ [])) ∙ sym (digits_onto-more (suc j) j base false n [] (sym (add-one j)) z)))
      (cases_eq (n / base) 0)

  -- the last k digits, where a front is left
  onto_down : (k j a r : ℕ) (acc : List ℕ) → r < base ^ k → 0 < a → digits_onto (k + j) base false (a * base ^ k + r) acc ≡ digits_onto j base false a (based_onto base k r acc)
  onto_down zero j a r acc small some =
      let one : a * base ^ 0 + r ≡ a = omega (arith, ap (λ p. a * p) (pow-zero base), pow-zero base) in
      let none : 0 + j ≡ j = omega arith in
      rw (none, one) refl
  onto_down (suc k) j a r acc small some =
      let n = a * base ^ suc k + r in
      let many : suc k + j ≡ (k + j) + 1 = omega arith in
      let front : 0 < a * base ^ k = mul-pos some (power k) in
      let more = digits_onto-more (suc k + j) (k + j) base false n acc many (λ z. absurd (omega (arith, z, less k a r))) in
      more ∙ rw (less k a r, last k a r) (onto_down k j a (r / base) (digit_glyph false (r % base) ∷ acc) (smaller k r small) some)
    where
      power : (k : ℕ) → 0 < base ^ k
      power zero = omega (arith, pow-zero base)
      power (suc k) = rw (pow-suc base k) (mul-pos (power k) (let p : 0 < base = omega arith in p))

  -- digits of a number in two parts; the front isn't 0
  pub digits_parts : (k j i a r : ℕ) → i ≡ 64 → k + j ≡ i → r < base ^ k → 0 < k → 0 < a → a < base ^ j →
      digits base false (a * base ^ k + r) ≡ digits base false a ++ left_filled 48 k (digits base false r)
  digits_parts k j i a r e all small some front few =
      let n = a * base ^ k + r in
      sym (digits_start i base false n e) ∙ ap (λ m. digits_onto m base false n []) (sym all) ∙ onto_down k j a r [] small front
      ∙ onto_acc j a (based_onto base k r [])
      ∙ ap (λ t. t ++ based_onto base k r []) (sym (fuel j i a [] few (positive j a few (λ z. omega arith)) (omega arith)) ∙ digits_start i base false a e)
      ∙ ap (λ t. digits base false a ++ t) (based_text base big k i r e (omega arith) some small)

  -- zeros in front of a number in two parts
  pub fixed_parts : (k j i a r : ℕ) → i ≡ 64 → k + j ≤ i → r < base ^ k → 0 < k → 0 < j → a < base ^ j → a * base ^ k + r < base ^ (j + k) →
      left_filled 48 (j + k) (digits base false (a * base ^ k + r)) ≡ left_filled 48 j (digits base false a) ++ left_filled 48 k (digits base false r)
  fixed_parts k j i a r e le small some more front whole =
      let n = a * base ^ k + r in
      let order : j + k ≡ k + j = omega arith in
      sym (based_text base big (j + k) i n e (omega arith) (omega arith) whole) ∙ ap (λ m. based_onto base m n []) order ∙ based_plus k j a r [] small
      ∙ based_acc base j a (based_onto base k r [])
      ∙ ap (λ t. t ++ based_onto base k r []) (based_text base big j i a e (omega arith) more front)
      ∙ ap (λ t. left_filled 48 j (digits base false a) ++ t) (based_text base big k i r e (omega arith) some small)

  pub fixed_length : (k n : ℕ) → k ≤ 64 → 0 < k → n < base ^ k → length (left_filled 48 k (digits base false n)) ≡ k
  fixed_length k n le some small = omega (arith, ap length (based_text base big k 64 n refl le some small), based_length base k n [])

  pub digits_few : (k n : ℕ) → k ≤ 64 → 0 < k → n < base ^ k → length (digits base false n) ≤ k
  digits_few k n le some small =
      let text = digits base false n in
      omega (arith, fixed_length k n le some small, length-append (replicate (k - length text) 48) text, length-replicate {A = ℕ} (k - length text) 48)

  onto_long : (j n : ℕ) (acc : List ℕ) → length acc ≤ length (digits_onto j base false n acc)
  onto_long zero n acc = omega arith
  onto_long (suc j) n acc =
      let g = digit_glyph false (n % base) in
      ⊎_elim
      (λ z. let e = ap length (digits_onto-last (suc j) j base false n acc (sym (add-one j)) z) in omega (arith, e))
      (λ z. let e = ap length (digits_onto-more (suc j) j base false n acc (sym (add-one j)) z) in omega (arith, e, onto_long j (n / base) (g ∷ acc)))
      (cases_eq (n / base) 0)

  onto_some : (i j n : ℕ) → i ≡ j + 1 → 0 < length (digits_onto i base false n [])
  onto_some i j n is =
      let g = digit_glyph false (n % base) in
      ⊎_elim
      (λ z. let e = ap length (digits_onto-last i j base false n [] is z) in omega (arith, e))
      (λ z. let e = ap length (digits_onto-more i j base false n [] is z) in omega (arith, e, onto_long j (n / base) (g ∷ [])))
      (cases_eq (n / base) 0)

  pub digits_some : (i j m : ℕ) → i ≡ 64 → i ≡ j + 1 → 0 < length (digits base false m)
  digits_some i j m e is = omega (arith, onto_some i j m is, ap length (digits_start i base false m e))

  -- a number of at least a power has a digit more
  pub digits_many : (k j n : ℕ) → 0 < k → k + j ≡ 64 → n < base ^ j → 0 < base ^ k → base ^ k ≤ n → k < length (digits base false n)
  digits_many k j n some all small pos large =
      let p = base ^ k in
      let front : 0 < n / p = le-div 1 n p pos (omega arith) in
      let parts : n / p * p + n % p ≡ n = omega (arith, div-add-mod n p) in
      let rest : n % p < p = mod-lt n pos in
      let text = rw parts at (digits_parts k j 64 (n / p) (n % p) refl all rest some front (omega (arith, div-le_self n p))) in
      let long = fixed_length k (n % p) (omega arith) some rest in
      let first = digits_some 64 63 (n / p) refl refl in
      omega (arith, ap length text, length-append (digits base false (n / p)) (left_filled 48 k (digits base false (n % p))), long, first)

-- an address of w digits needs no zeros, and a shorter one gets 7 characters
pub address_filled : (w at : ℕ) → 7 ≤ w → w ≤ 10 → at < 8 ^ w → (7 < w → 8 ^ (w - 1) ≤ at) → left_filled 48 w (digits 8 false at) ≡ left_filled 48 7 (digits 8 false at)
address_filled w at least most fits all =
    ⊎_elim
    (λ e. rw e refl)
    (λ other.
    let text = digits 8 false at in
    let wide : at < 8 ^ (64 - (w - 1)) = wider (omega arith) in
    let many = digits_many 8 (omega arith) (w - 1) (64 - (w - 1)) at (omega arith) (omega arith) wide (power (w - 1)) (all (omega arith)) in
    let a : w - length text ≡ 0 = omega arith in
    let b : 7 - length text ≡ 0 = omega arith in
    rw (a, b) refl)
    (cases_eq w 7)
  where
    power : (k : ℕ) → 0 < 8 ^ k
    power zero = omega (arith, pow-zero 8)
    power (suc k) = rw (pow-suc 8 k) (mul-pos (power k) (let p : 0 < 8 = omega arith in p))

    wider : w ≤ 64 - (w - 1) → at < 8 ^ (64 - (w - 1))
    wider le = let more : 8 ^ w ≤ 8 ^ (64 - (w - 1)) = pow-le-pow_right {n = 8} (omega arith) {i = w} {j = 64 - (w - 1)} le in omega arith

-- digits that are one
pub one_digit : (d : ℕ) → d < 10 → (48 + d) ∷ [] ≡ left_filled 48 1 (digits 10 false d)
unfolding digits
one_digit d below =
    (bytes_eq-Decides ((48 + d) ∷ []) (left_filled 48 1 (digits 10 false d))).0
    (agree_below_at (λ i. bytes_eq ((48 + i) ∷ []) (left_filled 48 1 (digits 10 false i))) (λ _. true) 10 d refl below)

pub one_octal : (d : ℕ) → d < 8 → (48 + d) ∷ [] ≡ left_filled 48 1 (digits 8 false d)
unfolding digits
one_octal d below =
    (bytes_eq-Decides ((48 + d) ∷ []) (left_filled 48 1 (digits 8 false d))).0
    (agree_below_at (λ i. bytes_eq ((48 + i) ∷ []) (left_filled 48 1 (digits 8 false i))) (λ _. true) 8 d refl below)

-- The forms in which the parts are put: the front is a quotient.
quotient : (n p : ℕ) → n / p * p + n % p ≡ n
quotient n p = omega (arith, div-add-mod n p)

pub fixed_two : (j k n p : ℕ) → p ≡ 10 ^ k → 0 < p → n / p < 10 ^ j → 0 < j → 0 < k → j + k ≤ 64 → n < 10 ^ (j + k) →
    left_filled 48 j (digits 10 false (n / p)) ++ left_filled 48 k (digits 10 false (n % p)) ≡ left_filled 48 (j + k) (digits 10 false n)
fixed_two j k n p e pos front more some le whole =
    let two : 2 ≤ 10 = omega arith in
    let rest : n % p < 10 ^ k = rw (← e) (mod-lt n pos) in
    let parts : n / p * 10 ^ k + n % p ≡ n = rw (← e) (quotient n p) in
    sym (rw parts at (fixed_parts 10 two k j 64 (n / p) (n % p) refl (omega arith) rest some more front (rw parts whole)))

pub octal_two : (j k n p : ℕ) → p ≡ 8 ^ k → 0 < p → n / p < 8 ^ j → 0 < j → 0 < k → j + k ≤ 64 → n < 8 ^ (j + k) →
    left_filled 48 j (digits 8 false (n / p)) ++ left_filled 48 k (digits 8 false (n % p)) ≡ left_filled 48 (j + k) (digits 8 false n)
octal_two j k n p e pos front more some le whole =
    let two : 2 ≤ 8 = omega arith in
    let rest : n % p < 8 ^ k = rw (← e) (mod-lt n pos) in
    let parts : n / p * 8 ^ k + n % p ≡ n = rw (← e) (quotient n p) in
    sym (rw parts at (fixed_parts 8 two k j 64 (n / p) (n % p) refl (omega arith) rest some more front (rw parts whole)))

-- spaces and a sign in front, where the front isn't 0
pub led_two : (w k n p : ℕ) (sign : List ℕ) → p ≡ 10 ^ k → 0 < p → 0 < n / p → 0 < k → k ≤ 44 → n < 10 ^ 20 →
    left_filled 32 w (sign ++ digits 10 false (n / p)) ++ left_filled 48 k (digits 10 false (n % p)) ≡ left_filled 32 (w + k) (sign ++ digits 10 false n)
led_two w k n p sign e pos front some le whole =
    let two : 2 ≤ 10 = omega arith in
    let rest : n % p < 10 ^ k = rw (← e) (mod-lt n pos) in
    let parts : n / p * 10 ^ k + n % p ≡ n = rw (← e) (quotient n p) in
    let a = digits 10 false (n / p) in
    let b = left_filled 48 k (digits 10 false (n % p)) in
    let few : n / p < 10 ^ (64 - k) = least n p (64 - k) pos (omega arith) whole in
    let text : digits 10 false n ≡ a ++ b = rw parts at (digits_parts 10 two k (64 - k) 64 (n / p) (n % p) refl (omega arith) rest some front few) in
    let long : length b ≡ k = fixed_length 10 two k (n % p) (omega arith) some rest in
    let many : w + k - length (sign ++ (a ++ b)) ≡ w - length (sign ++ a) = omega (arith, length-append sign (a ++ b), length-append a b, length-append sign a) in
    rw (text, many) (spaced (w - length (sign ++ a)) sign a b)
  where
    spaced : (m : ℕ) (sign a b : List ℕ) → (replicate m 32 ++ (sign ++ a)) ++ b ≡ replicate m 32 ++ (sign ++ (a ++ b))
    spaced m sign a b = append_assoc (replicate m 32) (sign ++ a) b ∙ ap (λ t. replicate m 32 ++ t) (append_assoc sign a b)

    least : (n p j : ℕ) → 0 < p → 20 ≤ j → n < 10 ^ 20 → n / p < 10 ^ j
    least n p j pos le small =
        let wide : 10 ^ 20 ≤ 10 ^ j = pow-le-pow_right {n = 10} (omega arith) {i = 20} {j = j} le in
        omega (arith, div-le_self n p)

-- two spaces in front of a text that fits behind them
pub two_spaces : (w : ℕ) (text : List ℕ) → length text ≤ w → (32 ∷ 32 ∷ []) ++ left_filled 32 w text ≡ left_filled 32 (suc (suc w)) text
two_spaces w text fits = let more : suc (suc w) - length text ≡ suc (suc (w - length text)) = omega arith in rw more refl

-- a sign and two digits
pub sign_few : (negative : Bool) (n : ℕ) → n < 100 → length ((if negative then 45 ∷ [] else []) ++ digits 10 false n) ≤ 3
sign_few true n small = let few = digits_few 10 (let two : 2 ≤ 10 = omega arith in two) 2 n (omega arith) (omega arith) small in omega arith
sign_few false n small = let few = digits_few 10 (let two : 2 ≤ 10 = omega arith in two) 2 n (omega arith) (omega arith) small in omega arith
