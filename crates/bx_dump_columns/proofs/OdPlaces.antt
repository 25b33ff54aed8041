-- Decimal numbers of few digits, each character by itself.
use Rattle.std.proofs.Common.{◌≡◌, ℕ, zero, suc, ◌+◌, ◌-◌, ◌*◌, ◌/◌, ◌%◌, ◌^◌, ◌<◌, ◌≤◌, ltb, ltb-true, ltb-false, cond, Bool, true, false, List, [], ◌∷◌, ◌++◌, length, get_or, refl, sym, ap, ◌∙◌, arith, inl, inr, w8, Fits}
use Rattle.std.specs.Prelude.{bytes_eq}
use Rattle.std.specs.Fmt.{digits}
use Rattle.std.specs.List.{flat_map}
use Rattle.std.proofs.lemmas.Bool.{cases_Bool, cases_lt, lt-ltb, le-ltb, agree_below_at}
use Rattle.std.proofs.lemmas.Slice.Eq.{bytes_eq-Decides}
use Rattle.bx_text.specs.Field.{left_filled}
use Rattle.bx_dump_columns.specs.Lines.{in_lines}
use Rattle.bx_dump_columns.specs.Decimal.{words, decimal_char, last_char, cells, form_of}
use Rattle.bx_dump_columns.specs.Values.{value_text}
use Rattle.bx_dump_columns.specs.declared.od.options.Size.TheVariants.{Two}
use Rattle.bx_dump_columns.specs.declared.od.options.NumForm.TheVariants as form
use Rattle.bx_dump_columns.specs.declared.od.options.Kind.TheVariants.{Number}
use Rattle.bx_dump_columns.proofs.DigitParts.{led_two, one_digit}
use Rattle.bx_dump_columns.proofs.LinesLemmas.{in_lines-append, in_lines-none, in_lines-one}

-- the character of n at the place of the power P, which is ten times p, with f in front of the first digit
abbrev pub place : ℕ → ℕ → ℕ → ℕ → ℕ
place P p f n = cond (ltb n P) (cond (ltb n p) 32 f) (48 + n / P % 10)

abbrev sign : Bool → List ℕ
sign true = 45 ∷ []
sign false = []

abbrev mark : Bool → ℕ
mark true = 45
mark false = 32

same_test : (a b c d : ℕ) → (a < b → c < d) → (b ≤ a → d ≤ c) → ltb a b ≡ ltb c d
same_test a b c d less more = elim (cases_lt a b) [ inl h ↦ lt-ltb a b h ∙ sym (lt-ltb c d (less h)) | inr h ↦ le-ltb a b h ∙ sym (le-ltb c d (more h)) ]

digit_alone : (n : ℕ) → n < 10 → digits 10 false n ≡ (48 + n) ∷ []
unfolding digits
digit_alone n below =
    (bytes_eq-Decides (digits 10 false n) ((48 + n) ∷ [])).0
    (agree_below_at (λ i. bytes_eq (digits 10 false i) ((48 + i) ∷ [])) (λ _. true) 10 n refl below)

-- one digit more
more : (w n : ℕ) (m : Bool) → 10 ≤ n → n < 10 ^ 20 → left_filled 32 (w + 1) (sign m ++ digits 10 false n) ≡ left_filled 32 w (sign m ++ digits 10 false (n / 10)) ++ (48 + n % 10) ∷ []
more w n m large small =
    sym (led_two w 1 n 10 (sign m) refl (omega arith) (omega arith) (omega arith) (omega arith) small)
    ∙ ap (λ t. left_filled 32 w (sign m ++ digits 10 false (n / 10)) ++ t) (sym (one_digit (n % 10) (omega arith)))

low : (P p f n : ℕ) → n < p → p ≤ P → place P p f n ≡ 32
low P p f n h le = let a = lt-ltb n P (omega arith) in let b = lt-ltb n p h in rw (a, b) refl

edge : (m : Bool) (n : ℕ) → n < 10 → (m ≡ true → 0 < n) → place 10 1 (mark m) n ≡ mark m
edge true n h some = let a = lt-ltb n 10 h in let b = le-ltb n 1 (some refl) in rw (a, b) refl
edge false n h some = let a = lt-ltb n 10 h in elim (cases_Bool (ltb n 1)) [ inl e ↦ rw (a, e) refl | inr e ↦ rw (a, e) refl ]

last : (f n : ℕ) → 10 ≤ n → 48 + n / 10 % 10 ≡ place 10 1 f n
last f n h = let a = le-ltb n 10 h in rw a refl

ones : (n : ℕ) → n < 10 → 48 + n ≡ 48 + n % 10
ones n h = omega arith

shift_one : (f n : ℕ) → place 10 1 f (n / 10) ≡ place 100 10 f n
shift_one f n =
    let a = same_test (n / 10) 10 n 100 (λ h. omega arith) (λ h. omega arith) in
    let b = same_test (n / 10) 1 n 10 (λ h. omega arith) (λ h. omega arith) in
    let d : 48 + n / 10 / 10 % 10 ≡ 48 + n / 100 % 10 = omega arith in
    λ i. cond (a i) (cond (b i) 32 f) (d i)

shift_two : (f n : ℕ) → place 100 10 f (n / 10) ≡ place 1000 100 f n
shift_two f n =
    let a = same_test (n / 10) 100 n 1000 (λ h. omega arith) (λ h. omega arith) in
    let b = same_test (n / 10) 10 n 100 (λ h. omega arith) (λ h. omega arith) in
    let d : 48 + n / 10 / 100 % 10 ≡ 48 + n / 1000 % 10 = omega arith in
    λ i. cond (a i) (cond (b i) 32 f) (d i)

shift_three : (f n : ℕ) → place 1000 100 f (n / 10) ≡ place 10000 1000 f n
shift_three f n =
    let a = same_test (n / 10) 1000 n 10000 (λ h. omega arith) (λ h. omega arith) in
    let b = same_test (n / 10) 100 n 1000 (λ h. omega arith) (λ h. omega arith) in
    let d : 48 + n / 10 / 1000 % 10 ≡ 48 + n / 10000 % 10 = omega arith in
    λ i. cond (a i) (cond (b i) 32 f) (d i)

shift_four : (f n : ℕ) → place 10000 1000 f (n / 10) ≡ place 100000 10000 f n
shift_four f n =
    let a = same_test (n / 10) 10000 n 100000 (λ h. omega arith) (λ h. omega arith) in
    let b = same_test (n / 10) 1000 n 10000 (λ h. omega arith) (λ h. omega arith) in
    let d : 48 + n / 10 / 10000 % 10 ≡ 48 + n / 100000 % 10 = omega arith in
    λ i. cond (a i) (cond (b i) 32 f) (d i)

-- as many characters as the text has, where a sign leaves one for it
level_zero : (m : Bool) (n : ℕ) → n < 10 → (m ≡ true → (0 < n) × (n < 1)) → left_filled 32 1 (sign m ++ digits 10 false n) ≡ (48 + n % 10) ∷ []
level_zero true n small some = let both = some refl in absurd (omega arith)
level_zero false n small some = let alone = digit_alone n small in rw alone (ap (λ d. d ∷ []) (ones n small))

base_one : (m : Bool) (n : ℕ) → left_filled 32 2 (sign m ++ (48 + n) ∷ []) ≡ mark m ∷ (48 + n) ∷ []
base_one true n = refl
base_one false n = refl

level_one : (m : Bool) (n : ℕ) → n < 100 → (m ≡ true → (0 < n) × (n < 10)) → left_filled 32 2 (sign m ++ digits 10 false n) ≡ place 10 1 (mark m) n ∷ (48 + n % 10) ∷ []
level_one m n small some =
    elim (cases_lt n 10) [
      | inl h ↦ ap (λ t. left_filled 32 2 (sign m ++ t)) (digit_alone n h) ∙ base_one m n ∙ (λ i. sym (edge m n h (λ e. (some e).0)) i ∷ ones n h i ∷ [])
      | inr h ↦ more 1 n m h (omega arith) ∙ ap (λ t. t ++ (48 + n % 10) ∷ []) (level_zero m (n / 10) (omega arith) (λ e. let both = some e in (omega arith, omega arith)))
          ∙ (λ i. last (mark m) n h i ∷ (48 + n % 10) ∷ [])
    ]

base_two : (m : Bool) (n : ℕ) → left_filled 32 3 (sign m ++ (48 + n) ∷ []) ≡ 32 ∷ mark m ∷ (48 + n) ∷ []
base_two true n = refl
base_two false n = refl

level_two : (m : Bool) (n : ℕ) → n < 1000 → (m ≡ true → (0 < n) × (n < 100)) → left_filled 32 3 (sign m ++ digits 10 false n) ≡ place 100 10 (mark m) n ∷ place 10 1 (mark m) n ∷ (48 + n % 10) ∷ []
level_two m n small some =
    elim (cases_lt n 10) [
      | inl h ↦ ap (λ t. left_filled 32 3 (sign m ++ t)) (digit_alone n h) ∙ base_two m n ∙ (λ i. sym (low 100 10 (mark m) n (omega arith) (omega arith)) i ∷ sym (edge m n h (λ e. (some e).0)) i ∷ ones n h i ∷ [])
      | inr h ↦ more 2 n m h (omega arith) ∙ ap (λ t. t ++ (48 + n % 10) ∷ []) (level_one m (n / 10) (omega arith) (λ e. let both = some e in (omega arith, omega arith)))
          ∙ (λ i. shift_one (mark m) n i ∷ last (mark m) n h i ∷ (48 + n % 10) ∷ [])
    ]

base_three : (m : Bool) (n : ℕ) → left_filled 32 4 (sign m ++ (48 + n) ∷ []) ≡ 32 ∷ 32 ∷ mark m ∷ (48 + n) ∷ []
base_three true n = refl
base_three false n = refl

level_three : (m : Bool) (n : ℕ) → n < 10000 → (m ≡ true → (0 < n) × (n < 1000)) → left_filled 32 4 (sign m ++ digits 10 false n) ≡ place 1000 100 (mark m) n ∷ place 100 10 (mark m) n ∷ place 10 1 (mark m) n ∷ (48 + n % 10) ∷ []
level_three m n small some =
    elim (cases_lt n 10) [
      | inl h ↦ ap (λ t. left_filled 32 4 (sign m ++ t)) (digit_alone n h) ∙ base_three m n ∙ (λ i. sym (low 1000 100 (mark m) n (omega arith) (omega arith)) i ∷ sym (low 100 10 (mark m) n (omega arith) (omega arith)) i ∷ sym (edge m n h (λ e. (some e).0)) i ∷ ones n h i ∷ [])
      | inr h ↦ more 3 n m h (omega arith) ∙ ap (λ t. t ++ (48 + n % 10) ∷ []) (level_two m (n / 10) (omega arith) (λ e. let both = some e in (omega arith, omega arith)))
          ∙ (λ i. shift_two (mark m) n i ∷ shift_one (mark m) n i ∷ last (mark m) n h i ∷ (48 + n % 10) ∷ [])
    ]

base_four : (m : Bool) (n : ℕ) → left_filled 32 5 (sign m ++ (48 + n) ∷ []) ≡ 32 ∷ 32 ∷ 32 ∷ mark m ∷ (48 + n) ∷ []
base_four true n = refl
base_four false n = refl

level_four : (m : Bool) (n : ℕ) → n < 100000 → (m ≡ true → (0 < n) × (n < 10000)) → left_filled 32 5 (sign m ++ digits 10 false n) ≡ place 10000 1000 (mark m) n ∷ place 1000 100 (mark m) n ∷ place 100 10 (mark m) n ∷ place 10 1 (mark m) n ∷ (48 + n % 10) ∷ []
level_four m n small some =
    elim (cases_lt n 10) [
      | inl h ↦ ap (λ t. left_filled 32 5 (sign m ++ t)) (digit_alone n h) ∙ base_four m n ∙ (λ i. sym (low 10000 1000 (mark m) n (omega arith) (omega arith)) i ∷ sym (low 1000 100 (mark m) n (omega arith) (omega arith)) i ∷ sym (low 100 10 (mark m) n (omega arith) (omega arith)) i ∷ sym (edge m n h (λ e. (some e).0)) i ∷ ones n h i ∷ [])
      | inr h ↦ more 4 n m h (omega arith) ∙ ap (λ t. t ++ (48 + n % 10) ∷ []) (level_three m (n / 10) (omega arith) (λ e. let both = some e in (omega arith, omega arith)))
          ∙ (λ i. shift_three (mark m) n i ∷ shift_two (mark m) n i ∷ shift_one (mark m) n i ∷ last (mark m) n h i ∷ (48 + n % 10) ∷ [])
    ]

base_five : (m : Bool) (n : ℕ) → left_filled 32 6 (sign m ++ (48 + n) ∷ []) ≡ 32 ∷ 32 ∷ 32 ∷ 32 ∷ mark m ∷ (48 + n) ∷ []
base_five true n = refl
base_five false n = refl

level_five : (m : Bool) (n : ℕ) → n < 1000000 → (m ≡ true → (0 < n) × (n < 100000)) → left_filled 32 6 (sign m ++ digits 10 false n) ≡ place 100000 10000 (mark m) n ∷ place 10000 1000 (mark m) n ∷ place 1000 100 (mark m) n ∷ place 100 10 (mark m) n ∷ place 10 1 (mark m) n ∷ (48 + n % 10) ∷ []
level_five m n small some =
    elim (cases_lt n 10) [
      | inl h ↦ ap (λ t. left_filled 32 6 (sign m ++ t)) (digit_alone n h) ∙ base_five m n ∙ (λ i. sym (low 100000 10000 (mark m) n (omega arith) (omega arith)) i ∷ sym (low 10000 1000 (mark m) n (omega arith) (omega arith)) i ∷ sym (low 1000 100 (mark m) n (omega arith) (omega arith)) i ∷ sym (low 100 10 (mark m) n (omega arith) (omega arith)) i ∷ sym (edge m n h (λ e. (some e).0)) i ∷ ones n h i ∷ [])
      | inr h ↦ more 5 n m h (omega arith) ∙ ap (λ t. t ++ (48 + n % 10) ∷ []) (level_four m (n / 10) (omega arith) (λ e. let both = some e in (omega arith, omega arith)))
          ∙ (λ i. shift_four (mark m) n i ∷ shift_three (mark m) n i ∷ shift_two (mark m) n i ∷ shift_one (mark m) n i ∷ last (mark m) n h i ∷ (48 + n % 10) ∷ [])
    ]

-- what stands for two bytes
signed_one : (v : ℕ) → v < 65536 → left_filled 32 6 (cond (ltb v 32768) (digits 10 false v) (45 ∷ digits 10 false (65536 - v))) ≡
    decimal_char true 100000 v ∷ decimal_char true 10000 v ∷ decimal_char true 1000 v ∷ decimal_char true 100 v ∷ decimal_char true 10 v ∷ last_char true v ∷ []
signed_one v fits = elim (cases_Bool (ltb v 32768)) [
  | inl e ↦ rw e (level_five false v (omega arith) (λ f. absurd (Rattle.std.proofs.Common.true≢false (sym f))))
  | inr e ↦ let large = ltb-false v 32768 e in rw e (level_five true (65536 - v) (omega arith) (λ f. (omega arith, omega arith)))
]

unsigned_one : (v : ℕ) → v < 65536 → left_filled 32 5 (digits 10 false v) ≡
    decimal_char false 10000 v ∷ decimal_char false 1000 v ∷ decimal_char false 100 v ∷ decimal_char false 10 v ∷ last_char false v ∷ []
unsigned_one v fits = level_four false v (omega arith) (λ f. absurd (Rattle.std.proofs.Common.true≢false (sym f)))

value_is : (a b : ℕ) → a + 256 * (b + 256 * 0) ≡ a + 256 * b
value_is a b = omega arith

signed_value : (at a b : ℕ) → a < 256 → b < 256 → value_text (Number form.Signed Two) at (a ∷ b ∷ []) ≡ cells true (a + 256 * b)
signed_value at a b small_a small_b =
    ap (λ v. 32 ∷ left_filled 32 6 (cond (ltb v 32768) (digits 10 false v) (45 ∷ digits 10 false (65536 - v)))) (value_is a b) ∙ ap (λ t. 32 ∷ t) (signed_one (a + 256 * b) (omega arith))

unsigned_value : (at a b : ℕ) → a < 256 → b < 256 → value_text (Number form.Unsigned Two) at (a ∷ b ∷ []) ≡ cells false (a + 256 * b)
unsigned_value at a b small_a small_b = ap (λ v. 32 ∷ left_filled 32 5 (digits 10 false v)) (value_is a b) ∙ ap (λ t. 32 ∷ t) (unsigned_one (a + 256 * b) (omega arith))

module _ (line : ℕ → List ℕ → List ℕ) (cell : ℕ → List ℕ) (one : (at a b : ℕ) → a < 256 → b < 256 → line at (a ∷ b ∷ []) ≡ cell (a + 256 * b)) where
  -- the values of whole pairs of bytes
  pub word_values : (n : ℕ) (bytes : List ℕ) → length bytes ≡ 2 * n → ((k : ℕ) → get_or bytes k 0 < 256) → (at : ℕ) → flat_map cell (words bytes) ≡ in_lines line 2 at bytes
  word_values n [] long small at = sym (in_lines-none line 2 at (omega arith))
  word_values zero (a ∷ rest) long small at = absurd (omega arith)
  word_values (suc n) (a ∷ []) long small at = absurd (omega arith)
  word_values (suc n) (a ∷ b ∷ rest) long small at =
      let first : in_lines line 2 at (a ∷ b ∷ []) ≡ cell (a + 256 * b) = in_lines-one line 2 at (a ∷ b ∷ []) (omega arith) (omega arith) ∙ one at a b (small 0) (small 1) in
      let others = word_values n rest (omega arith) (λ k. small (suc (suc k))) (at + 2) in
      sym (in_lines-append line 2 at 1 (a ∷ b ∷ []) rest (omega arith) refl ∙ ap (λ t. t ++ in_lines line 2 (at + 2) rest) first ∙ ap (λ t. cell (a + 256 * b) ++ t) (sym others))

pub twos_values : (signed : Bool) (bytes : List ℕ) → length bytes ≡ 16 → ((k : ℕ) → get_or bytes k 0 < 256) →
    flat_map (cells signed) (words bytes) ≡ in_lines (value_text (Number (form_of signed) Two)) 2 0 bytes
twos_values true bytes long small = word_values (value_text (Number form.Signed Two)) (cells true) signed_value 8 bytes long small 0
twos_values false bytes long small = word_values (value_text (Number form.Unsigned Two)) (cells false) unsigned_value 8 bytes long small 0
