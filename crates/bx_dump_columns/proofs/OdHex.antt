-- od's hexadecimal values, by the digits of their bytes.
use Rattle.std.proofs.Common.{◌≡◌, ℕ, zero, suc, ◌+◌, ◌-◌, ◌*◌, ◌/◌, ◌^◌, ◌<◌, ◌≤◌, List, [], ◌∷◌, ◌++◌, length, take, drop, reverse, replicate, get_or, Fits, w8, false, true, refl, sym, ap, ◌∙◌, subst, arith}
use Rattle.std.specs.Prelude.{bytes_eq}
use Rattle.std.specs.Fmt.{digits}
use Rattle.std.specs.List.{flat_map, range_with_len}
use Rattle.std.proofs.lemmas.Bool.{agree_below_at}
use Rattle.std.proofs.lemmas.Slice.Eq.{bytes_eq-Decides}
use Rattle.std.proofs.lemmas.Simd.{pick_l_whole}
use lib.Lanes.{pick_l}
use Rattle.bx_text.specs.Dump.{pair_of}
use Rattle.bx_text.specs.Field.{left_filled}
use Rattle.bx_dump_columns.specs.Cells.{hex_value}
use Rattle.bx_dump_columns.specs.Lines.{in_lines}
use Rattle.bx_dump_columns.specs.Values.{value_of, value_text}
use Rattle.bx_dump_columns.specs.declared.od.options.Size.TheVariants.{One, Two, Four, Eight}
use Rattle.bx_dump_columns.specs.declared.od.options.NumForm.TheVariants as form
use Rattle.bx_dump_columns.specs.declared.od.options.Kind.TheVariants.{Number}
use Rattle.std.proofs.lemmas.List.{reverse-append, length-take-le, length-drop, get_or-drop}
use Rattle.std.proofs.Math.Nat.{pow-suc, pow-zero}
use Rattle.std.proofs.lemmas.Grind.{flat_map-append}
use Rattle.bx_text.proofs.RangeLemmas.{flat_map_along}
use Rattle.bx_dump_columns.proofs.DigitParts.{fixed_parts}
use Rattle.bx_dump_columns.proofs.OdLemmas.{value_below}

abbrev pub places_of_one : List ℕ
places_of_one = 32 ∷ 0 ∷ 1 ∷ 32 ∷ 2 ∷ 3 ∷ 32 ∷ 4 ∷ 5 ∷ 32 ∷ 6 ∷ 7 ∷ 32 ∷ 8 ∷ 9 ∷ 32 ∷ 10 ∷ 11 ∷ 32 ∷ 12 ∷ 13 ∷ 32 ∷ 14 ∷ 15 ∷ 32 ∷ 16 ∷ 17 ∷ 32 ∷ 18 ∷ 19 ∷ 32 ∷ 20 ∷ 21 ∷ 32 ∷ 22 ∷ 23 ∷ 32 ∷ 24 ∷ 25 ∷ 32 ∷ 26 ∷ 27 ∷ 32 ∷ 28 ∷ 29 ∷ 32 ∷ 30 ∷ 31 ∷ 32 ∷ 32 ∷ 32 ∷ 32 ∷ 32 ∷ 32 ∷ 32 ∷ 32 ∷ 32 ∷ 32 ∷ 32 ∷ 32 ∷ 32 ∷ 32 ∷ 32 ∷ 32 ∷ []

pub values_of_one : (bytes : List ℕ) → length bytes ≡ 16 → take 48 (pick_l 0 (flat_map (pair_of false) bytes ++ replicate 32 32) places_of_one) ≡ flat_map (hex_value 1 bytes) (range_with_len 0 16)
values_of_one bytes long =
    subst (λ l. take 48 (pick_l 0 (flat_map (pair_of false) l ++ replicate 32 32) places_of_one) ≡ flat_map (hex_value 1 l) (range_with_len 0 16)) (pick_l_whole 0 bytes 16 long) refl

abbrev pub places_of_two : List ℕ
places_of_two = 32 ∷ 2 ∷ 3 ∷ 0 ∷ 1 ∷ 32 ∷ 6 ∷ 7 ∷ 4 ∷ 5 ∷ 32 ∷ 10 ∷ 11 ∷ 8 ∷ 9 ∷ 32 ∷ 14 ∷ 15 ∷ 12 ∷ 13 ∷ 32 ∷ 18 ∷ 19 ∷ 16 ∷ 17 ∷ 32 ∷ 22 ∷ 23 ∷ 20 ∷ 21 ∷ 32 ∷ 26 ∷ 27 ∷ 24 ∷ 25 ∷ 32 ∷ 30 ∷ 31 ∷ 28 ∷ 29 ∷ 32 ∷ 32 ∷ 32 ∷ 32 ∷ 32 ∷ 32 ∷ 32 ∷ 32 ∷ 32 ∷ 32 ∷ 32 ∷ 32 ∷ 32 ∷ 32 ∷ 32 ∷ 32 ∷ 32 ∷ 32 ∷ 32 ∷ 32 ∷ 32 ∷ 32 ∷ 32 ∷ 32 ∷ []

pub values_of_two : (bytes : List ℕ) → length bytes ≡ 16 → take 40 (pick_l 0 (flat_map (pair_of false) bytes ++ replicate 32 32) places_of_two) ≡ flat_map (hex_value 2 bytes) (range_with_len 0 8)
values_of_two bytes long =
    subst (λ l. take 40 (pick_l 0 (flat_map (pair_of false) l ++ replicate 32 32) places_of_two) ≡ flat_map (hex_value 2 l) (range_with_len 0 8)) (pick_l_whole 0 bytes 16 long) refl

abbrev pub places_of_four : List ℕ
places_of_four = 32 ∷ 6 ∷ 7 ∷ 4 ∷ 5 ∷ 2 ∷ 3 ∷ 0 ∷ 1 ∷ 32 ∷ 14 ∷ 15 ∷ 12 ∷ 13 ∷ 10 ∷ 11 ∷ 8 ∷ 9 ∷ 32 ∷ 22 ∷ 23 ∷ 20 ∷ 21 ∷ 18 ∷ 19 ∷ 16 ∷ 17 ∷ 32 ∷ 30 ∷ 31 ∷ 28 ∷ 29 ∷ 26 ∷ 27 ∷ 24 ∷ 25 ∷ 32 ∷ 32 ∷ 32 ∷ 32 ∷ 32 ∷ 32 ∷ 32 ∷ 32 ∷ 32 ∷ 32 ∷ 32 ∷ 32 ∷ 32 ∷ 32 ∷ 32 ∷ 32 ∷ 32 ∷ 32 ∷ 32 ∷ 32 ∷ 32 ∷ 32 ∷ 32 ∷ 32 ∷ 32 ∷ 32 ∷ 32 ∷ 32 ∷ []

pub values_of_four : (bytes : List ℕ) → length bytes ≡ 16 → take 36 (pick_l 0 (flat_map (pair_of false) bytes ++ replicate 32 32) places_of_four) ≡ flat_map (hex_value 4 bytes) (range_with_len 0 4)
values_of_four bytes long =
    subst (λ l. take 36 (pick_l 0 (flat_map (pair_of false) l ++ replicate 32 32) places_of_four) ≡ flat_map (hex_value 4 l) (range_with_len 0 4)) (pick_l_whole 0 bytes 16 long) refl

abbrev pub places_of_eight : List ℕ
places_of_eight = 32 ∷ 14 ∷ 15 ∷ 12 ∷ 13 ∷ 10 ∷ 11 ∷ 8 ∷ 9 ∷ 6 ∷ 7 ∷ 4 ∷ 5 ∷ 2 ∷ 3 ∷ 0 ∷ 1 ∷ 32 ∷ 30 ∷ 31 ∷ 28 ∷ 29 ∷ 26 ∷ 27 ∷ 24 ∷ 25 ∷ 22 ∷ 23 ∷ 20 ∷ 21 ∷ 18 ∷ 19 ∷ 16 ∷ 17 ∷ 32 ∷ 32 ∷ 32 ∷ 32 ∷ 32 ∷ 32 ∷ 32 ∷ 32 ∷ 32 ∷ 32 ∷ 32 ∷ 32 ∷ 32 ∷ 32 ∷ 32 ∷ 32 ∷ 32 ∷ 32 ∷ 32 ∷ 32 ∷ 32 ∷ 32 ∷ 32 ∷ 32 ∷ 32 ∷ 32 ∷ 32 ∷ 32 ∷ 32 ∷ 32 ∷ []

pub values_of_eight : (bytes : List ℕ) → length bytes ≡ 16 → take 34 (pick_l 0 (flat_map (pair_of false) bytes ++ replicate 32 32) places_of_eight) ≡ flat_map (hex_value 8 bytes) (range_with_len 0 2)
values_of_eight bytes long =
    subst (λ l. take 34 (pick_l 0 (flat_map (pair_of false) l ++ replicate 32 32) places_of_eight) ≡ flat_map (hex_value 8 l) (range_with_len 0 2)) (pick_l_whole 0 bytes 16 long) refl

-- a byte in two digits
byte_pair : (b : ℕ) → b < 256 → left_filled 48 2 (digits 16 false b) ≡ pair_of false b
unfolding digits
byte_pair b below =
    (bytes_eq-Decides (left_filled 48 2 (digits 16 false b)) (pair_of false b)).0
    (agree_below_at (λ i. bytes_eq (left_filled 48 2 (digits 16 false i)) (pair_of false i)) (λ _. true) 256 b refl below)

abbrev AreBytes : List ℕ → Type 0
AreBytes xs = (k : ℕ) → Fits w8 (get_or xs k 0)

power : (m : ℕ) → 16 ^ (2 * m) ≡ 256 ^ m
power zero =
    let none : 2 * 0 ≡ 0 = omega arith in
    ap (λ n. 16 ^ n) none ∙ pow-zero 16 ∙ sym (pow-zero 256)
power (suc m) =
    let twice : 2 * suc m ≡ suc (suc (2 * m)) = omega arith in
    let last : 256 ^ m * 16 * 16 ≡ 256 ^ m * 256 = omega arith in
    ap (λ n. 16 ^ n) twice ∙ pow-suc 16 (suc (2 * m)) ∙ ap (λ t. t * 16) (pow-suc 16 (2 * m) ∙ ap (λ t. t * 16) (power m)) ∙ last ∙ sym (pow-suc 256 m)

-- the digits of a value are those of its bytes, the last byte first
digits_reversed : (n b : ℕ) (bs : List ℕ) → length bs ≡ n → n ≤ 20 → AreBytes (b ∷ bs)
    → left_filled 48 (2 * n + 2) (digits 16 false (value_of (b ∷ bs))) ≡ flat_map (pair_of false) (reverse (b ∷ bs))
digits_reversed n b [] long few small =
    let none : n ≡ 0 = sym long in
    let one : b + 256 * 0 ≡ b = omega arith in
    rw (none, one) (byte_pair b (small 0).fits)
digits_reversed zero b (d ∷ bs) long few small = absurd (omega arith)
digits_reversed (suc n) b (d ∷ bs) long few small =
    let rest = value_of (d ∷ bs) in
    let below : rest < 256 ^ suc n = rw long at (value_below (d ∷ bs) (λ k. small (suc k))) in
    let first : b < 256 = (small 0).fits in
    let again = digits_reversed n d bs (omega arith) (omega arith) (λ k. small (suc k)) in
    let width : 2 * suc n + 2 ≡ (2 * n + 2) + 2 = omega arith in
    let square : 16 ^ 2 ≡ 256 = refl in
    let value : b + 256 * rest ≡ rest * 16 ^ 2 + b = omega (arith, square) in
    let same : 2 * n + 2 ≡ 2 * suc n = omega arith in
    let front : rest < 16 ^ (2 * n + 2) = subst (λ p. rest < p) (sym (ap (λ k. 16 ^ k) same ∙ power (suc n))) below in
    let more : (2 * n + 2) + 2 ≡ 2 * suc (suc n) = omega arith in
    let both = pow-suc 256 (suc n) in
    let small_whole : rest * 16 ^ 2 + b < 256 ^ suc (suc n) = omega (arith, below, first, both, square) in
    let whole : rest * 16 ^ 2 + b < 16 ^ ((2 * n + 2) + 2) = subst (λ p. rest * 16 ^ 2 + b < p) (sym (ap (λ k. 16 ^ k) more ∙ power (suc (suc n)))) small_whole in
    ap (λ w. left_filled 48 w (digits 16 false (b + 256 * rest))) width ∙ ap (λ v. left_filled 48 ((2 * n + 2) + 2) (digits 16 false v)) value
    ∙ fixed_parts 16 (omega arith) 2 (2 * n + 2) 64 rest b refl (omega arith) (omega (arith, square)) (omega arith) (omega arith) front whole
    ∙ (λ i. again i ++ byte_pair b first i)
    ∙ sym (flat_map-append (pair_of false) (reverse (d ∷ bs)) (b ∷ [])) ∙ ap (flat_map (pair_of false)) (sym (reverse-append (b ∷ []) (d ∷ bs)))

digits_of_bytes : (n : ℕ) (bs : List ℕ) → length bs ≡ suc n → n ≤ 20 → AreBytes bs
    → left_filled 48 (2 * n + 2) (digits 16 false (value_of bs)) ≡ flat_map (pair_of false) (reverse bs)
digits_of_bytes n [] long few small = absurd (omega arith)
digits_of_bytes n (b ∷ bs) long few small = digits_reversed n b bs (omega arith) few small

bytes_from : (n : ℕ) (xs : List ℕ) → AreBytes xs → AreBytes (drop n xs)
bytes_from n xs small k = rw (get_or-drop n xs k 0) (small (n + k))

bytes_to : (n : ℕ) (xs : List ℕ) → AreBytes xs → AreBytes (take n xs)
bytes_to zero xs small k = record { fits = omega arith }
bytes_to (suc n) [] small k = small k
bytes_to (suc n) (x ∷ xs) small zero = small 0
bytes_to (suc n) (x ∷ xs) small (suc k) = bytes_to n xs (λ j. small (suc j)) k

one_value : (n s : ℕ) (bytes : List ℕ) (k : ℕ) → s ≡ suc n → n ≤ 20 → s * k + s ≤ length bytes → AreBytes bytes
    → 32 ∷ left_filled 48 (2 * n + 2) (digits 16 false (value_of (take s (drop (s * k) bytes)))) ≡ hex_value s bytes k
one_value n s bytes k is few inside small =
    let rest = drop (s * k) bytes in
    let long : length (take s rest) ≡ suc n = length-take-le s rest (omega (arith, length-drop (s * k) bytes)) ∙ is in
    ap (λ t. 32 ∷ t) (digits_of_bytes n (take s rest) long few (bytes_to s rest (bytes_from (s * k) bytes small)))

-- the values of a full line
pub line_of_one : (bytes : List ℕ) → length bytes ≡ 16 → AreBytes bytes
    → flat_map (hex_value 1 bytes) (range_with_len 0 16) ≡ in_lines (value_text (Number form.Hexadecimal One)) 1 0 bytes
line_of_one bytes long small =
    let value : ℕ → List ℕ = λ k. value_text (Number form.Hexadecimal One) (0 + 1 * k) (take 1 (drop (1 * k) bytes)) in
    let count : (length bytes + 1 - 1) / 1 ≡ 16 = ap (λ m. (m + 1 - 1) / 1) long in
    flat_map_along (hex_value 1 bytes) value 0 0 16 (λ k inside. sym (one_value 0 1 bytes (0 + k) refl (omega arith) (omega (arith, long)) small))
    ∙ ap (λ m. flat_map value (range_with_len 0 m)) (sym count)

-- the values of a full line
pub line_of_two : (bytes : List ℕ) → length bytes ≡ 16 → AreBytes bytes
    → flat_map (hex_value 2 bytes) (range_with_len 0 8) ≡ in_lines (value_text (Number form.Hexadecimal Two)) 2 0 bytes
line_of_two bytes long small =
    let value : ℕ → List ℕ = λ k. value_text (Number form.Hexadecimal Two) (0 + 2 * k) (take 2 (drop (2 * k) bytes)) in
    let count : (length bytes + 2 - 1) / 2 ≡ 8 = ap (λ m. (m + 2 - 1) / 2) long in
    flat_map_along (hex_value 2 bytes) value 0 0 8 (λ k inside. sym (one_value 1 2 bytes (0 + k) refl (omega arith) (omega (arith, long)) small))
    ∙ ap (λ m. flat_map value (range_with_len 0 m)) (sym count)

-- the values of a full line
pub line_of_four : (bytes : List ℕ) → length bytes ≡ 16 → AreBytes bytes
    → flat_map (hex_value 4 bytes) (range_with_len 0 4) ≡ in_lines (value_text (Number form.Hexadecimal Four)) 4 0 bytes
line_of_four bytes long small =
    let value : ℕ → List ℕ = λ k. value_text (Number form.Hexadecimal Four) (0 + 4 * k) (take 4 (drop (4 * k) bytes)) in
    let count : (length bytes + 4 - 1) / 4 ≡ 4 = ap (λ m. (m + 4 - 1) / 4) long in
    flat_map_along (hex_value 4 bytes) value 0 0 4 (λ k inside. sym (one_value 3 4 bytes (0 + k) refl (omega arith) (omega (arith, long)) small))
    ∙ ap (λ m. flat_map value (range_with_len 0 m)) (sym count)

-- the values of a full line
pub line_of_eight : (bytes : List ℕ) → length bytes ≡ 16 → AreBytes bytes
    → flat_map (hex_value 8 bytes) (range_with_len 0 2) ≡ in_lines (value_text (Number form.Hexadecimal Eight)) 8 0 bytes
line_of_eight bytes long small =
    let value : ℕ → List ℕ = λ k. value_text (Number form.Hexadecimal Eight) (0 + 8 * k) (take 8 (drop (8 * k) bytes)) in
    let count : (length bytes + 8 - 1) / 8 ≡ 2 = ap (λ m. (m + 8 - 1) / 8) long in
    flat_map_along (hex_value 8 bytes) value 0 0 2 (λ k inside. sym (one_value 7 8 bytes (0 + k) refl (omega arith) (omega (arith, long)) small))
    ∙ ap (λ m. flat_map value (range_with_len 0 m)) (sym count)
