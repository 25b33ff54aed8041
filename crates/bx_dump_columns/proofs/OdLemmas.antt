-- Numbers in fields of a fixed width.
use Rattle.std.proofs.Common.{◌≡◌, ℕ, zero, suc, ◌+◌, ◌-◌, ◌*◌, ◌/◌, ◌^◌, ◌<◌, ◌≤◌, List, [], ◌∷◌, ◌++◌, length, min, replicate, get_or, take, drop, reverse, refl, sym, ap, ◌∙◌, arith, add-one, Fits, w8, w32, w64}
use Rattle.std.proofs.Math.ListN.{set}
use Rattle.std.specs.Int.{from_le_bytes}
use Rattle.std.proofs.Math.Nat.{mul-le-mul_left, pow-suc, pow-zero, pow-le-pow_right}
use Rattle.std.proofs.lemmas.Nat.{div_below}
use Rattle.std.proofs.lemmas.List.{get_or-drop, length-drop, length-append, length-take-le, reverse-append, take_more, take_more_set}
use borrow.Rule.Slice.PartMut.{put_mid, post_of}
use Rattle.bx_text.specs.Field.{left_filled}
use Rattle.bx_text.proofs.KnownLemmas.{take-put_mid_more}
use Rattle.bx_dump_columns.specs.Values.{value_of, width_of, size_of, field_width, value_text_in}
use Rattle.bx_dump_columns.specs.Lines.{in_lines}
use Rattle.bx_dump_columns.proofs.LinesLemmas.{line_begin, lines_next_at}
use Rattle.bx_dump_columns.specs.declared.od.options.Endian.{Endian}
use Rattle.bx_dump_columns.specs.declared.od.options.NumForm.TheVariants as form
use Rattle.bx_dump_columns.specs.declared.od.options.Size.{Size}
use Rattle.bx_dump_columns.specs.declared.od.options.Size.TheVariants.{One, Two, Four, Eight}
use Rattle.bx_dump_columns.specs.declared.od.options.Kind.{Kind}
use Rattle.bx_dump_columns.specs.declared.od.options.Kind.TheVariants.{Chars, Number}

-- a quotient by the base has one digit less
pub digits_below : (n base k : ℕ) → 2 ≤ base → n < base ^ (k + 1) → n / base < base ^ k
digits_below n base k big small =
    let power : base ^ (k + 1) ≡ base ^ k * base = rw add-one (pow-suc base k) in
    div_below n base (base ^ k) (omega arith) (rw power at small)

-- what isn't 0 and is below a power has a digit
pub digit_more : (base k n : ℕ) → n < base ^ k → (n ≡ 0 → ⊥) → 0 < k
digit_more base zero n small some = absurd (some (omega (arith, pow-zero base)))
digit_more base (suc k) n small some = omega arith

-- a minus right in front of the digits
pub minus_front : (n first : ℕ) (space field text : List ℕ) → space ≡ 32 ∷ [] → field ≡ left_filled 32 n text → first + length text ≡ n →
    set (space ++ field) first 45 ≡ left_filled 32 (n + 1) (45 ∷ text)
minus_front n first space field text one is all =
    let many : n - length text ≡ first = omega arith in
    let less : n + 1 - length (45 ∷ text) ≡ first = omega arith in
    let front : field ≡ replicate first 32 ++ text = rw many at is in
    ap (λ t. set (t ++ field) first 45) one ∙ ap (λ t. set (32 ∷ t) first 45) front ∙ put first ∙ sym (ap (λ m. replicate m 32 ++ 45 ∷ text) less)
  where
    put : (m : ℕ) → set (32 ∷ (replicate m 32 ++ text)) m 45 ≡ replicate m 32 ++ 45 ∷ text
    put zero = refl
    put (suc m) = ap (λ t. 32 ∷ t) (put m)

-- the value of bytes is below 256 to the power of their number
pub value_below : (xs : List ℕ) → ((k : ℕ) → Fits w8 (get_or xs k 0)) → value_of xs < 256 ^ length xs
value_below [] small = omega (arith, pow-zero 256)
value_below (x ∷ xs) small =
    let rest : value_of xs < 256 ^ length xs = value_below xs (λ k. small (suc k)) in
    let power : 256 ^ suc (length xs) ≡ 256 ^ length xs * 256 = pow-suc 256 (length xs) in
    let first : Fits w8 x = small 0 in
    rw power (omega (arith, first))

pub value_small : (m : ℕ) (xs : List ℕ) → ((k : ℕ) → Fits w8 (get_or xs k 0)) → length xs ≤ m → value_of xs < 256 ^ m
value_small m xs small few =
    let wide : 256 ^ length xs ≤ 256 ^ m = pow-le-pow_right {n = 256} (omega arith) {i = length xs} {j = m} few in
    omega (arith, value_below xs small)

-- the same from a place on
pub value_from : (m at : ℕ) (xs : List ℕ) → ((k : ℕ) → Fits w8 (get_or xs k 0)) → length xs - at ≤ m → value_of (drop at xs) < 256 ^ m
value_from m at xs small few =
    value_small m (drop at xs) (λ k. rw (get_or-drop at xs k 0) (small (at + k))) (omega (arith, length-drop at xs))

-- four at once
pub value_four : (bs : List ℕ) → length bs ≡ 4 → from_le_bytes w32 bs ≡ value_of bs
value_four [] len = absurd (omega arith)
value_four (a ∷ []) len = absurd (omega arith)
value_four (a ∷ b ∷ []) len = absurd (omega arith)
value_four (a ∷ b ∷ c ∷ []) len = absurd (omega arith)
value_four (a ∷ b ∷ c ∷ d ∷ []) len = omega arith
value_four (a ∷ b ∷ c ∷ d ∷ e ∷ rest) len = absurd (omega arith)

-- all eight at once
pub value_eight : (bs : List ℕ) → length bs ≡ 8 → from_le_bytes w64 bs ≡ value_of bs
value_eight [] len = absurd (omega arith)
value_eight (a ∷ []) len = absurd (omega arith)
value_eight (a ∷ b ∷ []) len = absurd (omega arith)
value_eight (a ∷ b ∷ c ∷ []) len = absurd (omega arith)
value_eight (a ∷ b ∷ c ∷ d ∷ []) len = absurd (omega arith)
value_eight (a ∷ b ∷ c ∷ d ∷ e ∷ []) len = absurd (omega arith)
value_eight (a ∷ b ∷ c ∷ d ∷ e ∷ f ∷ []) len = absurd (omega arith)
value_eight (a ∷ b ∷ c ∷ d ∷ e ∷ f ∷ g ∷ []) len = absurd (omega arith)
value_eight (a ∷ b ∷ c ∷ d ∷ e ∷ f ∷ g ∷ h ∷ []) len = omega arith
value_eight (a ∷ b ∷ c ∷ d ∷ e ∷ f ∷ g ∷ h ∷ i ∷ rest) len = absurd (omega arith)

-- what fits in bytes fits in their bits
pub size_fits : (size : Size) (v n : ℕ) → v < 256 ^ n → n ≤ size_of size → v < 2 ^ (8 * size_of size)
size_fits size v n small few =
    let wide : 256 ^ n ≤ 256 ^ size_of size = pow-le-pow_right {n = 256} (omega arith) {i = n} {j = size_of size} few in
    rw (← power size) (let low : v < 256 ^ size_of size = omega arith in low)
  where
    power : (s : Size) → 256 ^ size_of s ≡ 2 ^ (8 * size_of s)
    power One = refl
    power Two = refl
    power Four = refl
    power Eight = refl

-- the values of a line have room
pub values_fit : (kind : Kind) (n : ℕ) → n ≤ 16 → (field_width kind + 1) * ((n + width_of kind - 1) / width_of kind) ≤ 80
values_fit Chars n few = omega arith
values_fit (Number form.Hexadecimal One) n few = omega arith
values_fit (Number form.Hexadecimal Two) n few = omega arith
values_fit (Number form.Hexadecimal Four) n few = omega arith
values_fit (Number form.Hexadecimal Eight) n few = omega arith
values_fit (Number form.Octal One) n few = omega arith
values_fit (Number form.Octal Two) n few = omega arith
values_fit (Number form.Octal Four) n few = omega arith
values_fit (Number form.Octal Eight) n few = omega arith
values_fit (Number form.Unsigned One) n few = omega arith
values_fit (Number form.Unsigned Two) n few = omega arith
values_fit (Number form.Unsigned Four) n few = omega arith
values_fit (Number form.Unsigned Eight) n few = omega arith
values_fit (Number form.Signed One) n few = omega arith
values_fit (Number form.Signed Two) n few = omega arith
values_fit (Number form.Signed Four) n few = omega arith
values_fit (Number form.Signed Eight) n few = omega arith

-- at most 5 characters for each byte, and for those that fill up the last value
pub values_few : (kind : Kind) (n : ℕ) → n ≤ 256 → (field_width kind + 1) * ((n + width_of kind - 1) / width_of kind) ≤ 1280
values_few Chars n few = omega arith
values_few (Number form.Hexadecimal One) n few = omega arith
values_few (Number form.Hexadecimal Two) n few = omega arith
values_few (Number form.Hexadecimal Four) n few = omega arith
values_few (Number form.Hexadecimal Eight) n few = omega arith
values_few (Number form.Octal One) n few = omega arith
values_few (Number form.Octal Two) n few = omega arith
values_few (Number form.Octal Four) n few = omega arith
values_few (Number form.Octal Eight) n few = omega arith
values_few (Number form.Unsigned One) n few = omega arith
values_few (Number form.Unsigned Two) n few = omega arith
values_few (Number form.Unsigned Four) n few = omega arith
values_few (Number form.Unsigned Eight) n few = omega arith
values_few (Number form.Signed One) n few = omega arith
values_few (Number form.Signed Two) n few = omega arith
values_few (Number form.Signed Four) n few = omega arith
values_few (Number form.Signed Eight) n few = omega arith

pub some_width : (kind : Kind) → 0 < width_of kind
some_width Chars = omega arith
some_width (Number form One) = omega arith
some_width (Number form Two) = omega arith
some_width (Number form Four) = omega arith
some_width (Number form Eight) = omega arith

-- one value more, behind those of a line so far
pub value_next : (kind : Kind) (endian : Endian) (bytes text new : List ℕ) (k width used n : ℕ) → (field_width kind + 1) * ((length bytes + width_of kind - 1) / width_of kind) ≤ length text
    → width ≡ width_of kind → 0 < width_of kind
    → k < (length bytes + width_of kind - 1) / width_of kind → used ≡ (field_width kind + 1) * k → length new ≡ length (take (length text - used) (drop used text)) → n ≡ field_width kind + 1
    → take used text ≡ in_lines (value_text_in endian kind) (width_of kind) 0 (take (width_of kind * k) bytes)
    → take n new ≡ value_text_in endian kind (0 + width * k) (take (min (width * k + width_of kind) (length bytes) - width * k) (drop (width * k) bytes))
    → (used + n ≡ (field_width kind + 1) * (k + 1)) × (take (used + n) (put_mid used (length text - used) text new) ≡ in_lines (value_text_in endian kind) (width_of kind) 0 (take (width_of kind * (k + 1)) bytes))
value_next kind endian bytes text new k width used n fits value pos below at long one before put =
    let W = width_of kind in
    let F = field_width kind + 1 in
    let inside : W * k < length bytes = line_begin (length bytes) W k pos below in
    let begin : width * k ≡ W * k = ap (λ n. n * k) value in
    let count : F * (k + 1) ≤ F * ((length bytes + W - 1) / W) = mul-le-mul_left {m = k + 1} {n = (length bytes + W - 1) / W} F (omega arith) in
    let more_used : F * (k + 1) ≡ F * k + F = omega arith in
    let left : length new ≡ length text - used = long ∙ length-take-le (length text - used) (drop used text) (omega (arith, length-drop used text)) in
    let more = take-put_mid_more text new used (length text - used) n (omega (arith, at, count, fits, more_used)) (omega (arith, left, one, at, count, fits, more_used)) in
    (omega (arith, at, one, more_used), more ∙ lines_next_at (value_text_in endian kind) W 0 k (width * k) bytes _ _ pos begin (omega (arith, inside, begin)) before put)

-- the value of a byte more, behind those that count more than it
pub value_behind : (xs : List ℕ) (k : ℕ) → k < length xs → value_of (reverse (take (k + 1) xs)) ≡ 256 * value_of (reverse (take k xs)) + get_or xs k 0
value_behind xs k inside =
    let step : reverse (take (k + 1) xs) ≡ get_or xs k 0 ∷ reverse (take k xs) = ap reverse (take_more xs k 0 inside) ∙ reverse-append (take k xs) (get_or xs k 0 ∷ []) in
    ap value_of step ∙ omega arith

-- zeros behind bytes are what is read behind them
pub get_or-zeros : (xs : List ℕ) (m k : ℕ) → get_or (xs ++ replicate m 0) k 0 ≡ get_or xs k 0
get_or-zeros [] zero k = refl
get_or-zeros [] (suc m) zero = refl
get_or-zeros [] (suc m) (suc k) = get_or-zeros [] m k
get_or-zeros (x ∷ xs) m zero = refl
get_or-zeros (x ∷ xs) m (suc k) = get_or-zeros xs m k

-- all bytes of each value of a full line are there
pub whole_value : (kind : Kind) (k : ℕ) → k < (16 + width_of kind - 1) / width_of kind → width_of kind * k + width_of kind ≤ 16
whole_value Chars k below = omega arith
whole_value (Number form One) k below = omega arith
whole_value (Number form Two) k below = omega arith
whole_value (Number form Four) k below = omega arith
whole_value (Number form Eight) k below = omega arith

-- an address, values, and a newline
pub line_parts : (page rest : List ℕ) (start used size : ℕ) (address values : List ℕ) → start ≤ length page → used < length rest → start + size ≤ length page →
    take start page ≡ address → take used rest ≡ values → take (start + used + 1) (set (put_mid start size page rest) (start + used) 10) ≡ address ++ values ++ 10 ∷ []
line_parts page rest start used size address values within fits inside p q =
    let long : start + used < length (put_mid start size page rest) = omega (arith, length-append (take start page) (rest ++ post_of start size page), length-append rest (post_of start size page), length-take-le start page within) in
    take_more_set (put_mid start size page rest) (start + used) 10 long
    ∙ ap (λ t. t ++ 10 ∷ []) (take-put_mid_more page rest start size used within (omega arith) ∙ ap (λ t. t ++ take used rest) p ∙ ap (λ t. address ++ t) q)
