-- How long lines of xxd are.
use Rattle.std.proofs.Common.{◌≡◌, ℕ, ◌+◌, ◌-◌, ◌*◌, ◌/◌, ◌^◌, ◌<◌, ◌≤◌, Bool, true, false, List, [], ◌∷◌, ◌++◌, map, length, take, drop, replicate, reverse, refl, sym, ap, ◌∙◌, arith, length-append}
use Rattle.std.specs.Prelude.{codes, slice_index}
use Rattle.std.specs.Fmt.{digits}
use Rattle.std.specs.List.{flat_map, range_with_len}
use Rattle.std.proofs.lemmas.List.{length-map, length-replicate, length-reverse, length-take}
use Rattle.std.proofs.lemmas.List.FromFn.{length-range_with_len}
use Rattle.std.proofs.Math.Nat.{mul-le-mul_left}
use Rattle.bx_text.specs.Dump.{pair_of, shown_byte}
use Rattle.bx_text.specs.Field.{char_at, hex_text, laid_out, left_filled}
use Rattle.bx_dump_columns.specs.Words.{decimal_at, word_text, words_text}
use Rattle.bx_dump_columns.proofs.LinesLemmas.{cells_len, count_most}
use Rattle.bx_dump.proofs.EndLemmas.{digits_few, filled_few}
use Rattle.bx_dump.specs.Xxd.{address_in, behind_address, words_line}
use Rattle.bx_dump.specs.private.Xxd.{cell_of, cell_width, columns_line, columns_place, columns_width, decimal_line, laid_columns}
use Rattle.bx_dump.specs.declared.xxd.columns.Digits.{Digits}
use Rattle.bx_dump.specs.declared.xxd.columns.Digits.TheVariants.{Hexadecimal, Binary}

hex_few : (at : ℕ) → length (hex_text false 8 at) ≤ 64
hex_few at = filled_few 8 (digits 16 false at) (omega arith) (digits_few 16 at)

decimal_few : (at : ℕ) → length (decimal_at at) ≤ 64
decimal_few at = filled_few 8 (digits 10 false at) (omega arith) (digits_few 10 at)

address_few : (decimal : Bool) (at : ℕ) → length (address_in decimal at) ≤ 64
address_few true at = decimal_few at
address_few false at = hex_few at

field_is : (place : ℕ → ℕ) (text : ℕ → List ℕ) (n width : ℕ) → length (laid_out place text n width) ≡ width
field_is place text n width = length-map (range_with_len 0 width) (char_at place text n) ∙ length-range_with_len 0 width

behind_is : (columns bytes : List ℕ) → length (behind_address columns bytes) ≡ length columns + length bytes + 4
behind_is columns bytes =
    omega (
      arith,
      length-append (codes ": " ++ columns ++ codes " " ++ map shown_byte bytes) (codes "\n"),
      length-append (codes ": " ++ columns ++ codes " ") (map shown_byte bytes),
      length-append (codes ": " ++ columns) (codes " "),
      length-append (codes ": ") columns,
      length-map bytes shown_byte,
    )

width_few : (digits : Digits) → cell_width digits ≤ 8
width_few (Hexadecimal upper) = omega arith
width_few Binary = omega arith

groups_few : (cols group : ℕ) → 0 < group → (cols + group - 1) / group ≤ cols
groups_few cols group some =
    let fits : cols * 1 ≤ cols * group = mul-le-mul_left {m = 1} {n = group} cols (omega arith) in
    count_most cols group cols some (omega arith)

columns_most : (digits : Digits) (cols group : ℕ) (bytes : List ℕ) → 0 < group → cols ≤ 256 → length (laid_columns digits cols group bytes) ≤ 9 * 256
columns_most digits cols group bytes some few =
    let wide : cell_width digits * cols ≤ cell_width digits * 256 = mul-le-mul_left {m = cols} {n = 256} (cell_width digits) few in
    omega (arith, field_is (columns_place (cell_width digits) group) (λ i. cell_of digits (slice_index bytes i)) (length bytes) (columns_width (cell_width digits) cols group), groups_few cols group some, width_few digits)

pub decimal_short : (digits : Digits) (cols group at : ℕ) (bytes : List ℕ) → 0 < group → cols ≤ 256 → length bytes ≤ cols → length (decimal_line digits cols group at bytes) ≤ 2 ^ 12
decimal_short digits cols group at bytes some few fits =
    let columns = laid_columns digits cols group bytes in
    omega (arith, length-append (decimal_at at) (behind_address columns bytes), decimal_few at, behind_is columns bytes, columns_most digits cols group bytes some few)

pub columns_short : (digits : Digits) (cols group at : ℕ) (bytes : List ℕ) → 0 < group → cols ≤ 256 → length bytes ≤ cols → length (columns_line digits cols group at bytes) ≤ 2 ^ 12
columns_short digits cols group at bytes some few fits =
    let columns = laid_columns digits cols group bytes in
    let address = hex_text false 8 at in
    omega (
      arith,
      length-append (address ++ codes ": " ++ columns ++ codes " " ++ map shown_byte bytes) (codes "\n"),
      length-append (address ++ codes ": " ++ columns ++ codes " ") (map shown_byte bytes),
      length-append (address ++ codes ": " ++ columns) (codes " "),
      length-append (address ++ codes ": ") columns,
      length-append address (codes ": "),
      length-map bytes shown_byte,
      hex_few at,
      columns_most digits cols group bytes some few,
    )

pair_is : (upper : Bool) (b : ℕ) → length (pair_of upper b) ≡ 2
pair_is upper b = refl

word_is : (upper : Bool) (group : ℕ) (bytes : List ℕ) → length bytes ≤ group → length (word_text upper group bytes) ≡ 2 * group + 1
word_is upper group bytes fits =
    let text = flat_map (pair_of upper) (reverse bytes) in
    omega (
      arith,
      length-append (left_filled 32 (2 * group) text) (codes " "),
      length-append (replicate (2 * group - length text) 32) text,
      length-replicate {A = ℕ} (2 * group - length text) 32,
      cells_len (pair_of upper) 2 (pair_is upper) (reverse bytes),
      length-reverse bytes,
    )

words_are : (upper : Bool) (group count : ℕ) (bytes : List ℕ) → length (words_text upper group count bytes) ≡ (2 * group + 1) * count
words_are upper group count bytes =
    cells_len (λ k. word_text upper group (take group (drop (group * k) bytes))) (2 * group + 1)
    (λ k. word_is upper group (take group (drop (group * k) bytes)) (omega (arith, length-take group (drop (group * k) bytes)))) (range_with_len 0 count)
    ∙ ap (λ n. (2 * group + 1) * n) (length-range_with_len 0 count)

pub words_short : (decimal upper : Bool) (cols group at : ℕ) (bytes : List ℕ) → (2 * group + 1) * ((cols + group - 1) / group) ≤ 1280 → cols ≤ 256 → length bytes ≤ cols →
    length (words_line decimal upper cols group at bytes) ≤ 2 ^ 12
words_short decimal upper cols group at bytes narrow few fits =
    let columns = words_text upper group ((cols + group - 1) / group) bytes in
    omega (arith, length-append (address_in decimal at) (behind_address columns bytes), address_few decimal at, behind_is columns bytes, words_are upper group ((cols + group - 1) / group) bytes)
