-- What od shows of bytes: values and characters in their fields.
use Rattle.std.specs.Prelude.{ℕ, ◌+◌, ◌-◌, ◌*◌, ◌/◌, ◌^◌, false, ◌&&◌, nat_le, nat_lt, ◌==◌, if◌then◌else◌, List, [], ◌∷◌, ◌++◌, length, replicate, reverse, slice_index, codes}
use Rattle.std.specs.Fmt.{digits}
use Rattle.bx_text.specs.Ascii.{is_printable}
use Rattle.bx_text.specs.Field.{left_filled}
use Rattle.bx_dump_columns.specs.declared.od.options.Endian.{Endian}
use Rattle.bx_dump_columns.specs.declared.od.options.Endian.TheVariants.{Little, Big}
use Rattle.bx_dump_columns.specs.declared.od.options.NumForm.TheVariants as form
use Rattle.bx_dump_columns.specs.declared.od.options.Size.{Size}
use Rattle.bx_dump_columns.specs.declared.od.options.Size.TheVariants.{One, Two, Four, Eight}
use Rattle.bx_dump_columns.specs.declared.od.options.Kind.{Kind}
use Rattle.bx_dump_columns.specs.declared.od.options.Kind.TheVariants.{Chars, Number}
use Rattle.bx_dump_columns.specs.Lines.{in_lines}
use Rattle.bx_dump_columns.specs.declared.od.options.NumForm.{NumForm}

-- the value of bytes, the lowest first (little-endian); those that are absent count as 0
abbrev pub value_of : List ℕ → ℕ
value_of [] = 0
value_of (b ∷ bs) = b + 256 * value_of bs

-- the value of n bytes, the lowest or the highest first; those that are absent behind them count as 0
abbrev pub value_in : Endian → ℕ → List ℕ → ℕ
value_in Little n bytes = value_of bytes
value_in Big n bytes = value_of (reverse (bytes ++ replicate (n - length bytes) 0))

-- of four numbers, that for values of one, two, four or eight bytes
abbrev pub by_size : Size → ℕ → ℕ → ℕ → ℕ → ℕ
by_size One a b c d = a
by_size Two a b c d = b
by_size Four a b c d = c
by_size Eight a b c d = d

-- a byte as a character: by its name where it has one, a backslash and 0 or a letter; itself where it prints; else in octal
abbrev pub char_text : ℕ → List ℕ
char_text b = if b == 0 then codes "\\0" else if nat_le 7 b && nat_le b 13 then 92 ∷ slice_index (codes "abtnvfr") (b - 7) ∷ [] else
    if is_printable b then b ∷ [] else left_filled 48 3 (digits 8 false b)

-- how many bytes a value has
abbrev pub width_of : Kind → ℕ
width_of Chars = 1
width_of (Number form size) = by_size size 1 2 4 8

-- the field for a value: a character, or a number, filled up to its width; a signed one is in two's complement
abbrev pub field_text : Kind → ℕ → List ℕ
field_text Chars v = left_filled 32 3 (char_text v)
field_text (Number form.Hexadecimal size) v = left_filled 48 (by_size size 2 4 8 16) (digits 16 false v)
field_text (Number form.Octal size) v = left_filled 48 (by_size size 3 6 11 22) (digits 8 false v)
field_text (Number form.Unsigned size) v = left_filled 32 (by_size size 3 5 10 20) (digits 10 false v)
field_text (Number form.Signed size) v = let bits = 8 * by_size size 1 2 4 8 in
    left_filled 32 (by_size size 4 6 11 20) (if nat_lt v (2 ^ (bits - 1)) then digits 10 false v else 45 ∷ digits 10 false (2 ^ bits - v))

-- how many bytes a value of this size has
abbrev pub size_of : Size → ℕ
size_of size = by_size size 1 2 4 8

-- how wide the field of a value is
abbrev pub number_width : NumForm → Size → ℕ
number_width form.Hexadecimal size = by_size size 2 4 8 16
number_width form.Octal size = by_size size 3 6 11 22
number_width form.Unsigned size = by_size size 3 5 10 20
number_width form.Signed size = by_size size 4 6 11 20

-- a value in two's complement, as text
abbrev pub signed_text : ℕ → ℕ → List ℕ
signed_text size v = if nat_lt v (2 ^ (8 * size - 1)) then digits 10 false v else 45 ∷ digits 10 false (2 ^ (8 * size) - v)

-- a number in its field
abbrev pub number_text : NumForm → Size → ℕ → List ℕ
number_text form size v = field_text (Number form size) v

-- how wide its field is
abbrev pub field_width : Kind → ℕ
field_width Chars = 3
field_width (Number form size) = number_width form size

-- how long the values of 16 bytes are as text
abbrev pub line_width : Kind → ℕ
line_width kind = (field_width kind + 1) * (16 / width_of kind)

-- a space and the field, wherever it stands
abbrev pub value_text : Kind → ℕ → List ℕ → List ℕ
value_text kind at bytes = 32 ∷ field_text kind (value_of bytes)

-- the same where the value's bytes stand in an order
abbrev pub value_text_in : Endian → Kind → ℕ → List ℕ → List ℕ
value_text_in endian kind at bytes = 32 ∷ field_text kind (value_in endian (width_of kind) bytes)

-- of `pad` blanks that are spread over a line of n bytes, those in front of the values from byte `at` on
abbrev pub blanks_from : ℕ → ℕ → ℕ → ℕ
blanks_from pad n at = pad * (n - at) / n

-- a value behind its part of the blanks
abbrev pub spread_text : Endian → Kind → ℕ → ℕ → ℕ → List ℕ → List ℕ
spread_text endian kind pad n at bytes = replicate (blanks_from pad n at - blanks_from pad n (at + width_of kind)) 32 ++ value_text_in endian kind at bytes

-- the values of some bytes
abbrev pub values_text : Kind → List ℕ → List ℕ
values_text kind bytes = in_lines (value_text kind) (width_of kind) 0 bytes
