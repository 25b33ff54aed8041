-- The text of od: its lines and its end.
use Rattle.std.specs.Prelude.{ℕ, zero, suc, ◌+◌, ◌-◌, ◌*◌, ◌/◌, Bool, true, false, if◌then◌else◌, List, [], ◌∷◌, ◌++◌, length, take, map, max, replicate, codes}
use Rattle.std.specs.Fmt.{digits}
use Rattle.std.specs.List.{flat_map}
use Rattle.std.specs.Option.{option_map_or}
use Rattle.bx_text.specs.Dump.{shown_byte}
use Rattle.bx_text.specs.Field.{left_filled}
use Rattle.bx_dump.specs.FoldBy.{folded_by}
use Rattle.bx_dump_columns.specs.Lines.{in_lines}
use Rattle.bx_dump_columns.specs.declared.od.options.Address.{Address}
use Rattle.bx_dump_columns.specs.declared.od.options.Endian.{Endian}
use Rattle.bx_dump_columns.specs.declared.od.options.Kind.{Kind}
use Rattle.bx_dump_columns.specs.Values.{value_in, width_of, field_text, field_width, spread_text}
use Rattle.bx_dump_columns.specs.Places.{digits_of}
use Rattle.bx_dump.specs.declared.od.below.Below.{Below}
use Rattle.bx_dump.specs.declared.od.below.Column.{Column}

-- an address in its digits
abbrev pub address_text : Address → ℕ → List ℕ
address_text address at = option_map_or (λ d. left_filled 48 d.1 (digits d.0 false at)) (digits_of address) []

-- a line: the address, and a space and a field for each value
abbrev pub od_line : Address → Kind → Endian → ℕ → List ℕ → List ℕ
od_line address kind endian at bytes = let size = width_of kind in
    address_text address at ++ in_lines (λ _ value. 32 ∷ field_text kind (value_in endian size value)) size 0 bytes ++ codes "\n"

-- the address behind the last byte, on a line of its own
abbrev pub od_end : Address → ℕ → List ℕ
od_end address at = option_map_or (λ d. address_text address at ++ codes "\n") (digits_of address) []

-- the lines of `width` bytes, and the end
abbrev pub od_text : Address → (ℕ → List ℕ → List ℕ) → ℕ → Bool → ℕ → List ℕ → List ℕ
od_text address line width all start bytes = folded_by width line all start bytes ++ od_end address (start + length bytes)

-- ---- rows: several types of values for the same bytes, one below another

-- how many characters the values of n bytes have, with a space in front of each
abbrev pub values_width : ℕ → Kind → ℕ
values_width n kind = (field_width kind + 1) * (n / width_of kind)

-- the most that the values of one of some types have
abbrev pub widest : ℕ → List Column → ℕ
widest n [] = 0
widest n (c ∷ cs) = max (values_width n c.kind) (widest n cs)

-- a row of a line of n bytes: its values, spread over `wide` characters, and perhaps the bytes as text behind them
abbrev pub od_row : Endian → ℕ → ℕ → Column → List ℕ → List ℕ
od_row endian n wide c bytes = let values = in_lines (spread_text endian c.kind (wide - values_width n c.kind) n) (width_of c.kind) 0 bytes in
    if c.text then (values ++ replicate (wide - length values) 32) ++ codes "  >" ++ map shown_byte bytes ++ codes "<\n" else values ++ codes "\n"

-- blanks in place of an address
abbrev pub address_blanks : Address → List ℕ
address_blanks address = option_map_or (λ d. replicate d.1 32) (digits_of address) []

-- the rows below the first
abbrev pub rows_below : Address → Endian → ℕ → ℕ → List ℕ → List Column → List ℕ
rows_below address endian n wide bytes below = flat_map (λ c. address_blanks address ++ od_row endian n wide c bytes) below

-- a line of rows that are as wide as the widest: the first behind the address, each other behind blanks
abbrev pub od_rows : Address → Endian → ℕ → Column → List Column → ℕ → List ℕ → List ℕ
od_rows address endian n first below at bytes = let wide = widest n (first ∷ below) in
    address_text address at ++ od_row endian n wide first bytes ++ rows_below address endian n wide bytes below

-- the types below the first
abbrev pub columns_below : Below → List Column
columns_below below = take below.count below.columns

-- of two forms of a line the one without rows, where neither a text is asked for nor one of n types below
abbrev pub plain_or_rows : Bool → ℕ → (ℕ → List ℕ → List ℕ) → (ℕ → List ℕ → List ℕ) → ℕ → List ℕ → List ℕ
plain_or_rows true n plain rows = rows
plain_or_rows false zero plain rows = plain
plain_or_rows false (suc n) plain rows = rows
