-- Rows, one below another.
use Rattle.std.proofs.Common.{◌≡◌, ℕ, ◌+◌, ◌-◌, ◌<◌, ◌≤◌, false, List, ◌++◌, length, take, drop, slice_index_or, sym, ap, ◌∙◌, append_assoc, arith}
use Rattle.std.proofs.lemmas.List.{drop_more, length-drop, length-take-le}
use borrow.Rule.Slice.PartMut.{put_mid}
use Rattle.bx_text.proofs.KnownLemmas.{take-put_mid_more}
use Rattle.bx_dump.specs.Od.{address_blanks, od_row, rows_below}
use Rattle.bx_dump.specs.declared.od.below.Column.{Column}
use Rattle.bx_dump_columns.specs.declared.od.options.Address.{Address}
use Rattle.bx_dump_columns.specs.declared.od.options.Endian.{Endian}
use Rattle.bx_dump_columns.specs.declared.od.options.Kind.TheVariants.{Chars}

-- one text behind another on a page
pub parts_of : (page rest : List ℕ) (start used : ℕ) (first second : List ℕ) → start ≤ length page → used ≤ length page - start →
    length rest ≡ length (take (length page - start) (drop start page)) → take start page ≡ first → take used rest ≡ second →
    take (start + used) (put_mid start (length page - start) page rest) ≡ first ++ second
parts_of page rest start used first second within fits long p q =
    let room : length rest ≡ length page - start = long ∙ length-take-le (length page - start) (drop start page) (omega (arith, length-drop start page)) in
    take-put_mid_more page rest start (length page - start) used within (omega (arith, room)) ∙ ap (λ t. t ++ take used rest) p ∙ ap (λ t. first ++ t) q

-- a type, where there is none
abbrev pub no_column : Column
no_column = record { kind = Chars; text = false }

-- one row more, of those below the first
pub below_next : (address : Address) (endian : Endian) (n wide : ℕ) (bytes : List ℕ) (columns : List Column) (k : ℕ) (text all : List ℕ) → k < length columns →
    text ++ rows_below address endian n wide bytes (drop k columns) ≡ all →
    text ++ (address_blanks address ++ od_row endian n wide (slice_index_or columns k no_column) bytes) ++ rows_below address endian n wide bytes (drop (k + 1) columns) ≡ all
below_next address endian n wide bytes columns k text all below before =
    let row = address_blanks address ++ od_row endian n wide (slice_index_or columns k no_column) bytes in
    append_assoc text row (rows_below address endian n wide bytes (drop (k + 1) columns))
    ∙ ap (λ cs. text ++ rows_below address endian n wide bytes cs) (sym (drop_more columns k no_column below)) ∙ before
