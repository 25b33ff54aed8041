-- The text of a patch from one list of bytes to another.
use Rattle.std.specs.Prelude.{ℕ, zero, suc, ◌+◌, ◌-◌, ◌*◌, ◌/◌, max, Bool, true, false, not, ◌==◌, bytes_eq, if◌then◌else◌, List, [], ◌∷◌, ◌++◌, length, take, drop, flat_map, codes}
use Rattle.std.specs.List.{range_with_len}
use Rattle.std.specs.Fmt.{decimal}
use Rattle.bx_text.specs.Dump.{dump_line}
use Rattle.bx_text.specs.Fold.{line_bytes}
use Rattle.bx_read.specs.Text.{lines_of}
use Rattle.bx_image.specs.declared.record.spans.Span.{Span}
use Rattle.bx_patch.specs.declared.diff.row.Extent.{Extent}
use Rattle.bx_patch.specs.declared.diff.row.Extent.TheVariants.{Bytes, Rows}

-- whether two lists have different bytes at a place, or only one of them has a byte there
abbrev pub differs : List ℕ → List ℕ → ℕ → Bool
differs x y i = not (bytes_eq (take 1 (drop i x)) (take 1 (drop i y)))

-- ranges with a place in front: the first one has it too, where that begins behind it
unfoldable pub with_place : ℕ → List Span → List Span
with_place at [] = record { at = at; end = suc at } ∷ []
with_place at (s ∷ spans) = if s.at == suc at then record { at = at; end = s.end } ∷ spans else record { at = at; end = suc at } ∷ s ∷ spans

-- the maximal ranges of places where a test holds, among n from one on
unfoldable pub spans_from : (ℕ → Bool) → ℕ → ℕ → List Span
spans_from test at zero = []
spans_from test at (suc n) = if test at then with_place at (spans_from test (suc at) n) else spans_from test (suc at) n

-- a line of a patch: whether it has new bytes, the address of the first one, and the bytes
abbrev pub PatchLine : Type 0
PatchLine = Bool × ℕ × List ℕ

-- the line for bytes, where there are any
abbrev pub line_for : Bool → ℕ → List ℕ → List PatchLine
line_for new at [] = []
line_for new at (b ∷ bytes) = (new, at, b ∷ bytes) ∷ []

-- the lines for a range of places: the old bytes there, and the new ones; the first place has this address
abbrev pub span_lines : ℕ → List ℕ → List ℕ → Span → List PatchLine
span_lines at x y s = line_for false (at + s.at) (take (s.end - s.at) (drop s.at x)) ++ line_for true (at + s.at) (take (s.end - s.at) (drop s.at y))

-- the lines for a row of at most 16 bytes: those of each maximal range of places where they differ, or of the whole row, where one differs
abbrev pub row_lines : Extent → ℕ → List ℕ → List ℕ → List PatchLine
row_lines Bytes at x y = flat_map (span_lines at x y) (spans_from (differs x y) 0 16)
row_lines Rows at x y = if bytes_eq x y then [] else span_lines at x y (record { at = 0; end = 16 })

-- the rows of 16 that two lists have, one of them perhaps fewer
abbrev pub row_count : List ℕ → List ℕ → ℕ
row_count x y = (max (length x) (length y) + 15) / 16

-- the lines of n rows from row k on
abbrev pub rows_from : Extent → List ℕ → List ℕ → ℕ → ℕ → List PatchLine
rows_from extent x y k n = flat_map (λ k. row_lines extent (16 * k) (line_bytes x k) (line_bytes y k)) (range_with_len k n)

-- the lines of the patch from x to y
abbrev pub patch_lines : Extent → List ℕ → List ℕ → List PatchLine
patch_lines extent x y = rows_from extent x y 0 (row_count x y)

-- `+` for new bytes, `-` for old ones
abbrev pub sign_of : Bool → ℕ
sign_of new = if new then 43 else 45

-- xxd's default line behind the sign
abbrev pub signed_line_text : PatchLine → List ℕ
signed_line_text line = sign_of line.0 ∷ dump_line false 16 2 line.1 line.2

-- the line that tells both lengths, without its newline
abbrev pub length_text : ℕ → ℕ → List ℕ
length_text old new = codes "length " ++ (decimal old ++ (codes " to " ++ decimal new))

-- lines behind a first one; nothing where there is no line
abbrev pub headed : List ℕ → List PatchLine → List ℕ
headed head [] = []
headed head (line ∷ lines) = head ++ flat_map signed_line_text (line ∷ lines)

-- the last line of a text that has n lines before it, without its newline
abbrev pub patch_end : ℕ → List ℕ
patch_end n = codes "end " ++ decimal n

-- lines, and the last one, which tells how many they are and behind which nothing stands
abbrev pub with_end : List ℕ → List ℕ
with_end lines = lines ++ (patch_end (length (lines_of lines)) ++ codes "\n")

-- The text of the patch from x to y.
abbrev pub patch_text : Extent → List ℕ → List ℕ → List ℕ
patch_text extent x y = with_end (headed (length_text (length x) (length y) ++ codes "\n") (patch_lines extent x y))
