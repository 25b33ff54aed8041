-- What a line of a dump gives, and what a line that is written gives back.
use Rattle.std.specs.Prelude.{◌≡◌, ◌≢◌, ℕ, Bool, ◌+◌, ◌-◌, ◌*◌, ◌/◌, ◌^◌, ◌<◌, ◌≤◌, List, ◌++◌, length, slice_index, map, codes, All, Some, false}
use Rattle.bx_text.specs.Field.{hex_text, laid_out}
use Rattle.bx_text.specs.Dump.{shown_byte, pair_of, dump_line}
use Rattle.bx_read.specs.Grammar.{IsLine, GivesPieces, total_bytes}
use Rattle.bx_read.specs.Line.{line_piece}
use Rattle.bx_read.specs.Text.{lines_of}

-- No line gives two different pairs of an address and bytes.
abbrev pub LineIsUnique : Type 0
LineIsUnique = (line hex other_hex bytes other_bytes : List ℕ) (at other_at : ℕ) →
    IsLine line at hex bytes → IsLine line other_at other_hex other_bytes → (at ≡ other_at) × (hex ≡ other_hex) × (bytes ≡ other_bytes)

-- No text gives two different lists of pieces.
abbrev pub TextIsUnique : Type 0
TextIsUnique = (text : List ℕ) (pieces others : List (ℕ × List ℕ)) →
    GivesPieces (lines_of text) pieces → GivesPieces (lines_of text) others → pieces ≡ others

-- The pieces of a text are no more than its lines, and their bytes together no more than half of its bytes.
abbrev pub PiecesAreFew : Type 0
PiecesAreFew = (text : List ℕ) (pieces : List (ℕ × List ℕ)) → GivesPieces (lines_of text) pieces →
    (length pieces ≤ length (lines_of text)) × (2 * total_bytes pieces ≤ length text)

-- xxd's default line without its newline
abbrev pub dump_line_text : ℕ → List ℕ → List ℕ
dump_line_text at bytes = hex_text false 8 at ++ codes ": " ++ laid_out (λ i. 2 * i + i / 2) (λ i. pair_of false (slice_index bytes i)) (length bytes) 40
    ++ codes " " ++ map shown_byte bytes

-- a line for some columns and groups without its newline
abbrev pub wide_line_text : Bool → ℕ → ℕ → ℕ → List ℕ → List ℕ
wide_line_text upper cols group at bytes =
    hex_text false 8 at ++ codes ": "
    ++ laid_out (λ i. 2 * i + i / group) (λ i. pair_of upper (slice_index bytes i)) (length bytes) (2 * cols + (cols + group - 1) / group)
    ++ codes " " ++ map shown_byte bytes

-- A line of a dump with some columns and groups gives back its address and bytes, and it has no newline inside.
abbrev pub DumpLineReadsBack : Type 0
DumpLineReadsBack = (upper : Bool) (cols group at : ℕ) (bytes : List ℕ) → 0 < group → 0 < length bytes → length bytes ≤ cols → cols ≤ 256 →
    All (λ b. b < 256) bytes → at < 2 ^ 62 → let line = wide_line_text upper cols group at bytes in
    (dump_line upper cols group at bytes ≡ line ++ codes "\n") × ((hex : List ℕ) × IsLine line at hex bytes) × (line_piece line ≡ Some (at, bytes))
    × All (λ c. c ≢ 10) line

-- The line is short and prints, it reads as these bytes at this address, and it begins with a digit and so no front of it with an `s`.
pub record IsWritten (line : List ℕ) (at : ℕ) (bytes : List ℕ) : Type 0 where
  pub reads : line_piece line ≡ Some (at, bytes)
  pub short : length line ≤ 75
  pub printing : All (λ c. (32 ≤ c) × (c ≤ 126)) line
  pub no_newline : All (λ c. c ≢ 10) line
  pub front : (front rest : List ℕ) → line ≡ front ++ rest → slice_index front 0 ≢ 115

-- xxd's default line of 1 to 16 bytes gives them back, at any address that a line can have.
abbrev pub WrittenLineReadsBack : Type 0
WrittenLineReadsBack = (at : ℕ) (bytes : List ℕ) → 0 < length bytes → length bytes ≤ 16 → All (λ b. b < 256) bytes → at < 2 ^ 62 →
    (dump_line false 16 2 at bytes ≡ dump_line_text at bytes ++ codes "\n") × IsWritten (dump_line_text at bytes) at bytes
