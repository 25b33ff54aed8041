-- How the text of a dump is read, line by line.
use Rattle.std.specs.Prelude.{ℕ, ◌+◌, Bool, ◌==◌, ◌||◌, bytes_eq, if◌then◌else◌, List, [], ◌∷◌, length, map, codes, Result, Ok, Err}
use Rattle.std.specs.List.{onto_first}
use Rattle.std.specs.Option.{unwrap_or}
use Rattle.std.specs.Result.{result_map_both}
use Rattle.bx_text.specs.declared.owned.pieces.Piece.{Piece}
use Rattle.bx_read.specs.Digits.{pairs_of}
use Rattle.bx_read.specs.Line.{read_line}
use Rattle.bx_read.specs.declared.fault.ReadFault.{ReadFault}

-- The lines of a text, which is cut at newlines; the last newline may be missing.
abbrev pub lines_of : List ℕ → List (List ℕ)
lines_of [] = []
lines_of (c ∷ text) = if c == 10 then [] ∷ lines_of text else onto_first c (lines_of text)

-- an empty line, or a star, which xxd writes for lines left out: they give nothing
abbrev pub is_skipped : List ℕ → Bool
is_skipped line = length line == 0 || bytes_eq line (codes "*")

-- a line that was read: its address, the text of its pairs, and its number
abbrev pub ReadLine : Type 0
ReadLine = ℕ × List ℕ × ℕ

-- one line's answer in front of what later lines give; after a fault nothing comes
abbrev pub answer_then : ℕ → Result (ℕ × List ℕ) ReadFault → List (Result ReadLine ReadFault) → List (Result ReadLine ReadFault)
answer_then number (Ok read) later = Ok (read.0, read.1, number) ∷ later
answer_then number (Err fault) later = Err fault ∷ []

-- What the lines give, the first of them being line `number`: those that aren't skipped, up to the first fault.
abbrev pub answers : ℕ → List (List ℕ) → List (Result ReadLine ReadFault)
answers number [] = []
answers number (line ∷ lines) = let later = answers (number + 1) lines in if is_skipped line then later else answer_then number (read_line number line) later

-- the addresses and bytes of lines that were read, or the fault among them
abbrev pub gathered : List (Result ReadLine ReadFault) → Result (List (ℕ × List ℕ)) ReadFault
gathered [] = Ok []
gathered (Err fault ∷ later) = Err fault
gathered (Ok line ∷ later) = result_map_both (λ pieces. (line.0, unwrap_or (pairs_of line.1) []) ∷ pieces) (λ fault. fault) (gathered later)

-- The pieces of a text, or the first fault of its first faulty line.
abbrev pub dump_pieces : List ℕ → Result (List (ℕ × List ℕ)) ReadFault
dump_pieces text = gathered (answers 1 (lines_of text))

-- the addresses and bytes of pieces
abbrev pub contents : {A : Type 0} → List (Piece A) → List (ℕ × List ℕ)
contents pieces = map (λ piece. (piece.at, piece.bytes)) pieces

-- what proofs alone need: a piece in front of others, where there is no fault
abbrev pub piece_then : ℕ × List ℕ → Result (List (ℕ × List ℕ)) ReadFault → Result (List (ℕ × List ℕ)) ReadFault
piece_then piece r = result_map_both (λ pieces. piece ∷ pieces) (λ fault. fault) r
