-- The next line of a dump, and the runs of those that come.
use Rattle.std.specs.Prelude.{◌≡◌, ℕ, suc, List, [], ◌∷◌, length, Option, None, Some, Result, Ok, Err}
use Rattle.std.specs.Option.{unwrap_or}
use Rattle.bx_read.specs.Digits.{pairs_of}
use Rattle.bx_read.specs.Runs.{joined}
use Rattle.bx_read.specs.Text.{ReadLine, gathered, piece_then}
use Rattle.bx_read.specs.declared.fault.ReadFault.{ReadFault}
use Rattle.bx_read.specs.declared.runs.DumpLine.{DumpLine}
use Rattle.bx_read.specs.declared.runs.DumpLine.TheVariants.{Full, Other}

-- a line's address and bytes
abbrev pub piece_of : DumpLine → ℕ × List ℕ
piece_of (Full line) = (line.at, line.bytes)
piece_of (Other line) = (line.at, unwrap_or (pairs_of line.hex.now) [])

-- the line is the first of those that come, or there is none
abbrev pub IsNextLine : List (Result ReadLine ReadFault) → List (Result ReadLine ReadFault) → Option DumpLine → Type 0
IsNextLine old new None = old ≡ []
IsNextLine old new (Some line) =
    (at : ℕ) × (hex : List ℕ) × (number : ℕ) × ((at, unwrap_or (pairs_of hex) []) ≡ piece_of line) × (old ≡ Ok (at, hex, number) ∷ new)

-- the pieces of a line that was taken and of those behind it
abbrev pub taken_then : Option DumpLine → List (Result ReadLine ReadFault) → Result (List (ℕ × List ℕ)) ReadFault
taken_then None later = Ok []
taken_then (Some line) later = piece_then (piece_of line) (gathered later)

-- how many lines they are
abbrev pub lines_left : Option DumpLine → List (Result ReadLine ReadFault) → ℕ
lines_left None later = 0
lines_left (Some line) later = suc (length later)

-- the runs of pieces, where there is no fault
abbrev pub joined_of : Result (List (ℕ × List ℕ)) ReadFault → Result (List (ℕ × List ℕ)) ReadFault
joined_of (Ok pieces) = Ok (joined pieces)
joined_of (Err fault) = Err fault

-- the runs of a run so far and of the lines that come
abbrev pub runs_with : ℕ × List ℕ → List (Result ReadLine ReadFault) → Result (List (ℕ × List ℕ)) ReadFault
runs_with run later = joined_of (piece_then run (gathered later))

-- a whole run, in front of the runs of a line that was taken and of those behind it
abbrev pub runs_then : ℕ × List ℕ → Option DumpLine → List (Result ReadLine ReadFault) → Result (List (ℕ × List ℕ)) ReadFault
runs_then run next later = piece_then run (joined_of (taken_then next later))
