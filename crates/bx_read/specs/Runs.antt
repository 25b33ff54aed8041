-- The runs of a dump: the bytes of lines that go on with one another.
use Rattle.std.specs.Prelude.{ℕ, ◌+◌, ◌==◌, if◌then◌else◌, List, [], ◌∷◌, ◌++◌, length}

-- a piece in front of runs: the first one has its bytes too, where that begins at its end
abbrev pub with_piece : ℕ × List ℕ → List (ℕ × List ℕ) → List (ℕ × List ℕ)
with_piece piece [] = piece ∷ []
with_piece piece (run ∷ runs) = if run.0 == piece.0 + length piece.1 then (piece.0, piece.1 ++ run.1) ∷ runs else piece ∷ run ∷ runs

-- The runs of pieces: neighbours are one run where one begins at the end of the one before.
abbrev pub joined : List (ℕ × List ℕ) → List (ℕ × List ℕ)
joined [] = []
joined (piece ∷ pieces) = with_piece piece (joined pieces)
