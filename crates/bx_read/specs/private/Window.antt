-- More lines behind those that were read.
use Rattle.std.specs.Prelude.{◌≡◌, ℕ, ◌+◌, ◌==◌, if◌then◌else◌, List, [], ◌∷◌, ◌++◌, Ok}
use Rattle.bx_read.specs.Runs.{joined}
use Rattle.bx_read.specs.Text.{lines_of, answers, gathered}

-- how many newlines a text has
abbrev pub newlines : List ℕ → ℕ
newlines [] = 0
newlines (c ∷ text) = if c == 10 then newlines text + 1 else newlines text

-- Behind the runs of any pieces stand those of others too: they are the runs of all of them.
abbrev pub JoinsBehind : List (ℕ × List ℕ) → List (ℕ × List ℕ) → List (ℕ × List ℕ) → Type 0
JoinsBehind old new more = (pieces : List (ℕ × List ℕ)) → old ≡ joined pieces → new ≡ joined (pieces ++ more)

-- The text, which follows `lines` lines, is read, and its pieces join the runs of any before them.
abbrev pub TakesText : ℕ → List ℕ → List (ℕ × List ℕ) → List (ℕ × List ℕ) → Type 0
TakesText lines text old new = (more : List (ℕ × List ℕ)) × (gathered (answers (lines + 1) (lines_of text)) ≡ Ok more) × JoinsBehind old new more
