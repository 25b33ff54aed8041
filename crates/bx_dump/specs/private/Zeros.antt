-- What lines of zeros that are put row by row give, whatever text was put before.
use Rattle.std.specs.Prelude.{◌≡◌, ℕ, zero, suc, ◌+◌, ◌-◌, ◌*◌, ◌/◌, ◌<◌, ◌==◌, nat_lt, min, if◌then◌else◌, List, [], ◌∷◌, ◌++◌, length, take, drop, replicate, codes}
use Rattle.bx_dump.specs.FoldBy.{line_bytes_by}
use Rattle.bx_dump.specs.Zeros.{is_skippable}

-- how many lines of zeros stand in a row right before line k; 4 stands for more too
unfoldable pub zeros_before : ℕ → List ℕ → ℕ → ℕ
zeros_before n bytes zero = 0
zeros_before n bytes (suc k) = if is_skippable n bytes k then min (zeros_before n bytes k + 1) 4 else 0

-- what ends a row of as many, before a line at an address: its second line, or a star for all but the first
abbrev pub row_end : (ℕ → List ℕ → List ℕ) → ℕ → ℕ → ℕ → List ℕ
row_end line n at count = if nat_lt count 2 then [] else if nat_lt count 3 then line (at - n) (replicate n 0) else codes "*\n"

-- what is put for line k: the first of a row is shown at once, the others where the row ends
abbrev pub line_put : (ℕ → List ℕ → List ℕ) → ℕ → ℕ → List ℕ → ℕ → List ℕ
line_put line n at bytes k = if is_skippable n bytes k
    then (if zeros_before n bytes k == 0 then line (at + n * k) (line_bytes_by n bytes k) else [])
    else row_end line n (at + n * k) (zeros_before n bytes k) ++ line (at + n * k) (line_bytes_by n bytes k)

-- what is put for the first k lines
unfoldable pub put_to : (ℕ → List ℕ → List ℕ) → ℕ → ℕ → List ℕ → ℕ → List ℕ
put_to line n at bytes zero = []
put_to line n at bytes (suc k) = put_to line n at bytes k ++ line_put line n at bytes k

-- what is put for whole lines that something follows
abbrev pub zeros_put : (ℕ → List ℕ → List ℕ) → ℕ → ℕ → List ℕ → List ℕ
zeros_put line n at bytes = put_to line n at (bytes ++ 0 ∷ []) (length bytes / n)

-- what ends the dump behind whole lines, the last of them for an address less n: a line of zeros that was kept is the last one
abbrev pub dump_end : (ℕ → List ℕ → List ℕ) → ℕ → ℕ → ℕ → List ℕ
dump_end line n at count = if nat_lt count 2 then [] else row_end line n (at - n) (count - 1) ++ line (at - n) (replicate n 0)

-- m lines were put, behind which stand as many of zeros
abbrev pub HasCounted : ℕ → ℕ → List ℕ → ℕ → Type 0
HasCounted n count bytes m = (length bytes ≡ n * m) × (count ≡ zeros_before n (bytes ++ 0 ∷ []) m)

-- The text is that of some lines behind m others, which something follows, and as many of zeros stand behind them.
abbrev pub PutsRows : (ℕ → List ℕ → List ℕ) → ℕ → ℕ → ℕ → ℕ → ℕ → List ℕ → List ℕ → Type 0
PutsRows line n lines old new at bytes text =
    (whole : List ℕ) (m start : ℕ) → at ≡ start + n * m → bytes ≡ take (n * lines) (drop (n * m) whole) →
    n * (m + lines) < length whole → old ≡ zeros_before n whole m →
    (put_to line n start whole (m + lines) ≡ put_to line n start whole m ++ text) × (new ≡ zeros_before n whole (m + lines))

-- the room that is kept for what ends a row
abbrev pub row_room : ℕ → ℕ → ℕ
row_room room count = if nat_lt count 2 then 0 else room
