-- The binary digits of a line.
use Rattle.std.specs.Prelude.{ℕ, List, [], ◌∷◌, ◌++◌}
use Rattle.std.specs.List.{flat_map}
use Rattle.bx_dump_columns.specs.Cells.{bits_of}

-- the binary digits of each byte, and a space after them
abbrev pub spaced_bits : List ℕ → List ℕ
spaced_bits bytes = flat_map (λ b. bits_of b ++ 32 ∷ []) bytes
