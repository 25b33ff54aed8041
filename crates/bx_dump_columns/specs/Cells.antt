-- The digits of bytes, and how they stand in groups.
use Rattle.std.specs.Prelude.{ℕ, ◌+◌, ◌/◌, ◌%◌, List, [], ◌∷◌, map, ◌≡◌, ◌-◌, ◌*◌, false, ◌++◌, length, take, drop, replicate, reverse}
use Rattle.std.specs.List.{flat_map, range_with_len}
use Rattle.bx_text.specs.Dump.{pair_of}

-- a byte as eight binary digits, the highest bit first
abbrev pub bits_of : ℕ → List ℕ
bits_of b = map (λ place. 48 + b / place % 2) (128 ∷ 64 ∷ 32 ∷ 16 ∷ 8 ∷ 4 ∷ 2 ∷ 1 ∷ [])

-- piece k of `piece` characters, and a space
abbrev pub piece_at : ℕ → List ℕ → ℕ → List ℕ
piece_at piece cells k = take piece (drop (piece * k) cells) ++ 32 ∷ []

-- the characters in pieces, a space after each that is whole, and spaces up to the width
abbrev pub grouped : ℕ → List ℕ → ℕ → List ℕ
grouped piece cells width =
    flat_map (piece_at piece cells) (range_with_len 0 (length cells / piece))
    ++ (drop (piece * (length cells / piece)) cells ++ replicate (width - (length cells + length cells / piece)) 32)

-- value k of `size` bytes each: a space, and the digits of its bytes, the last byte first
abbrev pub hex_value : ℕ → List ℕ → ℕ → List ℕ
hex_value size bytes k = 32 ∷ flat_map (pair_of false) (reverse (take size (drop (size * k) bytes)))

-- a text is `count` values, where the cells are the digits of 16 bytes
abbrev pub ShowsValues : ℕ → ℕ → List ℕ → List ℕ → Type 0
ShowsValues size count cells text =
    (bytes : List ℕ) → length bytes ≡ 16 → cells ≡ flat_map (pair_of false) bytes → text ≡ flat_map (hex_value size bytes) (range_with_len 0 count)

-- what stands for each two items of a list that has the second
abbrev pub by_twos : (ℕ → ℕ → List ℕ) → List ℕ → List ℕ
by_twos f [] = []
by_twos f (a ∷ []) = []
by_twos f (a ∷ b ∷ rest) = f a b ++ by_twos f rest

-- a space, and the six octal digits of a value by its bytes, the lowest first
abbrev pub octal_cells : ℕ → ℕ → List ℕ
octal_cells a b =
    32 ∷ (48 + b / 128 % 8) ∷ (48 + b / 16 % 8) ∷ (48 + b / 2 % 8) ∷ (48 + (a / 64 % 8 + 4 * (b % 2))) ∷ (48 + a / 8 % 8) ∷ (48 + a / 1 % 8) ∷ []
