-- What xxd -d and -e show: addresses in decimal, and groups of bytes as little-endian numbers.
use Rattle.std.specs.Prelude.{◌≡◌, ◌⊎◌, ℕ, ◌*◌, ◌/◌, Bool, false, List, ◌++◌, length, take, drop, reverse, codes}
use Rattle.std.specs.Fmt.{digits}
use Rattle.std.specs.List.{flat_map, range_with_len}
use Rattle.bx_text.specs.Dump.{pair_of}
use Rattle.bx_text.specs.Field.{left_filled}

-- an address in decimal, of eight digits and more
abbrev pub decimal_at : ℕ → List ℕ
decimal_at at = left_filled 48 8 (digits 10 false at)

-- A number of at most `group` bytes, the lowest byte first: its digits at the right of a field for as many bytes, and a space.
abbrev pub word_text : Bool → ℕ → List ℕ → List ℕ
word_text upper group bytes = left_filled 32 (2 * group) (flat_map (pair_of upper) (reverse bytes)) ++ codes " "

-- `count` numbers: number k is that of the `group` bytes from place group * k on; the last ones may be missing
abbrev pub words_text : Bool → ℕ → ℕ → List ℕ → List ℕ
words_text upper group count bytes = flat_map (λ k. word_text upper group (take group (drop (group * k) bytes))) (range_with_len 0 count)

-- the groups for which there is code of their own
abbrev pub IsUsualGroup : ℕ → Type 0
IsUsualGroup group = (group ≡ 2) ⊎ (group ≡ 4) ⊎ (group ≡ 8)

-- the whole groups of some bytes, the last byte of each first
abbrev pub turned_groups : ℕ → List ℕ → List ℕ
turned_groups group bytes = flat_map (λ k. reverse (take group (drop (group * k) bytes))) (range_with_len 0 (length bytes / group))
