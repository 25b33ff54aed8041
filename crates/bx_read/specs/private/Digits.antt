-- How many pairs a text is.
use Rattle.std.specs.Prelude.{ℕ, Bool, false, nat_le, List, length, Option}
use Rattle.std.specs.Option.{option_map, option_map_or}
use Rattle.bx_read.specs.Digits.{pairs_of}

-- how many pairs a text is
abbrev pub pair_count : List ℕ → Option ℕ
pair_count text = option_map length (pairs_of text)

-- whether a text is at most 256 pairs
abbrev pub few_pairs : List ℕ → Bool
few_pairs text = option_map_or (λ count. nat_le count 256) (pair_count text) false
