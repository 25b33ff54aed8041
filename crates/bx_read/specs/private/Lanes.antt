-- Where digits stand.
use Rattle.std.specs.Prelude.{ℕ, List, [], ◌∷◌}

-- the places of the digits of four groups of four, with a space between two groups
abbrev pub group_places : List ℕ
group_places = 0 ∷ 1 ∷ 2 ∷ 3 ∷ 5 ∷ 6 ∷ 7 ∷ 8 ∷ 10 ∷ 11 ∷ 12 ∷ 13 ∷ 15 ∷ 16 ∷ 17 ∷ 18 ∷ []
