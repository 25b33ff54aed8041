-- The characters beside the digits of a dump.
use Rattle.std.specs.Prelude.{ℕ, List, [], ◌∷◌, ◌+◌, ◌==◌, if◌then◌else◌}

-- how many places hold one character in both
unfoldable pub agreeing : List ℕ → List ℕ → ℕ
agreeing (c ∷ shown) (d ∷ text) = (if c == d then 1 else 0) + agreeing shown text
agreeing [] _ = 0
agreeing (_ ∷ _) [] = 0
