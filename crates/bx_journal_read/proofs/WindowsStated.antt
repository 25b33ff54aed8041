-- What lemmas on Windows say.
use Rattle.std.specs.Prelude.{ℕ, ◌-◌, Bool, IsTrue, ◌==◌, not, List}
use Rattle.std.specs.List.{list_all}

-- the byte is no zero
abbrev pub is_no_zero : ℕ → Bool
is_no_zero b = not (b == 0)

-- no byte of a text is one
abbrev pub HasNoZero : List ℕ → Type 0
HasNoZero text = IsTrue (list_all is_no_zero text)
