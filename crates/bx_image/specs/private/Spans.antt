-- Ranges of addresses.
use Rattle.std.specs.Prelude.{◌⊎◌, ◌<◌, ℕ, Bool, true, ◌&&◌, ◌||◌, slice_index, nat_le, nat_lt, ◌+◌, ◌≡◌, List, [], ◌∷◌, ◌++◌, length, if◌then◌else◌}
use Rattle.std.specs.List.{list_any}
use Rattle.bx_text.specs.declared.owned.pieces.Piece.{Piece}
use Rattle.bx_image.specs.declared.record.spans.Span.{Span}

-- whether an address lies from `at` up to before `end`
abbrev pub is_between : ℕ → ℕ → ℕ → Bool
is_between at end i = nat_le at i && nat_lt i end

-- whether one of the ranges has the address
unfoldable pub are_over : List Span → ℕ → Bool
are_over spans i = list_any (λ s. is_between s.at s.end i) spans

-- the ranges and one more, if it has an address
unfoldable pub with_span : ℕ → ℕ → List Span → List Span
with_span at end spans = if nat_lt at end then spans ++ record { at = at; end = end } ∷ [] else spans

-- the first range begins above an address
abbrev pub BeginAfter : ℕ → List Span → Type 0
BeginAfter end [] = Unit {0}
BeginAfter end (s ∷ spans) = end < s.at

-- between each two ranges an address is left out
abbrev pub AreApart : List Span → Type 0
AreApart [] = Unit {0}
AreApart (s ∷ spans) = BeginAfter s.end spans × AreApart spans

-- each run has the addresses of its range
abbrev pub StandOver : {A : Type 0} → List Span → List (Piece A) → Type 0
StandOver [] [] = Unit {0}
StandOver [] (run ∷ runs) = ⊥
StandOver (s ∷ spans) [] = ⊥
StandOver (s ∷ spans) (run ∷ runs) = (run.at ≡ s.at) × (run.at + length run.bytes ≡ s.end) × StandOver spans runs

-- from one address up to another each address is had too, or has a zero in x
abbrev pub HasAllButZero : List ℕ → ℕ → ℕ → ℕ → Bool → Bool → Type 0
HasAllButZero x from to i old new = (new ≡ (old || is_between from to i)) ⊎ ((is_between from to i ≡ true) × (new ≡ old) × (slice_index x i ≡ 0))

-- so the ranges have more than others
abbrev pub AddAllButZeros : List ℕ → ℕ → ℕ → List Span → List Span → Type 0
AddAllButZeros x from to old new = (i : ℕ) → HasAllButZero x from to i (are_over old i) (are_over new i)
