-- Stacks with images on top.
use Rattle.std.specs.Prelude.{◌≡◌, ℕ, List, ◌++◌, length}

-- it holds of the stack with j images on top of it, whichever they are
abbrev pub OnTop : ℕ → List (List ℕ) → (List (List ℕ) → Type 0) → Type 0
OnTop j stack holds = (above : List (List ℕ)) × (length above ≡ j) × holds (above ++ stack)
