-- How pieces that stand in order are walked.
use Rattle.std.specs.Prelude.{◌^◌, ◌<◌, ◌+◌, ◌-◌, ℕ, Bool, true, false, max, min, nat_le, nat_lt, if◌then◌else◌, Option, None, Some, [], ◌∷◌, length, All}
use Rattle.bx_patch.specs.Patch.{Pieces}

-- each of the pieces ends at a place that is small
abbrev pub AreSmall : Pieces → Type 0
AreSmall pieces = All (λ piece. piece.0 + length piece.1 < 2 ^ 63) pieces

-- the pieces without those that reach on from a place, and the place where these end
abbrev pub run_from : Pieces → ℕ → Pieces × ℕ
run_from [] at = ([], at)
run_from (piece ∷ pieces) at = if nat_le piece.0 at then run_from pieces (max at (piece.0 + length piece.1)) else (piece ∷ pieces, at)

-- whether pieces reach each place below a limit that others reach
abbrev pub reach_each : ℕ → Pieces × ℕ → Pieces → Bool
reach_each below outer [] = true
reach_each below outer (piece ∷ pieces) =
    let run = run_from outer.0 (max outer.1 piece.0) in if nat_lt run.1 (min below (piece.0 + length piece.1)) then false else reach_each below run pieces

-- the limit below both lengths
abbrev pub below_both : Option (ℕ × ℕ) → ℕ
below_both None = 2 ^ 64 - 1
below_both (Some lengths) = min lengths.0 lengths.1
