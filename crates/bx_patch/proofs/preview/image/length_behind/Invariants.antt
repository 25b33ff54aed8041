use Rattle.std.proofs.Common.{◌≡◌, ◌↔◌, ℕ, List, length, drop}
use Rattle.bx_image.specs.declared.change.TheConstants.{MAX_LEN}
use Rattle.bx_patch.specs.preview.Changed.{FitInTurn, effects}
use Rattle.bx_patch.proofs.preview.image.length_behind.Given as goal

-- what is left of the changes leads from an image of the length so far to that of all
abbrev pub invariant-loop-change : goal.invariant-loop-change
invariant-loop-change g l = record {
  leads : (x : List ℕ) → length x ≡ l.fn.len → (z : List ℕ) × (length z ≡ l.len)
      × (effects (drop l.change-index l.changes) z ≡ effects l.changes x) × (FitInTurn l.changes x MAX_LEN ↔ FitInTurn (drop l.change-index l.changes) z MAX_LEN);
}
