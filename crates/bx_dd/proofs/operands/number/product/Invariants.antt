use Rattle.std.proofs.Common.{◌≡◌, ◌≤◌, ◌<◌, ◌*◌, ℕ, get_or, drop}
use Rattle.std.specs.Option.{option_map}
use Rattle.bx_text.specs.private.Capped.{capped, capped_value}
use Rattle.bx_dd.specs.Number.{product_value}
use Rattle.bx_text.specs.private.Number.{factors_of}
use Rattle.bx_dd.proofs.operands.number.product.Given as goal

-- the product so far, times that of the rest, is all
abbrev pub invariant-loop-i : goal.invariant-loop-i
invariant-loop-i l = record {
  before : l.start ≤ l.i;
  none : (k : ℕ) → l.start ≤ k → k < l.i → get_or l.text k 0 ≡ 120 → ⊥;
  all : capped_value (product_value (factors_of l.text)) ≡ option_map (λ rest. capped (l.value * rest)) (product_value (factors_of (drop l.start l.text)));
}
