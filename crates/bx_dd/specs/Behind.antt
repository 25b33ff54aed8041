-- Copies of what stands behind bytes that were passed, as a seek passes them.
use Rattle.std.specs.Prelude.{◌≡◌, ℕ, ◌+◌, ◌*◌, List, ◌++◌, length}
use Rattle.bx_dd.specs.declared.operands.plan.Plan.{Plan}
use Rattle.bx_dd.specs.Counting.{counts_of}
use Rattle.bx_dd.specs.Plan.{plan_form}
use Rattle.bx_dd.specs.Transfer.{output_of, selected_by}

-- The rest of a plan behind n bytes of its input, which are whole blocks: it skips these blocks less, and converts, counts and seeks the same.
pub record IsPlanRest {A : Type 0} (n : ℕ) (whole rest : Plan A) : Type 0 where
  pub skip : n + rest.skip * rest.ibs ≡ whole.skip * whole.ibs
  pub form : plan_form rest ≡ plan_form whole
  pub count : rest.count ≡ whole.count
  pub seek : rest.seek ≡ whole.seek
  pub notrunc : rest.notrunc ≡ whole.notrunc

-- What the rest of a plan makes of the bytes behind some others, and counts, is what the whole plan makes of them all.
abbrev pub RestCopiesBehind : (A : Type 0) → Type 0
RestCopiesBehind A = (whole rest : Plan A) (front input : List ℕ) → IsPlanRest (length front) whole rest
    → (output_of rest input ≡ output_of whole (front ++ input))
    × (counts_of (plan_form rest) (selected_by rest input) ≡ counts_of (plan_form whole) (selected_by whole (front ++ input)))
