-- Copies of what stands behind bytes that were passed.
use Rattle.std.proofs.Common.{◌≡◌, ℕ, ◌+◌, ◌*◌, List, ◌++◌, length, take, drop, Option, refl, sym, ap, ◌∙◌}
use Rattle.std.specs.Option.{option_map_or}
use Rattle.std.proofs.lemmas.List.{drop-drop, drop_at}
use Rattle.bx_dd.specs.declared.form.Form.{Form}
use Rattle.bx_dd.specs.declared.operands.plan.Plan.{Plan}
use Rattle.bx_dd.specs.Behind.{IsPlanRest, RestCopiesBehind}
use Rattle.bx_dd.specs.Counting.{counts_of}
use Rattle.bx_dd.specs.Output.{converted}
use Rattle.bx_dd.specs.Plan.{plan_form}
use Rattle.bx_dd.specs.Transfer.{selected_by}

-- the first `count` blocks of some bytes, or all
capped : ℕ → Option ℕ → List ℕ → List ℕ
capped ibs count bytes = option_map_or (λ n. take (n * ibs) bytes) count bytes

same_capped : (a b : ℕ) (l m : Option ℕ) (xs ys : List ℕ) → a ≡ b → l ≡ m → xs ≡ ys → capped a l xs ≡ capped b m ys
same_capped a b l m xs ys p q r = cc

-- what stands behind the front of an input
past : (front input : List ℕ) (at whole : ℕ) → length front + at ≡ whole → drop at input ≡ drop whole (front ++ input)
past front input at whole is =
    ap (drop at) (sym (drop_at front input (length front) refl)) ∙ drop-drop at (length front) (front ++ input) ∙ ap (λ n. drop n (front ++ input)) is

same_selected : {A : Type 0} (whole rest : Plan A) (front input : List ℕ) → IsPlanRest (length front) whole rest → selected_by rest input ≡ selected_by whole (front ++ input)
unfolding capped
same_selected whole rest front input is =
    same_capped rest.ibs whole.ibs rest.count whole.count _ _ (ap (λ (f : Form). f.ibs) is.form) is.count
    (past front input (rest.skip * rest.ibs) (whole.skip * whole.ibs) is.skip)

pub rest_copies_behind : (A : Type 0) → RestCopiesBehind A
rest_copies_behind A whole rest front input is =
    let same = same_selected whole rest front input is in (
      ap (λ (f : Form). converted f (selected_by rest input)) is.form ∙ ap (converted (plan_form whole)) same,
      ap (λ (f : Form). counts_of f (selected_by rest input)) is.form ∙ ap (counts_of (plan_form whole)) same,
    )
