use Rattle.std.proofs.Common.{◌∙◌, Result, Ok, Err}
use Rattle.std.specs.Prelude.{IfOk}
use Rattle.std.proofs.lemmas.List.Sorted.{All-permutation}
use Rattle.bx_image.specs.Over.{IsWithin}
use Rattle.bx_image.proofs.SpanLemmas.{are_over-permutation}
use Rattle.bx_image.proofs.record.spans.touched.Goals as goal

IfOk_then : {T E : Type 0} (P Q : T → Type 0) (r : Result T E) → ((v : T) → P v → Q v) → IfOk r P → IfOk r Q
IfOk_then P Q (Ok v) then is = then v is
IfOk_then P Q (Err e) then is = tt

pub merged-requires-clause-within : goal.merged-requires-clause-within
merged-requires-clause-within g c = rw c.as_slice.ensures.value (All-permutation (IsWithin c.args.len) _ _ c.sort.ensures.permutation c.in_ok-spans.ensures.within)

pub returns-clause-over : goal.returns-clause-over
returns-clause-over g c = IfOk_then _ _ c.merged.result (λ v is i. is i ∙ rw c.as_slice.ensures.value (are_over-permutation _ _ i c.sort.ensures.permutation) ∙ c.in_ok-spans.ensures.over i) c.merged.ensures.over
