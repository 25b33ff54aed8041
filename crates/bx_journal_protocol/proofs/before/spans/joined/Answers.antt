use Rattle.std.proofs.Common.{◌≡◌, ◌∙◌, ap, subst, sym}
use Rattle.std.proofs.lemmas.List.Sorted.{All-permutation}
use Rattle.std.proofs.lemmas.Result.{IfOk-weaker}
use Rattle.bx_image.specs.Over.{IsWithin, LieWithin}
use Rattle.bx_image.specs.private.Spans.{are_over}
use Rattle.bx_image.proofs.SpanLemmas.{are_over-permutation}
use Rattle.bx_journal_protocol.proofs.before.spans.joined.Goals as goal

pub returns-clause-over : goal.returns-clause-over
returns-clause-over g c =
    IfOk-weaker c.merged.result _ _ (λ m over i. over i ∙ ap (λ ss. are_over ss i) c.as_slice.ensures.value ∙ are_over-permutation c.args.spans.items c.sort.new.spans.items i c.sort.ensures.permutation) c.merged.ensures.over

pub returns-clause-within : goal.returns-clause-within
returns-clause-within g c len all =
    c.merged.ensures.within len (subst (LieWithin len) (sym c.as_slice.ensures.value) (All-permutation (IsWithin len) c.args.spans.items c.sort.new.spans.items c.sort.ensures.permutation all))
