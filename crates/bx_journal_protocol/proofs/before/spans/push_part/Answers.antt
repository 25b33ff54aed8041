use Rattle.std.proofs.Common.{◌≡◌, ◌≤◌, ◌||◌, ◌∙◌, max, ap, subst, sym, arith}
use Rattle.std.proofs.lemmas.Result.{on_ok_weaker}
use Rattle.bx_image.specs.Over.{LieWithin}
use Rattle.bx_image.specs.private.Spans.{are_over, is_between}
use Rattle.bx_image.proofs.SpanLemmas.{are_over-with_span, LieWithin-with_span}
use Rattle.bx_journal_protocol.proofs.SpanParts.{part_between}
use Rattle.bx_journal_protocol.proofs.before.spans.push_part.Goals as goal

pub returns-clause-over : goal.returns-clause-over
returns-clause-over g c =
    let old = c.args.spans.now.items in
    let r = c.args.range in
    on_ok_weaker c.push.result (λ is i.
    ap (λ ss. are_over ss i) is ∙ are_over-with_span c.max.result c.min.result old i
    ∙ ap (λ m. are_over old i || is_between m c.min.result i) c.max.ensures ∙ ap (λ m. are_over old i || is_between (max r.at c.args.base) m i) c.min.ensures
    ∙ ap (λ b. are_over old i || b) (part_between r.at r.end c.args.base c.args.end i)) c.push.ensures

pub returns-clause-within : goal.returns-clause-within
returns-clause-within g c within =
    let least : c.min.result ≤ c.args.end = omega (arith, c.min.ensures) in
    on_ok_weaker c.push.result (λ is. subst (LieWithin c.args.end) (sym is) (LieWithin-with_span c.args.end c.max.result c.min.result c.args.spans.now.items within least)) c.push.ensures
