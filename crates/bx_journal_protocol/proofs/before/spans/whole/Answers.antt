use Rattle.std.proofs.Common.{◌≡◌, ◌||◌, ◌∙◌, ap}
use Rattle.bx_image.specs.private.Spans.{are_over, is_between}
use Rattle.bx_image.proofs.SpanLemmas.{are_over-none, are_over-with_span}
use Rattle.bx_journal_protocol.proofs.before.spans.whole.Goals as goal

pub returns : goal.returns
returns g c i =
    ap (λ ss. are_over ss i) c.in_ok-push.ensures ∙ are_over-with_span c.args.at c.args.end c.new-spans.result.items i
    ∙ ap (λ ss. are_over ss i || is_between c.args.at c.args.end i) c.new-spans.ensures.items ∙ ap (λ b. b || is_between c.args.at c.args.end i) (are_over-none i)
