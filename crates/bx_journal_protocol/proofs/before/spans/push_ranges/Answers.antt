use Rattle.std.proofs.Common.{◌≡◌, ◌||◌, ◌&&◌, ◌∙◌, get_or, take, ap, sym, arith}
use Rattle.std.proofs.lemmas.List.{take_all}
use Rattle.bx_image.specs.private.Spans.{are_over, is_between}
use Rattle.bx_image.specs.declared.record.spans.Span.{Span}
use Rattle.bx_image.proofs.SpanLemmas.{are_over-more, are_over-none}
use Rattle.bx_journal_protocol.proofs.SpanParts.{part_more, part_none}
use Rattle.bx_journal_protocol.proofs.before.spans.push_ranges.Goals as goal

pub loop-range-init : goal.loop-range-init
loop-range-init g c = record {
  over = λ i. part_none (are_over c.args.spans.now.items i) (is_between c.args.base c.args.end i) ∙ ap (λ b. are_over c.args.spans.now.items i || (is_between c.args.base c.args.end i && b)) (sym (are_over-none i));
  within = λ within. within;
}

pub loop-range-preserved : goal.loop-range-preserved
loop-range-preserved g c =
    let inv = c.loop-range.invariant in
    let k = c.loop-range.range-index in
    let none : Span = record { at = 0; end = 0 } in
    let old = c.args.spans.now.items in
    let rs = c.args.ranges.now in
    record {
      over = λ i.
          let w = is_between c.args.base c.args.end i in
          let one = is_between (get_or rs k none).at (get_or rs k none).end i in
          c.in_ok-push_part.ensures.over i ∙ ap (λ b. b || (w && one)) (inv.over i) ∙ part_more (are_over old i) w (are_over (take k rs) i) one
          ∙ ap (λ b. are_over old i || (w && b)) (sym (are_over-more rs k none i c.loop-range-test.true));
      within = λ within. c.in_ok-push_part.ensures.within (inv.within within);
    }

pub returns-clause-over : goal.returns-clause-over
returns-clause-over g c i =
    let rs = c.args.ranges.now in
    c.loop-range.invariant.over i ∙ ap (λ ss. are_over c.args.spans.now.items i || (is_between c.args.base c.args.end i && are_over ss i)) (take_all c.loop-range.range-index rs (omega arith))
