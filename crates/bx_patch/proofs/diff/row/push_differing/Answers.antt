use Rattle.std.proofs.Common.{◌++◌, ap, sym, ◌∙◌, append-nil}
use Rattle.std.specs.List.{flat_map}
use Rattle.bx_patch.specs.Text.{signed_line_text, span_lines}
use Rattle.bx_patch.proofs.PushLemmas.{row_begin, row_next, row_end, row_rest, gone_on, passes}
use Rattle.bx_patch.proofs.diff.row.push_differing.Goals as goal

pub loop-from-init : goal.loop-from-init
loop-from-init g c =
    let first = c.skip_same-from in
    record {
      most = first.ensures.most;
      other = first.ensures.other;
      text = ap (λ t. c.args.text.now.items ++ t) (sym (row_begin c.args.at c.args.old.now c.args.new.now first.result first.ensures.most first.ensures.same));
    }

pub loop-from-preserved : goal.loop-from-preserved
loop-from-preserved g c =
    let old = c.args.old.now in
    let new = c.args.new.now in
    let from = c.loop-from.from in
    let to = c.skip_other-to.result in
    let next = c.skip_same-from-in-loop-from in
    let more = passes old new from to c.loop-from-test.true (c.loop-from.invariant.other c.loop-from-test.true) c.skip_other-to.ensures.least c.skip_other-to.ensures.same in
    record {
      most = next.ensures.most;
      other = next.ensures.other;
      text = gone_on _ c.loop-from.text.items c.push_span.new.text.items
          (flat_map signed_line_text (span_lines c.args.at old new (record { at = from; end = to }))) (row_rest c.args.at old new from) (row_rest c.args.at old new next.result)
          c.loop-from.invariant.text
          (row_next c.args.at old new from to next.result c.loop-from-test.true more next.ensures.least next.ensures.most c.skip_other-to.ensures.other c.skip_other-to.ensures.same next.ensures.same)
          c.in_ok-push_span.ensures;
    }

pub returns : goal.returns
returns g c =
    let none = row_end c.args.at c.args.old.now c.args.new.now c.loop-from.from c.loop-from-test.false in
    sym (append-nil c.loop-from.text.items) ∙ ap (λ t. c.loop-from.text.items ++ t) (sym none) ∙ c.loop-from.invariant.text
