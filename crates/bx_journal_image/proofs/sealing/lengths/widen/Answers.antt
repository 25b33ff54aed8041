use Rattle.std.proofs.Common.{◌+◌, ◌∙◌, ap, arith, drop, length, length-drop, refl, take}
use Rattle.std.proofs.lemmas.List.{drop-drop}
use Rattle.bx_journal_format.specs.Text.{split}
use Rattle.bx_journal_image.proofs.BlockLemmas.{line_taken, lines_taken, taken_on}
use Rattle.bx_journal_image.proofs.SpanLemmas.{widens_end, widens_on}
use Rattle.bx_journal_image.proofs.sealing.lengths.widen.Goals as goal

pub loop-i-init : goal.loop-i-init
unfolding split
loop-i-init c = record { all = λ new widens. widens; within = omega arith; left = refl; whole = refl }

pub loop-i-preserved : goal.loop-i-preserved
loop-i-preserved c =
    let found = c.in-Some.ensures.found in
    let inv = c.loop-i.invariant in
    let rest = c.loop-i.rest.now in
    let one = c.with_line.ensures (take c.in-Some.i rest) (c.split_at.ensures.front ∙ line_taken rest c.in-Some.i found.0 found.2) in
    record {
      all = λ new more. inv.all new (widens_on rest c.split_at.result.1.now c.in-Some.i c.loop-i.span c.with_line.result new found.1 found.2 c.split_at.ensures.back one more);
      within = omega (arith, found.0, inv.within, ap length c.split_at.ensures.back, length-drop (c.in-Some.i + 1) rest);
      left = c.split_at.ensures.back ∙ ap (drop (c.in-Some.i + 1)) inv.left ∙ drop-drop (c.in-Some.i + 1) c.loop-i.taken c.args.text.now;
      whole = taken_on c.args.text.now rest c.loop-i.taken c.in-Some.i inv.left inv.whole found.0 found.1 found.2;
    }

pub returns-clause-widened : goal.returns-clause-widened
returns-clause-widened c = c.loop-i.invariant.all c.loop-i.span (widens_end c.loop-i.rest.now c.loop-i.span c.in_default.ensures.none)

pub returns-clause-lines : goal.returns-clause-lines
returns-clause-lines c = lines_taken c.args.text.now c.loop-i.rest.now c.loop-i.taken c.loop-i.invariant.left c.loop-i.invariant.whole c.in_default.ensures.none
