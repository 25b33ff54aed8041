use Rattle.std.proofs.Common.{◌+◌, ◌∙◌, ap, arith, drop, length, length-drop, refl, sym}
use Rattle.std.proofs.lemmas.List.{drop-drop}
use Rattle.bx_journal_format.specs.Text.{split}
use Rattle.bx_journal_image.specs.Blocks.{mark_at}
use Rattle.bx_journal_image.proofs.BlockLemmas.{lines_taken, struck_none, struck_on, taken_on}
use Rattle.bx_journal_image.proofs.blocks.strikes.strike_lines.Goals as goal

pub loop-i-init : goal.loop-i-init
unfolding split
loop-i-init c = record { same = λ p block. refl; within = omega arith; left = refl; whole = refl }

pub loop-i-preserved : goal.loop-i-preserved
loop-i-preserved c =
    let found = c.in-Some.ensures.found in
    let inv = c.loop-i.invariant in
    record {
      same = λ p block. struck_on c.args.total p c.loop-i.marks c.strike_line.new.marks c.loop-i.rest.now c.split_at.result.1.now c.in-Some.i found.1 found.2 c.split_at.ensures.back c.strike_line.ensures block ∙ inv.same p block;
      within = omega (arith, found.0, inv.within, ap length c.split_at.ensures.back, length-drop (c.in-Some.i + 1) c.loop-i.rest.now);
      left = c.split_at.ensures.back ∙ ap (drop (c.in-Some.i + 1)) inv.left ∙ drop-drop (c.in-Some.i + 1) c.loop-i.taken c.args.text.now;
      whole = taken_on c.args.text.now c.loop-i.rest.now c.loop-i.taken c.in-Some.i inv.left inv.whole found.0 found.1 found.2;
    }

pub returns-clause-struck : goal.returns-clause-struck
returns-clause-struck c = λ p block. sym (struck_none c.args.total p c.loop-i.rest.now (mark_at c.loop-i.marks p) c.in_default.ensures.none) ∙ c.loop-i.invariant.same p block

pub returns-clause-lines : goal.returns-clause-lines
returns-clause-lines c = lines_taken c.args.text.now c.loop-i.rest.now c.loop-i.taken c.loop-i.invariant.left c.loop-i.invariant.whole c.in_default.ensures.none
