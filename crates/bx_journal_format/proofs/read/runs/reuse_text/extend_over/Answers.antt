use Rattle.std.proofs.Common.{◌+◌, ◌*◌, ◌-◌, length, drop, subst, arith, length-drop}
use Rattle.std.proofs.lemmas.List.{take_all}
use Rattle.bx_journal_format.specs.read.Followed.{IsFullSaved}
use Rattle.bx_journal_format.proofs.OverLemmas.{none_extended, one_extended}
use Rattle.bx_journal_format.proofs.read.runs.reuse_text.extend_over.Goals as goal

pub loop-more-init : goal.loop-more-init
loop-more-init c = none_extended c.args.len c.args.at c.args.size c.args.from c.args.text.now c.requires.within

pub loop-more-preserved : goal.loop-more-preserved
loop-more-preserved c =
    let text = c.loop-more.text in
    let from = c.args.from + 68 * c.loop-more.count in
    let size = c.args.size + 16 * c.loop-more.count in
    let full : IsFullSaved c.args.len (c.args.at + size) (drop from text) c.in-Some.more =
    subst (λ rest. IsFullSaved c.args.len (c.args.at + size) rest c.in-Some.more) (take_all (length text - from) (drop from text) (omega (arith, length-drop from text))) c.in-Some.ensures in
    one_extended c.args.len c.args.at c.args.size c.args.from c.args.text.now text c.put_over.new.text c.in-Some.more c.loop-more.count c.requires.order c.loop-more.invariant (omega arith)
    full (record { within = omega (arith, c.loop-more.invariant.same, c.loop-more.invariant.within, c.requires.order, full.long, length-drop from text); is = c.put_over.ensures })
