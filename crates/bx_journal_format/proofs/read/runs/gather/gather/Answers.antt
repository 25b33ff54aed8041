use Rattle.std.proofs.Common.{◌+◌, ◌*◌, ◌-◌, length, drop, subst, arith, length-drop}
use Rattle.std.proofs.lemmas.List.{take_all}
use Rattle.bx_journal_format.specs.read.Followed.{IsFullSaved}
use Rattle.bx_journal_format.proofs.GatherLemmas.{none_gathered, one_gathered}
use Rattle.bx_journal_format.proofs.read.runs.gather.gather.Goals as goal

pub loop-more-init : goal.loop-more-init
loop-more-init c = none_gathered c.args.len c.args.at c.args.size c.args.from c.args.window.now c.requires.within

pub loop-more-preserved : goal.loop-more-preserved
loop-more-preserved c =
    let window = c.loop-more.window in
    let from = c.args.from + 68 * c.loop-more.count in
    let size = c.args.size + 16 * c.loop-more.count in
    let full : IsFullSaved c.args.len (c.args.at + size) (drop from window) c.in-Some.more =
    subst (λ rest. IsFullSaved c.args.len (c.args.at + size) rest c.in-Some.more) (take_all (length window - from) (drop from window) (omega (arith, length-drop from window))) c.in-Some.ensures in
    one_gathered c.args.len c.args.at c.args.size c.args.from c.args.window.now window c.put_over.new.text c.in-Some.more c.loop-more.count c.loop-more.invariant (omega arith)
    full (record { within = omega (arith, c.loop-more.invariant.same, c.loop-more.invariant.within, full.long, length-drop from window); is = c.put_over.ensures })
