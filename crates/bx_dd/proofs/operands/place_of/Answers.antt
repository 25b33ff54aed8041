use Rattle.std.proofs.Common.{sym, ◌∙◌}
use Rattle.bx_dd.specs.private.Operands.{is_named}
use Rattle.bx_dd.proofs.OperandsLemmas.{position_here, position_later}
use Rattle.bx_dd.proofs.operands.place_of.Goals as goal

pub returns-then-is_named : goal.returns-then-is_named
returns-then-is_named g c =
    sym (position_here (is_named c.args.name.now) c.args.words.now c.args.count c.loop-i.i c.requires c.loop-i-test.true c.word_at.result.now c.word_at.ensures (sym c.is_named.ensures ∙ c.if-is_named.true) c.loop-i.invariant)

pub loop-i-preserved : goal.loop-i-preserved
loop-i-preserved g c =
    position_later (is_named c.args.name.now) c.args.words.now c.args.count c.loop-i.i c.requires c.loop-i-test.true c.word_at.result.now c.word_at.ensures (sym c.is_named.ensures ∙ c.if-is_named.false) c.loop-i.invariant
