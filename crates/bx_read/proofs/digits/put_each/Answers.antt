use Rattle.std.proofs.Common.{arith, sym, ◌∙◌}
use Rattle.bx_read.proofs.PlainLemmas.{pair_put}
use Rattle.bx_read.proofs.digits.put_each.Goals as goal

pub loop-i-preserved : goal.loop-i-preserved
loop-i-preserved c =
    pair_put c.args.text.now c.loop-i.out c.loop-i.i c.pair.result c.loop-i.invariant (omega arith) (omega arith)
    (sym c.is_pair.ensures ∙ c.if-not-is_pair.false) c.pair.ensures
