use Rattle.bx_read.proofs.LaneLemmas.{pairs_are}
use Rattle.bx_read.proofs.full.lanes.pairs_in.Goals as goal

pub returns : goal.returns
returns c =
    pairs_are c.args.first c.args.second c.values_of-front.result c.values_of-back.result c.fits-first.0 c.fits-second.0 c.values_of-front.ensures c.values_of-back.ensures
    (c.are_digits.ensures c.if-not-are_digits.false) (c.are_digits-else-not-are_digits.ensures c.if-not-are_digits-2.false)
