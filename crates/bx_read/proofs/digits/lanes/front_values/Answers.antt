use Rattle.std.proofs.Common.{arith}
use Rattle.bx_read.proofs.FrontLemmas.{all_small, some_large}
use Rattle.bx_read.proofs.digits.lanes.front_values.Goals as goal

pub returns-then-others-eq0 : goal.returns-then-others-eq0
returns-then-others-eq0 c = all_small c.args.values c.fits-values.0 (omega (arith, c.if-others-eq0.true))

pub returns-else-others-eq0 : goal.returns-else-others-eq0
returns-else-others-eq0 c = some_large c.args.values c.fits-values.0 (omega (arith, c.if-others-eq0.false))
