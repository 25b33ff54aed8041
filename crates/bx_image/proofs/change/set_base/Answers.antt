use Rattle.bx_image.proofs.Changes.{OnErr-known}
use Rattle.bx_image.proofs.change.set_base.Goals as goal

pub returns-in_err-set_length-clause-failed : goal.returns-in_err-set_length-clause-failed
returns-in_err-set_length-clause-failed g c faithful = rw c.in-Some.is (OnErr-known _ (c.in_err-set_length.ensures.failed faithful))
