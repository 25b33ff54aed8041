use Rattle.bx_world.proofs.Taken.{left_one}
use Rattle.bx_world.proofs.files.made.unmake.Goals as goal

pub returns-clause-left : goal.returns-clause-left
returns-clause-left g c old first within left = left_one _ _ first _ _ within left (c.take_made.ensures.taken old) (c.take_made.ensures.stays old)
