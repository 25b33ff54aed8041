use Rattle.std.proofs.lemmas.Bool.{eqb-true}
use Rattle.bx_journal_format.proofs.FormLanes.{all_zero}
use Rattle.bx_journal_format.proofs.format.lanes.are_zero.Goals as goal

pub returns : goal.returns
returns c is = all_zero c.args.lanes c.fits-lanes.0 (eqb-true _ _ is)
