use Rattle.std.proofs.lemmas.Bool.{eqb-true}
use Rattle.bx_read.proofs.LaneLemmas.{are_small}
use Rattle.bx_journal_format.proofs.format.hex.are_digits.Goals as goal

pub returns : goal.returns
returns c is = are_small c.args.values c.fits-values.0 (eqb-true _ _ is)
