use Rattle.bx_dump_columns.proofs.OdFours.{fours_are}
use Rattle.bx_dump_columns.proofs.od.decimal_fours.fours_of.Goals as goal

pub returns : goal.returns
returns c = fours_are 4 c.args.bytes c.fits-bytes.0 c.fits-bytes.1
