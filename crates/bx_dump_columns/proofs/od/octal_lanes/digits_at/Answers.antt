use Rattle.bx_dump_columns.proofs.OdOctal.{digits_are}
use Rattle.bx_dump_columns.proofs.od.octal_lanes.digits_at.Goals as goal

pub returns : goal.returns
returns c = digits_are c.args.at c.args.bytes c.fits-bytes.0
