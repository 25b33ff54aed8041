use Rattle.bx_dump_columns.proofs.OdOctal.{last_are}
use Rattle.bx_dump_columns.proofs.od.octal_lanes.last_bits.Goals as goal

pub returns : goal.returns
returns c = last_are c.args.bytes c.fits-bytes.0
