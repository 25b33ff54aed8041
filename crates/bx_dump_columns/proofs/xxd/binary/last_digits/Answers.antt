use Rattle.bx_dump_columns.proofs.BinaryLemmas.{last_are}
use Rattle.bx_dump_columns.proofs.xxd.binary.last_digits.Goals as goal

pub returns : goal.returns
returns c = last_are c.args.bytes c.fits-bytes.0 c.fits-bytes.1
