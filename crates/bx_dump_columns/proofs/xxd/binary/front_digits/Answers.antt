use Rattle.bx_dump_columns.proofs.BinaryLemmas.{front_are}
use Rattle.bx_dump_columns.proofs.xxd.binary.front_digits.Goals as goal

pub returns : goal.returns
returns c = front_are c.args.bytes c.fits-bytes.0 c.fits-bytes.1
