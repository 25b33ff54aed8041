use Rattle.bx_dump_columns.proofs.BinaryLemmas.{middle_are}
use Rattle.bx_dump_columns.proofs.xxd.binary.middle_digits.Goals as goal

pub returns : goal.returns
returns c = middle_are c.args.bytes c.fits-bytes.0 c.fits-bytes.1
