use Rattle.bx_dump_columns.proofs.OdTwos.{words_are}
use Rattle.bx_dump_columns.proofs.od.decimal_twos.words_of.Goals as goal

pub returns : goal.returns
returns c = words_are 8 c.args.bytes c.fits-bytes.0 c.fits-bytes.1
