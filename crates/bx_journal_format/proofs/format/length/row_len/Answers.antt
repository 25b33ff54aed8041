use Rattle.std.proofs.Common.{arith}
use Rattle.bx_journal_format.proofs.WriterLemmas.{row_long}
use Rattle.bx_journal_format.proofs.format.length.row_len.Goals as goal

pub returns : goal.returns
returns c bytes long = omega (arith, c.address_len.ensures.long, row_long c.args.at bytes, long)
