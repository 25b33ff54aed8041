use Rattle.std.proofs.Common.{◌∙◌}
use Rattle.bx_dump_columns.proofs.DigitParts.{one_digit}
use Rattle.bx_dump_columns.proofs.od.decimal.put_one.Goals as goal

pub returns : goal.returns
returns c = c.copy_from_slice.ensures.after ∙ one_digit c.args.v c.requires.small
