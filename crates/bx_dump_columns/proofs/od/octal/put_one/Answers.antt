use Rattle.std.proofs.Common.{◌∙◌}
use Rattle.bx_dump_columns.proofs.DigitParts.{one_octal}
use Rattle.bx_dump_columns.proofs.od.octal.put_one.Goals as goal

pub returns : goal.returns
returns c = c.copy_from_slice.ensures.after ∙ one_octal c.args.v c.requires.small
