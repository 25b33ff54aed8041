use Rattle.std.proofs.Common.{◌∙◌, arith}
use Rattle.bx_journal_format.proofs.FieldText.{field_digits}
use Rattle.bx_journal_format.proofs.format.words.eight_digits.Goals as goal

pub returns : goal.returns
returns c = c.put_address.ensures ∙ field_digits 8 c.args.n (omega arith) (omega arith) (omega arith)
