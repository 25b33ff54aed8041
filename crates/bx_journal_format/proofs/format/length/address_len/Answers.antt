use Rattle.std.proofs.Common.{ap, sym, ◌∙◌, arith, length}
use Rattle.bx_journal_format.proofs.FieldText.{field_digits}
use Rattle.bx_journal_format.proofs.HexLemmas.{length-hex_digits}
use Rattle.bx_journal_format.proofs.format.length.address_len.Goals as goal

pub returns-then-at-clause-long : goal.returns-then-at-clause-long
returns-then-at-clause-long c = sym (ap length (field_digits 8 c.args.at (omega arith) (omega arith) (omega arith)) ∙ length-hex_digits 8 c.args.at)
