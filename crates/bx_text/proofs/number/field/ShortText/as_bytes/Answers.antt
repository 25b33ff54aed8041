use Rattle.std.proofs.Common.{rules}
use Rattle.bx_text.proofs.number.field.ShortText.as_bytes.Goals as goal

pub returns-clause-value : goal.returns-clause-value
returns-clause-value g c = search rules
