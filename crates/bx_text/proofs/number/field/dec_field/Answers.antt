use Rattle.std.proofs.Common.{rules}
use Rattle.bx_text.proofs.number.field.dec_field.Goals as goal

pub returns-then-v-lt0 : goal.returns-then-v-lt0
returns-then-v-lt0 c = search rules
