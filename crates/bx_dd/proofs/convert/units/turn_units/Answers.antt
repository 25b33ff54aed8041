use Rattle.std.proofs.Common.{sym, ◌∙◌}
use Rattle.bx_dd.proofs.UnitLemmas.{letters_turned}
use Rattle.bx_dd.proofs.convert.units.turn_units.Goals as goal

pub returns-else-by_blocks : goal.returns-else-by_blocks
returns-else-by_blocks c = c.turn_block.ensures ∙ letters_turned c.args.form c.args.bytes.now (sym c.by_blocks.ensures ∙ c.if-by_blocks.false) c.requires.sizes.some_ibs
