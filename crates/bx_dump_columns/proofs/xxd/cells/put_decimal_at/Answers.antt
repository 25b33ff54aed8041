use Rattle.std.proofs.Common.{◌∙◌}
use Rattle.std.proofs.lemmas.List.{take_at}
use Rattle.bx_dump_columns.proofs.xxd.cells.put_decimal_at.Goals as goal

pub returns-then-at-lt100000000-clause-text : goal.returns-then-at-lt100000000-clause-text
returns-then-at-lt100000000-clause-text c =
    take_at c.put_eight.new.field c.split_at_mut-front.result.1.now 8 (c.put_eight.auto.field ∙ c.split_at_mut-front.ensures.front_len) ∙ c.put_eight.ensures
