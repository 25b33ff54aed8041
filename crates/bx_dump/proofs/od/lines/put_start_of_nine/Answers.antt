use Rattle.std.proofs.Common.{◌∙◌, arith}
use Rattle.std.proofs.lemmas.List.{take_at}
use Rattle.bx_dump_columns.proofs.DigitParts.{address_filled}
use Rattle.bx_dump.proofs.od.lines.put_start_of_nine.Goals as goal

pub returns-clause-text : goal.returns-clause-text
returns-clause-text c =
    take_at c.put_nine.new.field c.split_at_mut-field.result.1.now 9 (c.put_nine.auto.field ∙ c.split_at_mut-field.ensures.front_len)
    ∙ c.put_nine.ensures ∙ address_filled 9 c.args.at (omega arith) (omega arith) c.requires.fits (λ more. c.requires.all)
