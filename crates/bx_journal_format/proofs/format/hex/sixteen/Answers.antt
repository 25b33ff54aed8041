use Rattle.std.proofs.Common.{map, ap, ◌∙◌, arith}
use Rattle.std.proofs.lemmas.List.{take_all}
use Rattle.bx_journal_format.proofs.DigitLanes.{number_is, value}
use Rattle.bx_journal_format.proofs.format.hex.sixteen.Goals as goal

pub returns : goal.returns
returns c =
    number_is c.args.text.now c.values_of-values.result c.from_be_bytes.result c.requires
    (c.values_of-values.ensures ∙ ap (map value) (take_all 16 c.args.text.now (omega (arith, c.requires))))
    (c.are_digits.ensures c.if-not-are_digits.false) c.from_be_bytes.ensures
