use Rattle.std.proofs.Common.{◌∙◌, ap}
use Rattle.std.proofs.lemmas.List.{take_all}
use Rattle.bx_dump_columns.specs.Lines.{in_lines}
use Rattle.bx_dump_columns.specs.Values.{width_of, value_text}
use Rattle.bx_dump_columns.proofs.od.values.put_any.Goals as goal

pub returns-in-Some-clause-text : goal.returns-in-Some-clause-text
returns-in-Some-clause-text c =
    let kind = c.args.kind in
    let same = c.in-Some.ensures.cases.same ∙ take_all 16 c.args.bytes.now c.requires.few in
    c.put_full.ensures.text ∙ ap (in_lines (value_text kind) (width_of kind) 0) same
