use Rattle.std.proofs.Common.{◌∙◌, ap, arith}
use Rattle.std.proofs.lemmas.List.{take_all}
use Rattle.bx_dump_columns.specs.Lines.{in_lines}
use Rattle.bx_dump_columns.specs.Values.{width_of, value_text}
use Rattle.bx_dump.proofs.od.lines.put_line_values.Goals as goal

pub returns-clause-text : goal.returns-clause-text
returns-clause-text c =
    let kind = c.args.kind in
    let same = c.in-Some.ensures.cases.same ∙ take_all 16 c.args.bytes.now (omega (arith, c.if-bytes-eq16.true)) in
    rw c.in-Little.is (c.put_full.ensures.text ∙ ap (in_lines (value_text kind) (width_of kind) 0) same)
