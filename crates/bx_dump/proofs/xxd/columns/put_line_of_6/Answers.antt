use Rattle.std.proofs.Common.{◌≡◌, ◌≤◌, ◌++◌, map, length, take, refl, ap, ◌∙◌, arith}
use Rattle.std.specs.Prelude.{codes}
use Rattle.std.specs.List.{flat_map}
use Rattle.std.proofs.lemmas.List.{length-take-le}
use Rattle.bx_text.specs.Dump.{shown_byte}
use Rattle.bx_dump_columns.specs.Cells.{bits_of}
use Rattle.bx_dump.specs.declared.xxd.columns.Digits.TheVariants.{Binary}
use Rattle.bx_dump.specs.private.Xxd.{columns_place}
use Rattle.bx_dump_columns.proofs.BinaryLemmas.{grouped_six}
use Rattle.bx_dump.proofs.ColumnsLemmas.{line_whole}
use Rattle.bx_dump.proofs.xxd.columns.put_line_of_6.Goals as goal

pub returns : goal.returns
returns c =
    let six = take 6 c.args.bytes.now in
    let long : length six ≡ 6 = length-take-le 6 c.args.bytes.now (omega (arith, c.requires.bytes)) in
    let fits : columns_place 8 1 (length six) ≤ 54 = rw long (omega arith) in
    let body = c.put_six.ensures ∙ ap (λ t. codes ": " ++ t ++ codes " " ++ map shown_byte six ++ codes "\n") (grouped_six six long) in
    line_whole Binary 6 1 c.args.at six (flat_map bits_of six) _ _ 54 8 (omega arith) fits refl c.put_address.ensures refl refl body
