use Rattle.std.proofs.Common.{◌+◌, ◌*◌, ◌/◌, ◌++◌, map, arith, ap, ◌∙◌}
use Rattle.std.specs.Prelude.{codes}
use Rattle.std.specs.List.{flat_map}
use Rattle.std.proofs.lemmas.List.{take_all}
use Rattle.bx_text.specs.Dump.{pair_of, shown_byte}
use Rattle.bx_dump_columns.specs.Cells.{grouped}
use Rattle.bx_dump_columns.specs.Words.{turned_groups}
use Rattle.bx_dump_columns.proofs.WordsLemmas.{words_are}
use Rattle.bx_dump_columns.proofs.xxd.words.put_sixteen_words.Goals as goal

pub returns : goal.returns
returns c =
    let bytes = c.args.bytes.now in
    let upper = c.args.upper in
    let group = c.args.group in
    let all = take_all 16 bytes (omega (arith, c.requires.bytes)) in
    let digits = c.put_sixteen.ensures ∙ ap (flat_map (pair_of upper)) (c.turn_groups.ensures ∙ ap (turned_groups group) all) in
    c.put_body.ensures
    ∙ ap (λ t. codes ": " ++ t ++ codes " " ++ map shown_byte bytes ++ codes "\n")
    (ap (λ t. grouped (2 * group) t ((2 * group + 1) * (16 / group))) digits ∙ words_are upper bytes group c.requires.bytes c.requires.usual)
