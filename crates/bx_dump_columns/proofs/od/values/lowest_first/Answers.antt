use Rattle.std.proofs.Common.{◌≡◌, sym, ap, ◌∙◌, arith}
use Rattle.std.proofs.lemmas.List.{take_all}
use Rattle.bx_dump_columns.specs.Values.{values_text, width_of}
use Rattle.bx_dump_columns.specs.Words.{turned_groups}
use Rattle.bx_dump_columns.proofs.OdPieces.{highest_first, ones_turned}
use Rattle.bx_dump_columns.proofs.od.values.lowest_first.Goals as goal

pub returns-in-Little : goal.returns-in-Little
returns-in-Little c =
    rw c.in-Little.is (ap (values_text c.args.kind) (take_all 16 c.args.bytes.now (omega (arith, c.requires))))

pub returns-in-Big : goal.returns-in-Big
returns-in-Big c =
    let kind = c.args.kind in
    let bytes = c.args.bytes.now in
    let one : 1 ≡ width_of kind = sym (sym c.width-width.ensures.value ∙ c.if-width-eq1.true) in
    let turned : bytes ≡ turned_groups (width_of kind) bytes = sym (ones_turned bytes c.requires) ∙ ap (λ n. turned_groups n bytes) one in
    rw c.in-Big.is (ap (values_text kind) (take_all 16 bytes (omega (arith, c.requires)) ∙ turned) ∙ highest_first kind bytes c.requires)

pub returns-in-Big-2 : goal.returns-in-Big-2
returns-in-Big-2 c =
    let kind = c.args.kind in
    let bytes = c.args.bytes.now in
    let turned = c.turn_groups.ensures ∙ ap (turned_groups c.width-width.result) (take_all 16 bytes (omega (arith, c.requires))) ∙ ap (λ n. turned_groups n bytes) c.width-width.ensures.value in
    rw c.in-Big.is (ap (values_text kind) turned ∙ highest_first kind bytes c.requires)
