use Rattle.std.proofs.Common.{◌≡◌, ◌+◌, ◌*◌, ◌++◌, map, length, arith, sym, ap, ◌∙◌}
use Rattle.std.specs.Prelude.{codes}
use Rattle.std.proofs.lemmas.List.{take_at}
use Rattle.std.proofs.Math.Nat.{mul-div-mul_left}
use Rattle.bx_text.specs.Dump.{shown_byte}
use Rattle.bx_dump.specs.private.Xxd.{cell_of, cell_width}
use Rattle.bx_dump_columns.proofs.LinesLemmas.{cells_len}
use Rattle.bx_dump.proofs.ColumnsLemmas.{columns_are, place_fits, digits_even, digits_some}
use Rattle.bx_dump.proofs.xxd.columns.Columns.put_behind.Goals as goal

pub put_body-requires-clause-whole : goal.put_body-requires-clause-whole
put_body-requires-clause-whole c =
    let p = c.args.self.now in
    let w = cell_width p.digits in
    let n = length c.args.bytes.now in
    let size : length c.args.cells.now ≡ w * n = ap length c.requires.cells ∙ cells_len (cell_of p.digits) w (digits_even p.digits) c.args.bytes.now in
    rw (size, c.width.ensures) (c.groups_in-count.ensures ∙ sym (mul-div-mul_left {m = w} n p.group (digits_some p.digits)))

pub put_body-requires-clause-room : goal.put_body-requires-clause-room
put_body-requires-clause-room c =
    let p = c.args.self.now in
    let w = cell_width p.digits in
    let n = length c.args.bytes.now in
    let size : length c.args.cells.now ≡ w * n = ap length c.requires.cells ∙ cells_len (cell_of p.digits) w (digits_even p.digits) c.args.bytes.now in
    omega (arith, place_fits p n c.requires.fits, c.groups_in-count.ensures)

pub returns-clause-text : goal.returns-clause-text
returns-clause-text c =
    let p = c.args.self.now in
    let bytes = c.args.bytes.now in
    let size = p.field + length bytes + 4 in
    let piece : c.width.result * p.group ≡ cell_width p.digits * p.group = ap (λ w. w * p.group) c.width.ensures in
    let columns = columns_are p.digits p.cols p.group bytes c.args.cells.now p.field (c.width.result * p.group) p.some_group (place_fits p (length bytes) c.requires.fits) p.wide piece c.requires.cells in
    take_at c.put_body.new.body c.split_at_mut-body.result.1.now size (c.put_body.auto.body ∙ c.split_at_mut-body.ensures.front_len)
    ∙ c.put_body.ensures ∙ ap (λ t. codes ": " ++ t ++ codes " " ++ map shown_byte bytes ++ codes "\n") columns
