use Rattle.std.proofs.Common.{◌≡◌, ◌+◌, ◌*◌, false, length, take, arith, sym, ap, ◌∙◌}
use Rattle.std.proofs.lemmas.List.{take_at}
use Rattle.std.proofs.Math.Nat.{mul-div-mul_left}
use Rattle.bx_text.specs.Field.{hex_text}
use Rattle.bx_dump.specs.private.Xxd.{cell_of, cell_width}
use Rattle.bx_dump_columns.proofs.LinesLemmas.{cells_len}
use Rattle.bx_dump.proofs.ColumnsLemmas.{line_parts, place_fits, digits_even, digits_some}
use Rattle.bx_dump.proofs.xxd.columns.ColumnsLineForm.put_line.Goals as goal

pub put_body-requires-clause-whole : goal.put_body-requires-clause-whole
put_body-requires-clause-whole c =
    let p = c.args.self.now in
    let w = cell_width p.digits in
    let n = length c.args.bytes.now in
    let size : length c.args.cells.now ≡ w * n = ap length c.requires.cells ∙ cells_len (cell_of p.digits) w (digits_even p.digits) c.args.bytes.now in
    rw (size, c.width.ensures) (c.groups_in-count.ensures ∙ sym (mul-div-mul_left {m = w} n p.group (digits_some p.digits)))

pub put_body-requires-clause-room : goal.put_body-requires-clause-room
put_body-requires-clause-room c =
    let p = c.args.self.now in
    let w = cell_width p.digits in
    let n = length c.args.bytes.now in
    let size : length c.args.cells.now ≡ w * n = ap length c.requires.cells ∙ cells_len (cell_of p.digits) w (digits_even p.digits) c.args.bytes.now in
    omega (arith, place_fits p n c.requires.fits, c.groups_in-count.ensures)

pub returns-clause-text : goal.returns-clause-text
returns-clause-text c =
    let p = c.args.self.now in
    let bytes = c.args.bytes.now in
    let size = p.field + length bytes + 4 in
    let address : c.split_at_mut-rest.result.0.now ≡ hex_text false 8 c.args.at =
    sym (take_at c.split_at_mut-rest.result.0.now c.split_at_mut-rest.result.1.now c.put_at-front.result c.split_at_mut-rest.ensures.front_len)
    ∙ ap (take c.put_at-front.result) (sym c.split_at_mut-rest.ensures.value) ∙ c.put_at-front.ensures.text in
    let piece : c.width.result * p.group ≡ cell_width p.digits * p.group = ap (λ w. w * p.group) c.width.ensures in
    line_parts p.digits p.cols p.group c.args.at c.put_at-front.result size bytes c.args.cells.now _ _ _ p.field (c.width.result * p.group) p.some_group (place_fits p (length bytes) c.requires.fits) p.wide
    c.split_at_mut-rest.ensures.front_len address (c.put_body.auto.body ∙ c.split_at_mut-body.ensures.front_len) piece c.requires.cells c.put_body.ensures
