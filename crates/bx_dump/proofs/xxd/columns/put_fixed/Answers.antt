use Rattle.std.proofs.Common.{◌≡◌, ◌*◌, ◌/◌, ◌≤◌, length, arith, sym, ap, ◌∙◌}
use Rattle.std.proofs.Math.Nat.{mul-div-mul_left}
use Rattle.bx_dump.specs.private.Xxd.{cell_of, cell_width, columns_place}
use Rattle.bx_dump_columns.proofs.LinesLemmas.{cells_len}
use Rattle.bx_dump.proofs.ColumnsLemmas.{line_whole, place_fits, digits_even, digits_some}
use Rattle.bx_dump.proofs.xxd.columns.put_fixed.Goals as goal

pub put_body-requires-clause-whole : goal.put_body-requires-clause-whole
put_body-requires-clause-whole c =
    let p = c.args.form.now in
    let w = cell_width p.digits in
    let size : length c.args.cells.now ≡ w * p.cols = ap length c.requires.cells ∙ cells_len (cell_of p.digits) w (digits_even p.digits) c.args.bytes.now ∙ ap (λ n. w * n) c.requires.full in
    let all : length c.args.cells.now / c.args.sizes.piece ≡ p.cols / p.group =
    ap (λ m. m / c.args.sizes.piece) size ∙ ap (λ m. w * p.cols / m) c.requires.piece ∙ mul-div-mul_left {m = w} p.cols p.group (digits_some p.digits) in
    c.requires.count ∙ p.groups ∙ sym all

pub put_body-requires-clause-room : goal.put_body-requires-clause-room
put_body-requires-clause-room c =
    let p = c.args.form.now in
    let w = cell_width p.digits in
    let size : length c.args.cells.now ≡ w * p.cols = ap length c.requires.cells ∙ cells_len (cell_of p.digits) w (digits_even p.digits) c.args.bytes.now ∙ ap (λ n. w * n) c.requires.full in
    let same : p.cols ≤ p.cols = omega arith in
    omega (arith, place_fits p p.cols same, c.requires.field, c.requires.count, p.groups)

pub returns : goal.returns
returns c =
    let p = c.args.form.now in
    let few : length c.args.bytes.now ≤ p.cols = omega (arith, c.requires.full) in
    let fits : columns_place (cell_width p.digits) p.group (length c.args.bytes.now) ≤ c.args.sizes.field = omega (arith, place_fits p (length c.args.bytes.now) few, c.requires.field) in
    line_whole p.digits p.cols p.group c.args.at c.args.bytes.now c.args.cells.now _ _ c.args.sizes.field c.args.sizes.piece p.some_group fits (c.requires.field ∙ p.wide) c.put_address.ensures c.requires.piece c.requires.cells c.put_body.ensures
