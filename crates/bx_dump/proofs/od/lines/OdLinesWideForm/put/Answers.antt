use Rattle.std.proofs.Common.{◌≡◌, ◌+◌, ◌-◌, ◌*◌, ◌/◌, ◌≤◌, length, drop, arith, ◌∙◌}
use Rattle.std.proofs.lemmas.List.{length-drop, length-take-le}
use Rattle.std.proofs.Math.Nat.{mul-le-mul_left}
use Rattle.bx_text.proofs.FieldLemmas.{div_mono}
use Rattle.bx_dump_columns.specs.Values.{field_width, width_of}
use Rattle.bx_dump_columns.proofs.OdLemmas.{line_parts, some_width}
use Rattle.bx_dump.proofs.od.lines.OdLinesWideForm.put.Goals as goal

pub put_line_values-used-requires-clause-room : goal.put_line_values-used-requires-clause-room
put_line_values-used-requires-clause-room c =
    let l = c.args.self.now in
    let W = width_of l.kind in
    let F = field_width l.kind + 1 in
    let n = length c.args.bytes.now in
    let page = c.put_start-start.new.page in
    let start = c.put_start-start.result in
    let few : (n + W - 1) / W ≤ (l.width + W - 1) / W = div_mono (n + W - 1) (l.width + W - 1) W (some_width l.kind) (omega (arith, c.requires.fits)) in
    let fits : F * ((n + W - 1) / W) ≤ F * ((l.width + W - 1) / W) = mul-le-mul_left {m = (n + W - 1) / W} {n = (l.width + W - 1) / W} F few in
    omega (arith, fits, length-drop start page, length-take-le (length page - start) (drop start page) (omega (arith, length-drop start page)), c.put_start-start.auto.page, c.put_start-start.ensures.most, c.requires.room)

pub returns-clause-text : goal.returns-clause-text
returns-clause-text c =
    let l = c.args.self.now in
    let W = width_of l.kind in
    let F = field_width l.kind + 1 in
    let n = length c.args.bytes.now in
    let few : (n + W - 1) / W ≤ (l.width + W - 1) / W = div_mono (n + W - 1) (l.width + W - 1) W (some_width l.kind) (omega (arith, c.requires.fits)) in
    let fits : F * ((n + W - 1) / W) ≤ F * ((l.width + W - 1) / W) = mul-le-mul_left {m = (n + W - 1) / W} {n = (l.width + W - 1) / W} F few in
    let page = c.put_start-start.new.page in
    let rest = c.put_line_values-used.new.text in
    let start = c.put_start-start.result in
    let used = c.put_line_values-used.result in
    let long : length page ≡ length c.args.page.now = c.put_start-start.auto.page in
    let first = c.put_start-start.ensures in
    let next = c.put_line_values-used.ensures in
    let room : length rest ≡ length page - start = c.put_line_values-used.auto.text ∙ length-take-le (length page - start) (drop start page) (omega (arith, length-drop start page)) in
    line_parts page rest start used (length page - start) _ _ (omega (arith, first.most, long, c.requires.room)) (omega (arith, first.most, long, c.requires.room, next.most, fits, room)) (omega (arith, first.most, long, c.requires.room)) first.text next.text
