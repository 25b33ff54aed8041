use Rattle.std.proofs.Common.{◌≡◌, ◌+◌, ◌-◌, ◌*◌, ◌≤◌, length, take, drop, arith, ap, ◌∙◌}
use Rattle.std.proofs.lemmas.List.{length-take-le, length-drop, take_rest}
use Rattle.std.proofs.Math.Nat.{mul-div-le}
use Rattle.bx_dump_columns.proofs.CellsLemmas.{grouped_parts}
use Rattle.bx_dump_columns.proofs.xxd.cells.put_grouped.Goals as goal

pub returns : goal.returns
returns c =
    let n = c.args.piece in
    let cells = c.args.cells.now in
    let whole : n * c.args.count ≤ length cells = omega (arith, mul-div-le (length cells) n, ap (λ m. n * m) c.requires.whole) in
    let last : c.copy_from_slice.new.self ≡ drop (n * c.args.count) cells = c.copy_from_slice.ensures.after ∙ take_rest cells (n * c.args.count) in
    let left : length (take (length cells - n * c.args.count) (drop (n * c.args.count) cells)) ≡ length cells - n * c.args.count = length-take-le (length cells - n * c.args.count) (drop (n * c.args.count) cells) (omega (arith, length-drop (n * c.args.count) cells)) in
    let gap : length c.blank.new.field ≡ length c.args.field.now - (length cells + c.args.count) =
    omega (arith, c.blank.auto.field, c.split_at_mut-last.ensures.back_len, c.split_at_mut-front.ensures.back_len, left) in
    grouped_parts cells _ _ _ n c.args.count (length c.args.field.now) c.requires.whole c.put_whole.ensures last gap (λ k inside. c.blank.ensures k inside)
