use Rattle.std.proofs.Common.{◌++◌, ap, ◌∙◌}
use Rattle.std.proofs.lemmas.Simd.{put_chunk_whole}
use lib.Lanes.{pick_l}
use Rattle.bx_dump.proofs.RowsLemmas.{signs, front_items, middle_items, back_items, item_cells, items_are}
use Rattle.bx_dump.proofs.xxd.rows.put_digits.Goals as goal

pub returns : goal.returns
returns c bytes long are =
    let cells = c.args.digits.now in
    let first = c.split_at_mut-first.result.0.now in
    let second = c.split_at_mut-second.result.0.now in
    let third = c.split_at_mut-third.result.0.now in
    let front = put_chunk_whole first (pick_l 0 (cells ++ signs) front_items) c.split_at_mut-first.ensures.front_len in
    let middle = put_chunk_whole second (pick_l 0 (cells ++ signs) middle_items) c.split_at_mut-second.ensures.front_len in
    let back = put_chunk_whole third (pick_l 0 (cells ++ signs) back_items) c.split_at_mut-third.ensures.front_len in
    (λ i. front i ++ (middle i ++ (back i ++ c.copy_from_slice.ensures.after i))) ∙ ap item_cells are ∙ items_are bytes long
