use Rattle.std.proofs.Common.{◌≡◌, ◌++◌, length, replicate, ap, sym, ◌∙◌}
use Rattle.std.proofs.lemmas.Simd.{put_chunk_whole}
use lib.Lanes.{pick_l}
use Rattle.bx_dump_columns.specs.Hexdump.{canon_columns}
use Rattle.bx_dump_columns.proofs.HexLemmas.{canon_front, canon_middle, canon_cells, canon_are}
use Rattle.bx_dump_columns.proofs.hex_lanes.put_canon_cells.Goals as goal

pub returns : goal.returns
returns c bytes long are =
    let cells = c.args.cells.now in
    let first = c.split_at_mut-first.result.0.now in
    let second = c.split_at_mut-second.result.0.now in
    let first_len : length first ≡ 32 = c.split_at_mut-first.ensures.front_len in
    let second_len : length second ≡ 16 = c.split_at_mut-second.ensures.front_len in
    let front = put_chunk_whole first (pick_l 0 (cells ++ replicate 32 32) canon_front) first_len in
    let middle = put_chunk_whole second (pick_l 0 (cells ++ replicate 32 32) canon_middle) second_len in
    (λ i. front i ++ (middle i ++ c.copy_from_slice.ensures.after i)) ∙ ap canon_cells are ∙ canon_are bytes long ∙ ap (canon_columns bytes) (sym c.requires)
