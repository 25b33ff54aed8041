use Rattle.std.proofs.Common.{◌≡◌, ◌++◌, length, take, replicate, arith, ap, ◌∙◌}
use Rattle.std.specs.List.{flat_map, range_with_len}
use Rattle.std.proofs.lemmas.List.{length-take-le, take_all}
use Rattle.std.proofs.lemmas.Simd.{put_chunk_whole}
use lib.Lanes.{pick_l}
use Rattle.bx_dump_columns.specs.Cells.{piece_at}
use Rattle.bx_dump_columns.proofs.HexLemmas.{front_places, back_places, fours_are}
use Rattle.bx_dump_columns.proofs.hex_lanes.put_fours.Goals as goal

pub returns : goal.returns
returns c =
    let cells = take 32 c.args.cells.now in
    let long : length cells ≡ 32 = length-take-le 32 c.args.cells.now (omega (arith, c.requires.cells)) in
    let first = c.split_at_mut-first.result.0.now in
    let last = c.split_at_mut-first.result.1.now in
    let first_len : length first ≡ 32 = c.split_at_mut-first.ensures.front_len in
    let last_len : length last ≡ 8 = omega (arith, c.split_at_mut-first.ensures.back_len, c.requires.field) in
    let front = put_chunk_whole first (pick_l 0 (cells ++ replicate 32 32) front_places) first_len in
    let back = put_chunk_whole last (pick_l 0 (cells ++ replicate 32 32) back_places) last_len in
    (λ i. front i ++ back i) ∙ fours_are cells long ∙ ap (λ t. flat_map (piece_at 4 t) (range_with_len 0 8)) (take_all 32 c.args.cells.now (omega (arith, c.requires.cells)))
