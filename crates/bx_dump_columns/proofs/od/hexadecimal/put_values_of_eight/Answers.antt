use Rattle.std.proofs.Common.{◌++◌, take, replicate, arith, ap, ◌∙◌}
use Rattle.std.proofs.lemmas.Simd.{put_chunk_whole}
use Rattle.std.proofs.lemmas.List.{take-append-le}
use lib.Lanes.{pick_l}
use Rattle.bx_dump_columns.proofs.OdHex.{places_of_eight, values_of_eight}
use Rattle.bx_dump_columns.proofs.od.hexadecimal.put_values_of_eight.Goals as goal

pub returns-clause-text : goal.returns-clause-text
returns-clause-text c bytes long are =
    let cells = c.args.cells.now in
    let front = c.split_at_mut-front.result.0.now in
    let all = pick_l 0 (cells ++ replicate 32 32) places_of_eight in
    let put = put_chunk_whole front all c.split_at_mut-front.ensures.front_len in
    let rest = c.split_at_mut-front.result.1.now in
    ap (λ t. take 34 (t ++ rest)) put ∙ take-append-le 34 all rest (omega arith)
    ∙ ap (λ t. take 34 (pick_l 0 (t ++ replicate 32 32) places_of_eight)) are ∙ values_of_eight bytes long
