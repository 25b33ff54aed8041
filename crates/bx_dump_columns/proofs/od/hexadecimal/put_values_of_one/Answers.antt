use Rattle.std.proofs.Common.{◌++◌, take, replicate, arith, ap, ◌∙◌}
use Rattle.std.proofs.lemmas.Simd.{put_chunk_whole}
use Rattle.std.proofs.lemmas.List.{take-append-le}
use lib.Lanes.{pick_l}
use Rattle.bx_dump_columns.proofs.OdHex.{places_of_one, values_of_one}
use Rattle.bx_dump_columns.proofs.od.hexadecimal.put_values_of_one.Goals as goal

pub returns-clause-text : goal.returns-clause-text
returns-clause-text c bytes long are =
    let cells = c.args.cells.now in
    let front = c.split_at_mut-front.result.0.now in
    let all = pick_l 0 (cells ++ replicate 32 32) places_of_one in
    let put = put_chunk_whole front all c.split_at_mut-front.ensures.front_len in
    let rest = c.split_at_mut-front.result.1.now in
    ap (λ t. take 48 (t ++ rest)) put ∙ take-append-le 48 all rest (omega arith)
    ∙ ap (λ t. take 48 (pick_l 0 (t ++ replicate 32 32) places_of_one)) are ∙ values_of_one bytes long
