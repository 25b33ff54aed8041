use Rattle.std.proofs.Common.{◌++◌, take, sym, arith, ap, ◌∙◌}
use Rattle.std.proofs.lemmas.Simd.{put_chunk_whole}
use Rattle.std.proofs.lemmas.List.{take-append-le}
use Rattle.bx_dump_columns.proofs.OdOctal.{octal_values}
use Rattle.bx_dump_columns.proofs.od.octal_lanes.put_octal_twos.Goals as goal

pub returns-clause-text : goal.returns-clause-text
returns-clause-text c =
    let front = c.split_at_mut-front.result.0.now in
    let rest = c.split_at_mut-front.result.1.now in
    let cells = c.cells_of.result in
    let size = c.cells_of.ensures.size in
    let put = put_chunk_whole front cells (c.split_at_mut-front.ensures.front_len ∙ sym size) in
    ap (λ t. take 56 (t ++ rest)) put ∙ take-append-le 56 cells rest (omega (arith, size)) ∙ c.cells_of.ensures.text
    ∙ octal_values 8 c.args.bytes.now c.told-bytes c.fits-bytes
