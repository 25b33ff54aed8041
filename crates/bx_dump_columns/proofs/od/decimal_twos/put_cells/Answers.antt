use Rattle.std.proofs.Common.{◌++◌, take, sym, arith, ap, ◌∙◌}
use Rattle.std.specs.List.{flat_map}
use Rattle.std.proofs.lemmas.Simd.{put_chunk_whole}
use Rattle.std.proofs.lemmas.List.{take-append-le}
use Rattle.bx_dump_columns.specs.Decimal.{cells, cells_len}
use Rattle.bx_dump_columns.proofs.OdPlaces.{twos_values}
use Rattle.bx_dump_columns.proofs.OdTwos.{cells_fit}
use Rattle.bx_dump_columns.proofs.od.decimal_twos.put_cells.Goals as goal

pub returns : goal.returns
returns c =
    let front = c.split_at_mut-front.result.0.now in
    let rest = c.split_at_mut-front.result.1.now in
    let signed = c.args.signed in
    let text = c.cells_of.result in
    let size = c.cells_of.ensures.size in
    let put = put_chunk_whole front text (c.split_at_mut-front.ensures.front_len ∙ sym size) in
    ap (λ t. take (cells_len signed) (t ++ rest)) put ∙ take-append-le (cells_len signed) text rest (omega (arith, size, cells_fit signed)) ∙ c.cells_of.ensures.text
    ∙ ap (flat_map (cells signed)) c.words_of.ensures ∙ twos_values signed c.args.bytes.now c.told-bytes c.fits-bytes
