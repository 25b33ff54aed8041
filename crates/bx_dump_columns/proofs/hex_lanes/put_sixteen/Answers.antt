use Rattle.std.proofs.Common.{◌≡◌, ◌++◌, length, take, arith, ap, ◌∙◌}
use Rattle.std.specs.List.{flat_map}
use Rattle.std.proofs.lemmas.List.{length-take-le, take_all}
use Rattle.std.proofs.lemmas.Simd.{put_chunk_whole}
use lib.Lanes.{pick_l}
use Rattle.bx_text.specs.Dump.{pair_of}
use Rattle.bx_dump_columns.proofs.HexLemmas.{pair_places, pairs_are}
use Rattle.bx_dump_columns.proofs.hex_lanes.put_sixteen.Goals as goal

pub returns : goal.returns
returns c =
    let bytes = c.args.bytes.now in
    let long : length (take 16 bytes) ≡ 16 = length-take-le 16 bytes (omega (arith, c.requires.bytes)) in
    put_chunk_whole c.args.cells.now (pick_l 0 (c.high_digits.result ++ c.low_digits.result) pair_places) c.requires.cells
    ∙ (λ i. pick_l 0 (c.high_digits.ensures i ++ c.low_digits.ensures i) pair_places) ∙ pairs_are c.args.upper (take 16 bytes) long
    ∙ ap (flat_map (pair_of c.args.upper)) (take_all 16 bytes (omega (arith, c.requires.bytes)))
