use Rattle.std.proofs.Common.{◌≡◌, ◌++◌, length, replicate, arith, ◌∙◌}
use Rattle.std.proofs.lemmas.Simd.{put_chunk_whole}
use lib.Lanes.{pick_l}
use Rattle.bx_text.proofs.LaneLemmas.{front_places, back_places, columns_are}
use Rattle.bx_text.proofs.line.lanes.put_columns.Goals as goal

pub returns : goal.returns
returns c =
    let digits = c.pairs_of-digits.result in
    let first = c.split_at_mut-first.result.0.now in
    let last = c.split_at_mut-first.result.1.now in
    let last_len : length last ≡ 8 = omega (arith, c.split_at_mut-first.ensures.back_len, c.requires) in
    let front = put_chunk_whole first (pick_l 0 (digits ++ replicate 32 32) front_places) c.split_at_mut-first.ensures.front_len in
    let back = put_chunk_whole last (pick_l 0 (digits ++ replicate 32 32) back_places) last_len in
    (λ i. front i ++ back i) ∙ columns_are c.args.bytes digits c.fits-bytes.0 c.pairs_of-digits.ensures
