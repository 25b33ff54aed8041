use Rattle.std.proofs.Common.{◌≡◌, ◌+◌, ◌-◌, ◌++◌, length, take, drop, ap, ◌∙◌, arith}
use Rattle.std.proofs.lemmas.List.{length-drop, length-take-le, take-take}
use Rattle.std.proofs.lemmas.Simd.{length-chunk, put_chunk_whole}
use borrow.Rule.Slice.PartMut.{put_mid}
use lib.Lanes.{chunk}
use Rattle.bx_text.proofs.KnownLemmas.{take-put_mid_more}
use Rattle.bx_dump.proofs.strings.dump.put_sixteen.Goals as goal

pub returns : goal.returns
returns c =
    let page = c.args.page.now in
    let at = c.args.at in
    let len = c.args.len in
    let bytes = c.args.bytes.now in
    let k = at + 16 - at in
    let wide : length (take k (drop at page)) ≡ k = length-take-le k (drop at page) (omega (arith, c.requires.room, length-drop at page)) in
    let whole : length (chunk 0 16 bytes) ≡ 16 = length-chunk 0 16 bytes (omega (arith, c.requires.inside)) in
    ap (λ part. take (at + len) (put_mid at k page part)) (put_chunk_whole (take k (drop at page)) (chunk 0 16 bytes) (omega (arith, wide, whole)))
    ∙ take-put_mid_more page (chunk 0 16 bytes) at k len (omega (arith, c.requires.room)) (omega (arith, c.requires.few, whole))
    ∙ ap (λ t. take at page ++ t) (take-take len 16 bytes c.requires.few)
