use Rattle.std.proofs.Common.{◌≡◌, ◌+◌, ◌-◌, ◌++◌, length, take, drop, ap, ◌∙◌, arith}
use Rattle.std.proofs.lemmas.List.{length-drop, length-take-le, take-append-le, take-take, take_all}
use Rattle.std.proofs.lemmas.Simd.{length-chunk, put_chunk_whole}
use lib.Lanes.{chunk}
use Rattle.bx_dump_columns.proofs.strings.places.put_last.Goals as goal

pub returns : goal.returns
returns c =
    let page = c.args.page.now in
    let len = c.args.len in
    let from = 8 - len in
    let behind = drop from c.args.field.now in
    let part = take (24 - from) behind in
    let left : length behind ≡ 24 - from = length-drop from c.args.field.now ∙ ap (λ n. n - from) c.told-field in
    let all = take_all (24 - from) behind (omega (arith, left)) in
    let room : length (take 16 page) ≡ 16 = length-take-le 16 page (omega (arith, c.requires.room)) in
    let whole : length (chunk 0 16 part) ≡ 16 = length-chunk 0 16 part (omega (arith, ap length all, left, c.requires.few)) in
    ap (λ p. take (len + 1) (p ++ drop 16 page)) (put_chunk_whole (take 16 page) (chunk 0 16 part) (omega (arith, room, whole)))
    ∙ take-append-le (len + 1) (chunk 0 16 part) (drop 16 page) (omega (arith, whole, c.requires.few))
    ∙ take-take (len + 1) 16 part (omega (arith, c.requires.few))
    ∙ ap (take (len + 1)) all
