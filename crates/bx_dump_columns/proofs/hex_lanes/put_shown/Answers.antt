use Rattle.std.proofs.Common.{◌≡◌, length, take, map, replicate, arith, sym, ap, ◌∙◌, w8}
use Rattle.std.proofs.lemmas.List.{length-take-le, length-map, take_all}
use Rattle.std.proofs.lemmas.Simd.{put_chunk_whole, chunk-fits}
use lib.Lanes.{sel_l, top}
use Rattle.bx_text.specs.Dump.{shown_byte}
use Rattle.bx_dump_columns.proofs.HexLemmas.{shown_mask, shown_are}
use Rattle.bx_dump_columns.proofs.hex_lanes.put_shown.Goals as goal

pub returns : goal.returns
returns c =
    let bytes = c.args.bytes.now in
    let v = take 16 bytes in
    let long : length v ≡ 16 = length-take-le 16 bytes (omega (arith, c.requires.bytes)) in
    let is : sel_l (map (top 7) (shown_mask v)) v (replicate 16 46) ≡ map shown_byte v = shown_are v long (chunk-fits w8 0 16 bytes c.type_inv.bytes) in
    let size : length (sel_l (map (top 7) (shown_mask v)) v (replicate 16 46)) ≡ 16 = ap length is ∙ length-map v shown_byte ∙ long in
    put_chunk_whole c.args.field.now (sel_l (map (top 7) (shown_mask v)) v (replicate 16 46)) (c.requires.field ∙ sym size)
    ∙ is ∙ ap (map shown_byte) (take_all 16 bytes (omega (arith, c.requires.bytes)))
