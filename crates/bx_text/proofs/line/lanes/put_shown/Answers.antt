use Rattle.std.proofs.Common.{◌≡◌, length, map, sym, ap, ◌∙◌}
use Rattle.std.proofs.lemmas.List.{length-map}
use Rattle.std.proofs.lemmas.Simd.{put_chunk_whole}
use Rattle.bx_text.specs.Dump.{shown_byte}
use Rattle.bx_text.proofs.LaneLemmas.{shown_lanes, shown_are}
use Rattle.bx_text.proofs.line.lanes.put_shown.Goals as goal

pub returns : goal.returns
returns c =
    let v = c.args.bytes in
    let is : shown_lanes v 16 ≡ map shown_byte v = shown_are v c.fits-bytes.0 c.fits-bytes.1 in
    let size : length (shown_lanes v 16) ≡ 16 = ap length is ∙ length-map v shown_byte ∙ c.fits-bytes.0 in
    put_chunk_whole c.args.field.now (shown_lanes v 16) (c.requires ∙ sym size) ∙ is
