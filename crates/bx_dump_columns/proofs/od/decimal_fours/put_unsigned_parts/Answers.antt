use Rattle.std.proofs.Common.{◌≡◌, ◌++◌, length, arith}
use Rattle.std.proofs.lemmas.Simd.{put_chunk_whole}
use Rattle.bx_dump_columns.proofs.od.decimal_fours.put_unsigned_parts.Goals as goal

pub returns : goal.returns
returns c =
    let field = c.split_at_mut-lead.result.1.now in
    let size : length field ≡ length c.args.last = omega (arith, c.split_at_mut-lead.ensures.back_len, c.split_at_mut-space.ensures.back_len, c.requires.room, c.fits-last.0) in
    λ i. c.copy_from_slice.ensures.after i ++ (c.put_lead.ensures i ++ put_chunk_whole field c.args.last size i)
