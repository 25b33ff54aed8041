use Rattle.std.proofs.Common.{◌/◌, length, arith}
use Rattle.bx_patch.proofs.IndexLemmas.{found_for}
use Rattle.bx_patch.proofs.preview.image.window.put_found.Goals as goal

pub put_named-requires : goal.put_named-requires
put_named-requires g c = record {
  least = c.found_in.ensures.least;
  rise = c.found_in.ensures.rise;
  found = found_for c.args.keys.now _ c.args.pieces.now (c.args.at / 32768) c.args.at (length c.args.buf.now) c.requires.index (omega arith)
      (omega (arith, c.requires.within)) c.found_in.ensures.all;
}
