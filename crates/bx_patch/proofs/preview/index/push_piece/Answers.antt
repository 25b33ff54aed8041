use Rattle.std.proofs.Common.{ap, length, arith}
use Rattle.bx_patch.proofs.preview.index.push_piece.Goals as goal

pub returns-clause-named : goal.returns-clause-named
returns-clause-named g c made window meets =
    c.push_windows.ensures.named made window (omega (arith, meets.0)) (omega (arith, meets.1, ap length c.as_slice.ensures))
