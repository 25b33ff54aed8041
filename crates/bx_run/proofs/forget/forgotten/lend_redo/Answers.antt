use Rattle.std.proofs.Common.{refl}
use Rattle.bx_run.proofs.forget.forgotten.lend_redo.Goals as goal

pub lend_redo_beside-requires : goal.lend_redo_beside-requires
lend_redo_beside-requires g c = record {
  apart = λ old f is. c.requires.apart old f is (g.W.World.number c.in-Some.redo) (rw c.in-Some.is refl);
  locked = λ old. rw c.in-Some.is at (c.requires.locked old);
}
