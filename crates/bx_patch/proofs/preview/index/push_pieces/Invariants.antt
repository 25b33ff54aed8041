use Rattle.bx_patch.specs.private.preview.Window.{AreAllNamed}
use Rattle.bx_patch.proofs.preview.index.push_pieces.Given as goal

-- the pieces so far are named
abbrev pub invariant-loop-i : goal.invariant-loop-i
invariant-loop-i g l = record { named : AreAllNamed l.keys.items l.pieces l.i }
