use Rattle.std.proofs.Common.{◌≡◌, ℕ, List, length, drop}
use Rattle.bx_image.specs.Change.{placed}
use Rattle.bx_patch.specs.private.preview.Window.{IsWindow}
use Rattle.bx_patch.proofs.preview.image.window.put_pieces.Given as goal

-- what is left of the pieces leads to the window of all
abbrev pub invariant-loop-piece : goal.invariant-loop-piece
invariant-loop-piece g l = record {
  long : length l.buf ≡ length l.fn.buf;
  put : (y : List ℕ) → IsWindow l.fn.buf l.at y → (z : List ℕ) × IsWindow l.buf l.at z × (placed (drop l.piece-index l.pieces) z ≡ placed l.pieces y);
}
