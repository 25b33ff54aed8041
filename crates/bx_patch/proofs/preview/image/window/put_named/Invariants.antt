use Rattle.std.proofs.Common.{◌≡◌, ◌+◌, ◌<◌, ◌≤◌, ℕ, List, length, drop}
use Rattle.std.specs.List.{AllWithin}
use Rattle.bx_image.specs.Change.{placed}
use Rattle.bx_patch.specs.private.preview.Window.{IsWindow}
use Rattle.bx_patch.proofs.preview.image.window.put_named.Given as goal

-- what is left of the pieces leads to the window of all, and the names so far are of those that aren't left
abbrev pub invariant-loop-i : goal.invariant-loop-i
invariant-loop-i g l = record {
  long : length l.buf ≡ length l.fn.buf;
  most : l.done ≤ length l.pieces;
  passed : AllWithin (λ k. k < l.first + length l.pieces → k < l.first + l.done) l.names 0 l.i;
  put : (y : List ℕ) → IsWindow l.fn.buf l.at y → (z : List ℕ) × IsWindow l.buf l.at z × (placed (drop l.done l.pieces) z ≡ placed l.pieces y);
}
