use Rattle.std.proofs.Common.{◌≡◌, ℕ, List, length, drop}
use Rattle.bx_patch.specs.preview.Changed.{effects}
use Rattle.bx_patch.specs.private.preview.Window.{IsWindow}
use Rattle.bx_patch.proofs.preview.image.window.put_changes.Given as goal

-- what is left of the changes leads to the window of all
abbrev pub invariant-loop-change : goal.invariant-loop-change
invariant-loop-change g l = record {
  long : length l.buf ≡ length l.fn.buf;
  put : (y : List ℕ) → IsWindow l.fn.buf l.at y → (z : List ℕ) × IsWindow l.buf l.at z × (effects (drop l.change-index l.known.changes.now) z ≡ effects l.known.changes.now y);
}
