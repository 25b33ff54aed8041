use Rattle.std.proofs.Common.{◌<◌, ◌≤◌, ℕ}
use Rattle.std.specs.List.{Contains}
use Rattle.bx_patch.specs.preview.Index.{key_of}
use Rattle.bx_patch.proofs.preview.index.push_windows.Given as goal

-- the piece is named in the windows so far
abbrev pub invariant-loop-window : goal.invariant-loop-window
invariant-loop-window g l = record {
  keeps : (k : ℕ) → Contains l.fn.keys.items k → Contains l.keys.items k;
  named : (window : ℕ) → l.first ≤ window → window < l.window → Contains l.keys.items (key_of window l.i);
}
