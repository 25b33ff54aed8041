use Rattle.std.proofs.Common.{◌<◌, ◌≤◌, ℕ, drop}
use Rattle.bx_patch.specs.private.preview.Untouched.{AreUntouched}
use Rattle.bx_patch.proofs.preview.untouched.until_changes.Given as goal

-- what none of those left touches, none touches
abbrev pub invariant-loop-change : goal.invariant-loop-change
invariant-loop-change g l = record {
  most : l.until ≤ l.known.before;
  untouched : (j : ℕ) → l.at ≤ j → j < l.until → AreUntouched (drop l.change-index l.known.changes.now) j → AreUntouched l.known.changes.now j;
}
