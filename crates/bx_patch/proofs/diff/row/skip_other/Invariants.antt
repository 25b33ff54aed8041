use Rattle.std.proofs.Common.{◌-◌, ◌≤◌}
use Rattle.bx_patch.specs.private.Row.{AreOther}
use Rattle.bx_patch.proofs.diff.row.skip_other.Given as goal

abbrev pub invariant-loop-at : goal.invariant-loop-at
invariant-loop-at l = record { least : l.from ≤ l.at; most : l.at ≤ 16; passed : AreOther l.old l.new l.from l.at }

abbrev pub decreases-loop-at : goal.decreases-loop-at
decreases-loop-at l = 16 - l.at
