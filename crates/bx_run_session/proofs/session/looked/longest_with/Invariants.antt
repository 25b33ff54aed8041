use Rattle.std.proofs.Common.{◌≤◌}
use Rattle.bx_run_session.proofs.session.looked.longest_with.Given as goal

-- the length is never below the image's
abbrev pub invariant-loop-piece : goal.invariant-loop-piece
invariant-loop-piece l = l.len ≤ l.longest
