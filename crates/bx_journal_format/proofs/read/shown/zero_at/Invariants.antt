use Rattle.std.proofs.Common.{◌≡◌, ◌+◌, length, drop}
use Rattle.bx_journal_format.specs.Shown.{before_zero}
use Rattle.bx_journal_format.proofs.read.shown.zero_at.Given as goal

-- no zero stands so far
abbrev pub invariant-loop-i : goal.invariant-loop-i
invariant-loop-i l = length (before_zero l.text) ≡ l.i + length (before_zero (drop l.i l.text))
