use Rattle.std.proofs.Common.{◌≡◌, List, ℕ, ◌++◌, drop}
use Rattle.bx_journal_format.specs.read.Left.{is_torn}
use Rattle.bx_journal_format.proofs.read.shown.follow_zero.Given as goal

-- what is left is said by the last line so far
abbrev pub invariant-loop-byte : goal.invariant-loop-byte
invariant-loop-byte l = (rest : List ℕ) → is_torn l.fn.line (l.bytes ++ rest) ≡ is_torn l.now (drop l.byte-index l.bytes ++ rest)
