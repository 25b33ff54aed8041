use Rattle.std.proofs.Common.{◌≡◌, [], take, drop}
use Rattle.bx_dd.specs.Operands.{first_fault}
use Rattle.bx_dd.proofs.operands.first_fault.Given as goal

-- no word so far is faulty
abbrev pub invariant-loop-i : goal.invariant-loop-i
invariant-loop-i g l = first_fault [] l.words ≡ first_fault (take l.i l.words) (drop l.i l.words)
