use Rattle.std.proofs.Common.{◌≡◌, ◌++◌, replicate}
use Rattle.bx_dd.proofs.convert.block.push_fill.Given as goal

abbrev pub invariant-loop-i : goal.invariant-loop-i
invariant-loop-i g l = l.bytes.items ≡ l.initial.bytes.items ++ replicate l._i l.fill
