use Rattle.std.proofs.Common.{◌≡◌, ◌-◌, ◌++◌, take, replicate}
use Rattle.bx_dd.proofs.convert.units.fill_up.Given as goal

-- the bytes from place `from` up to i are the fill
abbrev pub invariant-loop-i : goal.invariant-loop-i
invariant-loop-i l = take l.i l.buf ≡ take l.from l.initial.buf ++ replicate (l.i - l.from) l.fill
