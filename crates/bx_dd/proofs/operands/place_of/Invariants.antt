use Rattle.std.proofs.Common.{◌≡◌, ◌+◌, take, drop}
use Rattle.std.specs.List.{position_or_len}
use Rattle.bx_dd.specs.private.Operands.{is_named}
use Rattle.bx_dd.proofs.operands.place_of.Given as goal

-- no word so far has the name
abbrev pub invariant-loop-i : goal.invariant-loop-i
invariant-loop-i g l = position_or_len (is_named l.name) (take l.count l.words) ≡ l.i + position_or_len (is_named l.name) (drop l.i (take l.count l.words))
