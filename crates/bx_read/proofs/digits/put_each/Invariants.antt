use Rattle.std.proofs.Common.{◌≡◌, ◌*◌, take, Some}
use Rattle.bx_read.specs.Plain.{hex_bytes}
use Rattle.bx_read.proofs.digits.put_each.Given as goal

-- the bytes so far are those of the pairs so far
abbrev pub invariant-loop-i : goal.invariant-loop-i
invariant-loop-i l = hex_bytes (take (2 * l.i) l.text) ≡ Some (take l.i l.out)
