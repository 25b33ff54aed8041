use Rattle.std.proofs.Common.{◌≡◌, map, take}
use Rattle.bx_text.specs.Dump.{shown_byte}
use Rattle.bx_text.proofs.line.full.put_few_shown.Given as goal

-- the bytes so far are shown
abbrev pub invariant-loop-i : goal.invariant-loop-i
invariant-loop-i l = take l.i l.field ≡ map shown_byte (take l.i l.bytes)
