use Rattle.std.proofs.Common.{◌≡◌, take}
use Rattle.std.specs.Str.Parse.{digits_value}
use Rattle.bx_text.specs.private.Capped.{capped}
use Rattle.bx_dd.proofs.operands.number.number_of.Given as goal

-- the number that the digits so far write
abbrev pub invariant-loop-byte : goal.invariant-loop-byte
invariant-loop-byte l = l.value ≡ capped (digits_value 10 (take l.byte-index l.digits))
