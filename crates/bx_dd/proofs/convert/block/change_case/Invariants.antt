use Rattle.std.proofs.Common.{◌≡◌, ◌++◌, take, drop, map}
use Rattle.std.specs.Char.{to_ascii_uppercase, to_ascii_lowercase}
use Rattle.bx_dd.proofs.convert.block.change_case.Given as goal

abbrev pub invariant-loop-byte : goal.invariant-loop-byte
invariant-loop-byte l = l.bytes ≡ map to_ascii_uppercase (take l.byte-index l.initial.bytes) ++ drop l.byte-index l.initial.bytes

abbrev pub invariant-loop-byte-2 : goal.invariant-loop-byte-2
invariant-loop-byte-2 l = l.bytes ≡ map to_ascii_lowercase (take l.byte-index l.initial.bytes) ++ drop l.byte-index l.initial.bytes
