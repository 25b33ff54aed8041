use Rattle.std.proofs.Common.{◌≡◌, ◌+◌, ◌^◌, ◌<◌, ◌≤◌, length, take, drop}
use Rattle.std.specs.Fmt.{digits, digits_onto}
use Rattle.bx_text.proofs.number.field.put_digits.Given as goal

-- the digits so far stand at the end, and those of the rest come before them
abbrev pub invariant-loop-rest : goal.invariant-loop-rest
invariant-loop-rest l = record {
  within : l.at ≤ 22;
  all : length l.bytes ≡ 22;
  room : l.rest < 8 ^ l.at;
  some : 0 < l.at;
  base : 8 ≤ l.base;
  digit : l.base ≤ 16;
  text : digits_onto (42 + l.at) l.base l.upper l.rest (drop l.at l.bytes) ≡ digits l.base l.upper l.v;
  front : take l.at l.bytes ≡ take l.at l.fn.bytes;
}

abbrev pub decreases-loop-rest : goal.decreases-loop-rest
decreases-loop-rest l = l.at
