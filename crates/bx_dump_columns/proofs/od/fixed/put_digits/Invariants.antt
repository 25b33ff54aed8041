use Rattle.std.proofs.Common.{◌≡◌, ◌+◌, ◌-◌, ◌^◌, ◌<◌, ◌≤◌, length, take, drop, false}
use Rattle.std.specs.Fmt.{digits, digits_onto}
use Rattle.bx_dump_columns.proofs.od.fixed.put_digits.Given as goal

-- the digits so far stand at the end, and those of the rest come before them
abbrev pub invariant-loop-rest : goal.invariant-loop-rest
invariant-loop-rest l = record {
  within : l.at ≤ length l.field;
  all : length l.field ≡ length l.fn.field;
  room : l.rest < l.base ^ l.at;
  some : 0 < l.at;
  text : digits_onto (64 - length l.fn.field + l.at) l.base false l.rest (drop l.at l.field) ≡ digits l.base false l.v;
  front : take l.at l.field ≡ take l.at l.fn.field;
}

abbrev pub decreases-loop-rest : goal.decreases-loop-rest
decreases-loop-rest l = l.at
