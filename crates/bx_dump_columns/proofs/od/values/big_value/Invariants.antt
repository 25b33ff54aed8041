use Rattle.std.proofs.Common.{◌≡◌, ◌-◌, ◌^◌, ◌<◌, ◌++◌, length, replicate, reverse, take}
use Rattle.bx_dump_columns.specs.Values.{value_of}
use Rattle.bx_dump_columns.proofs.od.values.big_value.Given as goal

-- the value of the bytes in front
abbrev pub invariant-loop-place : goal.invariant-loop-place
invariant-loop-place l = record {
  value : l.value ≡ value_of (reverse (take l.place (l.bytes ++ replicate (l.width - length l.bytes) 0)));
  below : l.value < 256 ^ l.place;
}
