use Rattle.std.proofs.Common.{◌≡◌, ◌-◌, ◌≤◌, length, map, take}
use Rattle.std.specs.Io.KnownBytes.{Appends}
use Rattle.bx_dump_columns.specs.Names.{name_byte}
use Rattle.bx_dump_columns.proofs.xxd.names.emit_mapped.Given as goal

-- what stands for the bytes so far
abbrev pub invariant-loop-done : goal.invariant-loop-done
invariant-loop-done g l = record {
  within : l.done ≤ length l.name;
  room : length l.text ≡ 256;
  so_far : Appends (g.W.Write.contents l.initial.w) (g.W.Write.contents l.w) (map name_byte (take l.done l.name));
}

abbrev pub decreases-loop-done : goal.decreases-loop-done
decreases-loop-done g l = length l.name - l.done
