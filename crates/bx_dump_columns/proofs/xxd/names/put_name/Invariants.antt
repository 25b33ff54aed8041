use Rattle.std.proofs.Common.{◌≡◌, map, take}
use Rattle.bx_dump_columns.specs.Names.{name_byte}
use Rattle.bx_dump_columns.proofs.xxd.names.put_name.Given as goal

-- what stands for the bytes so far
abbrev pub invariant-loop-i : goal.invariant-loop-i
invariant-loop-i l = take l.i l.text ≡ map name_byte (take l.i l.name)
