use Rattle.std.proofs.Common.{◌≡◌, ◌*◌, take}
use Rattle.std.specs.List.{flat_map}
use Rattle.bx_dump.specs.private.Rows.{next_item}
use Rattle.bx_dump.proofs.xxd.rows.put_items.Given as goal

-- the items of the bytes so far
abbrev pub invariant-loop-i : goal.invariant-loop-i
invariant-loop-i l = take (6 * l.i) l.cells ≡ flat_map next_item (take l.i l.bytes)
