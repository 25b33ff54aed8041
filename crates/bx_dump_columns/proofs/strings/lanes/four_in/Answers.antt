use Rattle.std.proofs.Common.{◌+◌, arith, length, ◌≤◌}
use Rattle.std.proofs.lemmas.Simd.{length-chunk}
use lib.Lanes.{chunk}
use Rattle.bx_dump_columns.proofs.LaneLemmas.{inside_lanes, four_most, four_none, four_found}
use Rattle.bx_dump_columns.proofs.strings.lanes.four_in.Goals as goal

pub returns : goal.returns
returns c =
    let bytes = c.args.bytes.now in
    let at = c.args.at in
    let room : at + 32 ≤ length bytes = omega (arith, c.requires) in
    let room-1 : at + 1 + 32 ≤ length bytes = omega (arith, c.requires) in
    let room-2 : at + 2 + 32 ≤ length bytes = omega (arith, c.requires) in
    let room-3 : at + 3 + 32 ≤ length bytes = omega (arith, c.requires) in
    let a = inside_lanes (chunk at 32 bytes) (length-chunk at 32 bytes room) in
    let b = inside_lanes (chunk (at + 1) 32 bytes) (length-chunk (at + 1) 32 bytes room-1) in
    let d = inside_lanes (chunk (at + 2) 32 bytes) (length-chunk (at + 2) 32 bytes room-2) in
    let e = inside_lanes (chunk (at + 3) 32 bytes) (length-chunk (at + 3) 32 bytes room-3) in
    record {
      most = four_most bytes at c.first_set.result _ _ _ _ c.requires c.type_inv.bytes a b d e c.first_set.ensures;
      none = four_none bytes at c.first_set.result _ _ _ _ c.requires c.type_inv.bytes a b d e c.first_set.ensures;
      found = four_found bytes at c.first_set.result _ _ _ _ c.requires c.type_inv.bytes a b d e c.first_set.ensures;
    }
