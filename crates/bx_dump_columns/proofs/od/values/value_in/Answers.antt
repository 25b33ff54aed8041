use Rattle.std.proofs.Common.{◌^◌, ◌≤◌, length, arith}
use Rattle.std.proofs.Math.Nat.{pow-le-pow_right}
use Rattle.bx_dump_columns.proofs.od.values.value_in.Goals as goal

pub returns-in-Little-clause-below : goal.returns-in-Little-clause-below
returns-in-Little-clause-below c =
    let wide : 256 ^ length c.args.bytes.now ≤ 256 ^ c.args.width = pow-le-pow_right {n = 256} (omega arith) {i = length c.args.bytes.now} {j = c.args.width} c.requires.few in
    omega (arith, c.value_of.ensures.below)
