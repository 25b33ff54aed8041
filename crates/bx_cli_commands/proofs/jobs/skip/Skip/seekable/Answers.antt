use Rattle.std.proofs.Common.{arith}
use Rattle.std.proofs.Math.Nat.{mul-le-mul_right, mul-mod_left}
use Rattle.bx_cli_commands.proofs.jobs.skip.Skip.seekable.Goals as goal

pub returns-in-Some-clause-allowed : goal.returns-in-Some-clause-allowed
returns-in-Some-clause-allowed c =
    rw c.in-Blocks.is (mul-le-mul_right c.in-Blocks.size (omega (arith, c.min-in-Some.ensures)), mul-mod_left c.min-in-Some.result c.in-Blocks.size)
