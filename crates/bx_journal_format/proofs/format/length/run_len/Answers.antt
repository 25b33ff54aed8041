use Rattle.std.proofs.Common.{◌+◌, ◌<◌, ◌^◌, length, ap, arith}
use Rattle.bx_journal_format.specs.Kept.{Run, run_of}
use Rattle.bx_journal_format.proofs.NearRows.{near_run_long}
use Rattle.bx_journal_format.proofs.format.length.run_len.Goals as goal

pub returns-then-len-saturating_sub : goal.returns-then-len-saturating_sub
returns-then-len-saturating_sub g c =
    let run : Run = run_of c.args.run.now in
    let long = ap length c.as_slice.ensures in
    let near : run.at + length run.bytes < 2 ^ 32 = omega (arith, long) in
    omega (arith, long, near_run_long run near)
