use Rattle.std.proofs.Common.{ℕ, replicate, ◌++◌}
use Rattle.bx_read_stream.proofs.BlocksLemmas.{fails_longer}
use Rattle.bx_read_stream.proofs.blocks.Blocks.push_behind.Goals as goal

pub returns-in-Err-clause-err : goal.returns-in-Err-clause-err
returns-in-Err-clause-err g c w0 x h = fails_longer w0 _ (x ++ replicate {A = ℕ} c.args.gap 0) c.args.bytes.now c.in-Err.fault (c.in-Err.ensures.err w0 x h)
