use Rattle.std.proofs.Common.{arith}
use Rattle.bx_read_stream.proofs.BlocksLemmas.{flush_fails, flush_holds}
use Rattle.bx_read_stream.proofs.blocks.Blocks.flush.Goals as goal

pub returns-in-Err-clause-err : goal.returns-in-Err-clause-err
returns-in-Err-clause-err g c w0 x h = flush_fails w0 _ _ _ _ x c.in-Err.fault h (rw c.as_slice.ensures.value at c.in-Err.ensures.err)

pub returns-clause-ok : goal.returns-clause-ok
returns-clause-ok g c w0 x h = flush_holds w0 _ _ _ _ c.args.self.now.pending.items _ x h (rw c.as_slice.ensures.value at c.in-Ok.ensures.ok) (omega (arith, c.len.ensures)) c.clear.ensures.items
