use Rattle.bx_read_stream.proofs.BlocksLemmas.{refused}
use Rattle.bx_read_stream.proofs.blocks.Blocks.push.Goals as goal

pub returns-then-is_err-clause-err : goal.returns-then-is_err-clause-err
returns-then-is_err-clause-err g c w0 x h = refused w0 _ _ _ x c.args.bytes.now h
