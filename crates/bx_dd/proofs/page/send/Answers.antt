use Rattle.bx_dd.proofs.StreamLemmas.{written_before}
use Rattle.bx_dd.proofs.page.send.Goals as goal

pub returns-in-Err-clause-least : goal.returns-in-Err-clause-least
returns-in-Err-clause-least g c = written_before c.args.written _ _ c.args.bytes.now c.in-Err.fault c.in-Err.ensures.err
