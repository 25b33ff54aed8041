use Rattle.bx_dd.proofs.StreamLemmas.{Goes-through, front_through, front_more}
use Rattle.bx_dd.proofs.page.Page.put.Goals as goal

pub returns-in-Err-clause-err : goal.returns-in-Err-clause-err
returns-in-Err-clause-err g c start text goes = front_more 0 start _ text c.args.bytes.now c.in-Err.fault (c.in-Err.ensures.err start text goes)

pub returns-in-Ok-send-clause-ok : goal.returns-in-Ok-send-clause-ok
returns-in-Ok-send-clause-ok g c start text goes =
    Goes-through start _ _ c.flush.new.self.bytes.items text c.args.bytes.now c.flush.new.self.written c.in-Ok-send.written c.in-Ok.ensures.none c.in-Ok-send.ensures.sum.0 c.in-Ok-send.ensures.ok (c.in-Ok.ensures.ok start text goes)

pub returns-in-Err-send-clause-err : goal.returns-in-Err-send-clause-err
returns-in-Err-send-clause-err g c start text goes =
    front_through start _ _ c.flush.new.self.bytes.items text c.args.bytes.now c.flush.new.self.written c.in-Err-send.fault c.in-Ok.ensures.none (c.in-Ok.ensures.ok start text goes) c.in-Err-send.ensures.err
