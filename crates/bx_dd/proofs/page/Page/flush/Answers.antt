use Rattle.std.proofs.Common.{◌≡◌, ◌+◌, length, ap, ◌∙◌}
use Rattle.bx_dd.proofs.StreamLemmas.{Goes-sent, front_goes}
use Rattle.bx_dd.proofs.page.Page.flush.Goals as goal

pub returns-in-Ok-clause-ok : goal.returns-in-Ok-clause-ok
returns-in-Ok-clause-ok g c start text goes =
    let waits = c.args.self.now.bytes.items in
    let more : c.in-Ok.written ≡ c.args.self.now.written + length waits = c.in-Ok.ensures.sum.0 ∙ ap (λ l. c.args.self.now.written + length l) c.as_slice.ensures.value in
    let sent = rw c.as_slice.ensures.value at c.in-Ok.ensures.ok in
    Goes-sent start _ _ waits text c.clear.new.self.items c.args.self.now.written c.in-Ok.written c.clear.ensures.items more sent goes

pub returns-in-Err-clause-err : goal.returns-in-Err-clause-err
returns-in-Err-clause-err g c start text goes =
    front_goes start _ _ c.args.self.now.bytes.items text c.args.self.now.written c.in-Err.fault goes (rw c.as_slice.ensures.value at c.in-Err.ensures.err)
