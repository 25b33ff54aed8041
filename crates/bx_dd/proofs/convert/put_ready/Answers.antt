use Rattle.std.proofs.Common.{◌++◌, [], List, ℕ, Some, arith, subst}
use Rattle.bx_dd.specs.Standing.{Stands}
use Rattle.bx_dd.proofs.StreamLemmas.{Goes-direct, Goes-landed}
use Rattle.bx_dd.proofs.convert.put_ready.Goals as goal

pub returns-in-Ok-flush-clause-next : goal.returns-in-Ok-flush-clause-next
returns-in-Ok-flush-clause-next g c z stands =
    let out = c.args.out.now.items in
    let form = c.args.form in
    let start = Goes-direct out c.direct-page.result.bytes.items c.direct-page.result.written c.direct-page.ensures.bytes (omega (arith, c.direct-page.ensures.written)) in
    let flows = c.in-Ok.ensures.ok z (Some []) (record { text = out; stands = stands; goes = start }) in
    let landed = Goes-landed c.flush.new.w.items c.flush.new.self.bytes.items flows.text c.flush.new.self.written c.in-Ok-flush.ensures.none (c.in-Ok-flush.ensures.ok (Some []) flows.text flows.goes) in
    subst (λ (l : List ℕ). Stands form.shape form.cbs (z ++ c.args.ready.now) l c.push_shaped.new.held.items c.in-Ok.next.over c.in-Ok.next.cut) landed flows.stands
