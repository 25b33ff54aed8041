use Rattle.std.proofs.Common.{◌++◌, [], ◌∷◌, refl, add-zero}
use Rattle.bx_dd.specs.declared.form.Shape.TheVariants.{Block}
use Rattle.bx_dd.specs.private.Output.{fitted}
use Rattle.bx_dd.proofs.RecordsLemmas.{Stands_newline}
use Rattle.bx_dd.proofs.FlowLemmas.{stops_flow}
use Rattle.bx_dd.proofs.convert.records.end_record.Goals as goal

pub returns-in-Err-clause-err : goal.returns-in-Err-clause-err
returns-in-Err-clause-err g c z start flows =
    let held = c.args.held.now.items in
    let stands = Stands_newline c.args.size z flows.text held c.args.tail.over c.args.tail.cut flows.stands [] refl in
    stops_flow Block c.args.size start _ (z ++ 10 ∷ []) (flows.text ++ fitted c.args.size held) [] _ _ c.in-Err.fault (λ _. c.requires.some) stands
    (rw c.as_slice.ensures.value at (c.in-Err.ensures.err start flows.text flows.goes))

pub returns-then-tail-clause-ok : goal.returns-then-tail-clause-ok
returns-then-tail-clause-ok g c z start flows =
    let held = c.args.held.now.items in
    record {
      text = flows.text ++ fitted c.args.size held;
      stands = rw c.if-tail.true at (Stands_newline c.args.size z flows.text held c.args.tail.over c.args.tail.cut flows.stands c.clear.new.self.items c.clear.ensures.items);
      goes = rw c.as_slice.ensures.value at (c.in-Ok.ensures.ok start flows.text flows.goes);
    }

pub returns-clause-ok : goal.returns-clause-ok
returns-clause-ok g c z start flows =
    let held = c.args.held.now.items in
    record {
      text = flows.text ++ fitted c.args.size held;
      stands = rw (c.if-tail.false, add-zero) at (Stands_newline c.args.size z flows.text held c.args.tail.over c.args.tail.cut flows.stands c.clear.new.self.items c.clear.ensures.items);
      goes = rw c.as_slice.ensures.value at (c.in-Ok.ensures.ok start flows.text flows.goes);
    }
