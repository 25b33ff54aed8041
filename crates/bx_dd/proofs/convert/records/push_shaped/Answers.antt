use Rattle.std.proofs.Common.{◌++◌}
use Rattle.bx_dd.proofs.FlowLemmas.{flat_put, stops_flow}
use Rattle.bx_dd.proofs.convert.records.push_shaped.Goals as goal

pub returns-in-Ok-clause-ok : goal.returns-in-Ok-clause-ok
returns-in-Ok-clause-ok g c z start flows = record {
  text = flows.text ++ c.args.bytes.now;
  stands = flat_put c.args.form.shape c.args.form.cbs z flows.text c.args.held.now.items c.args.bytes.now c.args.tail.over c.args.tail.cut c.in-Flat.is flows.stands;
  goes = c.in-Ok.ensures.ok start flows.text flows.goes;
}

pub returns-in-Err-clause-err : goal.returns-in-Err-clause-err
returns-in-Err-clause-err g c z start flows =
    let bytes = c.args.bytes.now in
    let stands = flat_put c.args.form.shape c.args.form.cbs z flows.text c.args.held.now.items bytes c.args.tail.over c.args.tail.cut c.in-Flat.is flows.stands in
    stops_flow c.args.form.shape c.args.form.cbs start _ (z ++ bytes) (flows.text ++ bytes) c.args.held.now.items c.args.tail.over c.args.tail.cut c.in-Err.fault c.requires.some stands
    (c.in-Err.ensures.err start flows.text flows.goes)

pub returns-in-Err-push_pieces-clause-err : goal.returns-in-Err-push_pieces-clause-err
returns-in-Err-push_pieces-clause-err g c z start flows =
    rw c.in-Unblock.is (c.in-Err-push_pieces.ensures.err c.args.tail z start (rw c.in-Unblock.is at flows))
