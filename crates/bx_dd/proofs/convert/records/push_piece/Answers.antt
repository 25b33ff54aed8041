use Rattle.std.proofs.Common.{◌≡◌, ◌+◌, ◌++◌, [], length, ap, ◌∙◌, arith, refl}
use Rattle.std.proofs.lemmas.List.{length-append}
use Rattle.bx_dd.specs.declared.form.Shape.TheVariants.{Unblock}
use Rattle.bx_dd.specs.private.Output.{line_of}
use Rattle.bx_dd.proofs.RecordsLemmas.{Stands_piece, Stands_whole}
use Rattle.bx_dd.proofs.FlowLemmas.{stops_flow}
use Rattle.bx_dd.proofs.convert.records.push_piece.Goals as goal

pub returns-then-len-size-clause-ok : goal.returns-then-len-size-clause-ok
returns-then-len-size-clause-ok g c tail z start flows =
    let kept = c.args.held.now.items in
    let sum : length c.keep.new.kept.items ≡ length kept + length c.args.bytes.now = ap length c.keep.ensures.items ∙ length-append kept c.args.bytes.now in
    record {
      text = flows.text;
      stands = Stands_piece c.args.size z flows.text kept tail.over tail.cut (omega arith) flows.stands c.args.bytes.now c.keep.new.kept.items c.keep.ensures.items (omega arith);
      goes = flows.goes;
    }

pub returns-in-Ok-clause-ok : goal.returns-in-Ok-clause-ok
returns-in-Ok-clause-ok g c tail z start flows =
    let kept = c.args.held.now.items in
    let sum : length c.keep.new.kept.items ≡ length kept + length c.args.bytes.now = ap length c.keep.ensures.items ∙ length-append kept c.args.bytes.now in
    record {
      text = flows.text ++ line_of (kept ++ c.args.bytes.now);
      stands = Stands_whole c.args.size z flows.text kept tail.over tail.cut (omega arith) flows.stands c.args.bytes.now c.clear.new.self.items (omega arith) c.clear.ensures.items;
      goes = rw (c.as_slice.ensures.value, c.keep.ensures.items) at (c.in-Ok.ensures.ok start flows.text flows.goes);
    }

pub returns-in-Err-clause-err : goal.returns-in-Err-clause-err
returns-in-Err-clause-err g c tail z start flows =
    let kept = c.args.held.now.items in
    let sum : length c.keep.new.kept.items ≡ length kept + length c.args.bytes.now = ap length c.keep.ensures.items ∙ length-append kept c.args.bytes.now in
    let stands = Stands_whole c.args.size z flows.text kept tail.over tail.cut (omega arith) flows.stands c.args.bytes.now [] (omega arith) refl in
    stops_flow Unblock c.args.size start _ (z ++ c.args.bytes.now) (flows.text ++ line_of (kept ++ c.args.bytes.now)) [] tail.over tail.cut c.in-Err.fault (λ _. omega arith) stands
    (rw (c.as_slice.ensures.value, c.keep.ensures.items) at (c.in-Err.ensures.err start flows.text flows.goes))
