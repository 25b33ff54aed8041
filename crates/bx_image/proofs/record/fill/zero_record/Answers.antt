use Rattle.bx_image.proofs.Runs.{saved-runs}
use Rattle.bx_image.proofs.SpanLemmas.{AllWithin-StandOver, over_change}
use Rattle.bx_image.proofs.FillLemmas.{length-zeros, LieBelow-StandOver}
use Rattle.std.proofs.Common.{sym}
use Rattle.bx_image.specs.Image.{zeros}
use Rattle.bx_image.proofs.record.fill.zero_record.Goals as goal

pub returns-clause-zeros : goal.returns-clause-zeros
returns-clause-zeros g c change base_is writes_are =
    let spans = c.in_ok-spans.ensures in
    let stand = rw (c.as_slice.ensures.value, ← c.from_vec.ensures) at c.in_ok-runs.ensures.over in
    let runs = rw (← c.from_vec.ensures) at c.in_ok-runs.ensures.runs c.args.len (rw c.as_slice.ensures.value spans.within) in
    let over = over_change change c.args.base c.args.writes.now c.in_ok-spans.spans.items c.args.len base_is writes_are spans.over in
    saved-runs change (zeros c.args.len) _ (record { len = c.args.len; runs = c.from_vec.result }) (sym (length-zeros c.args.len)) over spans.within spans.apart stand runs

pub returns-clause-within : goal.returns-clause-within
returns-clause-within g c =
    let stand = rw (c.as_slice.ensures.value, ← c.from_vec.ensures) at c.in_ok-runs.ensures.over in
    AllWithin-StandOver _ _ _ stand c.in_ok-spans.ensures.within

pub returns-clause-below : goal.returns-clause-below
returns-clause-below g c =
    let stand = rw (c.as_slice.ensures.value, ← c.from_vec.ensures) at c.in_ok-runs.ensures.over in
    LieBelow-StandOver _ _ _ stand c.in_ok-spans.ensures.within
