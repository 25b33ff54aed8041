use Rattle.std.proofs.Common.{◌∙◌, ℕ, List, get_or}
use Rattle.std.proofs.lemmas.List.{take_more}
use Rattle.bx_image.specs.declared.record.spans.Span.{Span}
use Rattle.bx_image.proofs.Devices.{GoesOn_then}
use Rattle.bx_image.proofs.Runs.{AreRunsOf-push, HaveBytes-push}
use Rattle.bx_image.proofs.SpanLemmas.{StandOver-push}
use Rattle.bx_image.proofs.Survivors.{NoMore_then}
use Rattle.bx_image.proofs.record.save.read_runs.Goals as goal

pub loop-span-preserved : goal.loop-span-preserved
loop-span-preserved g c =
    let kept = c.loop-span.invariant in
    let run = c.in_ok-read_run.ensures in
    let spans : List Span = c.args.spans.now in
    let k : ℕ = c.loop-span.span-index in
    let none : Span = record { at = 0; end = 0 } in
    rw c.in_ok-push.ensures.items (record {
      over = rw (take_more spans k none c.loop-span-test.true) (StandOver-push _ _ (get_or spans k none) c.in_ok-read_run.field-0 kept.over run.at run.end);
      bytes = HaveBytes-push _ _ kept.bytes run.bytes;
      runs = λ faithful. AreRunsOf-push _ _ _ (kept.runs faithful) (rw (kept.image faithful) at run.run (kept.goes_on.faith.1 faithful));
      image = λ faithful. run.image (kept.goes_on.faith.1 faithful) ∙ kept.image faithful;
      survives = λ faithful. NoMore_then _ _ _ (kept.survives faithful) (run.survives (kept.goes_on.faith.1 faithful));
      goes_on = GoesOn_then _ _ _ _ _ _ _ kept.goes_on run.goes_on;
    })
