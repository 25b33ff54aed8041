use Rattle.std.proofs.Common.{arith, ◌≡◌, ◌<◌, ◌≤◌, ◌∙◌, ◌||◌, Bool, [], take, length, get_or, ap}
use Rattle.std.proofs.lemmas.Grind.{common_steps}
use Rattle.std.proofs.lemmas.List.{take_all}
use Rattle.std.proofs.lemmas.List.Elements.{All-nil}
use Rattle.bx_image.specs.Over.{IsWithin}
use Rattle.bx_image.specs.private.Spans.{is_between}
use Rattle.bx_image.proofs.Runs.{covered_more}
use Rattle.bx_image.proofs.SpanLemmas.{over_base, are_over-with_span, LieWithin-with_span}
use Rattle.bx_image.proofs.record.spans.collected.Goals as goal

pub loop-write-init : goal.loop-write-init
loop-write-init g c = rw (c.in_ok-push.ensures, c.new-spans.ensures.items, c.cut_start.ensures) (record {
  over = over_base c.args.base c.args.len;
  within = LieWithin-with_span c.args.len _ c.args.len [] (All-nil (IsWithin c.args.len)) (omega arith);
})

pub loop-write-preserved : goal.loop-write-preserved
loop-write-preserved g c =
    let kept = c.loop-write.invariant in
    let read : c.write-item.result ≡ get_or c.args.writes.now c.loop-write.write-index c.write-item.result = c.write-item.is in
    let within : c.loop-write.write-index < length c.args.writes.now = grind (arith, common_steps) in
    rw c.in_ok-push-2.ensures (record {
      over = λ i.
          are_over-with_span c.write-item.result.at c.clipped_end.result c.loop-write.spans.items i
          ∙ ap (λ (b : Bool). b || is_between c.write-item.result.at c.clipped_end.result i) (kept.over i)
          ∙ covered_more _ _ _ _ i _ _ within read c.clipped_end.ensures;
      within = LieWithin-with_span c.args.len _ _ _ kept.within (omega (arith, c.clipped_end.ensures));
    })

pub returns-clause-over : goal.returns-clause-over
returns-clause-over g c i =
    let done : length c.args.writes.now ≤ c.loop-write.write-index = grind (arith, common_steps) in
    let all : take c.loop-write.write-index c.args.writes.now ≡ c.args.writes.now = take_all _ _ done in
    rw all at (c.loop-write.invariant.over i)
