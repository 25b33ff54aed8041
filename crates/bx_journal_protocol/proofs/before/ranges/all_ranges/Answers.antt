use Rattle.std.proofs.Common.{◌≡◌, ◌+◌, ◌∙◌, ◌++◌, ◌∷◌, [], length, take, drop, ap, subst, sym, arith, length-append}
use Rattle.std.specs.Prelude.{reverse, slice_index_or, Vec}
use Rattle.std.proofs.lemmas.Grind.{common_steps}
use Rattle.bx_image.specs.declared.record.spans.Span.{Span}
use Rattle.bx_journal_protocol.specs.protocol.Takens.{length_at}
use Rattle.bx_journal_protocol.specs.write.Touched.{AreTouched, AreToldRanges, IsTouched}
use Rattle.bx_journal_protocol.proofs.TouchedLemmas.{touched_push, told_of, told_push}
use Rattle.bx_journal_protocol.proofs.before.ranges.all_ranges.Goals as goal

pub loop-place-preserved : goal.loop-place-preserved
loop-place-preserved g c =
    let inv = c.loop-place.invariant in
    let es = c.args.entries.now in
    let ts = c.loop-place.takens.items in
    let place = c.loop-place.place in
    let r : Vec Span g.row.A.Denot = c.in_ok-ranges.ranges in
    let items : c.push.new.self.items ≡ ts ++ r ∷ [] = grind (arith, common_steps) in
    let long : length c.push.new.self.items ≡ length ts + 1 = ap length items ∙ length-append ts (r ∷ []) in
    let one : IsTouched (length_at (drop (place + 1) es) c.args.len) (slice_index_or es place c.index-entries-place.result) r.items =
    subst (λ n. IsTouched n (slice_index_or es place c.index-entries-place.result) r.items) c.length_above-above.ensures
    (subst (λ e. IsTouched c.length_above-above.result e r.items) c.index-entries-place.is c.in_ok-ranges.ensures.touched) in
    record {
      touched = subst (λ us. AreTouched (length_at (drop (place + 1) es) c.args.len) (reverse (take (place + 1) es)) (reverse us)) (sym items)
          (touched_push c.args.len es ts place c.index-entries-place.result r c.loop-place-test.true inv.touched one);
      told = subst AreToldRanges (sym items) (told_push ts r inv.told (told_of one));
      count = omega (arith, inv.count, long);
      few = inv.few;
      inside = omega (arith, c.loop-place-test.true);
    }
