use Rattle.std.proofs.Common.{◌≡◌, ◌+◌, ◌≤◌, ◌∙◌, ◌++◌, ◌∷◌, [], ℕ, List, length, take, drop, ap, subst, sym, arith, length-append}
use Rattle.std.specs.Prelude.{reverse, slice_index_or, All}
use Rattle.std.proofs.lemmas.Grind.{common_steps}
use Rattle.std.proofs.lemmas.List.{drop_all, take_all}
use Rattle.bx_journal_format.specs.declared.read.types.EntryRead.{EntryRead}
use Rattle.bx_journal_protocol.specs.declared.before.overwritten.Overwritten.{Overwritten}
use Rattle.bx_journal_protocol.specs.before.Overwritten.{AreAllWithin, AreOverwrittenOf, HasZerosBesides, IsOverwrittenOf, image_below}
use Rattle.bx_journal_protocol.specs.protocol.Takens.{length_at}
use Rattle.bx_journal_protocol.proofs.Behind.{length-image_below, zeros_besides}
use Rattle.bx_journal_protocol.proofs.PlanLemmas.{overwritten_push, within_push}
use Rattle.bx_journal_protocol.proofs.before.overwritten.all_overwritten.Goals as goal

pub loop-place-preserved : goal.loop-place-preserved
loop-place-preserved g c =
    let inv = c.loop-place.invariant in
    let es : List (EntryRead g.row.A.Denot) = c.args.entries.now in
    let os = c.loop-place.all.items in
    let place = c.loop-place.place in
    let e : EntryRead g.row.A.Denot = c.index-entries-place.result in
    let o : Overwritten g.row.A.Denot = c.in_ok-one.one in
    let items : c.push.new.self.items ≡ os ++ o ∷ [] = grind (arith, common_steps) in
    let long : length c.push.new.self.items ≡ length os + 1 = ap length items ∙ length-append os (o ∷ []) in
    let newer : c.split_at.result.1.now ≡ drop (place + 1) es = c.split_at.ensures.back in
    record {
      overwritten = λ base x all len zeros.
          let y : List ℕ = image_below (drop (place + 1) es) x in
          let above : length y ≡ c.length_above-above.result = length-image_below (drop (place + 1) es) x ∙ ap (λ n. length_at (drop (place + 1) es) n) len ∙ sym c.length_above-above.ensures in
          let low : base ≤ e.kept.len = subst (λ (f : EntryRead g.row.A.Denot). base ≤ f.kept.len) (sym c.index-entries-place.is) (all place e c.loop-place-test.true) in
          let besides : HasZerosBesides e.kept.len y c.args.blocks.now c.split_at.result.1.now = subst (HasZerosBesides e.kept.len y c.args.blocks.now) (sym newer) (zeros_besides e.kept.len base (drop (place + 1) es) x c.args.blocks.now low zeros) in
          let one : IsOverwrittenOf y (slice_index_or es place e) o = subst (λ f. IsOverwrittenOf y f o) c.index-entries-place.is (c.in_ok-one.ensures.overwritten y above besides) in
          subst (λ us. AreOverwrittenOf y (reverse (take (place + 1) es)) (reverse us)) (sym items) (overwritten_push x es os place e o c.loop-place-test.true (inv.overwritten base x all len zeros) one);
      within = subst AreAllWithin (sym items) (within_push os o inv.within c.in_ok-one.ensures.within);
      count = omega (arith, inv.count, long);
      inside = omega (arith, c.loop-place-test.true);
    }

pub returns-clause-overwritten : goal.returns-clause-overwritten
returns-clause-overwritten g c base x all len zeros =
    let es : List (EntryRead g.row.A.Denot) = c.args.entries.now in
    let os = c.loop-place.all.items in
    let place = c.loop-place.place in
    let past : length es ≤ place = omega (arith, c.loop-place-test.false, c.loop-place.invariant.inside) in
    let here : AreOverwrittenOf (image_below (drop place es) x) (reverse (take place es)) (reverse os) = c.loop-place.invariant.overwritten base x all len zeros in
    subst (λ fs. AreOverwrittenOf x (reverse fs) (reverse os)) (take_all place es past) (subst (λ fs. AreOverwrittenOf (image_below fs x) (reverse (take place es)) (reverse os)) (drop_all place es past) here)
