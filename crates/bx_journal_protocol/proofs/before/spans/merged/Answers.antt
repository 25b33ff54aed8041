use Rattle.std.proofs.Common.{arith, ◌≡◌, ◌<◌, ◌≤◌, ◌∙◌, length, get_or, take, max, sym, subst, refl, ℕ, zero, suc, List, [], ◌∷◌}
use Rattle.std.proofs.lemmas.Bool.Decides.{nat_tests}
use Rattle.std.proofs.lemmas.Grind.{common_steps}
use Rattle.std.proofs.lemmas.List.{take_all}
use Rattle.std.proofs.lemmas.List.Elements.{All-nil}
use Rattle.bx_image.specs.declared.record.spans.Span.{Span}
use Rattle.bx_image.specs.Over.{IsWithin}
use Rattle.bx_image.proofs.SpanLemmas.{are_over-none, are_over-more, are_over-with_span, LieWithin-with_span, over_next, over_joined}
use Rattle.bx_journal_protocol.proofs.before.spans.merged.Goals as goal
use Rattle.bx_journal_protocol.proofs.before.spans.merged.Goals.{then-has_gap+in_ok-push, else-has_gap}

pub loop-span-init : goal.loop-span-init
loop-span-init g c = rw c.in_ok-merged.ensures.items (record {
  over = λ i. grind (arith, nat_tests, are_over-none);
  within = λ len all. (All-nil (IsWithin len), omega arith);
  below = λ j d lo hi. omega arith;
})

pub loop-span-preserved : goal.loop-span-preserved
loop-span-preserved g c =
    let kept = c.loop-span.invariant in
    let spans : List Span = c.args.spans.now in
    let k : ℕ = c.loop-span.span-index in
    let h : k < length spans = c.loop-span-test.true in
    let none : Span = record { at = 0; end = 0 } in
    let s : Span = get_or spans k none in
    let later : c.loop-span.at ≤ s.at = kept.below k none (omega arith) h in
    elim c.if-has_gap.branch [
      | then-has_gap+in_ok-push w ↦ rw (w.merged-is, w.at-is, w.end-is, w.in_ok-push.ensures) (record {
        over = λ i. over_next c.loop-span.at c.loop-span.end s.at s.end i c.loop-span.merged.items (take k spans) (kept.over i) ∙ sym (are_over-more spans k none i h);
        within = λ len all. let so_far = kept.within len all in let lies : IsWithin len s = all k none h in (LieWithin-with_span len _ _ _ so_far.0 so_far.1, lies.within);
        below = λ j d lo hi. subst (λ (v : Span). v.at ≤ (get_or spans j d).at) (get_or_any spans k d none h) (c.requires.sorted k j d (omega arith) hi);
      })
      | else-has_gap w ↦ let none_left : s.at ≤ c.loop-span.end = grind (arith, nat_tests) in rw (w.merged-is, w.at-is, w.end-is, w.max-end.ensures) (record {
        over = λ i. over_joined c.loop-span.at c.loop-span.end s.at s.end i c.loop-span.merged.items (take k spans) later none_left (kept.over i) ∙ sym (are_over-more spans k none i h);
        within = λ len all. let so_far = kept.within len all in let lies : IsWithin len s = all k none h in (so_far.0, omega (arith, so_far.1, lies.within));
        below = λ j d lo hi. kept.below j d (omega arith) hi;
      })
    ]
  where
    get_or_any : (spans : List Span) (k : ℕ) (d e : Span) → k < length spans → get_or spans k d ≡ get_or spans k e
    get_or_any [] k d e h = absurd (omega arith)
    get_or_any (s ∷ spans) zero d e h = refl
    get_or_any (s ∷ spans) (suc k) d e h = get_or_any spans k d e (omega arith)

pub returns-clause-over : goal.returns-clause-over
returns-clause-over g c i =
    let all : take c.loop-span.span-index c.args.spans.now ≡ c.args.spans.now = take_all _ _ (grind (arith, common_steps)) in
    rw c.in_ok-push-2.ensures (are_over-with_span _ _ _ i ∙ rw all at (c.loop-span.invariant.over i))

pub returns-clause-within : goal.returns-clause-within
returns-clause-within g c len all =
    let so_far = c.loop-span.invariant.within len all in
    rw c.in_ok-push-2.ensures (LieWithin-with_span len _ _ _ so_far.0 so_far.1)
