use Rattle.std.proofs.Common.{◌≡◌, ◌⊎◌, inl, inr, ◌+◌, ◌<◌, ◌≤◌, ℕ, List, ◌∷◌, ◌++◌, length, drop, slice_index_or, ap, ◌∙◌, subst, arith}
use Rattle.bx_image.proofs.Devices.{GoesOn_then}
use Rattle.bx_image.specs.declared.record.spans.Span.{Span}
use Rattle.bx_journal_protocol.specs.write.Ranges.{saved_lines_text}
use Rattle.bx_journal_protocol.proofs.RangeLemmas.{next_range, range_ends, page_step, page_len_step, place_behind}
use Rattle.bx_journal_protocol.proofs.write.ranges.fill_page.Goals as goal

pub fill_range-requires-clause-range : goal.fill_range-requires-clause-range
fill_range-requires-clause-range g c now =
    let before = c.loop-now.invariant in
    let first = before.goes_on.faith.0 now in
    let i : ℕ = c.loop-now.now.range in
    let here = next_range c.args.ranges.now i (record { at = 0; end = 0 }) (omega (arith, c.loop-now-test.true)) in
    omega (arith, range_ends _ c.args.ranges.now _ i _ (c.requires.ranges first) here, ap length (before.image first))

pub fill_range-requires-clause-free : goal.fill_range-requires-clause-free
fill_range-requires-clause-free g c = c.has_room.ensures.0 c.if-has_room.true

more_than : {P : Type 0} {a b c : ℕ} → (P × (b ≡ a)) ⊎ (a < b) → b < c → a < c
more_than (inl same) more = omega (arith, same.1, more)
more_than (inr grown) more = omega (arith, grown, more)

pub loop-now-preserved : goal.loop-now-preserved
loop-now-preserved g c =
    let before = c.loop-now.invariant in
    let i : ℕ = c.loop-now.now.range in
    let ranges : List Span = c.args.ranges.now in
    let r : Span = slice_index_or ranges i (record { at = 0; end = 0 }) in
    let x : List ℕ = g.D.Device.image c.args.image.now in
    let inside : i < length ranges = omega (arith, c.loop-now-test.true) in
    let here : drop i ranges ≡ r ∷ drop (i + 1) ranges = next_range ranges i (record { at = 0; end = 0 }) inside in
    let forth = c.in_ok-next.ensures.forth in
    let at : r.at + c.loop-now.now.done ≤ c.in_ok-next.next = omega (arith, forth.0) in
    let from : r.at ≤ c.in_ok-next.next = omega (arith, forth.0) in
    record {
      place = place_behind _ ranges r c.loop-now.now c.behind-now.result c.in_ok-next.next c.requires.ordered inside here from c.behind-now.ensures;
      put = λ first. page_step x _ _ _ ranges r c.loop-now.now c.behind-now.result c.in_ok-next.next here at c.behind-now.ensures
          (subst (λ y. c.fill_range.new.page.items ++ saved_lines_text y c.in_ok-next.next r.end ≡ c.loop-now.page.items ++ saved_lines_text y (r.at + c.loop-now.now.done) r.end) (before.image first) (c.in_ok-next.ensures.put (before.goes_on.faith.1 first)))
          (before.put first);
      long = page_len_step _ _ _ ranges r c.loop-now.now c.behind-now.result c.in_ok-next.next here at c.behind-now.ensures c.in_ok-next.ensures.long before.long;
      grown = inr (more_than before.grown c.in_ok-next.ensures.more);
      room = omega (arith, before.room, c.in_ok-next.ensures.room);
      window = c.in_ok-next.ensures.window ∙ before.window;
      image = λ first. c.in_ok-next.ensures.image (before.goes_on.faith.1 first) ∙ before.image first;
      survives = λ first y there. before.survives first y (c.in_ok-next.ensures.survives (before.goes_on.faith.1 first) y there);
      goes_on = GoesOn_then _ _ _ _ _ _ _ before.goes_on c.in_ok-next.ensures.goes_on;
    }

pub returns-in_err-next-clause-survives : goal.returns-in_err-next-clause-survives
returns-in_err-next-clause-survives g c first y there =
    let before = c.loop-now.invariant in
    before.survives first y (c.in_err-next.ensures.survives (before.goes_on.faith.1 first) y there)
