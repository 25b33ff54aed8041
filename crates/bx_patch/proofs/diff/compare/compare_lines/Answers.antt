use Rattle.std.proofs.Common.{◌≡◌, ◌+◌, ◌-◌, ◌%◌, ◌<◌, ℕ, false, length, max, min, refl, arith}
use Rattle.bx_patch.specs.private.Diff.{lines_before}
use Rattle.bx_patch.proofs.DiffLemmas.{next_part, next_put, reads_none, reads_on}
use Rattle.bx_patch.proofs.SameLemmas.{put_first, put_passed}
use Rattle.bx_patch.proofs.diff.compare.compare_lines.Goals as goal

pub returns-in-Err-clause-part : goal.returns-in-Err-clause-part
returns-in-Err-clause-part g c = λ faithful new_is known.
    let place = c.args.walk.place in
    let x = g.D.Device.image c.args.old.now in
    let y = g.E.Device.image c.args.new.now in
    let at = c.loop-at.at in
    let extent = place.extent in
    let next : ℕ = at + min 32768 (max (length x) (length y) - at) in
    let old_len = c.requires.old_len faithful in
    let new_len = c.requires.new_len new_is in
    let inv = c.loop-at.invariant in
    let inside : at < max (length x) (length y) = omega (arith, c.loop-at-test.true, c.max-end.ensures, old_len, new_len) in
    next_part extent place.head.now c.loop-at.writing.number c.loop-at.writing.written (g.W.Write.contents c.args.out.now) _ x y _ _ at next
    (inv.old.stays faithful) (inv.new.stays new_is) inside (inv.whole c.loop-at-test.true) refl c.in-Err.fault
    (c.in-Err.ensures.part (inv.old.goes_on.faith.1 faithful) (inv.new.goes_on.faith.1 new_is) (lines_before extent x y at) (g.W.Write.contents c.args.out.now) (inv.put faithful new_is known))

pub loop-at-init : goal.loop-at-init
loop-at-init g c =
    let first = c.next_window-at in
    record {
      within = first.ensures.most;
      whole = first.ensures.whole;
      old = reads_none g.D.Device.faithful g.D.Device.image g.D.Device.room g.D.Device.failures g.D.Device.survives c.args.old.now;
      new = reads_none g.E.Device.faithful g.E.Device.image g.E.Device.room g.E.Device.failures g.E.Device.survives c.args.new.now;
      put = λ faithful new_is known.
          let place = c.args.walk.place in
          let x = g.D.Device.image c.args.old.now in
          let y = g.E.Device.image c.args.new.now in
          let old_len = c.requires.old_len faithful in
          let new_len = c.requires.new_len new_is in
          put_passed place.extent x y 0 first.result c.max-end.result (omega (arith, c.max-end.ensures, old_len, new_len)) first.ensures.least first.ensures.most
          (λ below. refl) first.ensures.whole (first.ensures.same x y known) place.head.now c.args.writing.now.number c.args.writing.now.written _ _
          (put_first place.head.now _ _ (g.W.Write.contents c.args.out.now) c.requires.fresh c.requires.none);
    }

pub loop-at-preserved : goal.loop-at-preserved
loop-at-preserved g c =
    let inv = c.loop-at.invariant in
    let on = c.in-Ok.ensures in
    let place = c.args.walk.place in
    let extent = place.extent in
    let on_at = c.next_window-at-in-Ok in
    let full : c.loop-at.at + c.min.result < c.max-end.result → (c.loop-at.at + c.min.result) % 32768 ≡ 0 =
    λ below. omega (arith, c.min.ensures, inv.whole c.loop-at-test.true, below) in
    record {
      within = on_at.ensures.most;
      whole = on_at.ensures.whole;
      old = reads_on g.D.Device.faithful g.D.Device.image g.D.Device.room g.D.Device.failures g.D.Device.survives false c.args.old.now c.loop-at.old c.put_next.new.old inv.old on.old;
      new = reads_on g.E.Device.faithful g.E.Device.image g.E.Device.room g.E.Device.failures g.E.Device.survives false c.args.new.now c.loop-at.new c.put_next.new.new inv.new on.new;
      put = λ faithful new_is known.
          let x = g.D.Device.image c.args.old.now in
          let y = g.E.Device.image c.args.new.now in
          let at = c.loop-at.at in
          let old_len = c.requires.old_len faithful in
          let new_len = c.requires.new_len new_is in
          let inside : at < max (length x) (length y) = omega (arith, c.loop-at-test.true, c.max-end.ensures, old_len, new_len) in
          let next : at + c.min.result ≡ at + min 32768 (max (length x) (length y) - at) = omega (arith, c.min.ensures, c.max-end.ensures, old_len, new_len) in
          put_passed extent x y (at + c.min.result) on_at.result c.max-end.result (omega (arith, c.max-end.ensures, old_len, new_len))
          on_at.ensures.least on_at.ensures.most full on_at.ensures.whole (on_at.ensures.same x y known)
          place.head.now c.put_next.new.writing.number c.put_next.new.writing.written _ _
          (next_put extent place.head.now c.put_next.new.writing.number c.put_next.new.writing.written (g.W.Write.contents c.args.out.now) _ x y _ _ at (at + c.min.result)
          (inv.old.stays faithful) (inv.new.stays new_is) inside (inv.whole c.loop-at-test.true) next
          (on.put (inv.old.goes_on.faith.1 faithful) (inv.new.goes_on.faith.1 new_is) (lines_before extent x y at) (g.W.Write.contents c.args.out.now) (inv.put faithful new_is known)));
    }
