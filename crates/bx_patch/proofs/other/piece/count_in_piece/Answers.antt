use Rattle.std.proofs.Common.{false, length, sym, ◌∙◌, arith, length-drop, ap}
use Rattle.bx_image.proofs.CacheLemmas.{cache_again}
use Rattle.bx_patch.proofs.DiffLemmas.{reads_on}
use Rattle.bx_patch.proofs.OtherLemmas.{has_more}
use Rattle.bx_patch.proofs.other.piece.count_in_piece.Goals as goal

pub loop-done-preserved : goal.loop-done-preserved
loop-done-preserved g c =
    let inv = c.loop-done.invariant in
    let on = c.in-Ok.ensures in
    let image = g.D.Device.image in
    record {
      within = omega (arith, inv.within, on.most, ap length c.split_at.ensures.back, length-drop c.loop-done.done c.args.bytes.now);
      below = omega (arith, on.below);
      has = λ h.
          has_more (image c.args.device.now) (image c.loop-done.device) c.args.bytes.now _ c.args.at c.loop-done.done c.in-Ok.looked.same
          (inv.reads.stays h) c.split_at.ensures.back (inv.has h) (on.has (inv.reads.goes_on.faith.1 h));
      cache = cache_again (g.D.Device.faithful c.loop-done.device) (g.D.Device.faithful c.args.device.now) (image c.loop-done.device) (image c.args.device.now) c.count_in_page.new.page
          c.in-Ok.looked.cached (λ h. inv.reads.goes_on.faith.1 h) (λ h. sym (inv.reads.stays h)) on.cache;
      room = on.room ∙ inv.room;
      reads = reads_on g.D.Device.faithful image g.D.Device.room g.D.Device.failures g.D.Device.survives false c.args.device.now c.loop-done.device c.count_in_page.new.device inv.reads on.reads;
    }
