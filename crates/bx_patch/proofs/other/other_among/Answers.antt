use Rattle.std.proofs.Common.{false, true, sym, ◌∙◌, arith}
use Rattle.bx_image.proofs.CacheLemmas.{cache_again}
use Rattle.bx_patch.proofs.DiffLemmas.{reads_on}
use Rattle.bx_patch.proofs.OtherLemmas.{among_here, among_next, among_none}
use Rattle.bx_patch.proofs.other.other_among.Goals as goal

pub returns-then-looked-bytes-clause-found : goal.returns-then-looked-bytes-clause-found
returns-then-looked-bytes-clause-found g c = λ h.
    let inv = c.loop-i.invariant in
    let on = c.in-Ok.ensures in
    let now = inv.reads.goes_on.faith.1 h in
    among_here (g.D.Device.image c.args.device.now) (g.D.Device.image c.loop-i.device) c.as_slice-bytes.result.now c.args.pieces.now c.loop-i.i c.in-Ok.looked.same c.index-pieces-i.result
    (inv.reads.stays h) c.as_slice-bytes.ensures (omega (arith, c.loop-i-test.true)) c.index-pieces-i.is (inv.leads h) c.if-looked-bytes.true (on.has now) (on.other now)

pub returns-then-looked-bytes-clause-reads : goal.returns-then-looked-bytes-clause-reads
returns-then-looked-bytes-clause-reads g c =
    reads_on g.D.Device.faithful g.D.Device.image g.D.Device.room g.D.Device.failures g.D.Device.survives false c.args.device.now c.loop-i.device c.count_in_piece.new.device
    c.loop-i.invariant.reads c.in-Ok.ensures.reads

pub returns-in-Err-clause-reads : goal.returns-in-Err-clause-reads
returns-in-Err-clause-reads g c =
    reads_on g.D.Device.faithful g.D.Device.image g.D.Device.room g.D.Device.failures g.D.Device.survives true c.args.device.now c.loop-i.device c.count_in_piece.new.device
    c.loop-i.invariant.reads c.in-Err.ensures.reads

pub loop-i-preserved : goal.loop-i-preserved
loop-i-preserved g c =
    let inv = c.loop-i.invariant in
    let on = c.in-Ok.ensures in
    let image = g.D.Device.image in
    record {
      leads = λ h.
          among_next (image c.args.device.now) (image c.loop-i.device) c.as_slice-bytes.result.now c.args.pieces.now c.loop-i.i c.in-Ok.looked.same c.index-pieces-i.result
          (inv.reads.stays h) c.as_slice-bytes.ensures (omega (arith, c.loop-i-test.true)) c.index-pieces-i.is (inv.leads h) on.most (omega (arith, c.if-looked-bytes.false))
          (on.has (inv.reads.goes_on.faith.1 h));
      cache = cache_again (g.D.Device.faithful c.loop-i.device) (g.D.Device.faithful c.args.device.now) (image c.loop-i.device) (image c.args.device.now) c.count_in_piece.new.page
          c.in-Ok.looked.cached (λ h. inv.reads.goes_on.faith.1 h) (λ h. sym (inv.reads.stays h)) on.cache;
      room = on.room ∙ inv.room;
      reads = reads_on g.D.Device.faithful image g.D.Device.room g.D.Device.failures g.D.Device.survives false c.args.device.now c.loop-i.device c.count_in_piece.new.device inv.reads on.reads;
    }

pub returns-clause-found : goal.returns-clause-found
returns-clause-found g c = λ h.
    among_none (g.D.Device.image c.args.device.now) c.args.pieces.now c.loop-i.i (omega (arith, c.loop-i-test.false)) (c.loop-i.invariant.leads h)
