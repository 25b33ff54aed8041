use Rattle.std.proofs.Common.{arith}
use Rattle.bx_patch.proofs.OtherLemmas.{page_has, page_other}
use Rattle.bx_patch.proofs.other.piece.count_in_page.Goals as goal

pub returns-in-Ok-clause-has : goal.returns-in-Ok-clause-has
returns-in-Ok-clause-has g c = λ h.
    let kept = c.in-Ok.ensures in
    page_has (g.D.Device.image c.args.device.now) c.keep_cached.new.page c.args.bytes.now c.in-Ok.kept c.args.at c.min-most.result (kept.cache.are h) kept.has
    c.count_same-same.result c.count_same-same.ensures.most c.count_same-same.ensures.same

pub returns-in-Ok-clause-other : goal.returns-in-Ok-clause-other
returns-in-Ok-clause-other g c = λ h none longer.
    let kept = c.in-Ok.ensures in
    page_other (g.D.Device.image c.args.device.now) c.keep_cached.new.page c.args.bytes.now c.in-Ok.kept c.args.at c.min-most.result (kept.cache.are h) kept.has
    kept.cache.inside (omega (arith, c.min.ensures, c.min-most.ensures, longer, c.if-cached-at.false)) c.count_same-same.result c.count_same-same.ensures.other none longer
