use Rattle.std.proofs.lemmas.Result.{on_ok_weaker}
use Rattle.bx_journal.proofs.TornLemmas.{torn_early, torn_under_way, torn_way}
use Rattle.bx_journal.proofs.recovery.unfinished.prepare.Goals as goal

pub returns-in-None-clause-lengths : goal.returns-in-None-clause-lengths
returns-in-None-clause-lengths g c dh text r torn =
    on_ok_weaker c.check_length.result (torn_early text (g.D.Device.image c.args.image.now) c.args.torn r torn c.in-None.is) (c.check_length.ensures.same_length dh)

pub returns-in_ok-reserve-in-Some-clause-lengths : goal.returns-in_ok-reserve-in-Some-clause-lengths
returns-in_ok-reserve-in-Some-clause-lengths g c dh text r torn =
    let way = torn_way text c.args.torn r c.in-Some.mark torn c.in-Some.is in
    torn_under_way text (g.D.Device.image c.args.image.now) c.args.torn r way.version way.record_ torn way.is
