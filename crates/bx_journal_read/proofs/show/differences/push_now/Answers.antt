use Rattle.std.proofs.Common.{arith}
use Rattle.bx_journal_read.proofs.BesideLemmas.{now_added}
use Rattle.bx_journal_read.proofs.show.differences.push_now.Goals as goal

pub returns-clause-added : goal.returns-clause-added
returns-clause-added g c h =
    let now = c.in_ok-kept.ensures in
    now_added (g.D.Device.image c.args.device.now) c.keep_cached.new.page c.args.text.now.items c.push_signed.new.text.items c.in_ok-kept.kept c.args.at c.args.count _ (now.cache.are h) now.has
    (omega (arith, c.min-there.ensures)) (λ less. omega (arith, less, c.min-there.ensures, c.requires.cache.long h)) c.in_ok-push_signed.ensures
