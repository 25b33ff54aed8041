use Rattle.bx_journal_read.proofs.DamageLemmas.{placed_of}
use Rattle.bx_journal_read.proofs.ScanLemmas.{some_of}
use Rattle.bx_journal_read.proofs.scan.damage.walk_in_place.Goals as goal

pub returns-clause-walked : goal.returns-clause-walked
returns-clause-walked g c =
    placed_of (g.T.TextStore.faithful c.args.store.now) (g.T.TextStore.text c.args.store.now) c.args.len
    c.in-Some.end (some_of _ c.in_ok-found.found c.in-Some.end c.in-Some.is c.in_ok-found.ensures.reached)
