use Rattle.bx_journal_read.proofs.ScanLemmas.{some_of, walked_of}
use Rattle.bx_journal_read.proofs.scan.count.walk_windows.Goals as goal

pub returns-clause-walked : goal.returns-clause-walked
returns-clause-walked g c =
    walked_of (g.T.TextStore.faithful c.args.store.now) (g.T.TextStore.text c.args.store.now) (record { tally = c.no_entries.result; lines = 0; only_second = c.args.only_second; limit = c.args.limit }) c.args.len
    c.in-Some.end (some_of _ c.in_ok-found.found c.in-Some.end c.in-Some.is c.in_ok-found.ensures.reached)
