use Rattle.std.proofs.Common.{subst}
use Rattle.bx_journal_read.specs.scan.Recovery.{IsFoundIn}
use Rattle.bx_journal_read.proofs.StepsShown.{front_behind, unfinished_now}
use Rattle.bx_journal_read.proofs.show.unfinished.marks_of_unfinished.Goals as goal

pub marks_before-requires-clause-unfinished : goal.marks_before-requires-clause-unfinished
marks_before-requires-clause-unfinished g c =
    unfinished_now c.in-Ok.ensures.looks c.in-Unfinished.torn (subst (IsFoundIn (g.T.TextStore.faithful c.args.store.now) (g.T.TextStore.text c.args.store.now)) c.in-Unfinished.is c.in-Ok.ensures.found)

pub returns-in-Unfinished : goal.returns-in-Unfinished
returns-in-Unfinished g c = front_behind c.in-Ok.ensures.looks c.in-Ok.ensures.found_before c.marks_before.result c.marks_before.ensures
