use Rattle.std.proofs.Common.{Some, subst}
use Rattle.std.specs.Prelude.{IfSome}
use Rattle.bx_journal_read.specs.show.Showing.{AreMarksOf}
use Rattle.bx_journal_read.proofs.StepsShown.{front_found, torn_front, torn_within}
use Rattle.bx_journal_read.proofs.show.unfinished.marks_before.Goals as goal

pub marks_to-requires-clause-long : goal.marks_to-requires-clause-long
marks_to-requires-clause-long g c h = torn_within (g.T.TextStore.faithful c.args.store.now) (g.T.TextStore.text c.args.store.now) c.args.torn c.requires.unfinished h

pub returns : goal.returns
returns g c =
    let there = subst (λ o. IfSome o (λ m. AreMarksOf (g.T.TextStore.faithful c.args.store.now) (g.T.TextStore.text c.args.store.now) c.args.torn.begins m.items)) c.in-Some.is c.in-Ok.ensures.marks in
    front_found (record { marks = c.in-Some.marks; torn = Some c.args.torn }) c.in-Ok.ensures.looks c.in-Ok.ensures.survives
    (torn_front (g.T.TextStore.faithful c.args.store.now) (g.T.TextStore.text c.args.store.now) c.args.torn c.in-Some.marks.items there c.requires.unfinished)
