use Rattle.std.proofs.Common.{None, subst}
use Rattle.std.specs.Prelude.{IfSome}
use Rattle.bx_journal_read.specs.show.Showing.{AreAllMarks}
use Rattle.bx_journal_read.proofs.StepsShown.{all_front, front_behind, front_found}
use Rattle.bx_journal_read.proofs.show.unfinished.front_marks.Goals as goal

pub returns-in-Some : goal.returns-in-Some
returns-in-Some g c =
    let there = subst (λ o. IfSome o (λ m. AreAllMarks (g.T.TextStore.faithful c.args.store.now) (g.T.TextStore.text c.args.store.now) m.items)) c.in-Some.is c.in-Ok.ensures.marks in
    front_found (record { marks = c.in-Some.marks; torn = None }) c.in-Ok.ensures.looks c.in-Ok.ensures.survives
    (all_front (g.T.TextStore.faithful c.args.store.now) (g.T.TextStore.text c.args.store.now) c.in-Some.marks.items there)

pub returns-in-None : goal.returns-in-None
returns-in-None g c = front_behind c.in-Ok.ensures.looks c.in-Ok.ensures.survives c.marks_of_unfinished.result c.marks_of_unfinished.ensures
