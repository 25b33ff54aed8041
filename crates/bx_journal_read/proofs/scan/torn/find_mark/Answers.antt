use Rattle.std.proofs.Common.{subst}
use Rattle.std.specs.Prelude.{IfSome}
use Rattle.bx_journal_model.specs.Restoring.{StandsAt}
use Rattle.bx_journal_read.proofs.WalkLemmas.{mark_between, mark_saving, mark_ending}
use Rattle.bx_journal_read.proofs.scan.torn.find_mark.Goals as goal

pub returns-in-Between-clause-mark : goal.returns-in-Between-clause-mark
returns-in-Between-clause-mark g c th r first last is = mark_between (g.T.TextStore.text c.args.store.now) r c.args.walk.tally is c.in-Between.is

pub returns-in-Saving-clause-mark : goal.returns-in-Saving-clause-mark
returns-in-Saving-clause-mark g c th r first last is = mark_saving (g.T.TextStore.text c.args.store.now) r c.args.walk.tally _ _ is c.in-Saving.is

pub returns-in-Some-clause-mark : goal.returns-in-Some-clause-mark
returns-in-Some-clause-mark g c th r first last is =
    mark_ending (g.T.TextStore.text c.args.store.now) r c.args.walk.tally c.in-Ending.version c.in-Some.mark is c.in-Ending.is
    (λ s stage. subst (λ o. IfSome o (λ m. StandsAt (g.T.TextStore.text c.args.store.now) m s)) c.in-Some.is (c.in_ok-found-in-Ending.ensures.record_ th r s first last is stage))
