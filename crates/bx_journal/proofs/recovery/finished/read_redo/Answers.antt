use Rattle.std.proofs.Common.{◌∙◌, subst}
use Rattle.std.specs.Prelude.{IfSome}
use Rattle.bx_journal_read.specs.scan.Judging.{IsUnfitIn}
use Rattle.bx_journal.proofs.recovery.finished.read_redo.Goals as goal

pub returns-in-Some-clause-found : goal.returns-in-Some-clause-found
returns-in-Some-clause-found g c = record {
  found = subst (λ o. IfSome o (IsUnfitIn (g.T.TextStore.faithful c.args.redo.now) (g.T.TextStore.text c.args.redo.now) c.args.changes)) c.in-Some.is c.in-Ok.ensures.line;
  few = tt;
}

pub returns-in-Ok-read_all-clause-found : goal.returns-in-Ok-read_all-clause-found
returns-in-Ok-read_all-clause-found g c = record {
  found = λ h. c.in-Ok-read_all.ensures.bytes (c.find_unfit_line.ensures.looks.faith.1 h) ∙ c.find_unfit_line.ensures.looks.same h;
  few = tt;
}
