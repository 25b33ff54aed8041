use Rattle.std.proofs.Common.{sym, subst}
use Rattle.bx_journal_model.specs.Looking.{FaultCounts}
use Rattle.bx_journal_model.specs.Undoing.{RedoAgainFault}
use Rattle.bx_journal.proofs.RedoingLemmas.{redo_again, redo_counts}
use Rattle.bx_journal.proofs.session.redo.read_undone.Goals as goal

pub returns-in-Err-clause-fault : goal.returns-in-Err-clause-fault
returns-in-Err-clause-fault g c =
    subst (RedoAgainFault (g.T.TextStore.faithful c.args.redo.now) (g.T.TextStore.text c.args.redo.now) c.args.undone) (sym c.of_redo.ensures)
    (redo_again (g.T.TextStore.faithful c.args.redo.now) (g.T.TextStore.text c.args.redo.now) c.args.undone c.in-Err.fault c.in-Err.ensures.fault)

pub returns-in-Err-clause-looks : goal.returns-in-Err-clause-looks
returns-in-Err-clause-looks g c = record {
  same = c.read_last_of.ensures.looks.same;
  faith = c.read_last_of.ensures.looks.faith;
  no_failure = tt;
  counts = subst (λ e. FaultCounts e (g.T.TextStore.failures c.args.redo.now) 0 (g.T.TextStore.failures c.read_last_of.new.store) 0) (sym c.of_redo.ensures)
      (redo_counts c.in-Err.fault (g.T.TextStore.failures c.args.redo.now) (g.T.TextStore.failures c.read_last_of.new.store) c.in-Err.ensures.looks.counts);
}
