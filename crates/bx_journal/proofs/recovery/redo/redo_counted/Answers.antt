use Rattle.std.proofs.Common.{sym, subst}
use Rattle.bx_journal_model.specs.Calls.{ReadFault}
use Rattle.bx_journal_read.specs.scan.Judging.{RedoTextFault}
use Rattle.bx_journal.proofs.JudgeLemmas.{fault_refuses, read_fault_redo, unfit_refuses}
use Rattle.bx_journal.proofs.recovery.redo.redo_counted.Goals as goal

pub returns-in-Ok-clause-unfit : goal.returns-in-Ok-clause-unfit
returns-in-Ok-clause-unfit g c line unfit = unfit_refuses c.args.text.now c.args.changes line c.counted_read.result c.counted_read.ensures.ok c.counted_read.ensures.refused unfit

pub returns-in-Err-clause-unfit : goal.returns-in-Err-clause-unfit
returns-in-Err-clause-unfit g c line unfit =
    let fault = read_fault_redo c.args.text.now c.args.changes c.in-Err.fault (subst (λ t. ReadFault t c.in-Err.fault) c.in_ok-copy.ensures.items c.in-Err.ensures.fault) in
    fault_refuses c.args.text.now c.args.changes line c.of_redo.result (subst (RedoTextFault c.args.text.now c.args.changes) (sym c.of_redo.ensures) fault) unfit
