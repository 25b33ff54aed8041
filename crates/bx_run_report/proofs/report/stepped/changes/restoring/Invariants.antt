use Rattle.bx_run_report.proofs.StepLemmas.{IsRestoring}
use Rattle.bx_run_report.proofs.report.stepped.changes.restoring.Given as goal

-- the changes so far lead to the image above what is left of the entries
abbrev pub invariant-loop-i : goal.invariant-loop-i
invariant-loop-i l = IsRestoring l.fn.entries.items l.entries.items l.i l.changes.items
