use Rattle.std.proofs.Common.{[], refl, subst, sym, arith}
use Rattle.bx_journal_format.specs.count.Marks.{IsMarked}
use Rattle.bx_journal_read.proofs.MarkedLemmas.{marked_all}
use Rattle.bx_journal_read.proofs.ScanLemmas.{reached_of}
use Rattle.bx_journal_read.proofs.show.marks.marks_to.Goals as goal

pub scan_windows-requires-clause-led : goal.scan_windows-requires-clause-led
scan_windows-requires-clause-led g c = record { text = []; is = λ h. refl; long = refl; leads = subst (IsMarked [] c.nothing_marked.result) (sym c.new.ensures.items) c.nothing_marked.ensures }

pub returns-clause-marks : goal.returns-clause-marks
returns-clause-marks g c =
    let reached = reached_of _ c.in_ok-scan_windows.field-0 c.in_ok-found.found c.in-Some.end c.in_ok-found.was c.in-Some.is c.in_ok-scan_windows.ensures.reached in
    marked_all (g.T.TextStore.faithful c.args.store.now) (g.T.TextStore.text c.args.store.now) c.args.len c.in-Some.end reached (omega (arith, c.if-end-len.false, reached.below))
    (c.is_between.ensures c.if-not-is_between.false)
