use Rattle.std.proofs.Common.{◌∙◌, length, refl, ap, subst, sym, arith, None}
use Rattle.std.proofs.KnownBytes.{Appends-nil}
use Rattle.std.specs.Io.KnownBytes.{Appends}
use Rattle.std.proofs.lemmas.List.Elements.{All-get_or}
use Rattle.bx_journal_format.specs.declared.read.marks.Mark.{Mark}
use Rattle.bx_journal_read.proofs.StopLemmas.{handed_on, refused_on}
use Rattle.bx_journal_model.specs.declared.fault.SessionFault.TheVariants.{NoMemory}
use Rattle.bx_journal_read.specs.show.Showing.{LiesWithin}
use Rattle.bx_run_report.specs.report.Unfinished.{rows_at}
use Rattle.bx_run_report.proofs.FrontRows.{row_stopped, rows_counted, rows_none, rows_written}
use Rattle.bx_run_report.proofs.report.unfinished.rows.put_listed_rows.Goals as goal

-- what stands for a mark where there is none
abbrev none : Mark
none = record { from = 0; to = 0; len = 0; after = None; saved = 0 }

pub loop-i-init : goal.loop-i-init
loop-i-init g c = record {
  rows = λ h. subst (Appends (g.O.Write.contents c.args.out.now) (g.O.Write.contents c.args.out.now)) (sym (rows_none c.args.verbose (g.T.TextStore.text c.args.journal.now) 1)) (Appends-nil (g.O.Write.contents c.args.out.now));
  counted = λ h few. omega (arith, ap length (rows_none c.args.verbose (g.T.TextStore.text c.args.journal.now) 1));
  text = λ h. refl;
  faith = ((λ h. h), λ h. h);
  failures = refl;
}

pub loop-i-preserved : goal.loop-i-preserved
loop-i-preserved g c =
    let inv = c.loop-i.invariant in
    let now = c.in_ok-written.ensures in
    record {
      rows = λ h. rows_written (g.O.Write.contents c.args.out.now) (g.O.Write.contents c.loop-i.out) (g.O.Write.contents c.put_listed_row.new.out) c.args.verbose (g.T.TextStore.text c.args.journal.now) (g.T.TextStore.text c.loop-i.journal)
          c.args.marks.now c.loop-i.i none (omega arith) (inv.text h) (inv.rows h) (now.row (inv.faith.1 h));
      counted = λ h. rows_counted c.args.verbose (g.T.TextStore.text c.args.journal.now) (g.T.TextStore.text c.loop-i.journal) c.args.marks.now c.loop-i.i c.args.before c.loop-i.written c.in_ok-written.written none (omega arith) (inv.text h)
          (inv.counted h) (now.counted (inv.faith.1 h));
      text = λ h. now.stays.same (inv.faith.1 h) ∙ inv.text h;
      faith = ((λ h. inv.faith.0 (now.stays.faith.0 h)), λ h. now.stays.faith.1 (inv.faith.1 h));
      failures = now.stays.no_failure ∙ inv.failures;
    }

pub put_listed_row-requires-clause-within : goal.put_listed_row-requires-clause-within
put_listed_row-requires-clause-within g c =
    let inv = c.loop-i.invariant in
    let lies = All-get_or (LiesWithin c.requires.lie.0) c.args.marks.now c.loop-i.i none (omega arith) c.requires.lie.2 in
    λ h. omega (arith, lies.1, c.requires.lie.1 (inv.faith.0 h), ap length (inv.text (inv.faith.0 h)))

pub put_listed_row-requires-clause-order : goal.put_listed_row-requires-clause-order
put_listed_row-requires-clause-order g c = (All-get_or (LiesWithin c.requires.lie.0) c.args.marks.now c.loop-i.i none (omega arith) c.requires.lie.2).0

pub returns-in_err-window-clause-stops : goal.returns-in_err-window-clause-stops
returns-in_err-window-clause-stops g c h =
    refused_on c.from_residual.result c.args.before (rows_at c.args.verbose (g.T.TextStore.text c.args.journal.now) 1 c.args.marks.now) (g.O.Write.contents c.args.out.now) NoMemory c.from_residual.ensures.1

pub returns-in_err-written-clause-stops : goal.returns-in_err-written-clause-stops
returns-in_err-written-clause-stops g c h =
    let inv = c.loop-i.invariant in
    handed_on c.from_residual-in_err-written.result _ _ c.from_residual-in_err-written.ensures.1
    (row_stopped (g.O.Write.contents c.args.out.now) (g.O.Write.contents c.loop-i.out) (g.O.Write.contents c.put_listed_row.new.out) c.args.verbose (g.T.TextStore.text c.args.journal.now) (g.T.TextStore.text c.loop-i.journal)
    c.args.marks.now c.loop-i.i c.args.before c.loop-i.written none _ (omega arith) (inv.text h) (inv.rows h) (inv.counted h) (c.in_err-written.ensures.stops (inv.faith.1 h)))
