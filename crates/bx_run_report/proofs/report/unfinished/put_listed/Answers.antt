use Rattle.std.proofs.Common.{subst, sym}
use Rattle.std.proofs.KnownBytes.{Appends-trans}
use Rattle.std.proofs.lemmas.Result.{IfErr-weaker}
use Rattle.std.specs.Io.KnownBytes.{Appends}
use Rattle.std.specs.Prelude.{◌++◌, All, IfErr}
use Rattle.bx_journal_read.specs.show.Showing.{LiesWithin}
use Rattle.bx_journal_read.specs.show.ShownSteps.{torn_text}
use Rattle.bx_journal_read.specs.show.Stopping.{StopsPrefix}
use Rattle.bx_journal_read.proofs.RowTexts.{ok_weaker}
use Rattle.bx_journal_read.proofs.StopLemmas.{handed_on, stops_first, stops_later}
use Rattle.bx_run_report.specs.report.Unfinished.{rows_at}
use Rattle.bx_run_report.proofs.report.unfinished.put_listed.Goals as goal

pub put_listed_rows-requires-clause-lie : goal.put_listed_rows-requires-clause-lie
put_listed_rows-requires-clause-lie g c =
    (c.requires.lie.0, c.requires.lie.1, subst (All (LiesWithin c.requires.lie.0)) (sym c.as_slice.ensures.value) c.requires.lie.2)

pub returns-clause-put : goal.returns-clause-put
returns-clause-put g c h =
    let text = g.T.TextStore.text c.args.journal.now in
    let w0 = g.O.Write.contents c.args.out.now in
    let w1 = g.O.Write.contents c.put_torn.new.out in
    let w2 = g.O.Write.contents c.put_listed_rows.new.out in
    ok_weaker c.put_listed_rows.result
    (λ put. Appends-trans w0 w1 w2 (torn_text c.args.found.now.torn) (rows_at c.args.verbose text 1 c.args.found.now.marks.items) c.in_ok-before.ensures.line
    (subst (λ ms. Appends w1 w2 (rows_at c.args.verbose text 1 ms)) c.as_slice.ensures.value put))
    (c.put_listed_rows.ensures.rows h)

pub returns-in_err-before-clause-stops : goal.returns-in_err-before-clause-stops
returns-in_err-before-clause-stops g c h =
    handed_on c.from_residual.result _ _ c.from_residual.ensures.1
    (stops_first 0 (torn_text c.args.found.now.torn) (rows_at c.args.verbose (g.T.TextStore.text c.args.journal.now) 1 c.args.found.now.marks.items) _ _ _
    c.in_err-before.ensures.stops)

pub returns-clause-stops : goal.returns-clause-stops
returns-clause-stops g c h =
    let text = g.T.TextStore.text c.args.journal.now in
    let rows = rows_at c.args.verbose text 1 c.args.found.now.marks.items in
    let line = torn_text c.args.found.now.torn in
    let w0 = g.O.Write.contents c.args.out.now in
    let w1 = g.O.Write.contents c.put_torn.new.out in
    let w2 = g.O.Write.contents c.put_listed_rows.new.out in
    IfErr-weaker c.put_listed_rows.result (StopsPrefix c.in_ok-before.before rows w1 w2) (StopsPrefix 0 (line ++ rows) w0 w2)
    (λ f stop. stops_later 0 c.in_ok-before.before line rows w0 w1 w2 f c.in_ok-before.ensures.line c.in_ok-before.ensures.counted stop)
    (subst (λ ms. IfErr c.put_listed_rows.result (StopsPrefix c.in_ok-before.before (rows_at c.args.verbose text 1 ms) w1 w2)) c.as_slice.ensures.value (c.put_listed_rows.ensures.stops h))
