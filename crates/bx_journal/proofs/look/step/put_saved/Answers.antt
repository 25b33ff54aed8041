use Rattle.std.proofs.Common.{OnOk, subst, sym, refl}
use Rattle.std.specs.Prelude.{IfErr, IsTrue}
use Rattle.bx_journal_read.specs.show.Stopping.{CountsBytes, StopsPrefix}
use Rattle.std.specs.Io.KnownBytes.{Appends}
use Rattle.bx_journal_read.specs.show.ShownSteps.{saved_lines_at}
use Rattle.bx_journal.proofs.look.step.put_saved.Goals as goal

pub returns-in-true-clause-put : goal.returns-in-true-clause-put
returns-in-true-clause-put g c h hd =
    subst (λ b. OnOk c.put_differences.result (Appends (g.W.Write.contents c.args.out.now) (g.W.Write.contents c.put_differences.new.out) (saved_lines_at b (g.D.Device.image c.args.image.now) (g.T.TextStore.text c.args.journal.now) c.args.mark)))
    (sym c.in-true.is) (c.put_differences.ensures.put (hd (subst IsTrue (sym c.in-true.is) refl)) h)

pub returns-in-false-clause-put : goal.returns-in-false-clause-put
returns-in-false-clause-put g c h hd =
    subst (λ b. OnOk c.put_lines.result (Appends (g.W.Write.contents c.args.out.now) (g.W.Write.contents c.put_lines.new.out) (saved_lines_at b (g.D.Device.image c.args.image.now) (g.T.TextStore.text c.args.journal.now) c.args.mark)))
    (sym c.in-false.is) (c.put_lines.ensures.put h)

pub returns-in-true-clause-counted : goal.returns-in-true-clause-counted
returns-in-true-clause-counted g c h hd =
    subst (λ b. OnOk c.put_differences.result (CountsBytes c.args.writing.now.written (saved_lines_at b (g.D.Device.image c.args.image.now) (g.T.TextStore.text c.args.journal.now) c.args.mark) c.put_differences.new.writing.written))
    (sym c.in-true.is) (c.put_differences.ensures.counted (hd (subst IsTrue (sym c.in-true.is) refl)) h)

pub returns-in-true-clause-stops : goal.returns-in-true-clause-stops
returns-in-true-clause-stops g c h hd =
    subst (λ b. IfErr c.put_differences.result (StopsPrefix c.args.writing.now.written (saved_lines_at b (g.D.Device.image c.args.image.now) (g.T.TextStore.text c.args.journal.now) c.args.mark)
    (g.W.Write.contents c.args.out.now) (g.W.Write.contents c.put_differences.new.out)))
    (sym c.in-true.is) (c.put_differences.ensures.stops (hd (subst IsTrue (sym c.in-true.is) refl)) h)

pub returns-in-false-clause-counted : goal.returns-in-false-clause-counted
returns-in-false-clause-counted g c h hd =
    subst (λ b. OnOk c.put_lines.result (CountsBytes c.args.writing.now.written (saved_lines_at b (g.D.Device.image c.args.image.now) (g.T.TextStore.text c.args.journal.now) c.args.mark) c.put_lines.new.writing.written))
    (sym c.in-false.is) (c.put_lines.ensures.counted h)

pub returns-in-false-clause-stops : goal.returns-in-false-clause-stops
returns-in-false-clause-stops g c h hd =
    subst (λ b. IfErr c.put_lines.result (StopsPrefix c.args.writing.now.written (saved_lines_at b (g.D.Device.image c.args.image.now) (g.T.TextStore.text c.args.journal.now) c.args.mark)
    (g.W.Write.contents c.args.out.now) (g.W.Write.contents c.put_lines.new.out)))
    (sym c.in-false.is) (c.put_lines.ensures.stops h)
