use Rattle.std.specs.Prelude.{IsTrue}
use Rattle.bx_journal_read.specs.show.ShownSteps.{newest_steps, AreStepsPut}
use Rattle.bx_journal_read.specs.show.Stopping.{CountsBytes}
use Rattle.bx_journal_read.proofs.BesideLemmas.{HasStayed}
use Rattle.bx_journal.proofs.look.step.put_steps.Given as goal

-- the steps so far were written
abbrev pub invariant-loop-i : goal.invariant-loop-i
invariant-loop-i g l = record {
  steps : g.T.TextStore.faithful l.fn.journal → (IsTrue l.steps.compares → g.D.Device.faithful l.fn.image)
      → AreStepsPut l.steps (g.D.Device.image l.fn.image) (g.T.TextStore.text l.fn.journal) l.i l.marks (g.W.Write.contents l.fn.out) (g.W.Write.contents l.out);
  counted : g.T.TextStore.faithful l.fn.journal → (IsTrue l.steps.compares → g.D.Device.faithful l.fn.image)
      → CountsBytes l.fn.writing.written (newest_steps l.steps (g.D.Device.image l.fn.image) (g.T.TextStore.text l.fn.journal) l.i l.marks) l.writing.written;
  image : HasStayed g.D.Device.faithful g.D.Device.image g.D.Device.survives g.D.Device.failures l.fn.image l.image;
  text : HasStayed g.T.TextStore.faithful g.T.TextStore.text g.T.TextStore.survives g.T.TextStore.failures l.fn.journal l.journal;
}
