use Rattle.std.proofs.Common.{sym, subst}
use Rattle.bx_journal_image.specs.Seal.{AreStepsMarks}
use Rattle.bx_journal_image.proofs.sealing.steps.seal_steps.Goals as goal

pub returns-in-Ok-clause-line : goal.returns-in-Ok-clause-line
returns-in-Ok-clause-line g c = λ hi ht.
    let x = g.D.Device.image c.args.image.now in
    let text = g.T.TextStore.text c.args.text.now in
    record {
      span = c.in-Ok.steps.span;
      line = c.line_of.ensures.line x (c.in-Ok.ensures.total hi);
      lengths = c.in-Ok.ensures.span hi ht;
      marks = subst (λ m. AreStepsMarks x text m) (sym c.line_of.ensures.marks) (c.in-Ok.ensures.marks hi ht);
    }
