use Rattle.std.proofs.Common.{sym, subst}
use Rattle.bx_journal_image.specs.Blocks.{AreTrueMarks, AreWholeMarks}
use Rattle.bx_journal_image.proofs.SealLemmas.{all_right}
use Rattle.bx_journal_image.proofs.sealing.seal.seal.Goals as goal

pub returns-in-Ok-clause-line : goal.returns-in-Ok-clause-line
returns-in-Ok-clause-line g c = λ h.
    let x = g.D.Device.image c.args.image.now in
    let marks = c.line_of.ensures.marks in
    record {
      line = c.line_of.ensures.line x (c.in-Ok.ensures.total h);
      whole = subst (AreWholeMarks x) (sym marks) (c.in-Ok.ensures.marks h);
      right = subst (AreTrueMarks x) (sym marks) (all_right x c.in-Ok.blocks.marks (c.in-Ok.ensures.marks h));
    }
