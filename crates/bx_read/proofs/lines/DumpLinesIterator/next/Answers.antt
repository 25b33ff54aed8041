use Rattle.std.proofs.Common.{sym, ap, ◌∙◌, ◌+◌, arith, length}
use Rattle.std.proofs.lemmas.Bool.{eqb-true}
use Rattle.bx_read.specs.Text.{lines_of, answers}
use Rattle.bx_read.proofs.LinesLemmas.{read_step, answers_read, answers_skip, none_coming}
use Rattle.bx_read.proofs.lines.DumpLinesIterator.next.Goals as goal

pub returns-then-not-is_skipped-clause-steps : goal.returns-then-not-is_skipped-clause-steps
returns-then-not-is_skipped-clause-steps c =
    let taken = c.take_line-line.ensures in
    let after = c.take_line-line.new.self in
    let p = c.loop-self.self.passed in
    let read = read_step c.read.result after.passed c.take_line-line.result.now after c.read.new.self c.read.ensures.exact c.read.ensures.number c.read.ensures.kept in
    sym c.loop-self.invariant ∙ ap (answers (p + 1)) taken.lines ∙ rw (← taken.passed) (answers_read after.passed c.take_line-line.result.now (lines_of after.text.now) (sym c.is_skipped.ensures ∙ c.if-not-is_skipped.true)) ∙ read

pub returns-then-not-is_skipped-clause-goes : goal.returns-then-not-is_skipped-clause-goes
returns-then-not-is_skipped-clause-goes c = record {
  on = λ _. (tt, tt, omega (arith, ap length (returns-then-not-is_skipped-clause-steps c)));
  keeps = tt;
  rests = λ _. tt;
}

pub returns-clause-steps : goal.returns-clause-steps
returns-clause-steps c =
    let none = none_coming c.loop-self.self (eqb-true (length c.loop-self.self.text.now) 0 (sym c.is_empty.ensures ∙ c.loop-self-test.false)) in
    (sym c.loop-self.invariant ∙ none, none)

pub loop-self-preserved : goal.loop-self-preserved
loop-self-preserved c =
    let taken = c.take_line-line.ensures in
    let after = c.take_line-line.new.self in
    let p = c.loop-self.self.passed in
    sym (ap (answers (p + 1)) taken.lines ∙ rw (← taken.passed) (answers_skip after.passed c.take_line-line.result.now (lines_of after.text.now) (sym c.is_skipped.ensures ∙ c.if-not-is_skipped.false))) ∙ c.loop-self.invariant
