use Rattle.std.proofs.Common.{rules}
use Rattle.bx_text.proofs.line.fold.Fold.step.Goals as goal

pub returns-then-eq-clause-show : goal.returns-then-eq-clause-show
returns-then-eq-clause-show c = search rules

pub returns-then-eq-clause-taken : goal.returns-then-eq-clause-taken
returns-then-eq-clause-taken c = search rules
