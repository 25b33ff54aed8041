use Rattle.std.proofs.Common.{sym, ◌∙◌, arith}
use Rattle.bx_journal_format.proofs.FrontLemmas.{front_by, front_of, prefix_long}
use Rattle.bx_journal_format.proofs.read.tail.is_front.Goals as goal

pub returns-then-front-line : goal.returns-then-front-line
returns-then-front-line c = ((λ h. absurd (cc)), λ p. absurd (omega (arith, prefix_long c.args.front.now c.args.line.now p)))

pub returns : goal.returns
returns c = ((λ h. front_by c.args.front.now c.args.line.now (sym c.eq.ensures ∙ h)), λ p. c.eq.ensures ∙ front_of c.args.front.now c.args.line.now p)
