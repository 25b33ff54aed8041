use Rattle.std.proofs.Common.{◌+◌, sym, ◌∙◌, subst}
use Rattle.std.proofs.lemmas.Bool.{eqb-true}
use Rattle.bx_read.specs.private.Full.{IsFull}
use Rattle.bx_read.proofs.full.rows.next_full.Goals as goal

pub returns-clause-full : goal.returns-clause-full
returns-clause-full c =
    let line = c.in_ok-line.line in
    let here = eqb-true line.at (c.args.at + c.args.count) (sym c.goes_on.ensures ∙ c.if-not-goes_on.false) in
    subst (λ n. IsFull c.args.text.now n line.bytes) here c.in_ok-line.ensures
