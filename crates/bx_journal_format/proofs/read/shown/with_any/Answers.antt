use Rattle.std.proofs.Common.{◌≡◌, ◌∷◌, arith, sym, subst}
use Rattle.std.proofs.lemmas.Grind.{common_steps}
use Rattle.bx_journal_format.specs.read.Left.{is_torn}
use Rattle.bx_journal_format.specs.declared.read.shown.LastLine.TheVariants.{Other}
use Rattle.bx_journal_format.proofs.ZeroLemmas.{foreign_above, foreign_below, foreign_ends, zero_ends}
use Rattle.bx_journal_format.proofs.read.shown.with_any.Goals as goal

pub returns-then-b-eq0 : goal.returns-then-b-eq0
returns-then-b-eq0 c rest =
    let none : c.args.b ≡ 0 = grind (arith, common_steps) in
    subst (λ b. is_torn c.args.line (b ∷ rest) ≡ is_torn Other rest) (sym none) (zero_ends c.args.line rest)

pub returns-then-b-lt32 : goal.returns-then-b-lt32
returns-then-b-lt32 c rest =
    let line : c.args.b ≡ 10 → ⊥ = λ e. absurd (grind (arith, common_steps)) in
    let some : c.args.b ≡ 0 → ⊥ = λ e. absurd (grind (arith, common_steps)) in
    foreign_ends c.args.line c.args.b rest (foreign_below c.args.b line some c.if-b-lt32.true)

pub returns-then-b-gt126 : goal.returns-then-b-gt126
returns-then-b-gt126 c rest = foreign_ends c.args.line c.args.b rest (foreign_above c.args.b c.if-b-gt126.true)
