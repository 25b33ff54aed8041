use Rattle.std.proofs.Common.{◌≡◌, length, get_or, refl, ap, arith}
use Rattle.std.proofs.lemmas.Grind.{common_steps}
use Rattle.bx_journal_format.specs.Shown.{before_zero}
use Rattle.bx_journal_format.proofs.ShownLemmas.{before_at, before_none, before_end, plus_one}
use Rattle.bx_journal_format.proofs.read.shown.zero_at.Goals as goal

pub returns-then-text-i-eq0 : goal.returns-then-text-i-eq0
returns-then-text-i-eq0 c =
    let none : get_or c.args.text.now c.loop-i.i 0 ≡ 0 = grind (arith, common_steps) in
    omega (arith, c.loop-i.invariant, before_none c.args.text.now c.loop-i.i _ c.loop-i-test.true refl none)

pub loop-i-preserved : goal.loop-i-preserved
loop-i-preserved c =
    let some : get_or c.args.text.now c.loop-i.i 0 ≡ 0 → ⊥ = λ e. absurd (grind (arith, common_steps)) in
    omega (arith, c.loop-i.invariant, before_at c.args.text.now c.loop-i.i _ c.loop-i-test.true refl some, ap (λ l. length (before_zero l)) (plus_one c.args.text.now c.loop-i.i))

pub returns : goal.returns
returns c = omega (arith, c.loop-i.invariant, c.loop-i-test.false, c.loop-i.auto.i-end, before_end c.args.text.now c.loop-i.i (omega (arith, c.loop-i-test.false)))
