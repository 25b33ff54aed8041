use Rattle.std.proofs.Common.{◌≡◌, ◌∙◌, ◌∷◌, [], ap, sym, subst, arith, length}
use Rattle.std.proofs.lemmas.List.{take_all}
use Rattle.bx_journal_format.specs.Text.{ended}
use Rattle.bx_journal_image.specs.Entry.{IsBeginning, IsOlderBeginning}
use Rattle.bx_journal_image.specs.Seal.{Widens}
use Rattle.bx_journal_image.proofs.EntryLemmas.{begin_long}
use Rattle.bx_journal_image.proofs.SpanLemmas.{widens_none, widens_told}
use Rattle.bx_journal_image.proofs.sealing.lengths.with_told.Goals as goal

pub returns-then-line-ne-FIRST : goal.returns-then-line-ne-FIRST
returns-then-line-ne-FIRST c bare is =
    widens_none bare c.args.span (λ l tells. absurd (omega (arith, c.if-line-ne-FIRST.true, ap length (is ∙ tells.is), begin_long tells.n l))) (λ older. c.requires (subst IsOlderBeginning (sym is) older))

pub returns-in-Some : goal.returns-in-Some
returns-in-Some c bare is =
    let told = c.in-Some.ensures in
    let all = take_all 34 c.args.line.now (omega (arith, c.if-line-ne-FIRST.false)) in
    let tells : IsBeginning (ended bare) c.in-Some.length = record { n = told.n; number = told.number; fits = told.fits; is = sym is ∙ sym all ∙ told.is } in
    subst (Widens (bare ∷ []) c.args.span) (sym c.with.ensures) (widens_told bare c.args.span c.in-Some.length tells (λ older. c.requires (subst IsOlderBeginning (sym is) older)))

pub returns-in-None : goal.returns-in-None
returns-in-None c bare is =
    let all = take_all 34 c.args.line.now (omega (arith, c.if-line-ne-FIRST.false)) in
    widens_none bare c.args.span (λ l tells. c.in-None.ensures l (record { n = tells.n; number = tells.number; fits = tells.fits; is = all ∙ is ∙ tells.is }))
    (λ older. c.requires (subst IsOlderBeginning (sym is) older))
