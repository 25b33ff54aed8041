use Rattle.std.proofs.Common.{◌≡◌, ◌≤◌, ◌%◌, ◌+◌, length, subst, ◌∙◌, sym, ap, arith, ◌^◌, inl, inr}
use Rattle.std.proofs.lemmas.Bool.{cases_lt}
use Rattle.std.proofs.lemmas.List.{length-append}
use Rattle.bx_dd.specs.Output.{turned_blocks}
use Rattle.bx_dd.specs.Standing.{Progress, IsAfter}
use Rattle.bx_dd.proofs.ConvertLemmas.{joined_more}
use Rattle.bx_dd.proofs.RecordsLemmas.{mod_more}
use Rattle.bx_dd.proofs.convert.Convert.block.Goals as goal

pub invariant_of-next : goal.invariant_of-next
invariant_of-next g c =
    let i = c.next.inside in
    let n = length c.args.b.now in
    let inv = c.next.invariant in
    let W : Progress → Type 0 = λ p. p.taken % p.form.ibs ≡ 0 in
    let whole = subst W (sym c.next.view_is) c.requires.whole in
    let F : Progress → Type 0 = λ p. n ≤ p.form.ibs in
    let fits = subst F (sym c.next.view_is) c.requires.fits in
    let M : Progress → Type 0 = λ p. p.taken + n ≤ 2 ^ 40 in
    let few = subst M (sym c.next.view_is) c.requires.few in
    let within = c.in_ok-tail.ensures.within in
    let cut = inv.6 whole in (
      inv.0,
      within.0,
      λ other. omega (arith, inv.2 other, c.in_ok-tail.ensures.space),
      c.in_ok-tail.ensures.part,
      few,
      omega (arith, within.1, cut, inv.0.few_ibs),
      λ again. elim (cases_lt n i.form.ibs) [
        | inl short ↦ absurd (omega (arith, mod_more i.taken n i.form.ibs inv.0.some_ibs (omega (arith, whole, short)), again, whole, c.requires.some))
        | inr full ↦ let same : n ≡ i.form.ibs = omega (arith, fits) in omega (arith, within.2 same, cut)
      ],
    )

pub returns-clause-after : goal.returns-clause-after
returns-clause-after g c input after =
    let i = c.next.inside in
    let b = c.args.b.now in
    let inv = c.next.invariant in
    let P : Progress → Type 0 = λ p. IsAfter input p in
    let was = subst P (sym c.next.view_is) after in
    let W : Progress → Type 0 = λ p. p.taken % p.form.ibs ≡ 0 in
    let whole = subst W (sym c.next.view_is) c.requires.whole in
    let F : Progress → Type 0 = λ p. length b ≤ p.form.ibs in
    let fits = subst F (sym c.next.view_is) c.requires.fits in
    let so_far : length input % i.form.ibs ≡ 0 = ap (λ n. n % i.form.ibs) (sym was.0) ∙ whole in (
      ap (λ n. n + length b) was.0 ∙ sym (length-append input b),
      rw (joined_more i.form input b inv.0.some_ibs so_far c.requires.some fits) (c.in_ok-tail.ensures.next (turned_blocks i.form input) was.1),
    )
