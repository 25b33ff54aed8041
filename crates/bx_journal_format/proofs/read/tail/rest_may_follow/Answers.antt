use Rattle.std.proofs.Common.{◌∙◌, ◌↔◌, ap, sym, subst, arith}
use Rattle.std.specs.Prelude.{IsTrue}
use Rattle.bx_journal_format.specs.Text.{IsRest}
use Rattle.bx_journal_format.specs.declared.read.count.Place.TheVariants.{Between as BetweenPlace, Saving as SavingPlace, Ending as EndingPlace}
use Rattle.bx_journal_format.specs.declared.read.count.Tally.{Tally}
use Rattle.bx_journal_format.proofs.TallyLemmas.{has_form}
use Rattle.bx_journal_format.proofs.read.tail.rest_may_follow.Goals as goal

pub returns-in-Between : goal.returns-in-Between
returns-in-Between c r is =
    let form = has_form r.stage BetweenPlace (ap (λ (u : Tally). u.place) is ∙ c.in-Between.is) in
    subst (λ stage. IsTrue c.rest_between.result ↔ IsRest r.entries stage c.args.rest.now) (sym form)
    ((c.rest_between.ensures r.entries (omega (arith, ap (λ (u : Tally). u.count) is)) (sym (ap (λ (u : Tally). u.told) is))))

pub returns-in-Saving : goal.returns-in-Saving
returns-in-Saving c r is =
    let form = has_form r.stage (SavingPlace c.in-Saving.version c.in-Saving.len) (ap (λ (u : Tally). u.place) is ∙ c.in-Saving.is) in
    subst (λ stage. IsTrue c.rest_saving.result ↔ IsRest r.entries stage c.args.rest.now) (sym form.1)
    ((c.rest_saving.ensures r.entries c.in-Saving.version form.0 (omega (arith, ap (λ (u : Tally). u.count) is))))

pub returns-in-Ending : goal.returns-in-Ending
returns-in-Ending c r is =
    let form = has_form r.stage (EndingPlace c.in-Ending.version) (ap (λ (u : Tally). u.place) is ∙ c.in-Ending.is) in
    subst (λ stage. IsTrue c.rest_ending.result ↔ IsRest r.entries stage c.args.rest.now) (sym form.1)
    ((c.rest_ending.ensures r.entries form.0 (omega (arith, ap (λ (u : Tally). u.count) is))))
