use Rattle.std.proofs.Common.{◌+◌, length, suc, refl, ap, sym, ◌∙◌, arith, ◌≡◌, ◌∷◌}
use Rattle.bx_journal_format.specs.declared.read.count.Place.TheVariants.{Ending as EndingPlace}
use Rattle.bx_journal_format.specs.declared.read.count.Tally.{Tally}
use Rattle.bx_journal_format.specs.Text.{Between, next_at}
use Rattle.bx_journal_format.proofs.StepLemmas.{ends, goes_on}
use Rattle.bx_journal_format.proofs.TallyLemmas.{has_form}
use Rattle.bx_journal_format.proofs.read.classify.classify.Goals as goal

pub returns-in_err-after-in-Ending : goal.returns-in_err-after-in-Ending
returns-in_err-after-in-Ending c r is =
    let was = has_form r.stage (EndingPlace c.in-Ending.version) (ap (λ (t : Tally). t.place) is ∙ c.in-Ending.is) in
    let number : suc (length r.entries) ≡ c.args.tally.count + 1 = omega (arith, ap (λ (t : Tally). t.count) is) in
    rw (c.from_residual.ensures) (ap (λ z. next_at r.entries z c.args.line.now) was.1 ∙ goes_on r.entries (c.args.tally.count + 1) c.in-Ending.version was.0 c.args.line.now number (sym c.in_err-after-in-Ending.ensures))

pub returns-in_ok-after-in-Ending : goal.returns-in_ok-after-in-Ending
returns-in_ok-after-in-Ending c r is =
    let was = has_form r.stage (EndingPlace c.in-Ending.version) (ap (λ (t : Tally). t.place) is ∙ c.in-Ending.is) in
    let number : suc (length r.entries) ≡ c.args.tally.count + 1 = omega (arith, ap (λ (t : Tally). t.count) is) in
    let after = c.in_ok-after-in-Ending.after in
    record {
      reading = record { entries = record { saved = was.0; after = after } ∷ r.entries; stage = Between };
      leads = ap (λ z. next_at r.entries z c.args.line.now) was.1 ∙ ends r.entries (c.args.tally.count + 1) c.in-Ending.version was.0 c.args.line.now number after (sym c.in_ok-after-in-Ending.ensures);
      is = (c.in-Ending.version, was.0, was.1, refl);
    }
