use Rattle.std.proofs.Common.{◌≡◌, ℕ, sym, subst, arith}
use Rattle.std.proofs.lemmas.Grind.{common_steps}
use Rattle.bx_journal_model.specs.Power.{FoundBefore}
use Rattle.bx_journal_model.specs.declared.fault.SessionFault.TheVariants.{Damaged}
use Rattle.bx_journal_model.specs.Undoing.{AgainFault}
use Rattle.bx_journal_format.specs.Finished.{IsFinished}
use Rattle.bx_journal_read.proofs.AgainLemmas.{in_step}
use Rattle.bx_journal.proofs.session.Session.log.Goals as goal

pub returns-in_err-rows-clause-undamaged : goal.returns-in_err-rows-clause-undamaged
returns-in_err-rows-clause-undamaged g c =
    rw (← c.self.view_is) (λ th has.
    let none : (line : ℕ) → c.in_err-rows.field-0.0 ≡ Damaged line → ⊥ =
    in_step (g.T.TextStore.faithful c.self.inside.devices.journal) (g.T.TextStore.text c.self.inside.devices.journal) c.self.inside.count c.in_err-rows.field-0.0 th has c.in_err-rows.ensures.fault in
    grind (arith, common_steps, none))

pub returns-in_err-rows-clause-fault : goal.returns-in_err-rows-clause-fault
returns-in_err-rows-clause-fault g c =
    rw (← c.self.view_is) (
    let fault : AgainFault (g.T.TextStore.faithful c.self.inside.devices.journal) (g.T.TextStore.text c.self.inside.devices.journal) c.self.inside.count c.in_err-rows.field-0.0 = c.in_err-rows.ensures.fault in
    grind (arith, common_steps, fault))

pub returns-clause-whole : goal.returns-clause-whole
returns-clause-whole g c =
    rw (← c.self.view_is) (λ th.
    let rows = c.in_ok-rows.ensures.rows in (rows.entries, subst (λ t. IsFinished t rows.entries) (sym (rows.is th)) rows.finished, rows.counted))

pub returns-in_err-rows-clause-found_before : goal.returns-in_err-rows-clause-found_before
returns-in_err-rows-clause-found_before g c =
    let before : FoundBefore g.D.Device g.T.TextStore c.self.inside.devices (record { image = c.self.inside.devices.image; journal = c.rows_of_text.new.journal; redo = c.self.inside.devices.redo }) =
    record { image_before = λ h x there. there; journal_before = c.rows_of_text.ensures.found_before; redo_before = λ h x there. there } in
    rw (← c.self.view_is) before

pub returns-clause-found_before : goal.returns-clause-found_before
returns-clause-found_before g c =
    let before : FoundBefore g.D.Device g.T.TextStore c.self.inside.devices (record { image = c.self.inside.devices.image; journal = c.rows_of_text.new.journal; redo = c.self.inside.devices.redo }) =
    record { image_before = λ h x there. there; journal_before = c.rows_of_text.ensures.found_before; redo_before = λ h x there. there } in
    rw (← c.self.view_is) before
