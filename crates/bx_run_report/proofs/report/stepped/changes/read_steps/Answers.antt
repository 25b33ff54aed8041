use Rattle.std.proofs.Common.{◌∙◌, ◌≤◌, ℕ, List, ◌∷◌, sym, subst}
use Rattle.std.proofs.lemmas.Result.{IfOk-weaker}
use Rattle.bx_journal.specs.Stack.{StandsFor}
use Rattle.bx_journal.specs.Undoing.{HasCount}
use Rattle.bx_run_report.proofs.StepsRead.{journal_count, redo_count, redo_leads}
use Rattle.bx_run_report.proofs.report.stepped.changes.read_steps.Goals as goal

pub returns-in-Undo-clause-fails : goal.returns-in-Undo-clause-fails
returns-in-Undo-clause-fails g c x text redo s devices images is =
    let P : List ℕ → Type 0 = λ u. HasCount u c.args.have in
    c.read_changes.ensures.fails devices.journal_faithful
    (subst P (sym devices.journal_is) (journal_count x text redo s images c.args.have (rw c.in-Undo.is at is)))

pub returns-in-Redo-clause-makes : goal.returns-in-Redo-clause-makes
returns-in-Redo-clause-makes g c x text redo s devices images is =
    let P : List ℕ → Type 0 = λ u. StandsFor u x (x ∷ s.undone) in
    let few = subst (λ n. c.args.k ≤ n) (rw c.in-Redo.is at is) c.requires.few in
    rw c.in-Redo.is (IfOk-weaker c.read_changes-in-Redo.result _ _ (λ cs made. made ∙ redo_leads x text redo s images c.args.k few)
    (c.read_changes-in-Redo.ensures.makes devices.redo_faithful x (x ∷ s.undone) (subst P (sym devices.redo_is) images.undone.stands)))

pub returns-in-Redo-clause-fails : goal.returns-in-Redo-clause-fails
returns-in-Redo-clause-fails g c x text redo s devices images is =
    let P : List ℕ → Type 0 = λ u. HasCount u c.args.have in
    c.read_changes-in-Redo.ensures.fails devices.redo_faithful
    (subst P (sym devices.redo_is) (redo_count x text redo s images c.args.have (rw c.in-Redo.is at is)))
