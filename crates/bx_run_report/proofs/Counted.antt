-- What an opening of devices that are only read says of their images.
use Rattle.std.proofs.Common.{◌≡◌, ◌∙◌, ℕ, List, Ok, subst, arith}
use Rattle.bx_image.specs.declared.device.Device.{Ghosts as DeviceViews}
use Rattle.bx_journal_store.specs.declared.store.TextStore.{Ghosts as StoreViews}
use Rattle.bx_journal_model.proofs.Phases.{length-stack_of}
use Rattle.bx_journal.specs.Devices.{Devices}
use Rattle.bx_journal.specs.RecoveryOutcome.TheVariants.{Clean}
use Rattle.bx_journal.specs.Machine.{changes_of}
use Rattle.bx_journal.specs.Opened.{OpensDevices}
use Rattle.bx_journal.specs.Recovered.{Recovered}
use Rattle.bx_journal.specs.Redo.{IsRedoOf}
use Rattle.bx_journal.specs.SessionView.{SessionView}
use Rattle.bx_journal.specs.Stack.{StandsFor, image_at, recovered}
use Rattle.bx_run_report.specs.report.Devices.{HoldBytes}
use Rattle.bx_run_report.specs.report.Stepped.{CountsHeld}

-- where nothing is unfinished, the session counts the images that the three hold
pub opened_images : {D T : Type 0} (d : DeviceViews D) (t : StoreViews T) (old : Devices D T) (image journal redo : List ℕ)
    → HoldBytes d t image journal redo old → (s : SessionView D T) (found : Recovered) → OpensDevices d t old (Ok (s, found)) → found.how ≡ Clean
    → CountsHeld image journal redo s
opened_images d t old image journal redo holds s found opens clean =
    let pair = opens.spares.clean holds.image_faithful holds.journal_faithful clean in
    let redo_same = opens.redo.clean_redo holds.redo_faithful clean in
    let accepted = opens.text.accepted holds.journal_faithful in
    let is = opens.found.opened holds.image_faithful holds.journal_faithful accepted.0 accepted.1 in
    let below = image_at accepted.0.stage (d.image old.image) in
    let stack : List (List ℕ) = recovered accepted.0 (d.image old.image) in
    let stands : StandsFor journal image stack =
    subst (λ y. StandsFor journal y stack) (pair.1 ∙ holds.image_is) (subst (λ u. StandsFor u (d.image s.image) stack) (pair.0 ∙ holds.journal_is) is.stands) in
    let long : s.count ≡ changes_of stack = omega (arith, opens.found.fresh.0, is.changes_are, length-stack_of accepted.0.entries below) in
    let some = opens.redo.undone holds.image_faithful holds.journal_faithful holds.redo_faithful in
    let undone : IsRedoOf redo image s.count some.0 =
    subst (λ y. IsRedoOf redo y s.count some.0) (pair.1 ∙ holds.image_is)
    (subst (λ u. IsRedoOf u (d.image s.image) s.count some.0) (redo_same ∙ holds.redo_is) some.1.redo) in (
      record { stack = stack; undone = some.0 },
      record { stack = stands; undone = subst (λ n. IsRedoOf redo image n some.0) long undone },
      record { count = long; undone = some.1.counted },
    )
