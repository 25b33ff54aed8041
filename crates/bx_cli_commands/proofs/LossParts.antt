-- What is found behind an opening and a list of commands, whatever moment the power is lost at.
use Rattle.std.proofs.Common.{◌≡◌, ◌⊎◌, ℕ, Option, Ok, Err, List, refl}
use Rattle.std.specs.Prelude.{MatchResult}
use Rattle.bx_image.specs.declared.device.Device.{Ghosts as DeviceViews}
use Rattle.bx_journal_store.specs.declared.store.TextStore.{Ghosts as StoreViews}
use Rattle.bx_journal.specs.Devices.{Devices}
use Rattle.bx_journal.specs.RecoveryOutcome.{RecoveryOutcome}
use Rattle.bx_journal.specs.RecoveryOutcome.TheVariants.{Clean, Dropped, Restored}
use Rattle.bx_journal.specs.Recovered.{Recovered}
use Rattle.bx_journal.specs.Images.{Images}
use Rattle.bx_journal.specs.Losses.{AllFound, emptied}
use Rattle.bx_journal.specs.Opened.{Opening, OpensDevices}
use Rattle.bx_journal.specs.SessionView.{SessionView, devices_of}
use Rattle.bx_journal.specs.Redo.{recovered_as}
use Rattle.bx_journal.proofs.LossLaws.{opening_finds}
use Rattle.bx_cli_commands.specs.declared.command.Command.{Command}
use Rattle.bx_cli_commands.specs.declared.command.Reply.{Reply}
use Rattle.bx_cli_commands.specs.Loss.{AllFoundBehind, AllFoundInPart, AreOnDisk}
use Rattle.bx_cli_commands.specs.Obeys.{Obeys}
use Rattle.bx_cli_commands.specs.Refusal.{IsWholeRefusal}
use Rattle.bx_cli_commands.specs.Power.{RunFinds, images_of}
use Rattle.bx_cli_commands.specs.Standing.{HoldsAt, Standing}
use Rattle.bx_cli_commands.proofs.Stopped.{ends_in_part}

module _ {D T : Type 0} (d : DeviceViews D) (t : StoreViews T) where
  -- beside finished entries alone all that was undone is kept, else nothing
  found_as : (how : RecoveryOutcome) (x : Devices D T) (s : Images) → (how ≡ Clean → AllFound d t x s) → ((how ≡ Clean → ⊥) → AllFound d t x (emptied s))
      → AllFound d t x (recovered_as how s)
  found_as Clean x s clean other = λ y text redo image_there there redo_there.
      let found = clean refl y text redo image_there there redo_there in
      record { recovers = found.recovers; undone = found.undone }
  found_as Dropped x s clean other = other (λ is. cc)
  found_as (Restored n) x s clean other = other (λ is. cc)

  -- what is found behind an opening
  pub opened_found : (x : Devices D T) (o : SessionView D T × Recovered) (s : Images) → AreOnDisk d t x s → OpensDevices d t x (Ok o)
      → AllFound d t (devices_of o.0) (recovered_as o.1.how s)
  opened_found x o s on opens =
      found_as o.1.how (devices_of o.0) s
      (λ clean y text redo image_there there redo_there.
      let before = opens.found_before clean in
      on.all y text redo (before.image_before on.image y image_there) (before.journal_before on.journal text there)
      (before.redo_before on.redo redo redo_there))
      (λ unclean. opens.survives on.image on.journal on.redo s on.found unclean)

  -- the session stands there
  pub opened_holds : (x : Devices D T) (o : SessionView D T × Recovered) (s : Images) → AreOnDisk d t x s → OpensDevices d t x (Ok o)
      → HoldsAt d t o.0 (Standing.Up (recovered_as o.1.how s))
  opened_holds x o s on opens = (
    opens.devices.image_faith.1 on.image,
    opens.devices.journal_faith.1 on.journal,
    opens.devices.redo_faith.1 on.redo,
    (opens.keeps on.image on.journal s.stack on.found.recovers, opens.redo.keeps_undone on.image on.journal on.redo s on.found),
  )

  -- what is found behind a run from there
  pub run_in_part : {R A : Type 0} (remaining : R → Option (List ℕ)) (old new : SessionView D T) (start : Images) (list : List (Command R A)) (replies : List Reply)
      → HoldsAt d t old (Standing.Up start) → AllFound d t (devices_of old) start → RunFinds d t remaining old list replies new
      → AllFoundInPart d t remaining (devices_of new) start list replies
  run_in_part remaining old new start list replies holds all run y text redo image_there there redo_there =
      let end = run (Standing.Up start) holds (λ refused. all) y text redo image_there there redo_there in
      (images_of end.0, ends_in_part remaining start end.0 list replies end.1, end.2)

  -- what is found behind an opening, and behind a run from there
  pub finds_in_part : {R : Type 0} (A : Type 0) (remaining : R → Option (List ℕ)) (x : Devices D T) (opened : Opening D T) (s : Images)
      → OpensDevices d t x opened → AreOnDisk d t x s
      → MatchResult opened
      (λ o. AllFound d t (devices_of o.0) (recovered_as o.1.how s)
      × ((list : List (Command R A)) (replies : List Reply) (new : SessionView D T) → RunFinds d t remaining o.0 list replies new
      → AllFoundInPart d t remaining (devices_of new) (recovered_as o.1.how s) list replies))
      (λ e. AllFound d t e.0 s ⊎ AllFound d t e.0 (emptied s))
  finds_in_part A remaining x (Ok o) s opens on = (
    opened_found x o s on opens,
    λ list replies new run. run_in_part remaining o.0 new (recovered_as o.1.how s) list replies (opened_holds x o s on opens) (opened_found x o s on opens) run,
  )
  finds_in_part A remaining x (Err e) s opens on = opening_finds d t x (Err e) s on.image on.journal on.redo opens on.found on.all

  -- what is found behind an opening, and behind one call from there
  pub one_in_part : (x : Devices D T) (o : SessionView D T × Recovered) (s : Images) → OpensDevices d t x (Ok o) → AreOnDisk d t x s
      → (reply : Reply) (new : SessionView D T) (Step : Standing → Reply → Standing → Type 0) → Obeys d t o.0 new reply Step
      → (IsWholeRefusal reply → AllFound d t (devices_of new) (recovered_as o.1.how s))
      × ((IsWholeRefusal reply → ⊥) → AllFoundBehind d t (devices_of new) (recovered_as o.1.how s) reply Step)
  one_in_part x o s opens on reply new Step obeys =
      let holds = opened_holds x o s on opens in
      let all = opened_found x o s on opens in (
        (λ whole y text redo image_there there redo_there.
            let before = obeys.found_before whole in
            all y text redo (before.image_before holds.0 y image_there) (before.journal_before holds.1 text there) (before.redo_before holds.2 redo redo_there)),
        (λ made y text redo image_there there redo_there.
            let end = obeys.finds made (Standing.Up (recovered_as o.1.how s)) holds y text redo image_there there redo_there in
            (end.0, end.1, end.2)),
      )
