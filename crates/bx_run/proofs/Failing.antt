-- Commands that end in the fault of a device.
use Rattle.std.proofs.Common.{◌≡◌, ◌∙◌, ◌<◌, ◌≤◌, ◌+◌, ◌^◌, ℕ, Bool, cond, true, false, arith, Option, Some, None, refl, sym}
use Rattle.std.specs.Prelude.{Result, Ok, Err, IfErr, OnOk, is_err}
use Rattle.bx_image.specs.declared.device.Device.{Ghosts as DeviceViews}
use Rattle.bx_journal_store.specs.declared.store.TextStore.{Ghosts as StoreViews}
use Rattle.bx_cli_commands.specs.declared.fault.Fault.{Fault}
use Rattle.bx_journal.specs.Devices.{Devices}
use Rattle.bx_journal.specs.SessionFault.{SessionFault}
use Rattle.bx_journal.specs.SessionFault.TheVariants.{DeviceFailed, Interrupted}
use Rattle.bx_journal.specs.Forgotten.{ForgetDevicesFault}
use Rattle.bx_journal.specs.Opening.{ThreeCounts}
use Rattle.bx_journal.specs.ThreeDevices.{AreCounted, AreUnfailed}
use Rattle.bx_world.specs.World.{failed_calls}
use Rattle.bx_world.specs.declared.files.unopened.OpenError.{OpenError}
use Rattle.bx_world.specs.declared.files.unopened.OpenFailure.{OpenFailure}
use Rattle.bx_world.specs.declared.files.unopened.OpenFailure.TheVariants.{System, Unfit, Alias, Another}
use Rattle.bx_run.specs.forget.Forgetting.{in_places}
use Rattle.bx_run.specs.run.Outcome.{ended_with, task_fault, unopened_fault}
use Rattle.bx_run_model.specs.Failures.{is_device_fault, is_failed}

never : false ≡ true → ⊥
never is = cc

never_unopened : (why : OpenFailure) → is_device_fault (unopened_fault why) ≡ false
never_unopened (System refusal) = refl
never_unopened (Unfit unfit) = refl
never_unopened Alias = refl
never_unopened Another = refl

-- a file that isn't opened is no failure of a device
pub failed_begun : {V : Type 0} (u : Option OpenError) (r : Result V Fault) → is_failed (ended_with (task_fault u) r) ≡ true → is_failed r ≡ true
failed_begun u (Ok v) is = is
failed_begun None (Err e) is = is
failed_begun (Some file) (Err e) is = absurd (never (sym (never_unopened file.why) ∙ is))

-- how an emptying counts: each text's count rises by one at most, and all together where a device stopped it
counts_on : (outcome : Result (Unit {0}) SessionFault) (d t u d_new t_new u_new : ℕ) → IfErr outcome ForgetDevicesFault
    → IfErr outcome (λ e. ThreeCounts e d t u d_new t_new u_new) → OnOk outcome ((d_new ≡ d) × (t_new ≡ t) × (u_new ≡ u))
    → ((t ≤ t_new) × (t_new ≤ t + 1) × (u ≤ u_new) × (u_new ≤ u + 1)) × (is_err outcome ≡ true → d + t + u < d_new + t_new + u_new)
counts_on (Ok done) d t u d_new t_new u_new fault counts none = ((omega arith, omega arith, omega arith, omega arith), λ is. absurd (never is))
counts_on (Err DeviceFailed) d t u d_new t_new u_new fault counts none = ((omega arith, omega arith, omega arith, omega arith), λ is. omega arith)
counts_on (Err Interrupted) d t u d_new t_new u_new fault counts none = ((omega arith, omega arith, omega arith, omega arith), λ is. omega arith)
counts_on (Err e) d t u d_new t_new u_new fault counts none = absurd fault

-- so the texts, in the places of their files, count from 0 and from 2 ^ 32 as before, and a call failed where a device stopped it
pub counts_placed : {D T : Type 0} (d : DeviceViews D) (t : StoreViews T) (exchanged : Bool) (a b y : Devices D T) (i : D) (j r : T)
    → a ≡ in_places exchanged (record { image = i; journal = j; redo = r }) → y ≡ in_places exchanged b → (outcome : Result (Unit {0}) SessionFault)
    → IfErr outcome ForgetDevicesFault → AreCounted d t a b outcome → AreUnfailed d t a b outcome → d.failures i ≡ 0 → t.failures j ≡ 0 → t.failures r ≡ 2 ^ 32
    → (t.failures y.journal < 2 ^ 32) × (2 ^ 32 ≤ t.failures y.redo)
    × (is_err outcome ≡ true → 0 < failed_calls (d.failures y.image) (t.failures y.journal) (t.failures y.redo))
counts_placed d t exchanged a b y i j r is closed outcome fault counted unfailed image journal redo =
    rw closed (by exchanged (rw is at counted) (rw is at unfailed))
  where
    by : (e : Bool) → AreCounted d t (in_places e (record { image = i; journal = j; redo = r })) b outcome
        → AreUnfailed d t (in_places e (record { image = i; journal = j; redo = r })) b outcome
        → (t.failures (in_places e b).journal < 2 ^ 32) × (2 ^ 32 ≤ t.failures (in_places e b).redo)
        × (is_err outcome ≡ true → 0 < failed_calls (d.failures b.image) (t.failures (in_places e b).journal) (t.failures (in_places e b).redo))
    by false counted unfailed =
        let on = counts_on outcome (d.failures i) (t.failures j) (t.failures r) (d.failures b.image) (t.failures b.journal) (t.failures b.redo) fault
        counted unfailed in
        let most = on.0 in
        (omega (arith, journal, redo, most), omega (arith, journal, redo, most), λ is. let more = on.1 is in omega (arith, image, journal, redo, more))
    by true counted unfailed =
        let on = counts_on outcome (d.failures i) (t.failures r) (t.failures j) (d.failures b.image) (t.failures b.journal) (t.failures b.redo) fault
        counted unfailed in
        let most = on.0 in
        (omega (arith, journal, redo, most), omega (arith, journal, redo, most), λ is. let more = on.1 is in omega (arith, image, journal, redo, more))

-- a note that isn't read counts a call
pub note_least : (is_read : Bool) (old new : ℕ) → new ≡ cond is_read old (old + 1) → old ≤ new
note_least true old new counts = omega arith
note_least false old new counts = omega arith

pub failed_judging : (is_read : Bool) (old mid last failed : ℕ) → mid ≡ cond is_read old (old + 1) → last ≡ mid + failed → (is_read ≡ true → 0 < failed) → old < last
failed_judging true old mid last failed counts closed some = let one = some refl in omega arith
failed_judging false old mid last failed counts closed some = omega arith
