-- What a task that was obeyed makes of the contents of its devices.
use Rattle.std.proofs.Common.{◌≡◌, ◌<◌, ◌≤◌, ◌+◌, ◌^◌, ℕ, Bool, true, false, cond, Option, List, sym, subst, arith}
use Rattle.bx_image.specs.declared.device.Device.{Ghosts as DeviceViews}
use Rattle.bx_journal_store.specs.declared.store.TextStore.{Ghosts as StoreViews}
use Rattle.bx_journal.specs.Images.{Images}
use Rattle.bx_journal.specs.Machine.{changes_of}
use Rattle.bx_journal.specs.Opening.{ThreeCounts}
use Rattle.bx_journal.specs.Redo.{IsRedoOf}
use Rattle.bx_journal.specs.Session.{HasUndone, IsReady}
use Rattle.bx_journal.specs.SessionView.{SessionView, devices_of}
use Rattle.bx_journal.specs.SessionFault.{SessionFault}
use Rattle.bx_cli_commands.specs.declared.command.Reply.{Reply}
use Rattle.bx_cli_commands.specs.declared.command.Reply.TheVariants.{Refused}
use Rattle.bx_cli_commands.specs.declared.fault.Fault.TheVariants.{Session}
use Rattle.bx_cli_commands.specs.Obeys.{Obeys}
use Rattle.bx_cli_commands.specs.Refusal.{IsWholeRefusal}
use Rattle.bx_cli_commands.specs.Run.{Unfailed, is_failure}
use Rattle.bx_cli_commands.specs.Standing.{CountsBy, HoldsAt, Shows, Standing}
use Rattle.bx_cli_commands.proofs.Steps.{counts_least, counts_rise}
use Rattle.bx_run_session.specs.declared.session.task.Task.{Task}
use Rattle.bx_run_session.specs.session.Task.{TaskStep}
use Rattle.bx_run_session.specs.session.Guarded.{AreFew, RiseByOne, failed_by}
use Rattle.bx_world.specs.World.{failed_calls}
use Rattle.bx_journal.specs.Devices.{Devices}
use Rattle.bx_run_session.specs.session.Contents.{AreFresh, AreFaithful, AreInPlace, EndsAt, StandsIn, StepsTo, Survives, held_by}

-- counts that rose by no more than one stand where they began
placed : (b : Bool) (t_new u_new d_new d t u : ℕ) → d ≤ d_new → t ≤ t_new → u ≤ u_new → d_new + t_new + u_new ≡ d + t + u + cond b 1 0
    → d ≡ 0 → t ≡ 0 → u ≡ 2 ^ 32 → (t_new < 2 ^ 32) × (2 ^ 32 ≤ u_new)
placed true t_new u_new d_new d t u d_least t_least u_least rise d_is t_is u_is = (omega arith, omega arith)
placed false t_new u_new d_new d t u d_least t_least u_least rise d_is t_is u_is = (omega arith, omega arith)

few : (b : Bool) (t_new u_new d_new d t u : ℕ) → d ≤ d_new → t ≤ t_new → u ≤ u_new → d_new + t_new + u_new ≡ d + t + u + cond b 1 0
    → d ≡ 0 → t ≡ 0 → u ≡ 2 ^ 32 → (d_new ≤ 1) × (t_new ≤ 1) × (u_new ≤ 2 ^ 32 + 1)
few true t_new u_new d_new d t u d_least t_least u_least rise d_is t_is u_is = (omega arith, omega arith, omega arith)
few false t_new u_new d_new d t u d_least t_least u_least rise d_is t_is u_is = (omega arith, omega arith, omega arith)

-- and where a device failed one did
risen : (b : Bool) (t_new u_new d_new d t u : ℕ) → d ≤ d_new → t ≤ t_new → u ≤ u_new → d_new + t_new + u_new ≡ d + t + u + cond b 1 0
    → d ≡ 0 → t ≡ 0 → u ≡ 2 ^ 32 → b ≡ true → 0 < failed_calls d_new t_new u_new
risen true t_new u_new d_new d t u d_least t_least u_least rise d_is t_is u_is is = omega arith
risen false t_new u_new d_new d t u d_least t_least u_least rise d_is t_is u_is is = absurd (let wrong : false ≡ true = is in cc)

pub failed_refused : (e : SessionFault) (d t u d_new t_new u_new : ℕ) → ThreeCounts e d t u d_new t_new u_new → d ≡ 0 → t ≡ 0 → u ≡ 2 ^ 32
    → is_failure (Refused (Session e)) ≡ true → 0 < failed_calls d_new t_new u_new
failed_refused e d t u d_new t_new u_new counts d_is t_is u_is =
    let least = counts_least e d t u d_new t_new u_new counts in
    risen (is_failure (Refused (Session e))) t_new u_new d_new d t u least.0 least.1 least.2 (counts_rise e d t u d_new t_new u_new counts) d_is t_is u_is

pub few_refused : (e : SessionFault) (d t u d_new t_new u_new : ℕ) → ThreeCounts e d t u d_new t_new u_new → d ≡ 0 → t ≡ 0 → u ≡ 2 ^ 32
    → (d_new ≤ 1) × (t_new ≤ 1) × (u_new ≤ 2 ^ 32 + 1)
few_refused e d t u d_new t_new u_new counts d_is t_is u_is =
    let least = counts_least e d t u d_new t_new u_new counts in
    few (is_failure (Refused (Session e))) t_new u_new d_new d t u least.0 least.1 least.2 (counts_rise e d t u d_new t_new u_new counts) d_is t_is u_is

-- behind an opening that was refused
pub placed_refused : (e : SessionFault) (d t u d_new t_new u_new : ℕ) → ThreeCounts e d t u d_new t_new u_new → d ≡ 0 → t ≡ 0 → u ≡ 2 ^ 32
    → (t_new < 2 ^ 32) × (2 ^ 32 ≤ u_new)
placed_refused e d t u d_new t_new u_new counts d_is t_is u_is =
    let least = counts_least e d t u d_new t_new u_new counts in
    placed (is_failure (Refused (Session e))) t_new u_new d_new d t u least.0 least.1 least.2 (counts_rise e d t u d_new t_new u_new counts) d_is t_is u_is

module _ {D T : Type 0} (d : DeviceViews D) (t : StoreViews T) where
  ends_at : (new : SessionView D T) (after : Standing) → HoldsAt d t new after → EndsAt (held_by d t (devices_of new)) after
  ends_at new (Standing.Up s) h =
      let ready = h.3.0 in
      let count = ready.count in
      let changes : changes_of s.stack ≡ new.count = omega (arith, count) in
      (ready.rest, subst (λ n. IsRedoOf (t.text new.redo) (d.image new.image) n s.undone) (sym changes) h.3.1.redo)
  ends_at new (Standing.Down s) h = h.3.1

  stands_in : (new : SessionView D T) (s : Images) → Shows d.image t.text new s → StandsIn (held_by d t (devices_of new)) s
  stands_in new s shows =
      let count = shows.0.count in
      let changes : changes_of s.stack ≡ new.count = omega (arith, count) in
      (shows.0.stands, subst (λ n. IsRedoOf (t.text new.redo) (d.image new.image) n s.undone) (sym changes) shows.1.redo)

  -- behind a task
  pub placed_behind : (old new : SessionView D T) (b : Bool) → CountsBy d t old new (cond b 1 0) → AreFresh d t (devices_of old)
      → AreInPlace d t (devices_of new)
  placed_behind old new b counts fresh =
      placed b _ _ _ _ _ _ counts.image_least counts.journal_least counts.redo_least counts.rise fresh.0 fresh.1 fresh.2

  pub few_behind : (old new : SessionView D T) (b : Bool) → CountsBy d t old new (cond b 1 0) → AreFresh d t (devices_of old)
      → AreFew d t (devices_of new)
  few_behind old new b counts fresh =
      few b _ _ _ _ _ _ counts.image_least counts.journal_least counts.redo_least counts.rise fresh.0 fresh.1 fresh.2

  pub failed_behind : (old new : SessionView D T) (b : Bool) → CountsBy d t old new (cond b 1 0) → AreFresh d t (devices_of old) → b ≡ true
      → 0 < failed_by d t (devices_of new)
  failed_behind old new b counts fresh =
      risen b _ _ _ _ _ _ counts.image_least counts.journal_least counts.redo_least counts.rise fresh.0 fresh.1 fresh.2

  -- what failed stays counted
  pub failed_still : (old new : Devices D T) → RiseByOne d t old new → 0 < failed_by d t old → 0 < failed_by d t new
  failed_still old new rise before =
      let image = rise.image_least in
      let journal = rise.journal_least in
      let redo = rise.redo_least in
      omega (arith, image, journal, redo, before)

module _ {D T R : Type 0} (d : DeviceViews D) (t : StoreViews T) (remaining : R → Option (List ℕ)) where
  pub steps_of : (old new : SessionView D T) (c : Task R) (reply : Reply) → Obeys d t old new reply (λ before. TaskStep remaining before c)
      → AreFaithful d t (devices_of old) → (s : Images) → IsReady d.image t.text old s.stack → HasUndone d.image t.text old s.undone
      → StepsTo remaining s c reply (held_by d t (devices_of new))
  steps_of old new c reply obeys faithful s ready undone =
      let made = obeys.step (Standing.Up s) (faithful.0, faithful.1, faithful.2, (ready, undone)) in
      (made.0, made.2, ends_at d t new made.0 made.1)

  pub survives_of : (old new : SessionView D T) (c : Task R) (reply : Reply) → Obeys d t old new reply (λ before. TaskStep remaining before c)
      → AreFaithful d t (devices_of old) → (s : Images) → IsReady d.image t.text old s.stack → HasUndone d.image t.text old s.undone
      → (IsWholeRefusal reply → ⊥) → Survives remaining s c reply (d.survives new.image) (t.survives new.journal) (t.survives new.redo)
  survives_of old new c reply obeys faithful s ready undone stopped x text redo_text there text_there redo_there =
      let found = obeys.finds stopped (Standing.Up s) (faithful.0, faithful.1, faithful.2, (ready, undone)) x text redo_text there text_there redo_there in
      (found.0, found.1, found.2)

  pub stands_of : (old new : SessionView D T) (c : Task R) (reply : Reply) → Obeys d t old new reply (λ before. TaskStep remaining before c)
      → AreFaithful d t (devices_of old) → Unfailed reply → (s : Images) → Shows d.image t.text old s
      → (next : Images) × TaskStep remaining (Standing.Up s) c reply (Standing.Up next) × StandsIn (held_by d t (devices_of new)) next
  stands_of old new c reply obeys faithful unfailed s shows =
      let made = obeys.stands faithful.0 faithful.1 faithful.2 unfailed s shows in
      (made.0, made.2, stands_in d t new made.0 made.1)
