-- What one command makes of a session.
use Rattle.std.specs.Prelude.{◌≡◌, ◌↔◌, cond}
use Rattle.bx_image.specs.declared.device.Device.{Ghosts as DeviceViews}
use Rattle.bx_journal_store.specs.declared.store.TextStore.{Ghosts as StoreViews}
use Rattle.bx_journal.specs.Power.{NothingNew}
use Rattle.bx_journal.specs.Session.{IsRedoSame}
use Rattle.bx_journal.specs.SessionView.{SessionView}
use Rattle.bx_cli_commands.specs.declared.command.Reply.{Reply}
use Rattle.bx_cli_commands.specs.Power.{FindsEnd}
use Rattle.bx_cli_commands.specs.Refusal.{IsOwnRefusal, IsWholeRefusal, KeepsImageAndJournal}
use Rattle.bx_cli_commands.specs.Run.{is_failure, Unfailed}
use Rattle.bx_cli_commands.specs.Standing.{CountsBy, HoldsAt, LeadsOn, Shows, Standing}

-- The session and the reply behind a command are as the step says, from where the session stood: on any devices, up to a
-- failure, and without one from any images that the devices stand for. After a loss of power opening finds what the step
-- leads to, and behind a refusal what was to be found before. A command that is refused for a fault of its own
-- leaves the session, and one that is refused, but by no interruption, leaves image, journal and redo text, byte for byte.
pub record Obeys {D T : Type 0} (d : DeviceViews D) (t : StoreViews T) (old new : SessionView D T) (reply : Reply)
    (Step : Standing → Reply → Standing → Type 0) : Type 0 where
  pub step : LeadsOn (HoldsAt d t) (λ before. Step before reply) old new
  pub stands : d.faithful old.image → t.faithful old.journal → t.faithful old.redo → Unfailed reply
      → LeadsOn (Shows d.image t.text) (λ before after. Step (Standing.Up before) reply (Standing.Up after)) old new
  pub finds : (IsWholeRefusal reply → ⊥) → (before : Standing) → HoldsAt d t old before → FindsEnd d t new (Step before reply)
  pub found_before : IsWholeRefusal reply → NothingNew d t old new
  pub image_faith : d.faithful new.image ↔ d.faithful old.image
  pub journal_faith : t.faithful new.journal ↔ t.faithful old.journal
  pub redo_faith : t.faithful new.redo ↔ t.faithful old.redo
  pub counts : CountsBy d t old new (cond (is_failure reply) 1 0)
  pub own : IsOwnRefusal reply → new ≡ old
  pub same : IsWholeRefusal reply → KeepsImageAndJournal d t old new
  pub redo_same : t.faithful old.redo → IsWholeRefusal reply → IsRedoSame t.text old new
