-- What a reply tells of a session's counts, whatever the devices are.
use Rattle.std.specs.Prelude.{◌≡◌, ◌⊎◌, ◌↔◌, ◌<◌, ◌≤◌, ◌+◌, ℕ, false}
use Rattle.bx_journal.specs.SessionView.{SessionView}
use Rattle.bx_journal.specs.Standing.{PerformFault}
use Rattle.bx_journal.specs.Undoing.{RedoFault, UndoFault}
use Rattle.bx_journal.specs.SessionFault.TheVariants.{DeviceFailed, TooFew, JournalFull, NothingToRedo}
use Rattle.bx_cli_commands.specs.declared.command.Command.{Command}
use Rattle.bx_cli_commands.specs.declared.command.Command.TheVariants.{Patch, Undo, Redo}
use Rattle.bx_cli_commands.specs.declared.command.Reply.{Reply}
use Rattle.bx_cli_commands.specs.declared.command.Reply.TheVariants.{Changed, Copied, Undone, Redone, Refused}
use Rattle.bx_cli_commands.specs.declared.fault.Fault.TheVariants.{Session}

module _ {D T : Type 0} where
  -- as many changes stand as before, and as many are undone
  abbrev pub CountsStay : SessionView D T → SessionView D T → Type 0
  CountsStay old new = (new.count ≡ old.count) × (new.undone ≡ old.undone)

  -- one change more stands, this is its number, and nothing is undone
  abbrev pub IsOneMore : SessionView D T → ℕ → SessionView D T → Type 0
  IsOneMore old n new = (n ≡ old.count + 1) × (new.count ≡ n) × (new.undone ≡ 0)

  -- the reply to a change: its number, or a fault; it is 42 exactly where 65,535 changes stand
  abbrev pub ChangeTells : SessionView D T → Reply → SessionView D T → Type 0
  ChangeTells old (Changed n) new = IsOneMore old n new
  ChangeTells old (Copied n counts) new = IsOneMore old n new
  ChangeTells old (Undone left) new = ⊥
  ChangeTells old (Redone n) new = ⊥
  ChangeTells old (Refused (Session e)) new =
      PerformFault e × ((e ≡ JournalFull) ↔ ((old.is_broken ≡ false) × (65535 ≤ old.count))) × CountsStay old new
  ChangeTells old (Refused e) new = CountsStay old new

  -- the reply to a patch: a device that fails in its comparison refuses it, be the journal full or not; else as to a change
  abbrev pub PatchTells : SessionView D T → Reply → SessionView D T → Type 0
  PatchTells old p new = ((p ≡ Refused (Session DeviceFailed)) × CountsStay old new) ⊎ ChangeTells old p new

  -- the reply to an undo of k: how many changes are left, and at most k more are undone, or a fault; it is 41 exactly where fewer than k stand
  abbrev pub UndoTells : ℕ → SessionView D T → Reply → SessionView D T → Type 0
  UndoTells k old (Undone left) new = (left + k ≡ old.count) × (new.count ≡ left) × (new.undone ≤ old.undone + k)
  UndoTells k old (Refused (Session e)) new =
      UndoFault old.count e × ((e ≡ TooFew old.count) ↔ ((old.is_broken ≡ false) × (old.count < k))) × CountsStay old new
  UndoTells k old p new = ⊥

  -- the reply to a redo of j: how many changes then stand, or a fault; it is 46 exactly where fewer than j are undone
  abbrev pub RedoTells : ℕ → SessionView D T → Reply → SessionView D T → Type 0
  RedoTells j old (Redone n) new = (n ≡ old.count + j) × (new.count ≡ n) × (new.undone + j ≡ old.undone)
  RedoTells j old (Refused (Session e)) new =
      RedoFault old.undone e × ((e ≡ NothingToRedo old.undone) ↔ ((old.is_broken ≡ false) × (old.undone < j))) × CountsStay old new
  RedoTells j old p new = ⊥

  -- the reply to a command
  abbrev pub Tells : {R A : Type 0} → Command R A → SessionView D T → Reply → SessionView D T → Type 0
  Tells (Undo k) old p new = UndoTells k old p new
  Tells (Redo j) old p new = RedoTells j old p new
  Tells (Patch patch) old p new = PatchTells old p new
  Tells c old p new = ChangeTells old p new
