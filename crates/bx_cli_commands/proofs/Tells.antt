-- What replies tell of a session's counts.
use Rattle.std.proofs.Common.{◌≡◌, ◌↔◌, ◌<◌, ◌≤◌, ◌+◌, ℕ, Option, None, Some, false, sym, ap, subst}
use Rattle.std.specs.Result.{IsErrOf}
use Rattle.bx_dd.specs.declared.counts.Counts.{Counts}
use Rattle.bx_journal.specs.SessionView.{SessionView}
use Rattle.bx_journal.specs.Standing.{PerformFault}
use Rattle.bx_journal.specs.Undoing.{RedoFault, UndoFault}
use Rattle.bx_journal.specs.SessionFault.{SessionFault}
use Rattle.bx_journal.specs.SessionFault.TheVariants.{TooFew, JournalFull, NothingToRedo}
use Rattle.bx_cli_commands.specs.declared.command.Reply.{Reply}
use Rattle.bx_cli_commands.specs.declared.command.Reply.TheVariants.{Refused}
use Rattle.bx_cli_commands.specs.declared.fault.Fault.TheVariants.{Session}
use Rattle.bx_cli_commands.specs.Tells.{ChangeTells, CountsStay, IsOneMore, RedoTells, UndoTells}
use Rattle.bx_cli_commands.specs.Run.{made_reply}
use Rattle.bx_cli_commands.proofs.Steps.{refusal}

same_fault : (e f : SessionFault) → IsErrOf (refusal e) f → e ≡ f
same_fault e f is = cc

-- exactly where the call answers the fault, it is the fault
exactly : (e f : SessionFault) (P : Type 0) → (IsErrOf (refusal e) f → P) → (P → IsErrOf (refusal e) f) → (e ≡ f) ↔ P
exactly e f P there back = ((λ is. there (ap refusal is)), (λ p. same_fault e f (back p)))

module _ {D T : Type 0} where
  pub change_tells : (old new : SessionView D T) (counts : Option Counts) (n : ℕ) (reply : Reply) → reply ≡ made_reply counts n → IsOneMore old n new → ChangeTells old reply new
  change_tells old new counts n reply is more = subst (λ p. ChangeTells old p new) (sym is) (by_counts counts)
    where
      by_counts : (counts : Option Counts) → ChangeTells old (made_reply counts n) new
      by_counts None = more
      by_counts (Some c) = more

  pub refused_change_tells : (old new : SessionView D T) (e : SessionFault) → PerformFault e → (IsErrOf (refusal e) JournalFull ↔ ((old.is_broken ≡ false) × (65535 ≤ old.count)))
      → CountsStay old new → ChangeTells old (Refused (Session e)) new
  refused_change_tells old new e kind full stay = (kind, exactly e JournalFull ((old.is_broken ≡ false) × (65535 ≤ old.count)) full.0 full.1, stay)

  pub refused_undo_tells : (old new : SessionView D T) (k : ℕ) (e : SessionFault) → UndoFault old.count e
      → (((old.is_broken ≡ false) × (old.count < k)) ↔ IsErrOf (refusal e) (TooFew old.count)) → CountsStay old new → UndoTells k old (Refused (Session e)) new
  refused_undo_tells old new k e kind few stay = (kind, exactly e (TooFew old.count) ((old.is_broken ≡ false) × (old.count < k)) few.1 few.0, stay)

  pub refused_redo_tells : (old new : SessionView D T) (j : ℕ) (e : SessionFault) → RedoFault old.undone e
      → (((old.is_broken ≡ false) × (old.undone < j)) ↔ IsErrOf (refusal e) (NothingToRedo old.undone)) → CountsStay old new → RedoTells j old (Refused (Session e)) new
  refused_redo_tells old new j e kind nothing stay = (kind, exactly e (NothingToRedo old.undone) ((old.is_broken ≡ false) × (old.undone < j)) nothing.1 nothing.0, stay)
