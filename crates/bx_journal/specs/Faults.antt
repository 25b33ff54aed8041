-- Which faults a change, an undo and a redo answer, and when.
use Rattle.std.specs.Prelude.{◌≡◌, ◌↔◌, ◌<◌, ◌≤◌, ℕ, length, false, Result, IfErr, OnOk, IsErrOf}
use Rattle.bx_image.specs.declared.change.Change.{Change}
use Rattle.bx_image.specs.declared.change.TheConstants.{MAX_LEN}
use Rattle.bx_image.specs.declared.device.Device.{Ghosts as DeviceViews}
use Rattle.bx_image.specs.Change.{Fits}
use Rattle.bx_journal_store.specs.declared.store.TextStore.{Ghosts as StoreViews}
use Rattle.bx_journal_model.specs.declared.fault.SessionFault.{SessionFault}
use Rattle.bx_journal_model.specs.declared.fault.SessionFault.TheVariants.{Damaged, Interrupted, JournalFull, NoMemory, NothingToRedo, RedoDamaged, TooFew, TooLarge}
use Rattle.bx_journal_model.specs.SessionView.{SessionView}
use Rattle.bx_journal_model.specs.Standing.{PerformFault}
use Rattle.bx_journal_model.specs.Undoing.{HasCount, IsOutOfStep, RedoFault, UndoFault}

-- Of a change: `JournalFull` comes exactly where the journal is full, a change that fits is never too large, and the other faults come of one that fits
pub record FaultsOfChange {D T A V : Type 0} (d : DeviceViews D) (c : Change A) (old : SessionView D T) (result : Result V SessionFault) : Type 0 where
  pub kind : IfErr result PerformFault
  pub full : IsErrOf result JournalFull ↔ ((old.is_broken ≡ false) × (65535 ≤ old.count))
  pub large : d.faithful old.image → IsErrOf result TooLarge → Fits c (length (d.image old.image)) MAX_LEN → ⊥
  pub fits : d.faithful old.image → IsErrOf result NoMemory → Fits c (length (d.image old.image)) MAX_LEN
  pub fitted : d.faithful old.image → IsErrOf result Interrupted → Fits c (length (d.image old.image)) MAX_LEN

-- Of an undo of k: there are too few changes exactly where there are, and the text is called damaged exactly where it isn't
-- `old.count` finished entries alone
pub record FaultsOfUndo {D T V : Type 0} (t : StoreViews T) (k : ℕ) (old : SessionView D T) (result : Result V SessionFault) : Type 0 where
  pub kind : IfErr result (UndoFault old.count)
  pub few : ((old.is_broken ≡ false) × (old.count < k)) ↔ IsErrOf result (TooFew old.count)
  pub damaged : t.faithful old.journal → IfErr result (λ e. (n : ℕ) → e ≡ Damaged n → IsOutOfStep (t.text old.journal) old.count n)
  pub undamaged : t.faithful old.journal → HasCount (t.text old.journal) old.count → IfErr result (λ e. (n : ℕ) → e ≡ Damaged n → ⊥)
  pub whole : t.faithful old.journal → OnOk result (HasCount (t.text old.journal) old.count)

-- Of a redo of j, the same of the redo text
pub record FaultsOfRedo {D T V : Type 0} (t : StoreViews T) (j : ℕ) (old : SessionView D T) (result : Result V SessionFault) : Type 0 where
  pub kind : IfErr result (RedoFault old.undone)
  pub nothing : ((old.is_broken ≡ false) × (old.undone < j)) ↔ IsErrOf result (NothingToRedo old.undone)
  pub damaged : t.faithful old.redo → IfErr result (λ e. (n : ℕ) → e ≡ RedoDamaged n → IsOutOfStep (t.text old.redo) old.undone n)
  pub undamaged : t.faithful old.redo → HasCount (t.text old.redo) old.undone → IfErr result (λ e. (n : ℕ) → e ≡ RedoDamaged n → ⊥)
  pub whole : t.faithful old.redo → OnOk result (HasCount (t.text old.redo) old.undone)
