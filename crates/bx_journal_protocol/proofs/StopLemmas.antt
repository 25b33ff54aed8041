-- What a step over three devices leaves where it stops.
use Rattle.std.proofs.Common.{◌≡◌, ℕ, List, inl, inr, ◌⊎◌}
use Rattle.bx_journal_format.specs.Kept.{Kept}
use Rattle.bx_journal_format.specs.declared.format.version.Version.{Version}
use Rattle.bx_journal_model.specs.Phase.{IsOpen}
use Rattle.bx_journal_model.specs.Stack.{Recovers}
use Rattle.bx_journal_protocol.proofs.EndLineLemmas.{open_is_not_clean}
use Rattle.bx_journal_model.specs.Redo.{RecoversOpen, Side, LeavesEither, Before, Behind, WithinOld, WithinNew}

-- the first step of an undo stopped
pub first_stops : (text x redo : List ℕ) (old new : Side) → x ≡ old.image → redo ≡ old.redo → Recovers text x old.stack ⊎ RecoversOpen text x new.stack → LeavesEither text x redo old new
first_stops text x redo old new image same (inl r) = Before (record { recovers = r; image_is = image; redo_is = same })
first_stops text x redo old new image same (inr o) = WithinNew o

-- the last step of a change or a redo stopped
pub last_stops : (text x redo : List ℕ) (old new : Side) → x ≡ new.image → redo ≡ new.redo → RecoversOpen text x old.stack ⊎ Recovers text x new.stack → LeavesEither text x redo old new
last_stops text x redo old new image same (inl o) = WithinOld o
last_stops text x redo old new image same (inr r) = Behind (record { recovers = r; image_is = image; redo_is = same })

-- between the first step and the last the journal is open
pub within_old : (v : Version) (s : Kept) (text x redo : List ℕ) (old new : Side) → IsOpen v s text x old.stack → LeavesEither text x redo old new
within_old v s text x redo old new o = WithinOld (open_is_not_clean v s text x old.stack o)

pub within_new : (v : Version) (s : Kept) (text x redo : List ℕ) (old new : Side) → IsOpen v s text x new.stack → LeavesEither text x redo old new
within_new v s text x redo old new o = WithinNew (open_is_not_clean v s text x new.stack o)

-- the last step of an undo stopped
pub behind_stops : (text x redo : List ℕ) (old new : Side) → x ≡ new.image → redo ≡ new.redo → Recovers text x new.stack → LeavesEither text x redo old new
behind_stops text x redo old new image same r = Behind (record { recovers = r; image_is = image; redo_is = same })

pub before_stops : (text x redo : List ℕ) (old new : Side) → x ≡ old.image → redo ≡ old.redo → Recovers text x old.stack → LeavesEither text x redo old new
before_stops text x redo old new image same r = Before (record { recovers = r; image_is = image; redo_is = same })
