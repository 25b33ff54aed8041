-- Laws of the redo text.
use Rattle.std.specs.Prelude.{◌≡◌, ◌≤◌, ℕ, Ok, List, [], ◌++◌, length}
use Rattle.bx_image.specs.declared.change.Change.{Change}
use Rattle.bx_image.specs.declared.change.TheConstants.{MAX_LEN}
use Rattle.bx_image.specs.Change.{effect, saved, AreBytes}
use Rattle.bx_journal_format.specs.Entry.{entry_text}
use Rattle.bx_journal_format.specs.Kept.{kept_of}
use Rattle.bx_journal_model.specs.Performing.{GrowsByTaken, KeepsTaken}
use Rattle.bx_journal_model.specs.Redo.{IsRedoOf, IsRefusedAt}
use Rattle.bx_journal_model.specs.Session.{HasUndone}
use Rattle.bx_journal_model.specs.SessionView.{SessionView}
use Rattle.bx_journal_model.specs.Stack.{StandsFor}
use Rattle.bx_journal_model.specs.Standing.{IsStanding}
use Rattle.bx_journal_model.specs.Undoing.{LeavesFront}
use Rattle.bx_journal_model.specs.declared.fault.SessionFault.{SessionFault}

-- an empty text is the redo text of nothing
abbrev pub EmptyIsRedo : Type 0
EmptyIsRedo = (x : List ℕ) (changes : ℕ) → changes ≤ 65535 → IsRedoOf [] x changes []

-- a text and an image are the redo text of one list
abbrev pub RedoIsOne : Type 0
RedoIsOne = (text x : List ℕ) (m n : ℕ) (u v : List (List ℕ)) → IsRedoOf text x m u → IsRedoOf text x n v → u ≡ v

-- no redo text is refused at two lines, and none that is one is refused
pub record RedoLineOne : Type 0 where
  pub one : (text x : List ℕ) (changes m n : ℕ) → IsRefusedAt text x changes m → IsRefusedAt text x changes n → m ≡ n
  pub none : (text x : List ℕ) (changes m : ℕ) (undone : List (List ℕ)) → IsRedoOf text x changes undone → IsRefusedAt text x changes m → ⊥

-- the newest entry of the session's journal is that of a change, as `perform` writes it behind an older journal that stands for a stack with the image x
pub record IsBehindChange {A D T : Type 0} (image : D → List ℕ) (text : T → List ℕ) (c : Change A) (x older : List ℕ) (stack : List (List ℕ)) (s : SessionView D T) : Type 0 where
  pub stands : StandsFor older x stack
  pub count : length stack ≡ s.count
  pub changed : image s.image ≡ effect c x
  pub written : text s.journal ≡ older ++ entry_text s.count (kept_of (saved c x)) (length (effect c x))
  pub fits : (length x ≤ MAX_LEN) × (length (effect c x) ≤ MAX_LEN)
  pub bytes : AreBytes x × AreBytes (effect c x)

-- behind a change, an undo that is made and a redo that is made leave the very text of the journal
abbrev pub IsWrittenAgain : (A : Type 0) → {D T : Type 0} → (D → List ℕ) → (T → List ℕ) → Type 0
IsWrittenAgain A {D = D} {T = T} image text = (c : Change A) (x older : List ℕ) (stack undone : List (List ℕ)) (old mid new : SessionView D T)
    (left n : ℕ) → IsBehindChange image text c x older stack old → HasUndone image text old undone → IsStanding image text mid stack
    → LeavesFront {V = ℕ} {E = SessionFault} (text old.journal) 1 (text mid.journal) (Ok left) → KeepsTaken image text {V = ℕ} {E = SessionFault} 1 old mid (Ok left)
    → GrowsByTaken image text {V = ℕ} {E = SessionFault} 1 mid new (Ok n) → text new.journal ≡ text old.journal
