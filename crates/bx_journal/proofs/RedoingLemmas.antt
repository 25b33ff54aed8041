-- A redo text that is read again, and what redoing leaves.
use Rattle.std.proofs.Common.{◌≡◌, ℕ, zero, suc, ◌+◌, ◌≤◌, List, [], ◌∷◌, length, ap, sym, ◌∙◌, subst, inl, inr, arith, length-drop}
use Rattle.bx_journal_model.specs.declared.fault.SessionFault.{SessionFault}
use Rattle.bx_journal_model.specs.declared.fault.SessionFault.TheVariants.{NoMemory, TooLarge, DeviceFailed, Damaged, TooFew, JournalFull, Interrupted, Broken, LengthDiffers, NothingToRedo, RedoDamaged}
use Rattle.bx_journal_model.specs.Images.{Images, redo_of, redone_by}
use Rattle.bx_journal_model.specs.Machine.{changes_of}
use Rattle.bx_journal_model.specs.Redo.{IsRedoOf}
use Rattle.bx_journal_model.specs.Looking.{FaultCounts}
use Rattle.bx_journal_format.specs.Finished.{IsFinished}
use Rattle.bx_journal_format.specs.Text.{Between, Entry}
use Rattle.bx_journal_model.specs.Taken.{taken_by}
use Rattle.bx_journal_model.specs.Undoing.{AgainFault, HasCount, RedoAgainFault}
use Rattle.bx_journal_model.specs.Fault.{redo_fault}
use Rattle.bx_journal_model.proofs.Judged.{undamaged}

pub redo_again : (faithful : Type 0) (text : List ℕ) (count : ℕ) (e : SessionFault) → AgainFault faithful text count e → RedoAgainFault faithful text count (redo_fault e)
redo_again faithful text count NoMemory h = h
redo_again faithful text count DeviceFailed h = h
redo_again faithful text count (Damaged line) h = h
redo_again faithful text count TooLarge h = absurd h
redo_again faithful text count (TooFew have) h = absurd h
redo_again faithful text count JournalFull h = absurd h
redo_again faithful text count Interrupted h = absurd h
redo_again faithful text count Broken h = absurd h
redo_again faithful text count (LengthDiffers expected) h = absurd h
redo_again faithful text count (NothingToRedo have) h = absurd h
redo_again faithful text count (RedoDamaged line) h = absurd h

pub redo_counts : (e : SessionFault) (t u : ℕ) → FaultCounts e t 0 u 0 → FaultCounts (redo_fault e) t 0 u 0
redo_counts NoMemory t u h = h
redo_counts TooLarge t u h = h
redo_counts DeviceFailed t u h = h
redo_counts JournalFull t u h = h
redo_counts Interrupted t u h = h
redo_counts Broken t u h = h
redo_counts (TooFew have) t u h = h
redo_counts (LengthDiffers expected) t u h = h
redo_counts (NothingToRedo have) t u h = h
redo_counts (RedoDamaged line) t u h = h
redo_counts (Damaged line) t u h = h

-- a redo text of `count` finished entries alone isn't called damaged
pub redo_in_step : (faithful : Type 0) (text : List ℕ) (count : ℕ) (e : SessionFault) → faithful → HasCount text count → RedoAgainFault faithful text count e → (line : ℕ) → e ≡ RedoDamaged line → ⊥
redo_in_step faithful text count e th has h line is =
    elim (subst (RedoAgainFault faithful text count) is h th) [
      | inl damage ↦ undamaged text line (record { entries = has.0; stage = Between }, has.1.reads) damage
      | inr apart ↦ apart.2 has
    ]

-- how long the stack is behind a redo
pub length_redone : (j : ℕ) (s : Images) → j ≤ length s.undone → length (redo_of j s).stack ≡ length s.stack + j
length_redone j s few = by_list j s.undone s.stack few
  where
    by_list : (k : ℕ) (u stack : List (List ℕ)) → k ≤ length u → length (redone_by k u stack) ≡ length stack + k
    by_list zero u stack few = omega arith
    by_list (suc k) [] stack few = absurd (omega (arith, few))
    by_list (suc k) (x ∷ u) stack few = by_list k u (x ∷ stack) (omega (arith, few)) ∙ omega arith

-- how many changes then stand, and which images are still undone
pub redone : {redo y : List ℕ} {count have n left : ℕ} (j : ℕ) (s : Images) → length s.stack ≡ suc count → have ≡ length s.undone → n ≡ count + j → left + j ≡ have
    → IsRedoOf redo y (changes_of (redo_of j s).stack) (redo_of j s).undone
    → (j ≤ length s.undone) × (length (redo_of j s).stack ≡ suc n) × (n ≡ changes_of s.stack + j) × IsRedoOf redo y n (redo_of j s).undone × (left ≡ length (redo_of j s).undone)
redone {redo = redo} {y = y} {n = n} j s stood had number rest is =
    let few : j ≤ length s.undone = omega (arith, had, rest) in
    let long : length (redo_of j s).stack ≡ suc n = omega (arith, length_redone j s few, stood, number) in
    let many : changes_of (redo_of j s).stack ≡ n = omega (arith, long) in
    (few, long, omega (arith, stood, number), subst (λ m. IsRedoOf redo y m (redo_of j s).undone) many is, omega (arith, length-drop j s.undone, had, rest))

-- what a redo takes of image, journal and redo text that were looked at before
pub grown_since : (count : ℕ) {x y text now redo seen new : List ℕ} {n k : ℕ} → n ≡ k → y ≡ x → now ≡ text → seen ≡ redo
    → ((es : List Entry) → IsFinished seen es → new ≡ taken_by n es y count now) → (es : List Entry) → IsFinished redo es → new ≡ taken_by k es x count text
grown_since count {x = x} {y = y} {text = text} {now = now} {n = n} {k = k} many image same looked grown es finished =
    grown es (subst (λ t. IsFinished t es) (sym looked) finished) ∙ ap (λ m. taken_by m es y count now) many ∙ ap (λ z. taken_by k es z count now) image ∙ ap (taken_by k es x count) same
