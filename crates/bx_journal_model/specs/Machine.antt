-- The machine of changes over stacks of whole images.
use Rattle.std.specs.Prelude.{◌≡◌, ◌<◌, ◌≤◌, ℕ, ◌+◌, ◌-◌, Result, Ok, Err, List, [], ◌∷◌, length, drop}
use Rattle.bx_image.specs.declared.change.Change.{Change}
use Rattle.bx_image.specs.declared.change.TheConstants.{MAX_LEN}
use Rattle.bx_image.specs.Change.{effect, Fits}
use Rattle.bx_journal_model.specs.Images.{Images, redo_of}
use Rattle.bx_journal_model.specs.declared.fault.SessionFault.{SessionFault}
use Rattle.bx_journal_model.specs.declared.fault.SessionFault.TheVariants.{NoMemory, TooLarge, TooFew, JournalFull, NothingToRedo}

-- the newest image of a stack
abbrev pub top : List (List ℕ) → List ℕ
top [] = []
top (x ∷ stack) = x

-- the stack behind a change: what it makes of the newest image stands above the others
abbrev pub changed : {A : Type 0} → Change A → List (List ℕ) → List (List ℕ)
changed c stack = effect c (top stack) ∷ stack

-- how many changes a stack has
abbrev pub changes_of : List (List ℕ) → ℕ
changes_of stack = length stack - 1

-- a change: 42 comes before 30, and want of memory may take the place of a change for which the journal has room
abbrev pub PerformStep : {A : Type 0} → List (List ℕ) → Change A → Result ℕ SessionFault → List (List ℕ) → Type 0
PerformStep old c (Ok n) new = (changes_of old < 65535) × Fits c (length (top old)) MAX_LEN × (n ≡ changes_of old + 1) × (new ≡ changed c old)
PerformStep old c (Err NoMemory) new = (changes_of old < 65535) × (new ≡ old)
PerformStep old c (Err JournalFull) new = (changes_of old ≡ 65535) × (new ≡ old)
PerformStep old c (Err TooLarge) new = (changes_of old < 65535) × (Fits c (length (top old)) MAX_LEN → ⊥) × (new ≡ old)
PerformStep old c (Err e) new = ⊥

-- an undo of k: the k newest images are taken off; 41 where there are fewer, else want of memory may take its place
abbrev pub UndoStep : List (List ℕ) → ℕ → Result ℕ SessionFault → List (List ℕ) → Type 0
UndoStep old k (Ok left) new = (k ≤ changes_of old) × (left ≡ changes_of old - k) × (new ≡ drop k old)
UndoStep old k (Err (TooFew have)) new = (changes_of old < k) × (have ≡ changes_of old) × (new ≡ old)
UndoStep old k (Err NoMemory) new = (k ≤ changes_of old) × (new ≡ old)
UndoStep old k (Err e) new = ⊥

-- a redo: 46 only where there are too few to redo, and want of memory may take the place of a redo
abbrev pub RedoStep : Images → ℕ → Result ℕ SessionFault → Images → Type 0
RedoStep old j (Ok n) new = (j ≤ length old.undone) × (n ≡ changes_of old.stack + j) × (new ≡ redo_of j old)
RedoStep old j (Err (NothingToRedo have)) new = (length old.undone < j) × (have ≡ length old.undone) × (new ≡ old)
RedoStep old j (Err NoMemory) new = (j ≤ length old.undone) × (new ≡ old)
RedoStep old j (Err e) new = ⊥
