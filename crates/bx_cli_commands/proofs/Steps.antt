-- From what a session's calls refuse to steps of the machine.
use Rattle.std.proofs.Common.{◌≡◌, ◌↔◌, ◌<◌, ◌≤◌, ℕ, suc, ◌+◌, true, false, cond, Result, Err, List, ◌∷◌, length, refl, sym, ◌∙◌, ap, subst, arith}
use Rattle.std.specs.Result.{IsErrOf}
use Rattle.bx_image.specs.declared.change.Change.{Change}
use Rattle.bx_image.specs.declared.change.TheConstants.{MAX_LEN}
use Rattle.bx_image.specs.Change.{Fits}
use Rattle.bx_journal.specs.Images.{Images}
use Rattle.bx_journal.specs.SessionView.{SessionView}
use Rattle.bx_journal.specs.SessionFault.{SessionFault}
use Rattle.bx_journal.specs.SessionFault.TheVariants.{NoMemory, TooLarge, DeviceFailed, Damaged, TooFew, JournalFull, Interrupted, Broken, LengthDiffers, NothingToRedo, RedoDamaged}
use Rattle.bx_journal.specs.Standing.{IsStanding, PerformFault}
use Rattle.bx_journal.specs.Undoing.{HasCount, RedoFault, UndoFault}
use Rattle.bx_journal.specs.Machine.{top, changes_of}
use Rattle.bx_journal.specs.Opening.{ThreeCounts}
use Rattle.bx_journal.specs.Session.{HasUndone}
use Rattle.bx_journal.proofs.Phases.{length-stack_of}
use Rattle.bx_journal.proofs.Ready.{top_of}
use Rattle.bx_cli_commands.specs.declared.command.Reply.TheVariants.{Refused}
use Rattle.bx_cli_commands.specs.declared.fault.Fault.TheVariants.{Session}
use Rattle.bx_cli_commands.specs.Run.{is_failure, RedoUp, UndoUp}
use Rattle.bx_cli_commands.specs.Standing.{Standing, PerformUp, Shows}

pub true_is_not_false : true ≡ false → ⊥
true_is_not_false e = cc

abbrev pub refusal : SessionFault → Result ℕ SessionFault
refusal e = Err e

changes_standing : {D T : Type 0} (image : D → List ℕ) (text : T → List ℕ) (s : SessionView D T) (stack : List (List ℕ)) → IsStanding image text s stack → changes_of stack ≡ s.count
changes_standing image text s stack standing = let count = standing.count in omega arith

pub top_standing : {D T : Type 0} (image : D → List ℕ) (text : T → List ℕ) (s : SessionView D T) (stack : List (List ℕ)) → IsStanding image text s stack → top stack ≡ image s.image
top_standing image text s stack standing = ap top standing.stands.stack_is ∙ top_of standing.stands.entries (image s.image)

-- the journal has as many entries as there are changes
count_standing : {D T : Type 0} (image : D → List ℕ) (text : T → List ℕ) (s : SessionView D T) (stack : List (List ℕ)) → IsStanding image text s stack → HasCount (text s.journal) s.count
count_standing image text s stack standing =
    let st = standing.stands in
    let stacked : length stack ≡ suc (length st.entries) = ap length st.stack_is ∙ length-stack_of st.entries (image s.image) in
    let count = standing.count in
    (st.entries, record { reads = st.reads; whole = st.whole }, omega arith)

-- the redo text has as many entries as there are undone changes
count_undone : {D T : Type 0} (image : D → List ℕ) (text : T → List ℕ) (s : SessionView D T) (undone : List (List ℕ)) → HasUndone image text s undone → HasCount (text s.redo) s.undone
count_undone image text s undone has =
    let st = has.redo.stands in
    let stacked : length (image s.image ∷ undone) ≡ suc (length st.entries) = ap length st.stack_is ∙ length-stack_of st.entries (image s.image) in
    let count = has.counted in
    (st.entries, record { reads = st.reads; whole = st.whole }, omega arith)

-- a change that fits the device's image fits the newest one
pub fits_top : {D T A : Type 0} (hd : D → Type 0) (image : D → List ℕ) (text : T → List ℕ) (old : SessionView D T) (c : Change A) (images : Images)
    → hd old.image → Shows image text old images → Fits c (length (image old.image)) MAX_LEN → Fits c (length (top images.stack)) MAX_LEN
fits_top hd image text old c images device shows fits =
    let Fit : List ℕ → Type 0 = λ x. Fits c (length x) MAX_LEN in
    subst Fit (sym (top_standing image text old images.stack shows.0)) fits

-- a change that was refused, by no interruption
pub perform_stays : {D T A : Type 0} (hd : D → Type 0) (image : D → List ℕ) (text : T → List ℕ) (old : SessionView D T) (c : Change A) (e : SessionFault)
    → ((old.is_broken ≡ true) ↔ IsErrOf (refusal e) Broken)
    → (IsErrOf (refusal e) JournalFull ↔ ((old.is_broken ≡ false) × (65535 ≤ old.count)))
    → (hd old.image → IsErrOf (refusal e) TooLarge → Fits c (length (image old.image)) MAX_LEN → ⊥)
    → (hd old.image → IsErrOf (refusal e) NoMemory → Fits c (length (image old.image)) MAX_LEN)
    → PerformFault e
    → hd old.image → (images : Images) → Shows image text old images → (e ≡ Interrupted → ⊥) → PerformUp c images (Err e) (Standing.Up images)
perform_stays hd image text old c NoMemory broken full large fits kind device images shows whole =
    let changes = changes_standing image text old images.stack shows.0 in
    let none : 65535 ≤ old.count → ⊥ = λ many. let bad : refusal NoMemory ≡ Err JournalFull = full.1 (shows.0.whole, many) in absurd (cc) in
    let room : changes_of images.stack < 65535 = omega arith in
    (refl, room, fits_top hd image text old c images device shows (fits device refl))
perform_stays hd image text old c TooLarge broken full large fits kind device images shows whole =
    let changes = changes_standing image text old images.stack shows.0 in
    let none : 65535 ≤ old.count → ⊥ = λ many. let bad : refusal TooLarge ≡ Err JournalFull = full.1 (shows.0.whole, many) in absurd (cc) in
    let room : changes_of images.stack < 65535 = omega arith in
    let Large : List ℕ → Type 0 = λ x. Fits c (length x) MAX_LEN → ⊥ in
    (refl, (room, subst Large (sym (top_standing image text old images.stack shows.0)) (large device refl), refl))
perform_stays hd image text old c JournalFull broken full large fits kind device images shows whole =
    let changes = changes_standing image text old images.stack shows.0 in
    let many = (full.0 refl).1 in
    let all : 65535 ≤ changes_of images.stack = omega arith in
    (all, refl)
perform_stays hd image text old c DeviceFailed broken full large fits kind device images shows whole = refl
perform_stays hd image text old c Interrupted broken full large fits kind device images shows whole = absurd (whole refl)
perform_stays hd image text old c Broken broken full large fits kind device images shows whole =
    absurd (true_is_not_false (sym (broken.1 refl) ∙ shows.0.whole))
perform_stays hd image text old c (Damaged line) broken full large fits kind device images shows whole = absurd kind
perform_stays hd image text old c (TooFew have) broken full large fits kind device images shows whole = absurd kind
perform_stays hd image text old c (LengthDiffers expected) broken full large fits kind device images shows whole = absurd kind
perform_stays hd image text old c (NothingToRedo have) broken full large fits kind device images shows whole = absurd kind
perform_stays hd image text old c (RedoDamaged line) broken full large fits kind device images shows whole = absurd kind

-- an undo that was refused, by no interruption
pub undo_stays : {D T : Type 0} (ht : T → Type 0) (image : D → List ℕ) (text : T → List ℕ) (old : SessionView D T) (k : ℕ) (e : SessionFault)
    → ((old.is_broken ≡ true) ↔ IsErrOf (refusal e) Broken)
    → (((old.is_broken ≡ false) × (old.count < k)) ↔ IsErrOf (refusal e) (TooFew old.count))
    → UndoFault old.count e
    → (ht old.journal → HasCount (text old.journal) old.count → (line : ℕ) → e ≡ Damaged line → ⊥)
    → ht old.journal → (images : Images) → Shows image text old images → (e ≡ Interrupted → ⊥) → UndoUp k images (Err e) (Standing.Up images)
undo_stays ht image text old k NoMemory broken few kind undamaged store images shows whole =
    let changes = changes_standing image text old images.stack shows.0 in
    let none : old.count < k → ⊥ = λ many. let bad : refusal NoMemory ≡ Err (TooFew old.count) = few.0 (shows.0.whole, many) in absurd (cc) in
    let enough : k ≤ changes_of images.stack = omega arith in
    (refl, (enough, refl))
undo_stays ht image text old k (TooFew have) broken few kind undamaged store images shows whole =
    let changes = changes_standing image text old images.stack shows.0 in
    let told : have ≡ old.count = kind in
    let short = (few.1 (ap (λ n. refusal (TooFew n)) told)).1 in
    let fewer : changes_of images.stack < k = omega arith in
    (refl, (fewer, told ∙ sym changes, refl))
undo_stays ht image text old k DeviceFailed broken few kind undamaged store images shows whole = refl
undo_stays ht image text old k Interrupted broken few kind undamaged store images shows whole = absurd (whole refl)
undo_stays ht image text old k Broken broken few kind undamaged store images shows whole =
    absurd (true_is_not_false (sym (broken.1 refl) ∙ shows.0.whole))
undo_stays ht image text old k (Damaged line) broken few kind undamaged store images shows whole =
    absurd (undamaged store (count_standing image text old images.stack shows.0) line refl)
undo_stays ht image text old k TooLarge broken few kind undamaged store images shows whole = absurd kind
undo_stays ht image text old k JournalFull broken few kind undamaged store images shows whole = absurd kind
undo_stays ht image text old k (LengthDiffers expected) broken few kind undamaged store images shows whole = absurd kind
undo_stays ht image text old k (NothingToRedo have) broken few kind undamaged store images shows whole = absurd kind
undo_stays ht image text old k (RedoDamaged line) broken few kind undamaged store images shows whole = absurd kind

-- a redo that was refused, by no interruption
pub redo_stays : {D T : Type 0} (ht : T → Type 0) (image : D → List ℕ) (text : T → List ℕ) (old : SessionView D T) (j : ℕ) (e : SessionFault)
    → ((old.is_broken ≡ true) ↔ IsErrOf (refusal e) Broken)
    → (((old.is_broken ≡ false) × (old.undone < j)) ↔ IsErrOf (refusal e) (NothingToRedo old.undone))
    → RedoFault old.undone e
    → (ht old.redo → HasCount (text old.redo) old.undone → (line : ℕ) → e ≡ RedoDamaged line → ⊥)
    → ht old.redo → (images : Images) → Shows image text old images → (e ≡ Interrupted → ⊥) → RedoUp j images (Err e) (Standing.Up images)
redo_stays ht image text old j NoMemory broken nothing kind undamaged redo images shows whole =
    let counted = shows.1.counted in
    let none : old.undone < j → ⊥ = λ many. let bad : refusal NoMemory ≡ Err (NothingToRedo old.undone) = nothing.0 (shows.0.whole, many) in absurd (cc) in
    let enough : j ≤ length images.undone = omega arith in
    (refl, (enough, refl))
redo_stays ht image text old j (NothingToRedo have) broken nothing kind undamaged redo images shows whole =
    let counted = shows.1.counted in
    let told : have ≡ old.undone = kind in
    let short = (nothing.1 (ap (λ n. refusal (NothingToRedo n)) told)).1 in
    let fewer : length images.undone < j = omega arith in
    (refl, (fewer, told ∙ counted, refl))
redo_stays ht image text old j DeviceFailed broken nothing kind undamaged redo images shows whole = refl
redo_stays ht image text old j Interrupted broken nothing kind undamaged redo images shows whole = absurd (whole refl)
redo_stays ht image text old j Broken broken nothing kind undamaged redo images shows whole =
    absurd (true_is_not_false (sym (broken.1 refl) ∙ shows.0.whole))
redo_stays ht image text old j (RedoDamaged line) broken nothing kind undamaged redo images shows whole =
    absurd (undamaged redo (count_undone image text old images.undone shows.1) line refl)
redo_stays ht image text old j TooLarge broken nothing kind undamaged redo images shows whole = absurd kind
redo_stays ht image text old j JournalFull broken nothing kind undamaged redo images shows whole = absurd kind
redo_stays ht image text old j (Damaged line) broken nothing kind undamaged redo images shows whole = absurd kind
redo_stays ht image text old j (TooFew have) broken nothing kind undamaged redo images shows whole = absurd kind
redo_stays ht image text old j (LengthDiffers expected) broken nothing kind undamaged redo images shows whole = absurd kind

-- how the counts go on where a call failed
pub counts_least : (e : SessionFault) (d t u d_new t_new u_new : ℕ) → ThreeCounts e d t u d_new t_new u_new → (d ≤ d_new) × (t ≤ t_new) × (u ≤ u_new)
counts_least NoMemory d t u d_new t_new u_new c = (omega arith, omega arith, omega arith)
counts_least TooLarge d t u d_new t_new u_new c = (omega arith, omega arith, omega arith)
counts_least DeviceFailed d t u d_new t_new u_new c = (omega arith, omega arith, omega arith)
counts_least (Damaged line) d t u d_new t_new u_new c = (omega arith, omega arith, omega arith)
counts_least (TooFew have) d t u d_new t_new u_new c = (omega arith, omega arith, omega arith)
counts_least JournalFull d t u d_new t_new u_new c = (omega arith, omega arith, omega arith)
counts_least Interrupted d t u d_new t_new u_new c = (omega arith, omega arith, omega arith)
counts_least Broken d t u d_new t_new u_new c = (omega arith, omega arith, omega arith)
counts_least (LengthDiffers expected) d t u d_new t_new u_new c = (omega arith, omega arith, omega arith)
counts_least (NothingToRedo have) d t u d_new t_new u_new c = (omega arith, omega arith, omega arith)
counts_least (RedoDamaged line) d t u d_new t_new u_new c = (omega arith, omega arith, omega arith)

-- one of them fails where a device's failure is reported, and none else
pub counts_rise : (e : SessionFault) (d t u d_new t_new u_new : ℕ) → ThreeCounts e d t u d_new t_new u_new
    → d_new + t_new + u_new ≡ d + t + u + cond (is_failure (Refused (Session e))) 1 0
counts_rise NoMemory d t u d_new t_new u_new c = omega arith
counts_rise TooLarge d t u d_new t_new u_new c = omega arith
counts_rise DeviceFailed d t u d_new t_new u_new c = omega arith
counts_rise (Damaged line) d t u d_new t_new u_new c = omega arith
counts_rise (TooFew have) d t u d_new t_new u_new c = omega arith
counts_rise JournalFull d t u d_new t_new u_new c = omega arith
counts_rise Interrupted d t u d_new t_new u_new c = omega arith
counts_rise Broken d t u d_new t_new u_new c = omega arith
counts_rise (LengthDiffers expected) d t u d_new t_new u_new c = omega arith
counts_rise (NothingToRedo have) d t u d_new t_new u_new c = omega arith
counts_rise (RedoDamaged line) d t u d_new t_new u_new c = omega arith
