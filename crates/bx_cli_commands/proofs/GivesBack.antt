-- What accepted changes put onto a stack, an undo of as many takes off.
use Rattle.std.proofs.Common.{◌≡◌, ◌≤◌, inl, inr, ℕ, ◌+◌, ◌-◌, zero, suc, Bool, true, false, if◌then◌else◌, nat_le, length-drop, Option, None, Some, Result, Ok, Err, List, [], ◌∷◌, length, drop, refl, sym, ap, ◌∙◌, subst, arith, All}
use Rattle.std.proofs.lemmas.List.{drop-drop}
use Rattle.bx_image.specs.declared.change.Change.{Change}
use Rattle.bx_image.specs.declared.change.TheConstants.{MAX_LEN}
use Rattle.bx_read.specs.declared.fault.ReadFault.{ReadFault}
use Rattle.bx_journal.specs.SessionFault.{SessionFault}
use Rattle.bx_journal.specs.Images.{Images, redo_of, undo_of, with_undone, undone_by, redone_by}
use Rattle.bx_journal.specs.Machine.{changes_of, top}
use Rattle.bx_journal.specs.SessionView.{SessionView}
use Rattle.bx_image.specs.declared.device.Device.{Ghosts as DeviceViews}
use Rattle.bx_journal_store.specs.declared.store.TextStore.{Ghosts as StoreViews}
use Rattle.bx_cli_commands.specs.declared.command.Command.{Command}
use Rattle.bx_cli_commands.specs.declared.command.Command.TheVariants.{Revert, RevertPlain, Dd, Copy, Patch, Undo, Redo}
use Rattle.bx_cli_commands.specs.declared.command.Reply.{Reply}
use Rattle.bx_cli_commands.specs.declared.command.Reply.TheVariants.{Undone, Redone, Refused}
use Rattle.bx_cli_commands.specs.declared.fault.Fault.{Fault}
use Rattle.bx_cli_commands.specs.declared.fault.Fault.TheVariants.{Read, Dd}
use Rattle.bx_cli_commands.specs.Standing.{Standing, PerformUp}
use Rattle.bx_dd.specs.declared.counts.Counts.{Counts}
use Rattle.bx_dd.specs.declared.fault.DdFault.{DdFault}
use Rattle.bx_cli_commands.specs.declared.changes.DdChange.{DdChange}
use Rattle.bx_cli_commands.specs.Power.{images_of}
use Rattle.bx_patch.specs.Patch.{Asked, patch_change}
use Rattle.bx_patch.specs.Read.{asked_of}
use Rattle.bx_cli_commands.specs.Run.{answered, PatchStep, ReadStep, DdStep, CommandStep, StackStep, StackRun, made_reply, ChangeStep, RedoUp, UndoUp}
use Rattle.bx_cli_commands.specs.Command.{dump_change, plain_change}
use Rattle.bx_read.specs.Plain.{plain_answer}
use Rattle.bx_read.specs.Text.{dump_pieces}
use Rattle.bx_cli_commands.specs.Laws.{IsMade, KChangesAndUndo}
use Rattle.bx_cli_commands.proofs.Steps.{top_standing}
use Rattle.bx_cli_commands.proofs.Unfailed.{all_tail}

-- one image more, on top
abbrev OneMore : Images → Images → Type 0
OneMore old new = (x : List ℕ) × (new.stack ≡ x ∷ old.stack)

not_refused : (reply : Reply) (e : Fault) → IsMade reply → reply ≡ Refused e → ⊥
not_refused reply e made refused = subst IsMade refused made

change_adds : {A : Type 0} (old new : Images) (c : Change A) (counts : Option Counts) (r : Result ℕ SessionFault)
    → IsMade (answered (made_reply counts) r) → PerformUp c old r (Standing.Up new) → OneMore old new
change_adds old new c counts (Ok n) made p = (_, ap (λ s. (images_of s).stack) p.1 ∙ p.2.3)
change_adds old new c counts (Err e) made p = absurd made

change_step_adds : {A : Type 0} (old new : Images) (c : Change A) (counts : Option Counts) (reply : Reply)
    → IsMade reply → ChangeStep (Standing.Up old) c counts reply (Standing.Up new) → OneMore old new
change_step_adds old new c counts reply made step = change_adds old new c counts step.0 (subst IsMade step.1 made) step.2

read_step_adds : {A B : Type 0} (old new : Images) (change : B → Change A) (r : Result B ReadFault) (reply : Reply)
    → IsMade reply → ReadStep (Standing.Up old) change r reply (Standing.Up new) → OneMore old new
read_step_adds old new change (Ok read) reply made step = change_step_adds old new (change read) None reply made step
read_step_adds old new change (Err e) reply made step = absurd (not_refused reply (Read e) made step.0)

dd_step_adds : {A : Type 0} (old new : Images) (r : Result (DdChange A) DdFault) (reply : Reply)
    → IsMade reply → DdStep (Standing.Up old) r reply (Standing.Up new) → OneMore old new
dd_step_adds old new (Ok made_of) reply made step = change_step_adds old new made_of.change (Some made_of.counts) reply made step
dd_step_adds old new (Err e) reply made step = absurd (not_refused reply (Dd e) made step.0)

patch_step_adds : {A : Type 0} (old new : Images) (p : Asked) (reply : Reply)
    → IsMade reply → PatchStep A (Standing.Up old) p reply (Standing.Up new) → OneMore old new
patch_step_adds old new p reply made (inl refused) = absurd (not_refused reply _ made refused.0)
patch_step_adds old new p reply made (inr (inl failed)) = absurd (not_refused reply _ made failed.0)
patch_step_adds {A = A} old new p reply made (inr (inr (None, agrees, step))) = change_step_adds old new (patch_change {A = A} p) None reply made step
patch_step_adds old new p reply made (inr (inr (Some other, has, step))) = absurd (not_refused reply _ made step.0)

redo_not_made : (r : Result ℕ SessionFault) → IsMade (answered Redone r) → ⊥
redo_not_made (Ok n) made = made
redo_not_made (Err e) made = made

undo_not_made : (r : Result ℕ SessionFault) → IsMade (answered Undone r) → ⊥
undo_not_made (Ok n) made = made
undo_not_made (Err e) made = made

step_adds : {R A : Type 0} (remaining : R → Option (List ℕ)) (old new : Images) (c : Command R A) (reply : Reply)
    → IsMade reply → CommandStep remaining (Standing.Up old) c reply (Standing.Up new) → OneMore old new
step_adds {A = A} remaining old new (Revert text offset) reply made step = elim step as (λ _. OneMore old new) [
  | inl refused ↦ absurd (not_refused reply _ made refused.0)
  | inr read ↦ read_step_adds old new (dump_change {A = A} offset) (dump_pieces text) reply made read
]
step_adds {A = A} remaining old new (RevertPlain text at) reply made step = elim step as (λ _. OneMore old new) [
  | inl refused ↦ absurd (not_refused reply _ made refused.0)
  | inr read ↦ read_step_adds old new (plain_change {A = A} at) (plain_answer text) reply made read
]
step_adds remaining old new (Dd operands input) reply made step = dd_step_adds old new step.1.0 reply made step.1.1.1
step_adds remaining old new (Copy plan input) reply made step = dd_step_adds old new step.1.0 reply made step.1.1.1
step_adds {A = A} remaining old new (Patch patch) reply made step = patch_step_adds {A = A} old new (asked_of patch) reply made step
step_adds remaining old new (Undo k) reply made step = absurd (undo_not_made step.0 (subst IsMade step.1 made))
step_adds remaining old new (Redo j) reply made step = absurd (redo_not_made step.0 (subst IsMade step.1 made))

-- as many images more as there are commands
abbrev Adds : ℕ → Images → Images → Type 0
Adds k old new = (drop k new.stack ≡ old.stack) × (length new.stack ≡ k + length old.stack)

add_first : (k : ℕ) (old now new : Images) → OneMore old now → Adds k now new → Adds (suc k) old new
add_first k old now new one more =
    let after : k + 1 ≡ suc k = omega arith in
    let first : drop (suc k) new.stack ≡ drop (k + 1) new.stack = ap (λ n. drop n new.stack) (sym after) in
    let next : drop (suc k) new.stack ≡ old.stack = first ∙ sym (drop-drop 1 k new.stack) ∙ ap (drop 1) (more.0 ∙ one.1) in
    let count : length now.stack ≡ suc (length old.stack) = ap length one.1 in
    let long : length new.stack ≡ k + length now.stack = more.1 in
    (next, omega (arith, count, long))

run_adds : {R A : Type 0} (remaining : R → Option (List ℕ)) (start new : Images) (list : List (Command R A)) (replies : List Reply)
    → StackRun remaining start list replies new → All IsMade replies → Adds (length list) start new
run_adds remaining start new [] [] run all =
    let same : new.stack ≡ start.stack = ap (λ images. images.stack) run in
    let count = ap length same in
    (same, omega (arith, count))
run_adds remaining start new [] (p ∷ replies) run all = absurd run
run_adds remaining start new (c ∷ list) [] run all = absurd run
run_adds remaining start new (c ∷ list) (p ∷ replies) (now, step, rest) all =
    let one = step_adds remaining start now c p (all 0 p (omega arith)) step.0 in
    add_first (length list) start now new one (run_adds remaining now new list replies rest (all_tail IsMade p replies all))

-- how many changes are left, by the reply
abbrev left_of : Reply → ℕ
left_of (Undone left) = left
left_of p = 0

abbrev IsUndone : Reply → Type 0
IsUndone (Undone left) = Unit {0}
IsUndone p = ⊥

undo_takes_off : (k left : ℕ) (start new after : Images) (r : Result ℕ SessionFault)
    → Undone left ≡ answered Undone r → UndoUp k new r (Standing.Up after) → Adds k start new
    → (after.stack ≡ start.stack) × (left ≡ changes_of start.stack)
undo_takes_off k left start new after (Ok n) told p adds =
    let same : left ≡ n = ap left_of told in
    let count = p.2.1 in
    let long = adds.1 in
    (ap (λ s. (images_of s).stack) p.1 ∙ p.2.2 ∙ adds.0, omega (arith, same, count, long))
undo_takes_off k left start new after (Err e) told p adds = absurd (subst IsUndone told tt)

pub gives_back : {R A : Type 0} (remaining : R → Option (List ℕ)) (start changed after : Images) (list : List (Command R A)) (replies : List Reply) (left : ℕ)
    → StackRun remaining start list replies changed → All IsMade replies
    → StackStep {R = R} {A = A} remaining changed (Undo (length list)) (Undone left) after
    → (after.stack ≡ start.stack) × (left ≡ changes_of start.stack)
gives_back remaining start changed after list replies left run all step =
    undo_takes_off (length list) left start changed after step.0.0 step.0.1 step.0.2 (run_adds remaining start changed list replies run all)

-- what an undo of k takes off, a redo of k puts back

length_kept : (b : Bool) (x : List ℕ) (undone : List (List ℕ)) → length (if b then x ∷ undone else []) ≤ suc (length undone)
length_kept true x undone = omega arith
length_kept false x undone = omega arith

length_undone : (k : ℕ) (stack undone : List (List ℕ)) → length (undone_by k stack undone) ≤ k + length undone
length_undone zero stack undone = omega arith
length_undone (suc k) [] undone = omega arith
length_undone (suc k) (x ∷ stack) undone =
    let first = length_kept (nat_le (length x) MAX_LEN) x undone in
    let rest = length_undone k stack (with_undone x undone) in
    omega (arith, first, rest)

-- where as many are undone, the first was kept
kept_first : (b : Bool) (k : ℕ) (x : List ℕ) (stack undone : List (List ℕ)) → suc k ≤ length (undone_by k stack (if b then x ∷ undone else []))
    → (if b then x ∷ undone else []) ≡ x ∷ undone
kept_first true k x stack undone many = refl
kept_first false k x stack undone many =
    let few = length_undone k stack [] in
    absurd (omega (arith, few, many))

redone_more : (k : ℕ) (undone rest stack : List (List ℕ)) (x : List ℕ) → drop k undone ≡ x ∷ rest → redone_by (suc k) undone stack ≡ x ∷ redone_by k undone stack
redone_more zero [] rest stack x is = absurd (cc)
redone_more zero (y ∷ undone) rest stack x is = ap (λ u. redone_by 1 u stack) is
redone_more (suc k) [] rest stack x is = absurd (cc)
redone_more (suc k) (y ∷ undone) rest stack x is = redone_more k undone rest (y ∷ stack) x is

-- the images that stand and those that are undone, behind an undo and a redo of k
abbrev ComesBack : ℕ → List (List ℕ) → List (List ℕ) → List (List ℕ) → List (List ℕ) → Type 0
ComesBack k below now stack undone = (redone_by k now below ≡ stack) × (drop k now ≡ undone)

comes_back : (k : ℕ) (stack undone : List (List ℕ)) → k ≤ length stack → k ≤ length (undone_by k stack undone)
    → ComesBack k (drop k stack) (undone_by k stack undone) stack undone
comes_back zero stack undone within many = (refl, refl)
comes_back (suc k) [] undone within many = absurd (omega (arith, within))
comes_back (suc k) (x ∷ stack) undone within many =
    let is : with_undone x undone ≡ x ∷ undone = kept_first (nat_le (length x) MAX_LEN) k x stack undone many in
    let Many : List (List ℕ) → Type 0 = λ w. suc k ≤ length (undone_by k stack w) in
    let as_many : suc k ≤ length (undone_by k stack (x ∷ undone)) = subst Many is many in
    let back = comes_back k stack (x ∷ undone) (omega (arith, within)) (omega (arith, as_many)) in
    let now = undone_by k stack (x ∷ undone) in
    let more : redone_by (suc k) now (drop k stack) ≡ x ∷ stack = redone_more k now undone (drop k stack) x back.1 ∙ ap (λ s. x ∷ s) back.0 in
    let after : k + 1 ≡ suc k = omega arith in
    let left : drop (suc k) now ≡ undone = ap (λ n. drop n now) (sym after) ∙ sym (drop-drop 1 k now) ∙ ap (drop 1) back.1 in
    let Back : List (List ℕ) → Type 0 = λ w. ComesBack (suc k) (drop k stack) (undone_by k stack w) (x ∷ stack) undone in
    subst Back (sym is) (more, left)

-- how many changes then stand, by the reply
abbrev redone_of : Reply → ℕ
redone_of (Redone n) = n
redone_of p = 0

abbrev IsRedone : Reply → Type 0
IsRedone (Redone n) = Unit {0}
IsRedone p = ⊥

redo_puts_back : (k left changes : ℕ) (start now after : Images) (r s : Result ℕ SessionFault)
    → Undone left ≡ answered Undone r → UndoUp k start r (Standing.Up now)
    → Redone changes ≡ answered Redone s → RedoUp k now s (Standing.Up after)
    → (after ≡ start) × (changes ≡ changes_of start.stack)
redo_puts_back k left changes start now after (Ok n) (Ok m) undo_told p redo_told q =
    let now_is : now ≡ undo_of k start = ap images_of p.1 ∙ p.3 in
    let after_is : after ≡ redo_of k now = ap images_of q.1 ∙ q.2.2 in
    let within : k ≤ changes_of start.stack = p.2.0 in
    let many : k ≤ length (undone_by k start.stack start.undone) = subst (λ s. k ≤ length s.undone) now_is q.2.0 in
    let back = comes_back k start.stack start.undone (omega (arith, within)) many in
    let Made : List (List ℕ) → List (List ℕ) → Images = λ stack undone. record { stack = stack; undone = undone } in
    let same : redo_of k (undo_of k start) ≡ start = ap (λ stack. Made stack (redo_of k (undo_of k start)).undone) back.0 ∙ ap (Made start.stack) back.1 in
    let told : changes ≡ m = ap redone_of redo_told in
    let counted : m ≡ changes_of (drop k start.stack) + k = subst (λ s. m ≡ changes_of s.stack + k) now_is q.2.1 in
    let fewer = length-drop k start.stack in
    (after_is ∙ ap (redo_of k) now_is ∙ same, omega (arith, told, counted, fewer, within))
redo_puts_back k left changes start now after (Err e) s undo_told p redo_told q = absurd (subst IsUndone undo_told tt)
redo_puts_back k left changes start now after (Ok n) (Err e) undo_told p redo_told q = absurd (subst IsRedone redo_told tt)

pub redo_gives_back : {R : Type 0} (A : Type 0) (remaining : R → Option (List ℕ)) (start undone after : Images) (k left changes : ℕ)
    → StackStep {R = R} {A = A} remaining start (Undo k) (Undone left) undone
    → StackStep {R = R} {A = A} remaining undone (Redo k) (Redone changes) after
    → (after ≡ start) × (changes ≡ changes_of start.stack)
redo_gives_back A remaining start undone after k left changes undo redo =
    redo_puts_back k left changes start undone after undo.0.0 redo.0.0 undo.0.1 undo.0.2 redo.0.1 redo.0.2

-- an undo of m and j is one of m, and then one of j
undone_plus : (m j : ℕ) (stack undone : List (List ℕ)) → m ≤ length stack → undone_by (m + j) stack undone ≡ undone_by j (drop m stack) (undone_by m stack undone)
undone_plus zero j stack undone within = let same : zero + j ≡ j = omega arith in ap (λ n. undone_by n stack undone) same
undone_plus (suc m) j [] undone within = absurd (omega (arith, within))
undone_plus (suc m) j (x ∷ stack) undone within =
    let next : suc m + j ≡ suc (m + j) = omega arith in
    ap (λ n. undone_by n (x ∷ stack) undone) next ∙ undone_plus m j stack (with_undone x undone) (omega (arith, within))

-- a redo of the last j of m and j undone
redo_puts_some : (m j : ℕ) (s : Images) → m + j ≤ length s.stack → j ≤ length (undo_of (m + j) s).undone → redo_of j (undo_of (m + j) s) ≡ undo_of m s
redo_puts_some m j s within many =
    let below = drop m s.stack in
    let over = undone_by m s.stack s.undone in
    let Made : List (List ℕ) → List (List ℕ) → Images = λ stack undone. record { stack = stack; undone = undone } in
    let plus = undone_plus m j s.stack s.undone (omega (arith, within)) in
    let fewer = length-drop m s.stack in
    let back = comes_back j below over (omega (arith, within, fewer)) (subst (λ undone. j ≤ length undone) plus many) in
    let dropped : drop (m + j) s.stack ≡ drop j below = sym (drop-drop j m s.stack) in
    ap (λ stack. redo_of j (Made stack (undone_by (m + j) s.stack s.undone))) dropped ∙ ap (λ undone. redo_of j (Made (drop j below) undone)) plus
    ∙ ap (λ stack. Made stack (drop j (undone_by j below over))) back.0 ∙ ap (Made below) back.1

redo_of_part : (k j left changes : ℕ) (start now after : Images) (r s : Result ℕ SessionFault) → j ≤ k
    → Undone left ≡ answered Undone r → UndoUp k start r (Standing.Up now)
    → Redone changes ≡ answered Redone s → RedoUp j now s (Standing.Up after)
    → after ≡ undo_of (k - j) start
redo_of_part k j left changes start now after (Ok n) (Ok m) fewer undo_told p redo_told q =
    let now_is : now ≡ undo_of k start = ap images_of p.1 ∙ p.3 in
    let after_is : after ≡ redo_of j now = ap images_of q.1 ∙ q.2.2 in
    let within : k ≤ changes_of start.stack = p.2.0 in
    let all : k - j + j ≡ k = omega (arith, fewer) in
    let same : now ≡ undo_of (k - j + j) start = now_is ∙ ap (λ n. undo_of n start) (sym all) in
    let many : j ≤ length (undo_of (k - j + j) start).undone = subst (λ s. j ≤ length s.undone) same q.2.0 in
    after_is ∙ ap (redo_of j) same ∙ redo_puts_some (k - j) j start (omega (arith, within, all)) many
redo_of_part k j left changes start now after (Err e) s fewer undo_told p redo_told q = absurd (subst IsUndone undo_told tt)
redo_of_part k j left changes start now after (Ok n) (Err e) fewer undo_told p redo_told q = absurd (subst IsRedone redo_told tt)

pub redo_gives_part : {R : Type 0} (A : Type 0) (remaining : R → Option (List ℕ)) (start undone after : Images) (k j left changes : ℕ) → j ≤ k
    → StackStep {R = R} {A = A} remaining start (Undo k) (Undone left) undone
    → StackStep {R = R} {A = A} remaining undone (Redo j) (Redone changes) after
    → after ≡ undo_of (k - j) start
redo_gives_part A remaining start undone after k j left changes fewer undo redo =
    redo_of_part k j left changes start undone after undo.0.0 redo.0.0 fewer undo.0.1 undo.0.2 redo.0.1 redo.0.2

-- behind k changes and an undo of k the image of the device is the first one
pub k_changes : {D T R A : Type 0} (d : DeviceViews D) (t : StoreViews T) (remaining : R → Option (List ℕ)) → KChangesAndUndo d t R A remaining
k_changes {R = R} {A = A} d t remaining old changed new list replies left start shows (oi, oj, oo, still, run) all (ci, cj, co, quiet, back) =
    let made = run oi oj oo still start shows in
    let undone = back ci cj co quiet made.0 made.1 in
    let step = subst (λ s. StackStep {R = R} {A = A} remaining made.0 (Undo (length list)) (Undone left) s) (sym undone.2.2) undone.2.1 in
    let same = gives_back remaining start made.0 undone.0 list replies left made.2 all step in (
      (undone.0, undone.1, same.0),
      sym (top_standing d.image t.text new undone.0.stack undone.1.0) ∙ ap top same.0 ∙ top_standing d.image t.text old start.stack shows.0,
    )
