-- What steps make of an image.
use Rattle.std.proofs.Common.{◌≡◌, ◌⊎◌, ◌+◌, ◌<◌, ◌≤◌, ℕ, Option, inl, inr, zero, suc, List, [], ◌∷◌, ◌++◌, length, drop, map, refl, sym, ap, subst, ◌∙◌, arith}
use Rattle.std.proofs.KnownBytes.{Appends-nil}
use Rattle.std.proofs.lemmas.List.{length-append}
use Rattle.bx_image.specs.declared.change.Change.{Change}
use Rattle.bx_image.specs.declared.change.TheConstants.{MAX_LEN}
use Rattle.bx_image.specs.declared.device.ImageFault.{ImageFault}
use Rattle.bx_image.specs.declared.device.ImageFault.TheVariants.{DeviceFailed, NoMemory, TooLarge}
use Rattle.bx_image.specs.Change.{AllWithin, effect, restore}
use Rattle.bx_patch.specs.declared.diff.row.Extent.TheVariants.{Bytes}
use Rattle.bx_patch.specs.declared.diff.fault.DiffFault.{DiffFault}
use Rattle.bx_patch.proofs.WritingLemmas.{text_some}
use Rattle.bx_patch.specs.preview.Changed.{effects}
use Rattle.bx_journal_format.specs.Finished.{IsFinished}
use Rattle.bx_journal_format.specs.Kept.{kept_of, run_of}
use Rattle.bx_journal_format.specs.Parsed.{AllKept, entries_onto}
use Rattle.bx_journal_format.specs.declared.read.types.EntryRead.{EntryRead}
use Rattle.bx_journal_format.proofs.KeptLemmas.{same_restore, within_out}
use Rattle.bx_journal_format.proofs.ReadLemmas.{onto-push}
use Rattle.bx_journal.specs.Images.{Images, redone_by}
use Rattle.bx_journal.specs.Machine.{changes_of, top}
use Rattle.bx_journal.specs.Stack.{StandsFor, stack_of}
use Rattle.bx_journal.specs.Text.{Between, Entry, Reading}
use Rattle.bx_journal.specs.Undoing.{HasCount}
use Rattle.bx_journal.specs.Direction.{Direction}
use Rattle.bx_journal.specs.Direction.TheVariants.{Undo, Redo}
use Rattle.bx_journal_read.proofs.OpenLemmas.{some_same}
use Rattle.bx_journal_model.proofs.Phases.{length-stack_of}
use Rattle.bx_journal_model.proofs.UndoLoop.{drop_one, kept_next}
use Rattle.bx_run_report.specs.report.Stepped.{HoldImages, IsPatchCut, patch_between, stopped_by, unchanged_by}
use Rattle.bx_run_report.specs.declared.report.error.ReportError.{ReportError}

-- a patch either way has its last line at least
pub between_some : (way : Direction) (there behind : List ℕ) → 0 < length (patch_between way there behind)
between_some Undo there behind = text_some Bytes behind there
between_some Redo there behind = text_some Bytes there behind

-- where there is no image behind the changes nothing of a patch is written
pub nothing_cut : (way : Direction) (there behind : List ℕ) (old : Option (List ℕ)) (why : ImageFault) (fault : DiffFault) (unseen : ReportError)
    → fault ≡ unchanged_by why → unseen ≡ stopped_by fault → IsPatchCut (patch_between way there behind) old old unseen
nothing_cut way there behind old NoMemory fault unseen is said =
    (fault, said, ([], patch_between way there behind, refl, between_some way there behind, Appends-nil old, rw is tt))
nothing_cut way there behind old TooLarge fault unseen is said =
    (fault, said, ([], patch_between way there behind, refl, between_some way there behind, Appends-nil old, rw is tt))
nothing_cut way there behind old DeviceFailed fault unseen is said =
    (fault, said, ([], patch_between way there behind, refl, between_some way there behind, Appends-nil old, rw is tt))

-- the newest image is the one that is there
top_of : (es : List Entry) (x : List ℕ) → top (stack_of es x) ≡ x
unfolding stack_of
top_of [] x = refl
top_of (e ∷ es) x = refl

-- one more change
effects_push : {A : Type 0} (cs : List (Change A)) (c : Change A) (x : List ℕ) → effects (cs ++ c ∷ []) x ≡ effect c (effects cs x)
unfolding effects
effects_push [] c x = refl
effects_push (b ∷ cs) c x = effects_push cs c (effect b x)

-- where restoring is: the changes so far lead to the image above what is left of the entries
pub record IsRestoring {A : Type 0} (first now : List (EntryRead A)) (i : ℕ) (cs : List (Change A)) : Type 0 where
  pub leads : (older : List Entry) (x : List ℕ) → drop i (stack_of (entries_onto older first) x) ≡ stack_of (entries_onto older now) (effects cs x)
  pub kept : AllKept MAX_LEN now
  pub left : length now + i ≡ length first

pub restoring_none : {A : Type 0} (es : List (EntryRead A)) → AllKept MAX_LEN es → IsRestoring {A = A} es es 0 []
unfolding effects
restoring_none es kept = record { leads = λ older x. refl; kept = kept; left = omega arith }

pushed : (s : List (List ℕ)) (n : ℕ) (y : List ℕ) (rest : List (List ℕ)) → drop n s ≡ y ∷ rest → drop (n + 1) s ≡ rest
pushed s n y rest is = sym (drop_one n s) ∙ ap (drop 1) is

-- the stack below the newest entry
below : {A : Type 0} (older : List Entry) (es : List (EntryRead A)) (e : EntryRead A) (y : List ℕ)
    → stack_of (entries_onto older (es ++ e ∷ [])) y ≡ y ∷ stack_of (entries_onto older es) (restore (kept_of e.kept) y)
unfolding stack_of
below older es e y = ap (λ fs. stack_of fs y) (onto-push older es e)

-- one more entry is restored
pub restoring_more : {A : Type 0} (first before now : List (EntryRead A)) (e : EntryRead A) (i : ℕ) (cs : List (Change A)) (c : Change A)
    → before ≡ now ++ e ∷ [] → (AllWithin e.kept.len e.kept.runs → (y : List ℕ) → effect c y ≡ restore e.kept y)
    → IsRestoring first before i cs → IsRestoring first now (i + 1) (cs ++ c ∷ [])
restoring_more {A = A} first before now e i cs c is makes so = record {
  leads = λ older x.
      let y = effects cs x in
      let here : drop i (stack_of (entries_onto older first) x) ≡ y ∷ stack_of (entries_onto older now) (restore (kept_of e.kept) y) =
      so.leads older x ∙ ap (λ (es : List (EntryRead A)). stack_of (entries_onto older es) y) is ∙ below older now e y in
      let made : restore (kept_of e.kept) y ≡ effects (cs ++ c ∷ []) x =
      same_restore e.kept y ∙ sym (makes (within_out e.kept.len e.kept.runs kept.1) y) ∙ sym (effects_push cs c x) in
      pushed (stack_of (entries_onto older first) x) i y (stack_of (entries_onto older now) (restore (kept_of e.kept) y)) here
      ∙ ap (stack_of (entries_onto older now)) made;
  kept = kept.0;
  left = omega (arith, so.left, count);
}
  where
    kept : AllKept MAX_LEN now × AllWithin e.kept.len (map run_of e.kept.runs) × (e.kept.len ≤ MAX_LEN)
    kept = kept_next MAX_LEN 0 now e (omega arith) (subst (AllKept MAX_LEN) is so.kept)

    count : length before ≡ length now + 1
    count = ap length is ∙ length-append now (e ∷ [])

-- and all are
pub restoring_all : {A : Type 0} (first now : List (EntryRead A)) (i : ℕ) (cs : List (Change A)) (older : List Entry) (x : List ℕ)
    → IsRestoring first now i cs → effects cs x ≡ top (drop i (stack_of (entries_onto older first) x))
restoring_all first now i cs older x so = sym (top_of (entries_onto older now) (effects cs x)) ∙ ap top (sym (so.leads older x))

-- what a text of finished entries alone reads as
abbrev entries_read : List Entry → Reading
entries_read es = record { entries = es; stage = Between }

-- the stack that a text of these entries stands for
pub stack_read : (text x : List ℕ) (stack : List (List ℕ)) (es : List Entry) → StandsFor text x stack → IsFinished text es → stack ≡ stack_of es x
stack_read text x stack es stands finished =
    let same : stands.entries ≡ es =
    ap (λ (r : Reading). r.entries) (some_same (entries_read stands.entries) (entries_read es) (sym stands.reads.lines ∙ finished.reads.lines)) in
    stands.stack_is ∙ ap (λ fs. stack_of fs x) same

-- the text is as many finished entries as the stack has changes
pub stands_count : (text x : List ℕ) (stack : List (List ℕ)) → StandsFor text x stack → HasCount text (changes_of stack)
stands_count text x stack stands =
    (stands.entries, record { reads = stands.reads; whole = stands.whole }, omega (arith, ap length stands.stack_is, length-stack_of stands.entries x))

-- so it is of a text that stands for a stack
pub top_stands : (text x : List ℕ) (stack : List (List ℕ)) → StandsFor text x stack → top stack ≡ x
top_stands text x stack stands = ap top stands.stack_is ∙ top_of stands.entries x

-- the image behind a redo
pub redone_top : (j : ℕ) (undone stack : List (List ℕ)) → j ≤ length undone → top (redone_by j undone stack) ≡ top (drop j (top stack ∷ undone))
redone_top zero undone stack few = refl
redone_top (suc j) [] stack few = absurd (omega (arith, few))
redone_top (suc j) (y ∷ undone) stack few = redone_top j undone (y ∷ stack) (omega (arith, few))

-- three texts hold one pair of stacks
pub one_images : (image journal redo : List ℕ) (r s : Images) → HoldImages image journal redo r → HoldImages image journal redo s → r ≡ s
one_images image journal redo r s one other =
    let stack : r.stack ≡ s.stack = stack_read journal image r.stack other.stack.entries one.stack (record { reads = other.stack.reads; whole = other.stack.whole }) ∙ sym other.stack.stack_is in
    let stands = other.undone.stands in
    let both : image ∷ r.undone ≡ image ∷ s.undone =
    stack_read redo image (image ∷ r.undone) stands.entries one.undone.stands (record { reads = stands.reads; whole = stands.whole }) ∙ sym stands.stack_is in
    let undone : r.undone ≡ s.undone = ap (drop 1) both in
    ap (λ (a : List (List ℕ)). (record { stack = a; undone = r.undone })) stack ∙ ap (λ (b : List (List ℕ)). (record { stack = s.stack; undone = b })) undone
