-- Whether a history may be dropped, by what an opening says.
use Rattle.std.proofs.Common.{◌≡◌, ◌⊎◌, ◌∙◌, ℕ, ◌+◌, Bool, true, false, List, ◌++◌, Option, None, Some, Ok, Err, length, take, drop, inl, inr, refl, sym, ap, subst, arith}
use Rattle.std.proofs.lemmas.List.{append_assoc, length-drop, take-append-drop, take_all}
use Rattle.std.specs.Prelude.{IfErr, IfSome, OnOk, Result, is_some, not}
use Rattle.std.proofs.lemmas.Result.{IfErr-weaker}
use Rattle.bx_image.specs.Power.{NoMore}
use Rattle.bx_image.specs.declared.device.Device.{Ghosts as DeviceViews}
use Rattle.bx_journal_store.specs.declared.store.TextStore.{Ghosts as StoreViews}
use Rattle.bx_journal_image.specs.Ranges.{EndsIn, ending_line}
use Rattle.bx_journal_image.specs.Unfinished.{IsOpenJudged}
use Rattle.bx_journal_image.specs.declared.line.form.ImageLine.{ImageLine}
use Rattle.bx_journal_image.specs.declared.judging.judge.Verdict.{Verdict}
use Rattle.bx_journal_image.specs.declared.judging.judge.Verdict.TheVariants.{Same, Other, Untold}
use Rattle.bx_journal.specs.Calls.{AfterFault}
use Rattle.bx_journal.specs.Devices.{Devices}
use Rattle.bx_journal.specs.Opened.{OpensDevices}
use Rattle.bx_journal.specs.Opening.{ThreeCounts}
use Rattle.bx_journal.specs.SessionFault.{SessionFault}
use Rattle.bx_journal.specs.SessionFault.TheVariants.{NoMemory, TooLarge, DeviceFailed, Damaged, TooFew, JournalFull, Interrupted, Broken, LengthDiffers, NothingToRedo, RedoDamaged}
use Rattle.bx_world.specs.declared.files.guard.Guard.{Guard}
use Rattle.bx_run_report.specs.report.Devices.{HoldBytes}
use Rattle.bx_run.specs.forget.Forgetting.{EndsWithEntry, IsJudgedOpen, IsOfTexts, IsRecoveredFirst, KeepsHistory, MayForget, drops}
use Rattle.bx_run_report.specs.report.Noted.{IsNoteLine}
use Rattle.bx_run_report.specs.report.Looks.{HidesChanges, StopsOpening, unseen_of}
use Rattle.bx_run_report.specs.declared.report.noted.NoteLine.{NoteLine}
use Rattle.bx_run_report.specs.declared.report.error.ReportError.{ReportError}
use Rattle.bx_run_report.specs.declared.report.error.ReportError.TheVariants.{Unopened, Unfinished, Another, Stopped}
use Rattle.bx_run_report.proofs.Looking.{opened_refused}

-- a fault of texts is no interruption, and none of a device
of_texts : (A B : Type 0) (e : SessionFault) → IsOfTexts e → AfterFault e A B → B
of_texts A B NoMemory is p = absurd is
of_texts A B TooLarge is p = absurd is
of_texts A B DeviceFailed is p = absurd is
of_texts A B (Damaged line) is p = p
of_texts A B (TooFew have) is p = absurd is
of_texts A B JournalFull is p = absurd is
of_texts A B Interrupted is p = absurd is
of_texts A B Broken is p = absurd is
of_texts A B (LengthDiffers expected) is p = p
of_texts A B (NothingToRedo have) is p = absurd is
of_texts A B (RedoDamaged line) is p = p

uncounted : (e : SessionFault) (d t u d_new t_new u_new : ℕ) → IsOfTexts e → ThreeCounts e d t u d_new t_new u_new → d_new ≡ d
uncounted NoMemory d t u d_new t_new u_new is p = absurd is
uncounted TooLarge d t u d_new t_new u_new is p = absurd is
uncounted DeviceFailed d t u d_new t_new u_new is p = absurd is
uncounted (Damaged line) d t u d_new t_new u_new is p = p.0
uncounted (TooFew have) d t u d_new t_new u_new is p = absurd is
uncounted JournalFull d t u d_new t_new u_new is p = absurd is
uncounted Interrupted d t u d_new t_new u_new is p = absurd is
uncounted Broken d t u d_new t_new u_new is p = absurd is
uncounted (LengthDiffers expected) d t u d_new t_new u_new is p = p.0
uncounted (NothingToRedo have) d t u d_new t_new u_new is p = absurd is
uncounted (RedoDamaged line) d t u d_new t_new u_new is p = p.0

stops : (image journal redo : List ℕ) (e : SessionFault) → IsOfTexts e → HidesChanges image journal redo (unseen_of e) → StopsOpening image journal redo e
stops image journal redo NoMemory is p = absurd is
stops image journal redo TooLarge is p = absurd is
stops image journal redo DeviceFailed is p = absurd is
stops image journal redo (Damaged line) is p = p
stops image journal redo (TooFew have) is p = absurd is
stops image journal redo JournalFull is p = absurd is
stops image journal redo Interrupted is p = absurd is
stops image journal redo Broken is p = absurd is
stops image journal redo (LengthDiffers expected) is p = p
stops image journal redo (NothingToRedo have) is p = absurd is
stops image journal redo (RedoDamaged line) is p = p

-- Of devices whose opening is refused for texts that are an image's.
module _ {D T : Type 0} (d : DeviceViews D) (t : StoreViews T) (old new : Devices D T) (e : SessionFault) (is : IsOfTexts e)
    (opens : OpensDevices d t old (Err (new, e))) where
  pub of_texts_unfailed : d.failures new.image ≡ d.failures old.image
  of_texts_unfailed = uncounted e _ _ _ _ _ _ is opens.devices.counts

  module _ (image journal redo : List ℕ) (holds : HoldBytes d t image journal redo old) where
    pub of_texts_may : (note : List ℕ) (guard : Guard) → MayForget guard note image journal redo
    of_texts_may note guard = inr (inl (e, is, stops image journal redo e is (opened_refused d t old image journal redo holds new e opens)))

    pub of_texts_image : d.faithful new.image × (d.image new.image ≡ image)
    of_texts_image = (
      opens.devices.faith_err.0.1 holds.image_faithful,
      (of_texts _ _ e is (opens.spares.refused holds.image_faithful holds.journal_faithful)).1 ∙ holds.image_is,
    )

    pub of_texts_found : NoMore (d.survives old.image) (d.survives new.image)
    of_texts_found = (of_texts _ _ e is opens.found_before).image_before holds.image_faithful

-- a text ends an entry whose last bytes do
ends_last : (text : List ℕ) (at n : ℕ) → EndsIn (drop at text) n → EndsWithEntry text
ends_last text at n ends = (
  n,
  record {
    front = take at text ++ ends.front;
    after = ends.after;
    number = ends.number;
    fits = ends.fits;
    is = sym (take-append-drop at text) ∙ ap (λ rest. take at text ++ rest) ends.is ∙ sym (append_assoc (take at text) ends.front (ending_line n ends.after));
  },
)

last_bytes : (text : List ℕ) (at : ℕ) → at + 32 ≡ length text → take 32 (drop at text) ≡ drop at text
last_bytes text at long = take_all 32 (drop at text) (omega (arith, long, length-drop at text))

-- and so where these were read
pub ends_read : (text tail : List ℕ) (at : ℕ) (o : Option ℕ) → at + 32 ≡ length text → tail ≡ take 32 (drop at text) → IfSome o (EndsIn tail)
    → is_some o ≡ true → EndsWithEntry text
ends_read text tail at None long is ends some = absurd (let wrong : false ≡ true = some in cc)
ends_read text tail at (Some n) long is ends some = ends_last text at n (subst (λ bytes. EndsIn bytes n) (is ∙ last_bytes text at long) ends)

-- devices that were looked at hold what they held
pub looked_at : {D T : Type 0} (d : DeviceViews D) (t : StoreViews T) (old : Devices D T) (image journal redo : List ℕ) → HoldBytes d t image journal redo old
    → (x : D) (j : T) → (d.faithful old.image → d.image x ≡ d.image old.image) → (t.faithful old.journal → t.text j ≡ t.text old.journal)
    → (d.faithful old.image → d.faithful x) → (t.faithful old.journal → t.faithful j) → HoldBytes d t image journal redo (record { image = x; journal = j; redo = old.redo })
looked_at d t old image journal redo holds x j same journal_same faith journal_faith = record {
  image_faithful = faith holds.image_faithful;
  journal_faithful = journal_faith holds.journal_faithful;
  redo_faithful = holds.redo_faithful;
  image_is = same holds.image_faithful ∙ holds.image_is;
  journal_is = journal_same holds.journal_faithful ∙ holds.journal_is;
  redo_is = holds.redo_is;
}

-- what is judged of devices is judged of the bytes that they hold
pub judged_bytes : {D T : Type 0} (d : DeviceViews D) (t : StoreViews T) (old : Devices D T) (image journal redo : List ℕ) → HoldBytes d t image journal redo old
    → (line : Option ImageLine) (found : Option Verdict) → IsJudgedOpen line (t.text old.journal) (d.image old.image) found → IsJudgedOpen line journal image found
judged_bytes d t old image journal redo holds line found is =
    subst (λ text. IsJudgedOpen line text image found) holds.journal_is
    (subst (λ x. IsJudgedOpen line (t.text old.journal) x found) holds.image_is is)

-- and what is found of one after a loss of power was found before
pub found_through : (r : Result (Unit {0}) ReportError) (first mid last : List ℕ → Type 0) → NoMore first mid → OnOk r (NoMore mid last)
    → OnOk r (NoMore first last)
found_through (Ok done) first mid last before more = λ c there. before c (more c there)
found_through (Err u) first mid last before more = tt

hides_keeps : (guard : Guard) (note image journal redo : List ℕ) → IsRecoveredFirst note image journal → (u : ReportError) → HidesChanges image journal redo u
    → KeepsHistory guard note image journal redo u
hides_keeps guard note image journal redo first (Unopened file) p = p
hides_keeps guard note image journal redo first Unfinished p = (p, first)
hides_keeps guard note image journal redo first Another p = absurd p
hides_keeps guard note image journal redo first (Stopped fault) p = p

-- what an opening hides keeps the history, where what is unfinished is recovered first
pub found_keeps : (guard : Guard) (note image journal redo : List ℕ) → IsRecoveredFirst note image journal → (r : Result (Unit {0}) ReportError)
    → IfErr r (HidesChanges image journal redo) → IfErr r (KeepsHistory guard note image journal redo)
found_keeps guard note image journal redo first r p = IfErr-weaker r _ _ (hides_keeps guard note image journal redo first) p

pub not_same : (v : Verdict) → (v ≡ Other) ⊎ (v ≡ Untold) → v ≡ Same → ⊥
not_same v (inl other) same = let wrong : Other ≡ Same = sym other ∙ same in cc
not_same v (inr untold) same = let wrong : Untold ≡ Same = sym untold ∙ same in cc

pub was_read : (b : Bool) → not b ≡ false → b ≡ true
was_read true e = refl
was_read false e = sym e

-- Of an image that is this by what was read.
module _ (guard : Guard) (note image journal redo : List ℕ) (told : NoteLine) (is : IsNoteLine note told) (read : told.is_read ≡ true) (verdict : Verdict)
    (judged : IsOpenJudged told.line journal image verdict) where
  pub told_recovers : verdict ≡ Same → IsRecoveredFirst note image journal
  told_recovers same = inr (inr (record { line = told.line; noted = is read; judged = subst (IsOpenJudged told.line journal image) same judged }))

  pub told_may : (r : Result (Unit {0}) ReportError) (b : Bool) → b ≡ drops guard verdict → OnOk r (b ≡ true) → OnOk r (MayForget guard note image journal redo)
  told_may (Ok done) b same dropped = inr (inr (verdict, record { line = told.line; noted = is read; judged = judged }, sym same ∙ dropped))
  told_may (Err u) b same dropped = tt

  pub told_keeps : (verdict ≡ Same → ⊥) → (r : Result (Unit {0}) ReportError) (b : Bool) → b ≡ drops guard verdict
      → IfErr r (λ u. (u ≡ Another) × (b ≡ false)) → IfErr r (KeepsHistory guard note image journal redo)
  told_keeps other r b same kept = IfErr-weaker r _ _
      (λ u is_kept. subst (KeepsHistory guard note image journal redo) (sym is_kept.0)
      (verdict, record { line = told.line; noted = is read; judged = judged }, other, sym same ∙ is_kept.1)) kept
