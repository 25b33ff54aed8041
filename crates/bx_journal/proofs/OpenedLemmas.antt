-- What opening leaves of the three devices: beside finished entries alone, and beside something unfinished.
use Rattle.std.proofs.Common.{◌≡◌, ℕ, suc, ◌+◌, ◌≤◌, List, [], ◌∷◌, length, refl, ap, sym, ◌∙◌, subst, inl, inr, ◌⊎◌, arith, Option, Some, None, Result, Ok, Err}
use Rattle.std.specs.Prelude.{IfOk, IfErr, OnOk, OnErr, MatchResult}
use Rattle.std.proofs.lemmas.Bool.{cases_lt}
use Rattle.bx_journal_model.specs.declared.answers.RecoveryOutcome.{RecoveryOutcome}
use Rattle.bx_journal_model.specs.declared.answers.RecoveryOutcome.TheVariants.{Clean, Dropped, Restored}
use Rattle.bx_journal_model.specs.declared.answers.Recovered.{Recovered}
use Rattle.bx_journal_model.specs.declared.fault.SessionFault.{SessionFault}
use Rattle.bx_journal_model.specs.declared.fault.SessionFault.TheVariants.{NoMemory, TooLarge, DeviceFailed, Damaged, TooFew, JournalFull, Interrupted, Broken, LengthDiffers, NothingToRedo, RedoDamaged}
use Rattle.bx_journal_read.specs.declared.scan.journal.Found.{Found}
use Rattle.bx_journal_read.specs.declared.scan.journal.Found.TheVariants.{Finished, Unfinished}
use Rattle.bx_journal_read.specs.declared.scan.torn.Torn.{Torn}
use Rattle.bx_journal_format.specs.declared.read.window.Counted.{Counted}
use Rattle.bx_journal_model.specs.Calls.{AfterFault, Differs, OpenFault}
use Rattle.bx_journal_model.specs.Images.{Images}
use Rattle.bx_journal_read.specs.scan.Judging.{RefusesRedo}
use Rattle.bx_journal_model.specs.Machine.{changes_of}
use Rattle.bx_journal_model.specs.Opening.{IsOpened, RefusesLength}
use Rattle.bx_journal_format.specs.Parsed.{told_by}
use Rattle.bx_journal_read.specs.scan.Recovery.{FindFault, FinishedFault, HasOtherLength, HasToldLength, HasUndoneCount, IsCountedIn, IsFoundIn, IsUnfinishedIn, KeepsUndone, RecoverFault}
use Rattle.bx_journal_format.specs.Shown.{shown}
use Rattle.bx_journal_format.proofs.CleanLemmas.{clean_shown}
use Rattle.bx_journal_model.specs.Power.{Found as FoundOnDisk}
use Rattle.bx_journal_model.specs.Redo.{IsClean, IsRedoOf, IsRefusedAt, RefusesRedoAt, found_undone}
use Rattle.bx_journal_model.specs.Stack.{Recovers, image_at}
use Rattle.bx_journal_format.specs.count.Tally.{IsCounted}
use Rattle.bx_journal_format.specs.Text.{Between, Entry, IsAccepted, Reading, Reads}
use Rattle.bx_journal_model.proofs.Judged.{undamaged}
use Rattle.bx_journal_read.proofs.OpenLemmas.{after_same, differs_of}
use Rattle.bx_journal.proofs.TornLemmas.{torn_stack}
use Rattle.bx_journal_protocol.proofs.RedoText.{empty_is_redo, one_list}
use Rattle.bx_journal.proofs.Refused.{none_refused}
use Rattle.bx_journal.proofs.CountedLemmas.{counted_differs, counted_once, counted_opened, counted_stack}

-- a fault of reading the journal, where the text is accepted
module _ (H : Type 0) (text : List ℕ) (r : Reading) (h : H) (reads : Reads text r) where
  pub find_opens : (x : List ℕ) (e : SessionFault) → FindFault H text e → OpenFault r x e
  find_opens x NoMemory f = tt
  find_opens x DeviceFailed f = tt
  find_opens x (Damaged line) f = undamaged text line (r, reads) (f h)
  find_opens x TooLarge f = f
  find_opens x (TooFew have) f = f
  find_opens x JournalFull f = f
  find_opens x Interrupted f = tt
  find_opens x Broken f = f
  find_opens x (LengthDiffers n) f = absurd f
  find_opens x (NothingToRedo have) f = f
  find_opens x (RedoDamaged line) f = absurd f

  pub find_refuses : (n : ℕ) (e : SessionFault) → FindFault H text e → RefusesLength n e
  find_refuses n NoMemory f = tt
  find_refuses n DeviceFailed f = tt
  find_refuses n (Damaged line) f = undamaged text line (r, reads) (f h)
  find_refuses n TooLarge f = f
  find_refuses n (TooFew have) f = f
  find_refuses n JournalFull f = f
  find_refuses n Interrupted f = f
  find_refuses n Broken f = f
  find_refuses n (LengthDiffers m) f = absurd f
  find_refuses n (NothingToRedo have) f = f
  find_refuses n (RedoDamaged line) f = f

  pub find_redo : (m : ℕ) (e : SessionFault) → FindFault H text e → RefusesRedo m e
  find_redo m NoMemory f = tt
  find_redo m DeviceFailed f = tt
  find_redo m (Damaged line) f = undamaged text line (r, reads) (f h)
  find_redo m TooLarge f = f
  find_redo m (TooFew have) f = f
  find_redo m JournalFull f = f
  find_redo m Interrupted f = f
  find_redo m Broken f = f
  find_redo m (LengthDiffers n) f = f
  find_redo m (NothingToRedo have) f = f
  find_redo m (RedoDamaged line) f = absurd f

-- what was found is of the store's text
pub found_counted : (H : Type 0) (text : List ℕ) (f : Found) (n : Counted) → IsFoundIn H text f → f ≡ Finished n → H → IsCounted text n.count n.told
found_counted H text f n found is h =
    let i : IsCountedIn H text n.count n.told = subst (IsFoundIn H text) is found in
    subst (λ t. IsCounted t n.count n.told) (sym (i.is h)) i.counted

pub found_torn : (H : Type 0) (text : List ℕ) (f : Found) (t : Torn) → IsFoundIn H text f → f ≡ Unfinished t → IsUnfinishedIn H text t
found_torn H text f t found is = subst (IsFoundIn H text) is found

pub found_unclean : (H : Type 0) (text : List ℕ) (t : Torn) → IsUnfinishedIn H text t → H → IsClean text → ⊥
found_unclean H text t i h = (i.torn h).unfinished

-- the changes of the stack fit in a journal
pub found_few : (H : Type 0) (text x : List ℕ) (stack : List (List ℕ)) (t : Torn) → IsUnfinishedIn H text t → H → Recovers (shown text) x stack → changes_of stack ≤ 65535
found_few H text x stack t i h rec = omega (arith, torn_stack (shown text) (shown text) x stack t (i.torn h).reading (i.torn h).torn refl rec, i.few)

told_holds : (told : Option ℕ) (x : List ℕ) → ((n : ℕ) → told ≡ Some n → (length x ≡ n → ⊥) → ⊥) → HasToldLength told x
told_holds None x apart = tt
told_holds (Some n) x apart =
    elim (cases_lt n (length x)) [
      | inl below ↦ absurd (apart n refl (λ e. omega (arith, below, e)))
      | inr most ↦
          elim (cases_lt (length x) n) [
            | inl above ↦ absurd (apart n refl (λ e. omega (arith, above, e)))
            | inr least ↦ omega (arith, most, least)
          ]
    ]

-- beside finished entries alone
module _ (text x : List ℕ) (count : ℕ) (told : Option ℕ) (c : IsCounted text count told) (o : Result Recovered SessionFault) where
  -- what is answered is clean, and tells the count
  abbrev pub TellsCount : Type 0
  TellsCount = IfOk o (λ v. (v.how ≡ Clean) × (v.changes ≡ count))

  pub finished_opened : (new y : List ℕ) (r : Reading) → Reads text r → new ≡ text → y ≡ x → TellsCount → OnOk o (HasToldLength told x) → IfOk o (λ v. IsOpened text x r new y v.how v.changes)
  finished_opened new y r reads same image = by_answer o
    where
      by_answer : (p : Result Recovered SessionFault) → IfOk p (λ v. (v.how ≡ Clean) × (v.changes ≡ count)) → OnOk p (HasToldLength told x) → IfOk p (λ v. IsOpened text x r new y v.how v.changes)
      by_answer (Ok v) clean told_ok =
          subst (λ t. IsOpened text x r t y v.how v.changes) (sym same)
          (subst (λ h. IsOpened text x r text y h v.changes) (sym clean.0)
          (subst (IsOpened text x r text y Clean) (sym clean.1) (counted_opened text x count told c r y reads image told_ok)))
      by_answer (Err e) clean told_ok = tt

  pub finished_stack : (stack : List (List ℕ)) → Recovers text x stack → TellsCount → IfOk o (λ v. length stack ≡ suc v.changes)
  finished_stack stack rec = by_answer o
    where
      by_answer : (p : Result Recovered SessionFault) → IfOk p (λ v. (v.how ≡ Clean) × (v.changes ≡ count)) → IfOk p (λ v. length stack ≡ suc v.changes)
      by_answer (Ok v) clean = counted_stack text x count told c stack rec ∙ ap suc (sym clean.1)
      by_answer (Err e) clean = tt

  pub finished_unfit : (redo : List ℕ) (line : ℕ) → RefusesRedoAt text x redo line
      → (HasToldLength told x → IsRefusedAt redo x count line → MatchResult o (λ v. ⊥) (RefusesRedo line)) → MatchResult o (λ v. ⊥) (RefusesRedo line)
  finished_unfit redo line r unfit =
      let same : c.entries ≡ r.entries = one_list text c.entries r.entries c.finished.reads r.finished.reads in
      let holds : HasToldLength told x = told_holds told x (λ n is apart. r.same_length n (differs_of r.entries x n (sym (ap told_by same) ∙ sym c.told_is ∙ is) apart)) in
      unfit holds (subst (λ n. IsRefusedAt redo x n line) (sym (c.counted ∙ ap length same)) r.refused)

  pub finished_kept : (I B : Type 0) (redo : List ℕ) (s : Images) → FoundOnDisk text x redo s → B → IfErr o (FinishedFault I B redo x count told) → IfErr o (λ e. (line : ℕ) → e ≡ RedoDamaged line → ⊥)
  finished_kept I B redo s finds b = by_answer o
    where
      by_answer : (p : Result Recovered SessionFault) → IfErr p (FinishedFault I B redo x count told) → IfErr p (λ e. (line : ℕ) → e ≡ RedoDamaged line → ⊥)
      by_answer (Ok v) fault = tt
      by_answer (Err e) fault = λ line is.
          let count_is : changes_of s.stack ≡ count = omega (arith, counted_stack text x count told c s.stack (subst (λ t. Recovers t x s.stack) (clean_shown text c.entries c.finished) finds.recovers)) in
          none_refused redo x count line s.undone (subst (λ n. IsRedoOf redo x n s.undone) count_is (finds.undone (c.entries, c.finished))) ((subst (FinishedFault I B redo x count told) is fault).1 b)

  finished_fault : (I B : Type 0) (redo : List ℕ) (r : Reading) → Reads text r → I → (e : SessionFault) → FinishedFault I B redo x count told e → OpenFault r x e
  finished_fault I B redo r reads i NoMemory f = tt
  finished_fault I B redo r reads i DeviceFailed f = tt
  finished_fault I B redo r reads i (Damaged line) f = f
  finished_fault I B redo r reads i TooLarge f = f
  finished_fault I B redo r reads i (TooFew have) f = f
  finished_fault I B redo r reads i JournalFull f = f
  finished_fault I B redo r reads i Interrupted f = tt
  finished_fault I B redo r reads i Broken f = f
  finished_fault I B redo r reads i (LengthDiffers n) f = counted_differs text x count told c r n reads (f i).0 (f i).1
  finished_fault I B redo r reads i (NothingToRedo have) f = f
  finished_fault I B redo r reads i (RedoDamaged line) f = sym (ap (λ (q : Reading). q.stage) (counted_once text x count told c r reads))

  pub finished_faults : (I B : Type 0) (redo : List ℕ) (r : Reading) → Reads text r → I → IfErr o (FinishedFault I B redo x count told) → IfErr o (OpenFault r x)
  finished_faults I B redo r reads i fault = by_answer o fault
    where
      by_answer : (p : Result Recovered SessionFault) → IfErr p (FinishedFault I B redo x count told) → IfErr p (OpenFault r x)
      by_answer (Ok v) f = tt
      by_answer (Err e) f = finished_fault I B redo r reads i e f

  pub finished_other : (r : Reading) (n : ℕ) → Reads text r → Differs r.entries (image_at r.stage x) n → HasOtherLength told x n
  finished_other r n reads differs =
      let here : Differs c.entries x n = subst (λ (q : Reading). Differs q.entries (image_at q.stage x) n) (sym (counted_once text x count told c r reads)) differs in
      (c.told_is ∙ (told_of c.entries here).0, (told_of c.entries here).1)
    where
      told_of : (es : List Entry) → Differs es x n → (told_by es ≡ Some n) × (length x ≡ n → ⊥)
      told_of [] d = absurd d
      told_of (e ∷ es) d = d

  pub finished_accepted : IsAccepted text
  finished_accepted = (record { entries = c.entries; stage = Between }, c.finished.reads)

pub not_at_all : {V E : Type 0} (P : E → Type 0) (o : Result V E) (A : Type 0) → A → (A → ⊥) → MatchResult o (λ _. ⊥) P
not_at_all P o A a none = absurd (none a)

-- beside something unfinished
pub err_then : {T E P : Type 0} (Q : E → Type 0) (o : Result T E) → P → IfErr o (λ e. Q e → P)
err_then Q (Ok v) p = tt
err_then Q (Err e) p = λ q. p

found_none : (how : RecoveryOutcome) (undone : List (List ℕ)) → (how ≡ Clean → ⊥) → [] ≡ found_undone how undone
found_none Clean undone apart = absurd (apart refl)
found_none Dropped undone apart = refl
found_none (Restored n) undone apart = refl

module _ (redo y : List ℕ) where
  -- the redo text is empty, nothing is undone, and the changes fit
  abbrev pub IsEmptied : Recovered → Type 0
  IsEmptied v = (redo ≡ []) × ((v.how ≡ Clean → ⊥) × (v.undone ≡ 0)) × (v.changes + v.undone ≤ 65535)

  nothing_undone : (v : Recovered) → IsEmptied v → IsRedoOf redo y v.changes []
  nothing_undone v e = subst (λ t. IsRedoOf t y v.changes []) (sym e.0) (empty_is_redo y v.changes (omega (arith, e.2)))

  pub emptied_undone : (o : Result Recovered SessionFault) → OnOk o (redo ≡ []) → IfOk o (λ v. (v.how ≡ Clean → ⊥) × (v.undone ≡ 0)) → IfOk o (λ v. v.changes + v.undone ≤ 65535)
      → IfOk o (λ v. HasUndoneCount redo y v.changes v.undone)
  emptied_undone (Ok v) none unclean sum = ([], nothing_undone v (none, unclean, sum), unclean.1)
  emptied_undone (Err e) none unclean sum = tt

  pub emptied_keeps : (undone : List (List ℕ)) (o : Result Recovered SessionFault) → OnOk o (redo ≡ []) → IfOk o (λ v. (v.how ≡ Clean → ⊥) × (v.undone ≡ 0)) → IfOk o (λ v. v.changes + v.undone ≤ 65535)
      → IfOk o (λ v. KeepsUndone redo y v undone)
  emptied_keeps undone (Ok v) none unclean sum =
      let found = found_none v.how undone unclean.0 in
      (subst (IsRedoOf redo y v.changes) found (nothing_undone v (none, unclean, sum)), unclean.1 ∙ ap length found)
  emptied_keeps undone (Err e) none unclean sum = tt

pub recover_kind : (o : Result Recovered SessionFault) → IfErr o RecoverFault → IfErr o (λ e. (line : ℕ) → e ≡ RedoDamaged line → ⊥)
recover_kind (Ok v) kind = tt
recover_kind (Err e) kind = λ line is. subst RecoverFault is kind

-- an interruption leaves the one, and another fault all that it is said to keep
after_both : (e : SessionFault) (A B P Q : Type 0) → AfterFault e (Unit {0}) A → AfterFault e (Unit {0}) B → P → (A → B → Q) → AfterFault e P Q
after_both Interrupted A B P Q a b p f = p
after_both NoMemory A B P Q a b p f = f a b
after_both DeviceFailed A B P Q a b p f = f a b
after_both (Damaged line) A B P Q a b p f = f a b
after_both TooLarge A B P Q a b p f = f a b
after_both (TooFew have) A B P Q a b p f = f a b
after_both JournalFull A B P Q a b p f = f a b
after_both Broken A B P Q a b p f = f a b
after_both (LengthDiffers n) A B P Q a b p f = f a b
after_both (NothingToRedo have) A B P Q a b p f = f a b
after_both (RedoDamaged line) A B P Q a b p f = f a b

module _ (text x redo new y redo_new : List ℕ) (s : Images) (finds : FoundOnDisk text x redo s) (unclean : IsClean text → ⊥) (few : changes_of s.stack ≤ 65535) where
  -- the redo text was emptied before the journal was cut
  stopped_finds : Recovers (shown new) y s.stack → ((new ≡ text) ⊎ (redo_new ≡ [])) → FoundOnDisk new y redo_new (record { stack = s.stack; undone = [] })
  stopped_finds rec first = record {
    recovers = rec;
    undone = λ clean. elim first [
      | inl same ↦ absurd (unclean (subst IsClean same clean))
      | inr none ↦ subst (λ t. IsRedoOf t y (changes_of s.stack) []) (sym none) (empty_is_redo y (changes_of s.stack) few)
    ];
  }

  same_finds : (new ≡ text) × (y ≡ x) → redo_new ≡ redo → FoundOnDisk new y redo_new s
  same_finds same redo_same =
      subst (λ t. FoundOnDisk t y redo_new s) (sym same.0) (subst (λ z. FoundOnDisk text z redo_new s) (sym same.1) (subst (λ t. FoundOnDisk text x t s) (sym redo_same) finds))

  pub unfinished_finds : (o : Result Recovered SessionFault) → OnErr o (Recovers (shown new) y s.stack) → OnErr o ((new ≡ text) ⊎ (redo_new ≡ []))
      → IfErr o (λ e. AfterFault e (Unit {0}) ((new ≡ text) × (y ≡ x))) → IfErr o (λ e. AfterFault e (Unit {0}) (redo_new ≡ redo))
      → IfErr o (λ e. AfterFault e (FoundOnDisk new y redo_new (record { stack = s.stack; undone = [] })) (FoundOnDisk new y redo_new s))
  unfinished_finds (Ok v) rec first same redo_same = tt
  unfinished_finds (Err e) rec first same redo_same = after_both e _ _ _ _ same redo_same (stopped_finds rec first) same_finds

-- image and journal are on the disk as they were, and the journal is unfinished
pub stopped_found : (text x new y r : List ℕ) (stack : List (List ℕ)) → Recovers (shown text) x stack → (IsClean text → ⊥) → new ≡ text → y ≡ x → FoundOnDisk new y r (record { stack = stack; undone = [] })
stopped_found text x new y r stack rec unclean same image = record {
  recovers = subst (λ t. Recovers (shown t) y stack) (sym same) (subst (λ z. Recovers (shown text) z stack) (sym image) rec);
  undone = λ clean. absurd (unclean (subst IsClean same clean));
}

-- no redo text is on the disk
pub emptied_found : (new y r : List ℕ) (stack : List (List ℕ)) → Recovers (shown new) y stack → r ≡ [] → changes_of stack ≤ 65535 → FoundOnDisk new y r (record { stack = stack; undone = [] })
emptied_found new y r stack rec none few = record {
  recovers = rec;
  undone = λ clean. subst (λ t. IsRedoOf t y (changes_of stack) []) (sym none) (empty_is_redo y (changes_of stack) few);
}

-- no interruption comes of reading the journal, nor beside finished entries alone
pub find_silent : (H : Type 0) (text : List ℕ) (P : Type 0) (e : SessionFault) → FindFault H text e → AfterFault e P (Unit {0})
find_silent H text P NoMemory f = tt
find_silent H text P DeviceFailed f = tt
find_silent H text P (Damaged line) f = tt
find_silent H text P TooLarge f = tt
find_silent H text P (TooFew have) f = tt
find_silent H text P JournalFull f = tt
find_silent H text P Interrupted f = absurd f
find_silent H text P Broken f = tt
find_silent H text P (LengthDiffers n) f = tt
find_silent H text P (NothingToRedo have) f = tt
find_silent H text P (RedoDamaged line) f = tt

beside_silent : (I B : Type 0) (redo x : List ℕ) (count : ℕ) (told : Option ℕ) (P : Type 0) (e : SessionFault) → FinishedFault I B redo x count told e → AfterFault e P (Unit {0})
beside_silent I B redo x count told P NoMemory f = tt
beside_silent I B redo x count told P DeviceFailed f = tt
beside_silent I B redo x count told P (Damaged line) f = tt
beside_silent I B redo x count told P TooLarge f = tt
beside_silent I B redo x count told P (TooFew have) f = tt
beside_silent I B redo x count told P JournalFull f = tt
beside_silent I B redo x count told P Interrupted f = absurd f
beside_silent I B redo x count told P Broken f = tt
beside_silent I B redo x count told P (LengthDiffers n) f = tt
beside_silent I B redo x count told P (NothingToRedo have) f = tt
beside_silent I B redo x count told P (RedoDamaged line) f = tt

pub finished_silent : (P : Type 0) (o : Result Recovered SessionFault) (I B : Type 0) (redo x : List ℕ) (count : ℕ) (told : Option ℕ) → IfOk o (λ v. (v.how ≡ Clean) × (v.changes ≡ count)) → IfErr o (FinishedFault I B redo x count told)
    → MatchResult o (λ v. (v.how ≡ Clean → ⊥) → P) (λ e. AfterFault e P (Unit {0}))
finished_silent P (Ok v) I B redo x count told clean fault = λ unclean. absurd (unclean clean.0)
finished_silent P (Err e) I B redo x count told clean fault = beside_silent I B redo x count told P e fault

pub unfinished_matches : (o : Result Recovered SessionFault) (P : Type 0) → MatchResult o (λ v. Unit {0} → P) (λ e. AfterFault e P (Unit {0})) → MatchResult o (λ v. (v.how ≡ Clean → ⊥) → P) (λ e. AfterFault e P (Unit {0}))
unfinished_matches (Ok v) P m = λ unclean. m tt
unfinished_matches (Err e) P m = m

-- behind a fault, what follows of what is so
pub after_then : {P Q : Type 0} → (Q → P) → (e : SessionFault) → AfterFault e (Unit {0}) Q → AfterFault e (Unit {0}) P
after_then f NoMemory q = f q
after_then f DeviceFailed q = f q
after_then f (Damaged line) q = f q
after_then f TooLarge q = f q
after_then f (TooFew have) q = f q
after_then f JournalFull q = f q
after_then f Interrupted q = tt
after_then f Broken q = f q
after_then f (LengthDiffers n) q = f q
after_then f (NothingToRedo have) q = f q
after_then f (RedoDamaged line) q = f q

-- what holds beside finished entries alone, whatever the answer is
pub finished_same : {P : Type 0} (o : Result Recovered SessionFault) → P → MatchResult o (λ v. v.how ≡ Clean → P) (λ e. AfterFault e (Unit {0}) P)
finished_same (Ok v) p = λ clean. p
finished_same {P = P} (Err e) p = after_same e P p

-- where something was unfinished, it holds behind each fault but an interruption
pub unfinished_same : {P Q : Type 0} (o : Result Recovered SessionFault) → IfOk o (λ v. (v.how ≡ Clean → ⊥) × (v.undone ≡ 0)) → (Q → P) → IfErr o (λ e. AfterFault e (Unit {0}) Q)
    → MatchResult o (λ v. v.how ≡ Clean → P) (λ e. AfterFault e (Unit {0}) P)
unfinished_same (Ok v) unclean f q = λ clean. absurd (unclean.0 clean)
unfinished_same (Err e) unclean f q = after_then f e q

-- where something was unfinished, what holds of an answer
pub finished_none : (P : Type 0) (o : Result Recovered SessionFault) (count : ℕ) → IfOk o (λ v. (v.how ≡ Clean) × (v.changes ≡ count)) → IfOk o (λ v. (v.how ≡ Clean → ⊥) → P)
finished_none P (Ok v) count clean = λ unclean. absurd (unclean clean.0)
finished_none P (Err e) count clean = tt

pub unfinished_holds : (P : Type 0) (o : Result Recovered SessionFault) → OnOk o P → IfOk o (λ v. (v.how ≡ Clean → ⊥) → P)
unfinished_holds P (Ok v) p = λ unclean. p
unfinished_holds P (Err e) p = tt
