-- Whether what was read is a redo text, and the line at which it isn't.
use Rattle.std.proofs.Common.{◌≡◌, ℕ, suc, ◌+◌, ◌<◌, ◌≤◌, List, [], ◌∷◌, ◌++◌, length, length-drop, length-take, append_assoc, take, drop, get_or, refl, ap, sym, ◌∙◌, subst, inl, inr, ◌⊎◌, arith, true, Option, Some, None, Result, Ok, Err}
use Rattle.std.specs.Prelude.{is_some, IsTrue, IfSome, IfNone, IfOk, IfErr, MatchResult}
use Rattle.std.proofs.lemmas.List.{take_more, take-append-drop}
use Rattle.std.proofs.Math.Seq.{drop-cons}
use Rattle.bx_journal_model.specs.declared.fault.SessionFault.{SessionFault}
use Rattle.bx_journal_model.specs.declared.fault.SessionFault.TheVariants.{NoMemory, TooLarge, DeviceFailed, Damaged, TooFew, JournalFull, Interrupted, Broken, LengthDiffers, NothingToRedo, RedoDamaged}
use Rattle.bx_journal_format.specs.declared.read.whole.JournalRead.{JournalRead}
use Rattle.bx_journal_format.specs.declared.read.types.EntryRead.{EntryRead}
use Rattle.bx_journal_format.specs.declared.read.types.StageRead.TheVariants.{Between as BetweenRead, Saving as SavingRead, Ending as EndingRead}
use Rattle.bx_journal_read.specs.declared.scan.count.CountedText.{CountedText}
use Rattle.bx_journal.specs.private.RedoFound.{IsOfText}
use Rattle.bx_journal_model.specs.Calls.{ReadFault}
use Rattle.bx_journal_format.specs.read.Journal.{HasRead}
use Rattle.bx_journal_read.specs.scan.Judging.{RefusesRedo, AllTold, IsBeyondAt, IsFit, IsRedoCounted, IsUnfitAt, IsUnfitFrom, IsUntoldAt, IsUnfitIn, JudgeFault, LastLineFault, RedoTextFault}
use Rattle.bx_journal_read.specs.scan.Damage.{IsDamagedIn}
use Rattle.bx_journal_model.specs.Looking.{FaultCounts}
use Rattle.bx_journal_model.specs.Fault.{redo_fault}
use Rattle.bx_journal_format.specs.count.Mark.{IsMark, HasMarks}
use Rattle.bx_journal_format.specs.Parsed.{entry_of, entries_onto, entries_of, stage_of, reading_of, AreMarked, IsStageMarked}
use Rattle.bx_journal_format.specs.Finished.{AllTell, IsFinished}
use Rattle.bx_journal_model.specs.Redo.{IsRedoOf, DamagedLine, Tail, FirstForm, IsRefusedAt, NoRedo, TooMany, Off}
use Rattle.bx_journal_model.specs.Stack.{stack_of}
use Rattle.bx_journal_format.specs.count.Tally.{IsCounted, IsCountedAll}
use Rattle.bx_journal_format.specs.Text.{Entry, Between, IsDamagedAt, Reading, Reads, split}
use Rattle.bx_journal_model.proofs.Phases.{length-stack_of}
use Rattle.bx_journal_format.proofs.ReadLemmas.{length-entries_of}
use Rattle.bx_journal_protocol.proofs.RedoText.{one_reading}
use Rattle.bx_journal.proofs.Refused.{not_no_redo, too_many, refused_once, none_refused}
use Rattle.bx_journal_read.proofs.TailLemmas.{begins_at, begin_mark, begins_of}
use Rattle.bx_journal_model.proofs.Tails.{rest_none}
use Rattle.bx_journal.proofs.CountedLemmas.{counted_lengths}

-- entries that were read, in parts
onto-append : {A : Type 0} → (done : List Entry) (a b : List (EntryRead A)) → entries_onto done (a ++ b) ≡ entries_onto (entries_onto done a) b
onto-append done [] b = refl
onto-append done (e ∷ a) b = onto-append (entry_of e ∷ done) a b

onto_done : {A : Type 0} → (done : List Entry) (es : List (EntryRead A)) → entries_onto done es ≡ entries_of es ++ done
onto_done done [] = refl
onto_done done (e ∷ es) =
    onto_done (entry_of e ∷ done) es ∙ sym (append_assoc (entries_of es) (entry_of e ∷ []) done) ∙ ap (λ fs. fs ++ done) (sym (onto_done (entry_of e ∷ []) es))

entries_apart : {A : Type 0} → (older newer : List (EntryRead A)) (e : EntryRead A) → entries_of (older ++ e ∷ newer) ≡ entries_of newer ++ entry_of e ∷ entries_of older
entries_apart older newer e = onto-append [] older (e ∷ newer) ∙ onto_done (entry_of e ∷ entries_of older) newer

tell_of : {A : Type 0} → (done : List Entry) (es : List (EntryRead A)) → AllTold es → AllTell done → AllTell (entries_onto done es)
tell_of done [] told tell = tell
tell_of done (e ∷ es) told tell = tell_of (entry_of e ∷ done) es told.1 (told.0, tell)

marks_in : {A : Type 0} → (text : List ℕ) (done : List Entry) (from to : ℕ) (older newer : List (EntryRead A)) (e : EntryRead A) → AreMarked text done from (older ++ e ∷ newer) to
    → HasMarks text (entries_onto done older) e.version (entry_of e) e.begins e.saved
marks_in text done from to [] newer e are = are.1
marks_in text done from to (f ∷ older) newer e are = marks_in text (entry_of f ∷ done) f.saved to older newer e are.2

-- the first entry that tells no length
pub untold_unfit : {A : Type 0} → (text : List ℕ) (changes at to : ℕ) (es : List (EntryRead A)) → IsFinished text (entries_of es) → AreMarked text [] 0 es to → IsUntoldAt es at → IsUnfitFrom text changes at
untold_unfit text changes at to es f are u =
    let marks = marks_in text [] 0 to u.older u.newer u.entry (subst (λ fs. AreMarked text [] 0 fs to) u.parts are) in
    let same : entries_of es ≡ entries_of u.newer ++ entry_of u.entry ∷ entries_of u.older = ap entries_of u.parts ∙ entries_apart u.older u.newer u.entry in
    subst (IsUnfitFrom text changes) (sym u.begins)
    (record {
      within = marks.beginning.within;
      unfit = inl (FirstForm (record {
        newer = entries_of u.newer;
        entry = entry_of u.entry;
        older = entries_of u.older;
        finished = subst (IsFinished text) same f;
        untold = u.untold;
        told = tell_of [] u.older u.told tt;
        begins = begins_of text u.entry.begins (entries_of u.older) marks.beginning;
      }));
    })

not_empty : (xs : List Entry) (x : Entry) → xs ++ x ∷ [] ≡ [] → ⊥
not_empty [] x e = absurd (let h : x ∷ [] ≡ [] = e in cc)
not_empty (y ∷ xs) x e = absurd (let h : y ∷ (xs ++ x ∷ []) ≡ [] = e in cc)

-- the first entry that is too many
pub beyond_unfit : {A : Type 0} → (text : List ℕ) (changes at to : ℕ) (es : List (EntryRead A)) → IsFinished text (entries_of es) → AreMarked text [] 0 es to → IsBeyondAt es changes at → IsUnfitFrom text changes at
beyond_unfit text changes at to es f are u =
    let marks = marks_in text [] 0 to u.older u.newer u.entry (subst (λ fs. AreMarked text [] 0 fs to) u.parts are) in
    let same : entries_of es ≡ (entries_of u.newer ++ entry_of u.entry ∷ []) ++ entries_of u.older =
    ap entries_of u.parts ∙ entries_apart u.older u.newer u.entry ∙ sym (append_assoc (entries_of u.newer) (entry_of u.entry ∷ []) (entries_of u.older)) in
    subst (IsUnfitFrom text changes) (sym u.begins)
    (record {
      within = marks.beginning.within;
      unfit = inr (record {
        newer = entries_of u.newer ++ entry_of u.entry ∷ [];
        older = entries_of u.older;
        finished = subst (IsFinished text) same f;
        tell = subst AllTell same (tell_of [] es u.told tt);
        some = not_empty (entries_of u.newer) (entry_of u.entry);
        many = omega (arith, u.many, length-entries_of u.older);
        begins = begins_of text u.entry.begins (entries_of u.older) marks.beginning;
      });
    })

-- what is unfinished
tail_unfit : {A : Type 0} → (text : List ℕ) (changes at : ℕ) (j : JournalRead A) → HasRead text j → at ≡ begins_at j.stage j.whole → (IsFinished text (entries_of j.entries.items) → ⊥) → IsUnfitFrom text changes at
tail_unfit text changes at j read is apart =
    let mark : IsMark text (begins_at j.stage j.whole) (record { entries = entries_of j.entries.items; stage = Between }) = begin_mark text j.entries.items j.stage j.whole read.places.mark read.places.marked in
    subst (IsUnfitFrom text changes) (sym is)
    (record {
      within = mark.within;
      unfit = inl (Tail (record {
        reading = reading_of j.entries.items j.stage;
        reads = read.reads;
        unfinished = apart;
        begins = begins_of text (begins_at j.stage j.whole) (entries_of j.entries.items) mark;
      }));
    })

module _ {A : Type 0} (text : List ℕ) (changes : ℕ) (j : JournalRead A) (read : HasRead text j) where
  stage_is : IsFinished text (entries_of j.entries.items) → stage_of j.stage ≡ Between
  stage_is f = ap (λ (r : Reading). r.stage) (one_reading (sym read.reads.lines ∙ f.reads.lines))

  pub rest_unfit : j.stage ≡ BetweenRead → (j.whole ≡ length text → ⊥) → IsUnfitFrom text changes j.whole
  rest_unfit is apart =
      tail_unfit text changes j.whole j read (ap (λ s. begins_at s j.whole) (sym is))
      (λ f. apart (omega (arith, ap length (read.places.rest ∙ f.whole), length-drop j.whole text, read.places.mark.within)))

  pub saving_unfit : (v : _) (len : ℕ) (runs : _) (begins : ℕ) → j.stage ≡ SavingRead v len runs begins → IsUnfitFrom text changes begins
  saving_unfit v len runs begins is =
      tail_unfit text changes begins j read (ap (λ s. begins_at s j.whole) (sym is)) (λ f. apart (sym (ap stage_of is) ∙ stage_is f))
    where
      apart : stage_of (SavingRead v len runs begins) ≡ Between → ⊥
      apart e = absurd (cc)

  pub ending_unfit : (v : _) (kept : _) (begins saved : ℕ) → j.stage ≡ EndingRead v kept begins saved → IsUnfitFrom text changes begins
  ending_unfit v kept begins saved is =
      tail_unfit text changes begins j read (ap (λ s. begins_at s j.whole) (sym is)) (λ f. apart (sym (ap stage_of is) ∙ stage_is f))
    where
      apart : stage_of (EndingRead v kept begins saved) ≡ Between → ⊥
      apart e = absurd (cc)

  pub finished_read : j.stage ≡ BetweenRead → j.whole ≡ length text → IsFinished text (entries_of j.entries.items)
  finished_read is all = record {
    reads = subst (λ s. Reads text (reading_of j.entries.items s)) is read.reads;
    whole = rest_none text j.whole read.places.rest all;
  }

  marked_read : j.stage ≡ BetweenRead → AreMarked text [] 0 j.entries.items j.whole
  marked_read is = (subst (λ s. IsStageMarked text [] j.entries.items s j.whole) is read.places.marked).0

  -- an entry that is unfit
  pub entry_unfit : (at : ℕ) → j.stage ≡ BetweenRead → j.whole ≡ length text → IsUntoldAt j.entries.items at ⊎ IsBeyondAt j.entries.items changes at → IsUnfitFrom text changes at
  entry_unfit at is all unfit =
      elim unfit [
        | inl u ↦ untold_unfit text changes at j.whole j.entries.items (finished_read is all) (marked_read is) u
        | inr b ↦ beyond_unfit text changes at j.whole j.entries.items (finished_read is all) (marked_read is) b
      ]

  pub fit_read : j.stage ≡ BetweenRead → j.whole ≡ length text → AllTold j.entries.items → changes + length j.entries.items ≤ 65535 → IsFit text changes (entries_of j.entries.items)
  fit_read is all told few = record {
    finished = finished_read is all;
    tell = tell_of [] j.entries.items told tt;
    few = omega (arith, few, length-entries_of j.entries.items);
  }

-- a text that was counted
pub counted_fit : (text : List ℕ) (changes count lines : ℕ) (told : Option ℕ) (c : IsCountedAll true text count told lines) → changes + count ≤ 65535 → IsRedoCounted text changes count told
counted_fit text changes count lines told c few = record {
  entries = c.counted.entries;
  fit = record {
    finished = c.counted.finished;
    tell = c.tell refl;
    few = omega (arith, few, c.counted.counted);
  };
  counted = c.counted.counted;
  told_is = c.counted.told_is;
}

-- a text that is damaged is no redo text
pub damaged_unfit : (H : Type 0) (stored : List ℕ) (changes line : ℕ) → IsDamagedIn H stored line → IsUnfitIn H stored changes line
damaged_unfit H stored changes line d h = inl (DamagedLine (subst (λ t. IsDamagedAt t line) (sym (d.is h)) d.damaged))

-- what a store is at a line behind a call that only looked at it
pub unfit_before : (H now : Type 0) (stored text : List ℕ) (changes line : ℕ) → (H → now) → (H → text ≡ stored) → IsUnfitIn now text changes line → IsUnfitIn H stored changes line
unfit_before H now stored text changes line to same unfit h = subst (λ t. IsUnfitAt t changes line) (same h) (unfit (to h))

-- where a text is unfit no image makes it a redo text
pub unfit_refused : (text x : List ℕ) (changes line : ℕ) → IsUnfitAt text changes line → IsRefusedAt text x changes line
unfit_refused text x changes line unfit = elim unfit [ inl apart ↦ NoRedo apart | inr many ↦ TooMany many ]

pub unfit_once : (text : List ℕ) (changes m n : ℕ) → IsUnfitAt text changes m → IsUnfitAt text changes n → m ≡ n
unfit_once text changes m n a b = refused_once text [] changes m n (unfit_refused text [] changes m a) (unfit_refused text [] changes n b)

pub fit_apart : (text : List ℕ) (changes line : ℕ) (es : List Entry) → IsFit text changes es → IsUnfitAt text changes line → ⊥
fit_apart text changes line es fit unfit = elim unfit [ inl apart ↦ not_no_redo text line es fit.finished fit.tell apart | inr many ↦ too_many text changes line es fit.finished many fit.few ]

pub fault_refuses : (text : List ℕ) (changes line : ℕ) (e : SessionFault) → RedoTextFault text changes e → IsUnfitAt text changes line → RefusesRedo line e
fault_refuses text changes line NoMemory h unfit = tt
fault_refuses text changes line (RedoDamaged m) h unfit = unfit_once text changes m line h unfit
fault_refuses text changes line TooLarge h unfit = h
fault_refuses text changes line DeviceFailed h unfit = tt
fault_refuses text changes line (Damaged m) h unfit = h
fault_refuses text changes line (TooFew have) h unfit = h
fault_refuses text changes line JournalFull h unfit = h
fault_refuses text changes line Interrupted h unfit = h
fault_refuses text changes line Broken h unfit = h
fault_refuses text changes line (LengthDiffers n) h unfit = h
fault_refuses text changes line (NothingToRedo have) h unfit = h

pub unfit_refuses : (text : List ℕ) (changes line : ℕ) (r : Result CountedText SessionFault) → IfOk r (λ c. IsRedoCounted text changes c.counted.count c.counted.told) → IfErr r (RedoTextFault text changes) → IsUnfitAt text changes line
    → MatchResult r (λ _. ⊥) (RefusesRedo line)
unfit_refuses text changes line (Ok c) ok refused unfit = fit_apart text changes line ok.entries ok.fit unfit
unfit_refuses text changes line (Err e) ok refused unfit = fault_refuses text changes line e refused unfit

-- a fault of reading, as one of the redo text
pub read_fault_redo : (text : List ℕ) (changes : ℕ) (e : SessionFault) → ReadFault text e → RedoTextFault text changes (redo_fault e)
read_fault_redo text changes NoMemory h = tt
read_fault_redo text changes (Damaged line) h = inl (DamagedLine h)
read_fault_redo text changes TooLarge h = h
read_fault_redo text changes DeviceFailed h = h
read_fault_redo text changes (TooFew have) h = h
read_fault_redo text changes JournalFull h = h
read_fault_redo text changes Interrupted h = h
read_fault_redo text changes Broken h = h
read_fault_redo text changes (LengthDiffers n) h = h
read_fault_redo text changes (NothingToRedo have) h = h
read_fault_redo text changes (RedoDamaged line) h = absurd h

-- a redo text of the image's length stands for its undone images
stack_top : (es : List Entry) (x : List ℕ) → x ∷ drop 1 (stack_of es x) ≡ stack_of es x
unfolding stack_of
stack_top [] x = refl
stack_top (e ∷ es) x = refl

module _ (text x : List ℕ) (changes count : ℕ) (told : Option ℕ) (c : IsRedoCounted text changes count told) where
  abbrev as_counted : IsCounted text count told
  as_counted = record { entries = c.entries; finished = c.fit.finished; counted = c.counted; told_is = c.told_is }

  pub counted_redo : IfSome told (λ n. length x ≡ n) → (undone : List (List ℕ)) × IsRedoOf text x changes undone × (count ≡ length undone)
  counted_redo same =
      let undone : List (List ℕ) = drop 1 (stack_of c.entries x) in
      let top : x ∷ undone ≡ stack_of c.entries x = stack_top c.entries x in
      let long : suc (length undone) ≡ suc (length c.entries) = ap length top ∙ length-stack_of c.entries x in (
        undone,
        record {
          stands = record {
            entries = c.entries;
            reads = c.fit.finished.reads;
            whole = c.fit.finished.whole;
            lengths = counted_lengths text x count told as_counted same;
            stack_is = top;
          };
          tell = c.fit.tell;
          few = omega (arith, c.fit.few, long);
        },
        omega (arith, c.counted, long),
      )

  pub counted_off : (line n : ℕ) → told ≡ Some n → (length x ≡ n → ⊥) → line ≡ length (split text).lines → IsRefusedAt text x changes line
  counted_off line n is apart last =
      Off (record {
        entries = c.entries;
        expected = n;
        finished = c.fit.finished;
        tell = c.fit.tell;
        few = c.fit.few;
        told = sym c.told_is ∙ is;
        differs = apart;
        line_is = last;
      })

-- facts of an answer that may be none
pub some_weaker : {X : Type 0} (P Q : X → Type 0) (o : Option X) → ((x : X) → P x → Q x) → IfSome o P → IfSome o Q
some_weaker P Q None h p = tt
some_weaker P Q (Some x) h p = h x p

pub none_weaker : {X P Q : Type 0} (o : Option X) → (P → Q) → IfNone o P → IfNone o Q
none_weaker None h p = h p
none_weaker (Some x) h p = tt

-- one more entry that tells its length
told_push : {A : Type 0} → (es : List (EntryRead A)) (e : EntryRead A) → AllTold es → IsTrue (is_some e.after) → AllTold (es ++ e ∷ [])
told_push [] e told some = (some, tt)
told_push (f ∷ es) e told some = (told.0, told_push es e told.1 some)

pub told_more : {A : Type 0} → (es : List (EntryRead A)) (i : ℕ) (e : EntryRead A) → i < length es → e ≡ get_or es i e → AllTold (take i es) → IsTrue (is_some e.after) → AllTold (take (i + 1) es)
told_more es i e within is told some =
    subst AllTold (ap (λ f. take i es ++ f ∷ []) is ∙ sym (take_more es i e within)) (told_push (take i es) e told some)

parts_at : {A : Type 0} → (es : List (EntryRead A)) (i : ℕ) (e : EntryRead A) → i < length es → e ≡ get_or es i e → es ≡ take i es ++ e ∷ drop (suc i) es
parts_at es i e within is = sym (take-append-drop i es) ∙ ap (λ fs. take i es ++ fs) (drop-cons es i e within ∙ ap (λ f. f ∷ drop (suc i) es) (sym is))

pub untold_at : {A : Type 0} → (es : List (EntryRead A)) (i : ℕ) (e : EntryRead A) → i < length es → e ≡ get_or es i e → AllTold (take i es) → e.after ≡ None → IsUntoldAt es e.begins
untold_at es i e within is told none = record {
  older = take i es;
  entry = e;
  newer = drop (suc i) es;
  parts = parts_at es i e within is;
  told = told;
  untold = none;
  begins = refl;
}

pub beyond_at : {A : Type 0} → (es : List (EntryRead A)) (changes i : ℕ) (e : EntryRead A) → i < length es → e ≡ get_or es i e → AllTold es → i + changes ≡ 65535 → IsBeyondAt es changes e.begins
beyond_at es changes i e within is told many =
    record {
      older = take i es;
      entry = e;
      newer = drop (suc i) es;
      parts = parts_at es i e within is;
      told = told;
      many = omega (arith, many, length-take i es, within);
      begins = refl;
    }

-- judging: what counting and the image's length give together
pub text_judged : (H : Type 0) (text x : List ℕ) (changes : ℕ) (e : SessionFault) → RedoTextFault text changes e → JudgeFault H text x changes e
text_judged H text x changes NoMemory h = tt
text_judged H text x changes (RedoDamaged line) h = λ th. unfit_refused text x changes line h
text_judged H text x changes TooLarge h = h
text_judged H text x changes DeviceFailed h = tt
text_judged H text x changes (Damaged line) h = h
text_judged H text x changes (TooFew have) h = h
text_judged H text x changes JournalFull h = h
text_judged H text x changes Interrupted h = h
text_judged H text x changes Broken h = h
text_judged H text x changes (LengthDiffers n) h = h
text_judged H text x changes (NothingToRedo have) h = h

-- the same where the text isn't surely what was found
pub found_judged : (H F : Type 0) (text x : List ℕ) (changes : ℕ) (e : SessionFault) → IsOfText e → (F → RedoTextFault text changes e) → JudgeFault (H × F) text x changes e
found_judged H F text x changes NoMemory kind h = tt
found_judged H F text x changes (RedoDamaged line) kind h = λ both. unfit_refused text x changes line (h both.1)
found_judged H F text x changes TooLarge kind h = kind
found_judged H F text x changes DeviceFailed kind h = tt
found_judged H F text x changes (Damaged line) kind h = kind
found_judged H F text x changes (TooFew have) kind h = kind
found_judged H F text x changes JournalFull kind h = kind
found_judged H F text x changes Interrupted kind h = kind
found_judged H F text x changes Broken kind h = kind
found_judged H F text x changes (LengthDiffers n) kind h = kind
found_judged H F text x changes (NothingToRedo have) kind h = kind

-- what comparing the length may answer
abbrev pub OffFault : Type 0 → List ℕ → List ℕ → Option ℕ → SessionFault → Type 0
OffFault H text x told e = (e ≡ DeviceFailed) ⊎ ((e ≡ RedoDamaged (length (split text).lines)) × (H → (n : ℕ) × (told ≡ Some n) × (length x ≡ n → ⊥)))

-- a fault of the text is none of a device
pub text_counts : (d t : ℕ) (e : SessionFault) → IsOfText e → FaultCounts e d t d t
text_counts d t NoMemory h = (refl, refl)
text_counts d t (RedoDamaged line) h = (refl, refl)
text_counts d t TooLarge h = absurd h
text_counts d t DeviceFailed h = absurd h
text_counts d t (Damaged line) h = absurd h
text_counts d t (TooFew have) h = absurd h
text_counts d t JournalFull h = absurd h
text_counts d t Interrupted h = absurd h
text_counts d t Broken h = absurd h
text_counts d t (LengthDiffers n) h = absurd h
text_counts d t (NothingToRedo have) h = absurd h

pub of_text : (text : List ℕ) (changes : ℕ) (e : SessionFault) → RedoTextFault text changes e → IsOfText e
of_text text changes NoMemory h = tt
of_text text changes (RedoDamaged line) h = tt
of_text text changes TooLarge h = h
of_text text changes DeviceFailed h = h
of_text text changes (Damaged line) h = h
of_text text changes (TooFew have) h = h
of_text text changes JournalFull h = h
of_text text changes Interrupted h = h
of_text text changes Broken h = h
of_text text changes (LengthDiffers n) h = h
of_text text changes (NothingToRedo have) h = h

-- the number of the text's lines was counted before
pub lines_off : (H : Type 0) (text x : List ℕ) (lines : ℕ) (told : Option ℕ) (e : SessionFault) → lines ≡ length (split text).lines
    → (e ≡ DeviceFailed) ⊎ ((e ≡ RedoDamaged lines) × (H → (n : ℕ) × (told ≡ Some n) × (length x ≡ n → ⊥))) → OffFault H text x told e
lines_off H text x lines told e many fault = subst (λ n. (e ≡ DeviceFailed) ⊎ ((e ≡ RedoDamaged n) × (H → (n : ℕ) × (told ≡ Some n) × (length x ≡ n → ⊥)))) many fault

pub length_judged : (H : Type 0) (text x : List ℕ) (changes count : ℕ) (told : Option ℕ) (e : SessionFault) → IsRedoCounted text changes count told → OffFault H text x told e → JudgeFault H text x changes e
length_judged H text x changes count told e c fault =
    elim fault [
      | inl is ↦ subst (JudgeFault H text x changes) (sym is) tt
      | inr off ↦
          subst (JudgeFault H text x changes) (sym off.0)
          (λ h. let apart = off.1 h in counted_off text x changes count told c (length (split text).lines) apart.0 apart.1 apart.2 refl)
    ]

pub found_off : (H F : Type 0) (text x : List ℕ) (changes count lines : ℕ) (told : Option ℕ) (e : SessionFault) → (F → IsRedoCounted text changes count told) → (F → lines ≡ length (split text).lines) → LastLineFault H lines told x e
    → JudgeFault (H × F) text x changes e
found_off H F text x changes count lines told e c many fault =
    elim fault [
      | inl is ↦ subst (JudgeFault (H × F) text x changes) (sym is) tt
      | inr off ↦
          subst (JudgeFault (H × F) text x changes) (sym off.0)
          (λ both. let apart = off.1 both.0 in counted_off text x changes count told (c both.1) lines apart.0 apart.1 apart.2 (many both.1))
    ]

pub judged_refuses : (H : Type 0) (text x : List ℕ) (changes line : ℕ) (e : SessionFault) → H → JudgeFault H text x changes e → IsRefusedAt text x changes line → RefusesRedo line e
judged_refuses H text x changes line NoMemory th h refused = tt
judged_refuses H text x changes line DeviceFailed th h refused = tt
judged_refuses H text x changes line (RedoDamaged m) th h refused = refused_once text x changes m line (h th) refused
judged_refuses H text x changes line TooLarge th h refused = h
judged_refuses H text x changes line (Damaged m) th h refused = h
judged_refuses H text x changes line (TooFew have) th h refused = h
judged_refuses H text x changes line JournalFull th h refused = h
judged_refuses H text x changes line Interrupted th h refused = h
judged_refuses H text x changes line Broken th h refused = h
judged_refuses H text x changes line (LengthDiffers n) th h refused = h
judged_refuses H text x changes line (NothingToRedo have) th h refused = h

pub judged_keeps : (H : Type 0) (text x : List ℕ) (changes : ℕ) (undone : List (List ℕ)) (e : SessionFault) → H → IsRedoOf text x changes undone → JudgeFault H text x changes e → (line : ℕ) → e ≡ RedoDamaged line → ⊥
judged_keeps H text x changes undone e th redo fault line is = none_refused text x changes line undone redo (subst (JudgeFault H text x changes) is fault th)
