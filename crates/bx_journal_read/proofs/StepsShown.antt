-- The steps over a text's entries, and what is unfinished behind these.
use Rattle.std.proofs.Common.{◌≡◌, ◌<◌, ◌≤◌, ◌-◌, ◌+◌, ℕ, suc, List, [], ◌++◌, length, length-append, map, take, drop, refl, ap, sym, ◌∙◌, subst, inl, inr, arith, append-nil, Option, None, Some, Result, Ok, Err}
use Rattle.std.specs.Prelude.{All, IfOk, IfErr, codes, decimal}
use Rattle.std.proofs.lemmas.List.{length-map, take-append-drop}
use Rattle.std.proofs.lemmas.Result.{IfErr-weaker, IfOk-weaker}
use Rattle.std.proofs.KnownBytes.{Appends-trans}
use Rattle.std.specs.Io.KnownBytes.{Appends}
use Rattle.bx_journal_format.specs.declared.read.marks.Mark.{Mark}
use Rattle.bx_journal_format.specs.Finished.{IsFinished}
use Rattle.bx_journal_format.specs.Shown.{shown}
use Rattle.bx_journal_format.specs.Spelled.{EntryLines, IsSpelled, entry_in, entry_lines}
use Rattle.bx_journal_format.specs.Text.{Stage, Between, Saving, Ending, IsPrefix, Reading, Reads, after_lines, text_of_lines, split, start}
use Rattle.bx_journal_format.specs.count.Marks.{marks_of}
use Rattle.bx_journal_format.proofs.CleanLemmas.{clean_shown}
use Rattle.bx_journal_format.proofs.Foreign.{joined_lines, lines_plain}
use Rattle.bx_journal_format.proofs.ShownLemmas.{shown_short, take_shown}
use Rattle.bx_journal_format.proofs.Splits.{AllPlain}
use Rattle.bx_journal_read.proofs.OpenLemmas.{some_same}
use Rattle.bx_journal_read.proofs.RowTexts.{all_lie, marks_many}
use Rattle.bx_journal_read.proofs.Spellings.{front_once, spelled_few, spelled_once}
use Rattle.bx_journal_read.proofs.StepTexts.{steps_there}
use Rattle.bx_journal_read.proofs.WindowLemmas.{fault_is, looks_before}
use Rattle.bx_journal_read.specs.show.ShownSteps.{HasEntries, HasShown, IsUnfinishedBehind, RefusesSteps, ShowsSteps, StopsSteps, BeginsLine, IsLeftAt, IsLeftIn, first_number, next_word, shown_steps, steps_text, unfinished_line, AreFrontMarks, AreStepsPut, CannotStep, FindsFront, FindsSteps, IsChecked, StandsBehind, fault_that, few_that, mark_word, newest_first, torn_text}
use Rattle.bx_journal_read.specs.declared.show.fault.ShowFault.{ShowFault}
use Rattle.bx_journal_read.specs.declared.show.fault.ShowFault.TheVariants.{Text, Io}
use Rattle.bx_journal_read.specs.declared.show.way.Steps.{Steps}
use Rattle.bx_journal_read.specs.declared.show.way.Direction.{Direction}
use Rattle.bx_journal_read.specs.declared.show.way.Direction.TheVariants.{Undo, Redo}
use Rattle.bx_journal_read.specs.declared.show.unfinished.Marked.{Marked}
use Rattle.bx_image.specs.Power.{NoMore}
use Rattle.bx_image.proofs.Survivors.{NoMore_then}
use Rattle.bx_journal_model.specs.declared.mark.Mark.{Mark as Place}
use Rattle.bx_journal_read.specs.declared.scan.torn.Torn.{Torn}
use Rattle.bx_journal_model.specs.declared.fault.SessionFault.{SessionFault}
use Rattle.bx_journal_model.specs.declared.fault.SessionFault.TheVariants.{NoMemory, TooLarge, DeviceFailed, Damaged, TooFew, JournalFull, Interrupted, Broken, LengthDiffers, NothingToRedo, RedoDamaged}
use Rattle.bx_journal_model.specs.Looking.{FaultCounts, LooksAt}
use Rattle.bx_journal_model.specs.Fault.{LacksOrFails, redo_fault}
use Rattle.bx_journal_model.specs.Redo.{BeginsAt}
use Rattle.bx_journal_read.proofs.TailLemmas.{begins_of}
use Rattle.bx_text.specs.declared.fault.IoFault.TheVariants.{NoMemory as IoMemory, ReadFailed, WriteFailed, InputTooLong, SkipPastEnd}
use Rattle.bx_journal_read.specs.scan.Recovery.{FindFault, HasMark, IsTornIn, IsUnfinishedIn}
use Rattle.bx_journal_read.specs.show.Showing.{AreAllMarks, AreMarksOf, LiesWithin, PutFault}

-- all of a text is finished entries
pub all_front : (faithful : Type 0) (stored : List ℕ) (marks : List Mark) → AreAllMarks faithful stored marks → AreFrontMarks faithful stored marks None
all_front faithful stored marks a = record { front = a.text; entries = a.entries; spelled = a.spelled; marks_are = a.marks_are; behind = λ h. a.is h }

word_is : (text : List ℕ) (stage : Stage) (mark : Option Place) → HasMark text stage mark → mark_word mark ≡ next_word stage
word_is text Between None m = refl
word_is text (Saving v s) None m = refl
word_is text (Ending v s) (Some mark) m = refl
word_is text Between (Some mark) m = absurd m
word_is text (Saving v s) (Some mark) m = absurd m
word_is text (Ending v s) None m = absurd m

pub torn_within : (faithful : Type 0) (stored : List ℕ) (torn : Torn) → IsUnfinishedIn faithful stored torn → faithful → torn.begins ≤ length stored
torn_within faithful stored torn u h = omega (arith, (u.torn h).torn.begins.within, shown_short stored)

-- the entries before what is unfinished
pub torn_front : (faithful : Type 0) (stored : List ℕ) (torn : Torn) (marks : List Mark) → AreMarksOf faithful stored torn.begins marks → IsUnfinishedIn faithful stored torn → AreFrontMarks faithful stored marks (Some torn)
torn_front faithful stored torn marks a u = record { front = a.front; entries = a.entries; spelled = a.spelled; marks_are = a.marks_are; behind = behind }
  where
    behind : faithful → StandsBehind stored a.front a.entries (Some torn)
    behind h =
        let t = u.torn h in
        let r : Reading = t.reading in
        let front : a.front ≡ take torn.begins (shown stored) = a.is h ∙ take_shown torn.begins stored t.torn.begins.within in
        let lines : Some (record { entries = map entry_in a.entries; stage = Between }) ≡ Some (record { entries = r.entries; stage = Between }) =
        sym a.spelled.finished.reads.lines ∙ ap (λ s. after_lines start (split s).lines) front ∙ t.torn.begins.lines in
        let entries : r.entries ≡ map entry_in a.entries =
        sym (ap (λ (q : Reading). q.entries) (some_same (record { entries = map entry_in a.entries; stage = Between }) (record { entries = r.entries; stage = Between }) lines)) in
        let reads : Reads (shown stored) (record { entries = map entry_in a.entries; stage = r.stage }) = subst (λ es. Reads (shown stored) (record { entries = es; stage = r.stage })) entries t.torn.reads in (
          r.stage,
          record {
            front_is = (drop torn.begins stored, sym (ap (λ s. s ++ drop torn.begins stored) (a.is h) ∙ take-append-drop torn.begins stored));
            spelled = a.spelled;
            reads = reads;
            unfinished = t.unfinished;
          },
          t.torn.count ∙ ap length entries ∙ length-map a.entries entry_in,
          word_is (shown stored) r.stage torn.mark t.torn.mark,
          record {
            within = torn_within faithful stored torn u h;
            lines = ap (λ s. after_lines start (split s).lines) (sym (a.is h)) ∙ a.spelled.finished.reads.lines;
            whole = ap (λ s. (split s).rest) (sym (a.is h)) ∙ a.spelled.finished.whole;
          },
        )

-- the same of a text behind a call that only looked at it
module _ {T V : Type 0} {faithful : T → Type 0} {text : T → List ℕ} {failures : T → ℕ} {v : V} {old now : T} (first : LooksAt faithful text failures (Ok v) old now) where
  pub front_is : (marks : List Mark) (torn : Option Torn) → AreFrontMarks (faithful now) (text now) marks torn → AreFrontMarks (faithful old) (text old) marks torn
  front_is marks torn a = record {
    front = a.front;
    entries = a.entries;
    spelled = a.spelled;
    marks_are = a.marks_are;
    behind = λ h. subst (λ t. StandsBehind t a.front a.entries torn) (first.same h) (a.behind (first.faith.1 h));
  }

  pub unfinished_now : (torn : Torn) → IsUnfinishedIn (faithful old) (text old) torn → IsUnfinishedIn (faithful now) (text now) torn
  unfinished_now torn u = record {
    torn = λ h. subst (λ t. IsTornIn t torn) (sym (first.same (first.faith.0 h))) (u.torn (first.faith.0 h));
    few = u.few;
    order = u.order;
  }

  pub front_behind : {A : Type 0} {new : T} {left : T → List ℕ → Type 0} → (faithful old → NoMore (left old) (left now)) → (r : Result (Marked A) SessionFault) → FindsFront faithful text left failures r now new
      → FindsFront faithful text left failures r old new
  front_behind before r next = record {
    marks = IfOk-weaker r (λ m. AreFrontMarks (faithful now) (text now) m.marks.items m.torn) (λ m. AreFrontMarks (faithful old) (text old) m.marks.items m.torn) (λ m a. front_is m.marks.items m.torn a) next.marks;
    fault = IfErr-weaker r (FindFault (faithful now) (shown (text now))) (FindFault (faithful old) (shown (text old))) (fault_is first) next.fault;
    looks = looks_before first next.looks;
    survives = λ h. NoMore_then _ _ _ (before h) (next.survives (first.faith.1 h));
  }

-- what is found of a text behind a call that looked at it
pub front_found : {T A V : Type 0} {faithful : T → Type 0} {text : T → List ℕ} {left : T → List ℕ → Type 0} {failures : T → ℕ} {v : V} {old now : T} → (found : Marked A) → LooksAt faithful text failures (Ok v) old now
    → (faithful old → NoMore (left old) (left now)) → AreFrontMarks (faithful old) (text old) found.marks.items found.torn → FindsFront faithful text left failures (Ok found) old now
front_found found looks before a = record {
  marks = a;
  fault = tt;
  looks = record { same = looks.same; faith = looks.faith; no_failure = looks.no_failure; counts = tt };
  survives = before;
}

-- how many marks there are
pub front_few : (faithful : Type 0) (stored : List ℕ) (marks : List Mark) (torn : Option Torn) → AreFrontMarks faithful stored marks torn → length marks ≤ 65535
front_few faithful stored marks torn a = omega (arith, ap length a.marks_are, marks_many a.entries, spelled_few a.front a.entries a.spelled)

-- what a fault of reading the text is
pub find_stops : (faithful : Type 0) (stored : List ℕ) (s : Steps) (way : Direction) → s.way ≡ way → (e : SessionFault) → FindFault faithful (shown stored) e → StopsSteps faithful stored s (Text (fault_that way e))
find_stops faithful stored s Undo is (Damaged line) f = (is, f)
find_stops faithful stored s Redo is (Damaged line) f = (is, λ h. inl (f h))
find_stops faithful stored s Undo is NoMemory f = tt
find_stops faithful stored s Redo is NoMemory f = tt
find_stops faithful stored s Undo is DeviceFailed f = tt
find_stops faithful stored s Redo is DeviceFailed f = tt
find_stops faithful stored s way is TooLarge f = absurd f
find_stops faithful stored s way is (TooFew have) f = absurd f
find_stops faithful stored s way is JournalFull f = absurd f
find_stops faithful stored s way is Interrupted f = absurd f
find_stops faithful stored s way is Broken f = absurd f
find_stops faithful stored s way is (LengthDiffers n) f = absurd f
find_stops faithful stored s way is (NothingToRedo have) f = absurd f
find_stops faithful stored s way is (RedoDamaged line) f = absurd f

-- how many entries a text has
front_entries : (stored front : List ℕ) (cs : List EntryLines) (torn : Option Torn) → IsSpelled front cs → StandsBehind stored front cs torn → HasEntries stored (length cs)
front_entries stored front cs None s is =
    let same : front ≡ shown stored = sym (ap shown is ∙ clean_shown front (map entry_in cs) s.finished) in
    (record { entries = map entry_in cs; stage = Between }, subst (λ t. Reads t (record { entries = map entry_in cs; stage = Between })) same s.finished.reads, length-map cs entry_in)
front_entries stored front cs (Some torn) s is = (record { entries = map entry_in cs; stage = is.0 }, is.1.reads, length-map cs entry_in)

few_stops : (faithful : Type 0) (stored : List ℕ) (s : Steps) (way : Direction) (have : ℕ) → s.way ≡ way → have < s.count → (faithful → HasEntries stored have) → StopsSteps faithful stored s (Text (few_that way have))
few_stops faithful stored s Undo have is few has = (is, few, has)
few_stops faithful stored s Redo have is few has = (is, few, has)

-- why steps aren't taken
pub cannot_stops : {A : Type 0} → (faithful : Type 0) (stored : List ℕ) (s : Steps) (found : Marked A) → AreFrontMarks faithful stored found.marks.items found.torn → (e : SessionFault) → CannotStep s found e
    → StopsSteps faithful stored s (Text e)
cannot_stops faithful stored s found a e is =
    let many : length a.entries ≡ length found.marks.items = sym (ap length a.marks_are ∙ marks_many a.entries) in
    subst (λ f. StopsSteps faithful stored s (Text f)) (sym is.1)
    (few_stops faithful stored s s.way (length found.marks.items) refl is.0 (λ h. subst (HasEntries stored) many (front_entries stored a.front a.entries found.torn a.spelled (a.behind h))))

-- the line at a place isn't found for want of memory, or where a device failed
lacks_stops : (faithful : Type 0) (stored : List ℕ) (s : Steps) (e : SessionFault) → LacksOrFails e → StopsSteps faithful stored s (Text e)
lacks_stops faithful stored s e (inl is) = subst (λ f. StopsSteps faithful stored s (Text f)) (sym is) tt
lacks_stops faithful stored s e (inr is) = subst (λ f. StopsSteps faithful stored s (Text f)) (sym is) tt

-- a fault counts as a step's as it did as the text's
redo_counts : (e : SessionFault) (n m : ℕ) → FaultCounts e n 0 m 0 → FaultCounts (redo_fault e) n 0 m 0
redo_counts (Damaged line) n m c = c
redo_counts NoMemory n m c = c
redo_counts DeviceFailed n m c = c
redo_counts TooLarge n m c = c
redo_counts (TooFew have) n m c = c
redo_counts JournalFull n m c = c
redo_counts Interrupted n m c = c
redo_counts Broken n m c = c
redo_counts (LengthDiffers k) n m c = c
redo_counts (NothingToRedo have) n m c = c
redo_counts (RedoDamaged line) n m c = c

that_counts : (way : Direction) (e : SessionFault) (n m : ℕ) → FaultCounts e n 0 m 0 → FaultCounts (fault_that way e) n 0 m 0
that_counts Undo e n m c = c
that_counts Redo e n m c = redo_counts e n m c

few_counts : (way : Direction) (have n m : ℕ) → m ≡ n → FaultCounts (few_that way have) n 0 m 0
few_counts Undo have n m same = (same, refl)
few_counts Redo have n m same = (same, refl)

-- what is found, where it isn't read
pub front_refused : {T A : Type 0} {faithful : T → Type 0} {text : T → List ℕ} {left : T → List ℕ → Type 0} {failures : T → ℕ} {old new : T} → (s : Steps) (e f : SessionFault) → FindsFront {A = A} faithful text left failures (Err e) old new → f ≡ fault_that s.way e
    → FindsSteps {A = A} faithful text left failures s (Err f) old new
front_refused {faithful = faithful} {text = text} {failures = failures} {old = old} {new = new} s e f finds is = record {
  marks = tt;
  can = tt;
  fault = subst (λ x. StopsSteps (faithful old) (text old) s (Text x)) (sym is) (find_stops (faithful old) (text old) s s.way refl e finds.fault);
  looks = record {
    same = finds.looks.same;
    faith = finds.looks.faith;
    no_failure = tt;
    counts = subst (λ x. FaultCounts x (failures old) 0 (failures new) 0) (sym is) (that_counts s.way e (failures old) (failures new) finds.looks.counts);
  };
  survives = finds.survives;
}

-- and where it is checked
pub front_checked : {T A : Type 0} {faithful : T → Type 0} {text : T → List ℕ} {left : T → List ℕ → Type 0} {failures : T → ℕ} {old new : T} → (s : Steps) (found : Marked A) (r : Result (Marked A) SessionFault) → FindsFront faithful text left failures (Ok found) old new
    → IfOk r (IsChecked s found) → IfErr r (CannotStep s found) → FindsSteps faithful text left failures s r old new
front_checked {faithful = faithful} {text = text} {old = old} s found (Ok checked) finds ok err = record {
  marks = subst (λ torn. AreFrontMarks (faithful old) (text old) checked.marks.items torn) (sym ok.1) (subst (λ items. AreFrontMarks (faithful old) (text old) items found.torn) (sym ok.0) finds.marks);
  can = ok.2;
  fault = tt;
  looks = record { same = finds.looks.same; faith = finds.looks.faith; no_failure = finds.looks.no_failure; counts = tt };
  survives = finds.survives;
}
front_checked {faithful = faithful} {text = text} {failures = failures} {old = old} {new = new} s found (Err e) finds ok err = record {
  marks = tt;
  can = tt;
  fault = cannot_stops (faithful old) (text old) s found finds.marks e err;
  looks = record {
    same = finds.looks.same;
    faith = finds.looks.faith;
    no_failure = tt;
    counts = subst (λ x. FaultCounts x (failures old) 0 (failures new) 0) (sym err.1) (few_counts s.way (length found.marks.items) (failures old) (failures new) finds.looks.no_failure);
  };
  survives = finds.survives;
}

-- a redo text with something unfinished isn't stepped over
pub left_refused : {T A V : Type 0} {faithful : T → Type 0} {text : T → List ℕ} {left : T → List ℕ → Type 0} {failures : T → ℕ} {v : V} {old now new : T} → (s : Steps) (found : Marked A) (torn : Torn) (line : ℕ) → FindsFront faithful text left failures (Ok found) old now
    → IsLeftIn s.way found.torn torn → LooksAt faithful text failures (Ok v) now new → (faithful now → NoMore (left now) (left new)) → (faithful now → torn.begins ≤ length (text now) → BeginsLine (text now) torn.begins line)
    → FindsSteps {A = A} faithful text left failures s (Err (RedoDamaged line)) old new
left_refused {faithful = faithful} {text = text} {failures = failures} {old = old} {now = now} {new = new} s found torn line finds is then more begins = record {
  marks = tt;
  can = tt;
  fault = (is.0, λ h. inr (left_at h));
  looks = record {
    same = λ h. then.same (finds.looks.faith.1 h) ∙ finds.looks.same h;
    faith = ((λ h. finds.looks.faith.0 (then.faith.0 h)), λ h. then.faith.1 (finds.looks.faith.1 h));
    no_failure = tt;
    counts = (then.no_failure ∙ finds.looks.no_failure, refl);
  };
  survives = λ h. NoMore_then _ _ _ (finds.survives h) (more (finds.looks.faith.1 h));
}
  where
    left_at : faithful old → IsLeftAt (text old) line
    left_at h =
        let a = finds.marks in
        let b = subst (StandsBehind (text old) a.front a.entries) is.1 (a.behind h) in
        let at : line ≡ suc (length (split (take torn.begins (text old))).lines) =
        subst (λ t. BeginsLine t torn.begins line) (finds.looks.same h) (begins (finds.looks.faith.1 h) (subst (λ t. torn.begins ≤ length t) (sym (finds.looks.same h)) b.4.within)) in
        record {
          reading = record { entries = map entry_in a.entries; stage = b.0 };
          reads = b.1.reads;
          unfinished = b.1.unfinished;
          begins = subst (BeginsAt (text old) (map entry_in a.entries)) (sym at) (begins_of (text old) torn.begins (map entry_in a.entries) b.4);
        }

-- its line isn't found where the text can't be read
pub left_unread : {T A V : Type 0} {faithful : T → Type 0} {text : T → List ℕ} {left : T → List ℕ → Type 0} {failures : T → ℕ} {old now new : T} → (s : Steps) (found : Marked A) (e : SessionFault) → FindsFront faithful text left failures (Ok found) old now
    → LooksAt {R = V} faithful text failures (Err e) now new → (faithful now → NoMore (left now) (left new)) → LacksOrFails e → FindsSteps {A = A} faithful text left failures s (Err e) old new
left_unread {faithful = faithful} {text = text} {failures = failures} {old = old} {now = now} {new = new} s found e finds then more lacks = record {
  marks = tt;
  can = tt;
  fault = lacks_stops (faithful old) (text old) s e lacks;
  looks = record {
    same = λ h. then.same (finds.looks.faith.1 h) ∙ finds.looks.same h;
    faith = ((λ h. finds.looks.faith.0 (then.faith.0 h)), λ h. then.faith.1 (finds.looks.faith.1 h));
    no_failure = tt;
    counts = subst (λ n. FaultCounts e n 0 (failures new) 0) finds.looks.no_failure then.counts;
  };
  survives = λ h. NoMore_then _ _ _ (finds.survives h) (more (finds.looks.faith.1 h));
}

-- a fault of writing
pub put_stops : (faithful : Type 0) (stored : List ℕ) (s : Steps) (f : ShowFault) → PutFault f → StopsSteps faithful stored s f
put_stops faithful stored s (Io (WriteFailed n)) f = tt
put_stops faithful stored s (Io IoMemory) f = f
put_stops faithful stored s (Io ReadFailed) f = f
put_stops faithful stored s (Io InputTooLong) f = f
put_stops faithful stored s (Io SkipPastEnd) f = f
put_stops faithful stored s (Text NoMemory) f = tt
put_stops faithful stored s (Text DeviceFailed) f = tt
put_stops faithful stored s (Text (Damaged line)) f = absurd f
put_stops faithful stored s (Text TooLarge) f = absurd f
put_stops faithful stored s (Text (TooFew have)) f = absurd f
put_stops faithful stored s (Text JournalFull) f = absurd f
put_stops faithful stored s (Text Interrupted) f = absurd f
put_stops faithful stored s (Text Broken) f = absurd f
put_stops faithful stored s (Text (LengthDiffers n)) f = absurd f
put_stops faithful stored s (Text (NothingToRedo have)) f = absurd f
put_stops faithful stored s (Text (RedoDamaged line)) f = absurd f

-- isn't one of the text
pub put_allows : (f : ShowFault) → PutFault f → RefusesSteps f → ⊥
put_allows (Io fault) f r = r
put_allows (Text NoMemory) f r = r
put_allows (Text DeviceFailed) f r = r
put_allows (Text (Damaged line)) f r = f
put_allows (Text TooLarge) f r = f
put_allows (Text (TooFew have)) f r = f
put_allows (Text JournalFull) f r = f
put_allows (Text Interrupted) f r = f
put_allows (Text Broken) f r = f
put_allows (Text (LengthDiffers n)) f r = f
put_allows (Text (NothingToRedo have)) f r = f
put_allows (Text (RedoDamaged line)) f r = f

-- the front of a text that is marked
front_prefix : (stored front : List ℕ) (cs : List EntryLines) (torn : Option Torn) → StandsBehind stored front cs torn → IsPrefix front stored
front_prefix stored front cs None is = ([], is ∙ sym (append-nil front))
front_prefix stored front cs (Some torn) is = is.1.front_is

-- the places of all marks lie within the text
pub front_lie : (faithful : Type 0) (stored now : List ℕ) (slice marks : List Mark) (torn : Option Torn) → AreFrontMarks faithful stored marks torn → (faithful → now ≡ stored) → slice ≡ marks
    → (len : ℕ) × (faithful → len ≤ length now) × All (LiesWithin len) slice
front_lie faithful stored now slice marks torn a same is = (
  length a.front,
  (λ h. (let p = front_prefix stored a.front a.entries torn (a.behind h) in omega (arith, ap length (same h ∙ p.1), length-append a.front p.0))),
  subst (All (LiesWithin (length a.front))) (sym is) (all_lie a.front a.entries marks a.spelled a.marks_are),
)

pub torn_is : (torn : Torn) (cs : List EntryLines) (stage : Stage) → torn.count ≡ length cs → mark_word torn.mark ≡ next_word stage → torn_text (Some torn) ≡ unfinished_line (suc (length cs)) stage
torn_is torn cs stage count word =
    let number : torn.count + 1 ≡ suc (length cs) = omega (arith, count) in
    ap (λ n. codes "# change " ++ decimal n ++ codes ": unfinished, the next command " ++ mark_word torn.mark ++ codes "\n") number
    ∙ ap (λ w. codes "# change " ++ decimal (suc (length cs)) ++ codes ": unfinished, the next command " ++ w ++ codes "\n") word

undo_only : (way : Direction) (torn : Torn) → (way ≡ Redo → Some torn ≡ None) → way ≡ Undo
undo_only Undo torn none = refl
undo_only Redo torn none = absurd (let h : Some torn ≡ None = none refl in cc)

-- what the steps of marks are in words of the entries
module _ (text now image : List ℕ) (s : Steps) (slice marks : List Mark) (w0 w1 w2 : Option (List ℕ)) (enough : s.count ≤ length marks) (same : now ≡ text) (is : slice ≡ marks) (put : AreStepsPut s image now s.count slice w1 w2) where
  entries_shown : (front line : List ℕ) (cs : List EntryLines) → IsPrefix front text → IsSpelled front cs → marks ≡ marks_of cs → Appends w0 w1 line → HasShown s image cs line w0 w2
  entries_shown front line cs prefix spelled marks_are before =
      let whole : text ≡ text_of_lines (entry_lines cs) ++ prefix.0 = prefix.1 ∙ ap (λ t. t ++ prefix.0) (sym (joined_lines front spelled.finished.whole) ∙ ap text_of_lines spelled.lines) in
      let plain : AllPlain (entry_lines cs) = subst AllPlain spelled.lines (lines_plain front) in
      let many : length (marks_of cs) ≡ length cs = marks_many cs in
      let fits : s.count ≤ length cs = omega (arith, enough, ap length marks_are, many) in
      let steps : newest_first s image now (first_number s.way s.changes (length slice)) (drop (length slice - s.count) slice) ≡ shown_steps s image cs =
      ap (λ ms. newest_first s image now (first_number s.way s.changes (length ms)) (drop (length ms - s.count) ms)) (is ∙ marks_are)
      ∙ ap (λ t. newest_first s image t (first_number s.way s.changes (length (marks_of cs))) (drop (length (marks_of cs) - s.count) (marks_of cs))) same
      ∙ steps_there s image cs (first_number s.way s.changes (length (marks_of cs))) s.count prefix.0 text whole plain spelled.runs fits
      ∙ ap (λ n. steps_text s image (first_number s.way s.changes n) (take s.count cs)) many in
      record { enough = fits; written = Appends-trans w0 w1 w2 line (shown_steps s image cs) before (subst (Appends w1 w2) steps put) }

  pub steps_shown : (torn : Option Torn) → AreFrontMarks (Unit {0}) text marks torn → (s.way ≡ Redo → torn ≡ None) → Appends w0 w1 (torn_text torn) → ShowsSteps text image s w0 w2
  steps_shown None a way before =
      let whole : text ≡ a.front = a.behind tt in
      let all : HasShown s image a.entries [] w0 w2 = entries_shown a.front [] a.entries ([], whole ∙ sym (append-nil a.front)) a.spelled a.marks_are before in
      record {
        accepted = inl (a.entries, subst (λ t. IsSpelled t a.entries) (sym whole) a.spelled);
        finished = λ ds d. subst (λ xs. HasShown s image xs [] w0 w2) (spelled_once a.front a.entries ds a.spelled (subst (λ t. IsSpelled t ds) whole d)) all;
        unfinished = λ front ds stage u. absurd (u.unfinished (map entry_in a.entries, subst (λ t. IsFinished t (map entry_in a.entries)) (sym whole) a.spelled.finished));
      }
  steps_shown (Some torn) a way before =
      let b = a.behind tt in
      let line = unfinished_line (suc (length a.entries)) b.0 in
      let first : Appends w0 w1 line = subst (Appends w0 w1) (torn_is torn a.entries b.0 b.2 b.3) before in
      let all : HasShown s image a.entries line w0 w2 = entries_shown a.front line a.entries b.1.front_is a.spelled a.marks_are first in
      record {
        accepted = inr (a.front, a.entries, b.0, b.1);
        finished = λ ds d. absurd (b.1.unfinished (map entry_in ds, d.finished));
        unfinished = λ front ds stage u. (undo_only s.way torn way, unfinished_same a torn b all front ds stage u);
      }
    where
      unfinished_same : (a : AreFrontMarks (Unit {0}) text marks (Some torn)) (torn : Torn) (b : StandsBehind text a.front a.entries (Some torn)) → HasShown s image a.entries (unfinished_line (suc (length a.entries)) b.0) w0 w2
          → (front : List ℕ) (ds : List EntryLines) (stage : Stage) → IsUnfinishedBehind text front ds stage → HasShown s image ds (unfinished_line (suc (length ds)) stage) w0 w2
      unfinished_same a torn b all front ds stage u =
          let read : record { entries = map entry_in a.entries; stage = b.0 } ≡ record { entries = map entry_in ds; stage = stage } =
          some_same (record { entries = map entry_in a.entries; stage = b.0 }) (record { entries = map entry_in ds; stage = stage }) (sym b.1.reads.lines ∙ u.reads.lines) in
          let fronts : front ≡ a.front = sym (front_once text a.front front a.entries ds b.1.front_is u.front_is a.spelled u.spelled (ap (λ (r : Reading). r.entries) read)) in
          let entries : a.entries ≡ ds = spelled_once a.front a.entries ds a.spelled (subst (λ t. IsSpelled t ds) fronts u.spelled) in
          subst (λ g. HasShown s image ds (unfinished_line (suc (length ds)) g) w0 w2) (ap (λ (r : Reading). r.stage) read)
          (subst (λ xs. HasShown s image xs (unfinished_line (suc (length xs)) b.0) w0 w2) entries all)
