-- The marks of a text that is read in windows.
use Rattle.std.proofs.Common.{◌≡◌, ℕ, List, [], ◌++◌, length, map, take, ap, sym, ◌∙◌, subst, inl, arith, append-nil, Some, Result, Ok}
use Rattle.std.specs.Prelude.{Vec}
use Rattle.std.proofs.lemmas.List.{take_all}
use Rattle.std.proofs.lemmas.Result.{IfErr-weaker, IfOk-weaker}
use Rattle.bx_image.specs.Power.{NoMore}
use Rattle.bx_image.proofs.Survivors.{NoMore_then}
use Rattle.bx_journal_format.specs.Shown.{shown}
use Rattle.bx_journal_model.specs.declared.fault.SessionFault.{SessionFault}
use Rattle.bx_journal_model.specs.Looking.{LooksAt}
use Rattle.bx_journal_read.specs.scan.Recovery.{FindFault}
use Rattle.bx_journal_read.proofs.WindowLemmas.{fault_is, looks_before}
use Rattle.bx_journal_format.specs.declared.read.count.Place.TheVariants.{Between as BetweenPlace}
use Rattle.bx_journal_format.specs.declared.read.marks.Mark.{Mark}
use Rattle.bx_journal_format.specs.declared.read.rows.Summed.{Summed}
use Rattle.bx_journal_format.specs.Spelled.{entry_in, entry_lines}
use Rattle.bx_journal_format.specs.Text.{Between, split, start, after_lines}
use Rattle.bx_journal_format.specs.count.Marks.{GoOnWith, IsMarked}
use Rattle.bx_journal_format.proofs.TallyLemmas.{HasForm, has_form}
use Rattle.bx_journal_read.specs.declared.show.marks.MarkScan.{MarkScan}
use Rattle.bx_journal_read.specs.declared.scan.windows.Reached.{Reached}
use Rattle.bx_journal_read.specs.show.Showing.{AreAllMarks, AreMarksOf, FindsMarks}
use Rattle.bx_journal_read.specs.scan.Windows.{IsReached}

-- a text that stands between two entries is finished entries alone
pub marked_all : {A : Type 0} → (faithful : Type 0) (stored : List ℕ) (len : ℕ) (r : Reached (MarkScan A)) → IsReached faithful stored (λ s text. IsMarked text s.marking s.marks.items) len r → r.at ≡ len
    → r.scan.marking.sums.tally.place ≡ BetweenPlace → AreMarksOf faithful stored len r.scan.marks.items
marked_all faithful stored len r reached all place =
    let h = reached.led.leads in
    let m = r.scan.marking in
    let between : h.reading.stage ≡ Between = subst (HasForm h.reading.stage) place (has_form h.reading.stage m.sums.tally.place (ap (λ (s : Summed). s.tally.place) h.is)) in
    let none : h.behind ≡ [] = subst (λ s. GoOnWith h.entries s h.behind m.from m.to) between h.goes_on in
    let lines : after_lines start (split reached.led.text).lines ≡ Some (record { entries = map entry_in h.entries; stage = Between }) =
    h.reads ∙ ap (λ s. Some (record { entries = h.reading.entries; stage = s })) between ∙ ap (λ es. Some (record { entries = es; stage = Between })) (sym h.are) in
    record {
      front = reached.led.text;
      is = λ h. reached.led.is h ∙ ap (λ n. take n stored) all;
      entries = h.entries;
      spelled = record {
        finished = record { reads = record { lines = lines; rest = inl h.whole }; whole = h.whole };
        lines = h.lines ∙ ap (λ ls. entry_lines h.entries ++ ls) none ∙ append-nil (entry_lines h.entries);
        runs = h.runs;
      };
      marks_are = h.marks_are;
    }

-- the marks of a whole text, behind a call that only looked at it
pub marks_all : (faithful now : Type 0) (stored text : List ℕ) (len : ℕ) (marks : List Mark) → (faithful → now) → (faithful → text ≡ stored) → (faithful → len ≡ length stored) → AreMarksOf now text len marks → AreAllMarks faithful stored marks
marks_all faithful now stored text len marks still same long of = record {
  text = of.front;
  is = λ h. sym (of.is (still h) ∙ ap (take len) (same h) ∙ take_all len stored (omega (arith, long h)));
  entries = of.entries;
  spelled = of.spelled;
  marks_are = of.marks_are;
}

-- what is said of a text behind a call that only looked at it
module _ {T V : Type 0} {faithful : T → Type 0} {text : T → List ℕ} {failures : T → ℕ} {v : V} {old now : T} (first : LooksAt faithful text failures (Ok v) old now) where
  pub marks_behind : {A : Type 0} {new : T} {left : T → List ℕ → Type 0} → (faithful old → NoMore (left old) (left now)) → (r : Result (Vec Mark A) SessionFault) → FindsMarks faithful text left failures r now new
      → FindsMarks faithful text left failures r old new
  marks_behind before r next = record {
    marks = IfOk-weaker r (λ m. AreAllMarks (faithful now) (text now) m.items) (λ m. AreAllMarks (faithful old) (text old) m.items)
        (λ m a. record { text = a.text; is = λ h. sym (first.same h) ∙ a.is (first.faith.1 h); entries = a.entries; spelled = a.spelled; marks_are = a.marks_are }) next.marks;
    fault = IfErr-weaker r (FindFault (faithful now) (shown (text now))) (FindFault (faithful old) (shown (text old))) (fault_is first) next.fault;
    looks = looks_before first next.looks;
    survives = λ h. NoMore_then _ _ _ (before h) (next.survives (first.faith.1 h));
  }
