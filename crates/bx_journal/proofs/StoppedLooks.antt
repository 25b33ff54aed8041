-- What looks have written where they were stopped: rows and steps of marks, and in words of the entries.
use Rattle.std.proofs.Common.{◌≡◌, ℕ, zero, suc, ◌+◌, ◌-◌, ◌<◌, ◌≤◌, get_or, List, [], ◌++◌, length, map, take, drop, refl, ap, sym, ◌∙◌, subst, inl, inr, arith, append_assoc, append-nil, Option, None, Some}
use Rattle.std.specs.Prelude.{IsTrue}
use Rattle.std.proofs.Math.Nat.{eq-or-lt_of_le}
use Rattle.std.proofs.lemmas.List.{take-append-drop}
use Rattle.std.specs.Io.KnownBytes.{Appends}
use Rattle.bx_journal_format.specs.declared.read.marks.Mark.{Mark}
use Rattle.bx_journal_format.specs.Finished.{IsFinished}
use Rattle.bx_journal_format.specs.Spelled.{EntryLines, IsSpelled, entry_in, entry_lines}
use Rattle.bx_journal_format.specs.Text.{Entry, IsPrefix, Reading, Stage, text_of_lines}
use Rattle.bx_journal_format.specs.count.Marks.{marks_of}
use Rattle.bx_journal_format.proofs.Foreign.{joined_lines, lines_plain}
use Rattle.bx_journal_format.proofs.Splits.{AllPlain}
use Rattle.bx_journal_model.specs.declared.fault.SessionFault.{SessionFault}
use Rattle.bx_journal_read.specs.declared.scan.torn.Torn.{Torn}
use Rattle.bx_journal_read.specs.declared.show.fault.ShowFault.{ShowFault}
use Rattle.bx_journal_read.specs.declared.show.fault.ShowFault.TheVariants.{Text}
use Rattle.bx_journal_read.specs.declared.show.way.Steps.{Steps}
use Rattle.bx_journal_read.specs.show.Showing.{AreAllMarks, StopsRows, mark_row, mark_rows, ranges_rows}
use Rattle.bx_journal_read.specs.show.ShownSteps.{AreFrontMarks, HasFront, IsUnfinishedBehind, first_number, mark_step, newest_first, newest_steps, number_at, shown_steps, steps_text, torn_text, unfinished_line}
use Rattle.bx_journal_read.specs.show.Stopping.{CountsBytes, StopsPrefix}
use Rattle.bx_journal.specs.ShownText.{StopsShownPatch, last_line, shown_patch}
use Rattle.bx_journal_read.proofs.OpenLemmas.{some_same}
use Rattle.bx_journal_read.proofs.RowTexts.{log_rows, mark_rows-append, marks_many, rows_next}
use Rattle.bx_journal_read.proofs.Spellings.{front_once, spelled_once}
use Rattle.bx_journal_read.proofs.StepTexts.{same_step, steps_next, steps_there}
use Rattle.bx_journal_read.proofs.StepsShown.{torn_is}
use Rattle.bx_journal_read.proofs.StopLemmas.{counts_both, stops_at_second, stops_none}

-- all rows are those before a place, its row, and those behind it
rows_split : (text : List ℕ) (marks : List Mark) (i : ℕ) (d : Mark) → i < length marks
    → (behind : List ℕ) × (mark_rows text 1 marks ≡ (mark_rows text 1 (take i marks) ++ mark_row text (i + 1) (get_or marks i d)) ++ behind)
rows_split text marks i d within = (
  mark_rows text (1 + length (take (i + 1) marks)) (drop (i + 1) marks),
  ap (mark_rows text 1) (sym (take-append-drop (i + 1) marks)) ∙ mark_rows-append text 1 (take (i + 1) marks) (drop (i + 1) marks)
      ∙ ap (λ t. t ++ mark_rows text (1 + length (take (i + 1) marks)) (drop (i + 1) marks)) (rows_next text marks i d within),
)

-- a row was stopped, of a text that is the same as before
pub row_stopped : (w0 w1 w2 : Option (List ℕ)) (text now : List ℕ) (marks : List Mark) (i written : ℕ) (d : Mark) (fault : ShowFault) → i < length marks → now ≡ text
    → Appends w0 w1 (mark_rows text 1 (take i marks)) → CountsBytes 0 (mark_rows text 1 (take i marks)) written → StopsPrefix written (mark_row now (i + 1) (get_or marks i d)) w1 w2 fault
    → StopsPrefix 0 (mark_rows text 1 marks) w0 w2 fault
row_stopped w0 w1 w2 text now marks i written d fault within same before counted stop =
    let all = rows_split text marks i d within in
    let row : StopsPrefix written (mark_row text (i + 1) (get_or marks i d)) w1 w2 fault = subst (λ t. StopsPrefix written (mark_row t (i + 1) (get_or marks i d)) w1 w2 fault) same stop in
    subst (λ t. StopsPrefix 0 t w0 w2 fault) (sym all.1)
    (stops_at_second 0 written (mark_rows text 1 (take i marks)) (mark_row text (i + 1) (get_or marks i d)) all.0 w0 w1 w2 fault before counted row)

-- or counted
pub row_counted : (text now : List ℕ) (marks : List Mark) (i written after : ℕ) (d : Mark) → i < length marks → now ≡ text
    → CountsBytes 0 (mark_rows text 1 (take i marks)) written → CountsBytes written (mark_row now (i + 1) (get_or marks i d)) after → CountsBytes 0 (mark_rows text 1 (take (i + 1) marks)) after
row_counted text now marks i written after d within same before row =
    subst (λ t. CountsBytes 0 t after) (sym (rows_next text marks i d within))
    (counts_both 0 written after (mark_rows text 1 (take i marks)) (mark_row text (i + 1) (get_or marks i d)) before (subst (λ t. CountsBytes written (mark_row t (i + 1) (get_or marks i d)) after) same row))

-- the rows of marks, in words of the entries
pub rows_stopped : (text now : List ℕ) (slice items : List Mark) (w0 w1 : Option (List ℕ)) (fault : ShowFault) (a : AreAllMarks (Unit {0}) text items) → now ≡ text → slice ≡ items
    → StopsPrefix 0 (mark_rows now 1 slice) w0 w1 fault → StopsRows text w0 w1 fault
rows_stopped text now slice items w0 w1 fault a same is stop = record {
  quiet = λ no. absurd (no (map entry_in a.entries, subst (λ t. IsFinished t (map entry_in a.entries)) (sym (a.is tt)) a.spelled.finished));
  rows = λ es f. subst (λ t. StopsPrefix 0 t w0 w1 fault) (rows_are es f) stop;
}
  where
    rows_are : (es : List Entry) → IsFinished text es → mark_rows now 1 slice ≡ ranges_rows es
    rows_are es f =
        let text_is : text ≡ a.text = a.is tt in
        ap (λ t. mark_rows t 1 slice) (same ∙ text_is) ∙ ap (mark_rows a.text 1) (is ∙ a.marks_are) ∙ log_rows a.text a.entries es a.spelled (subst (λ t. IsFinished t es) text_is f)

-- nothing was written
pub rows_refused : (text : List ℕ) (w : Option (List ℕ)) (fault : SessionFault) → StopsRows text w w (Text fault)
rows_refused text w fault = record { quiet = λ no. refl; rows = λ es f. stops_none 0 (ranges_rows es) w fault }

-- the steps of the newest marks are those of fewer, and more behind them
steps_split : (s : Steps) (image text : List ℕ) (n i k : ℕ) (marks : List Mark) → i ≤ k → k ≤ length marks
    → (behind : List ℕ) × (newest_first s image text n (drop (length marks - k) marks) ≡ newest_first s image text n (drop (length marks - i) marks) ++ behind)
steps_split s image text n i zero marks before within =
    let same : 0 ≡ i = omega (arith, before) in
    ([], ap (λ j. newest_first s image text n (drop (length marks - j) marks)) same ∙ sym (append-nil (newest_first s image text n (drop (length marks - i) marks))))
steps_split s image text n i (suc k) marks before within = elim (eq-or-lt_of_le before) [
  | inl e ↦ ([], ap (λ j. newest_first s image text n (drop (length marks - j) marks)) (sym e) ∙ sym (append-nil (newest_first s image text n (drop (length marks - i) marks))))
  | inr lt ↦ by_more (steps_split s image text n i k marks (omega (arith, lt)) (omega (arith, within)))
]
  where
    none : Mark
    none = record { from = 0; to = 0; len = 0; after = None; saved = 0 }

    by_more : (behind : List ℕ) × (newest_first s image text n (drop (length marks - k) marks) ≡ newest_first s image text n (drop (length marks - i) marks) ++ behind)
        → (behind : List ℕ) × (newest_first s image text n (drop (length marks - suc k) marks) ≡ newest_first s image text n (drop (length marks - i) marks) ++ behind)
    by_more rest =
        let step : List ℕ = mark_step s image text (number_at s.way n k) (get_or marks (length marks - 1 - k) none) in
        let more : suc k ≡ k + 1 = omega arith in (
          rest.0 ++ step,
          ap (λ j. newest_first s image text n (drop (length marks - j) marks)) more ∙ steps_next s image text n k marks none (omega (arith, within)) ∙ ap (λ t. t ++ step) rest.1
              ∙ append_assoc (newest_first s image text n (drop (length marks - i) marks)) rest.0 step,
        )

-- a step that was made of the same text and image
step_same : (s : Steps) (image image_now text text_now : List ℕ) (n i number : ℕ) (m : Mark) → (IsTrue s.compares → image_now ≡ image) → text_now ≡ text → number ≡ number_at s.way n i
    → mark_step s image_now text_now number m ≡ mark_step s image text (number_at s.way n i) m
step_same s image image_now text text_now n i number m same_image same number_is =
    same_step s image image_now text_now number m same_image ∙ ap (λ t. mark_step s image t number m) same ∙ ap (λ k. mark_step s image text k m) number_is

-- one was counted
pub step_counted : (start written after : ℕ) (s : Steps) (image image_now text text_now : List ℕ) (n i number : ℕ) (marks : List Mark) (d : Mark) → i < length marks → (IsTrue s.compares → image_now ≡ image)
    → text_now ≡ text → number ≡ number_at s.way n i → CountsBytes start (newest_first s image text n (drop (length marks - i) marks)) written
    → CountsBytes written (mark_step s image_now text_now number (get_or marks (length marks - 1 - i) d)) after → CountsBytes start (newest_first s image text n (drop (length marks - (i + 1)) marks)) after
step_counted start written after s image image_now text text_now n i number marks d within same_image same number_is before step =
    let m : Mark = get_or marks (length marks - 1 - i) d in
    subst (λ t. CountsBytes start t after) (sym (steps_next s image text n i marks d within))
    (counts_both start written after (newest_first s image text n (drop (length marks - i) marks)) (mark_step s image text (number_at s.way n i) m) before
    (subst (λ t. CountsBytes written t after) (step_same s image image_now text text_now n i number m same_image same number_is) step))

-- or stopped
pub step_stopped : (start written count : ℕ) (w0 w1 w2 : Option (List ℕ)) (s : Steps) (image image_now text text_now : List ℕ) (n i number : ℕ) (marks : List Mark) (d : Mark) (fault : ShowFault) → i < count → count ≤ length marks
    → (IsTrue s.compares → image_now ≡ image) → text_now ≡ text → number ≡ number_at s.way n i → Appends w0 w1 (newest_first s image text n (drop (length marks - i) marks))
    → CountsBytes start (newest_first s image text n (drop (length marks - i) marks)) written → StopsPrefix written (mark_step s image_now text_now number (get_or marks (length marks - 1 - i) d)) w1 w2 fault
    → StopsPrefix start (newest_first s image text n (drop (length marks - count) marks)) w0 w2 fault
step_stopped start written count w0 w1 w2 s image image_now text text_now n i number marks d fault within enough same_image same number_is before counted stop =
    let m : Mark = get_or marks (length marks - 1 - i) d in
    let old : List ℕ = newest_first s image text n (drop (length marks - i) marks) in
    let step : List ℕ = mark_step s image text (number_at s.way n i) m in
    let all = steps_split s image text n (i + 1) count marks (omega (arith, within)) enough in
    let parts : newest_first s image text n (drop (length marks - count) marks) ≡ (newest_first s image text n (drop (length marks - i) marks) ++ mark_step s image text (number_at s.way n i) (get_or marks (length marks - 1 - i) d)) ++ all.0 =
    all.1 ∙ ap (λ t. t ++ all.0) (steps_next s image text n i marks d (omega (arith, within, enough))) in
    subst (λ t. StopsPrefix start t w0 w2 fault) (sym parts)
    (stops_at_second start written old step all.0 w0 w1 w2 fault before counted
    (subst (λ t. StopsPrefix written t w1 w2 fault) (step_same s image image_now text text_now n i number m same_image same number_is) stop))

-- the steps of marks, in words of the entries
newest_are : (text now image : List ℕ) (s : Steps) (slice marks : List Mark) (front : List ℕ) (cs : List EntryLines) → s.count ≤ length marks → now ≡ text → slice ≡ marks → IsPrefix front text → IsSpelled front cs
    → marks ≡ marks_of cs → newest_steps s image now s.count slice ≡ shown_steps s image cs
newest_are text now image s slice marks front cs enough same is prefix spelled marks_are =
    let whole : text ≡ text_of_lines (entry_lines cs) ++ prefix.0 = prefix.1 ∙ ap (λ t. t ++ prefix.0) (sym (joined_lines front spelled.finished.whole) ∙ ap text_of_lines spelled.lines) in
    let plain : AllPlain (entry_lines cs) = subst AllPlain spelled.lines (lines_plain front) in
    let many : length (marks_of cs) ≡ length cs = marks_many cs in
    let fits : s.count ≤ length cs = omega (arith, enough, ap length marks_are, many) in
    ap (λ ms. newest_first s image now (first_number s.way s.changes (length ms)) (drop (length ms - s.count) ms)) (is ∙ marks_are)
    ∙ ap (λ t. newest_first s image t (first_number s.way s.changes (length (marks_of cs))) (drop (length (marks_of cs) - s.count) (marks_of cs))) same
    ∙ steps_there s image cs (first_number s.way s.changes (length (marks_of cs))) s.count prefix.0 text whole plain spelled.runs fits
    ∙ ap (λ n. steps_text s image (first_number s.way s.changes n) (take s.count cs)) many

-- what is so of the line on what is unfinished and the steps of marks is so of what is shown of the entries
record ShownOf (text image : List ℕ) (s : Steps) (P : List ℕ → Type 0) : Type 0 where
  accepted : HasFront text
  finished : (entries : List EntryLines) → IsSpelled text entries → P (shown_steps s image entries)
  unfinished : (front : List ℕ) (entries : List EntryLines) (stage : Stage) → IsUnfinishedBehind text front entries stage
      → P (unfinished_line (suc (length entries)) stage ++ shown_steps s image entries)

shown_of : (P : List ℕ → Type 0) (text now image : List ℕ) (s : Steps) (slice marks : List Mark) → s.count ≤ length marks → now ≡ text → slice ≡ marks → (torn : Option Torn)
    → AreFrontMarks (Unit {0}) text marks torn → P (torn_text torn ++ newest_steps s image now s.count slice) → ShownOf text image s P
shown_of P text now image s slice marks enough same is None a holds =
    let whole : text ≡ a.front = a.behind tt in
    let steps = newest_are text now image s slice marks a.front a.entries enough same is ([], whole ∙ sym (append-nil a.front)) a.spelled a.marks_are in
    let all : P (shown_steps s image a.entries) = subst P steps holds in
    record {
      accepted = inl (a.entries, subst (λ t. IsSpelled t a.entries) (sym whole) a.spelled);
      finished = λ ds d. subst (λ xs. P (shown_steps s image xs)) (spelled_once a.front a.entries ds a.spelled (subst (λ t. IsSpelled t ds) whole d)) all;
      unfinished = λ front ds stage u. absurd (u.unfinished (map entry_in a.entries, subst (λ t. IsFinished t (map entry_in a.entries)) (sym whole) a.spelled.finished));
    }
shown_of P text now image s slice marks enough same is (Some torn) a holds =
    let b = a.behind tt in
    let steps = newest_are text now image s slice marks a.front a.entries enough same is b.1.front_is a.spelled a.marks_are in
    let all : P (unfinished_line (suc (length a.entries)) b.0 ++ shown_steps s image a.entries) =
    subst (λ t. P (t ++ shown_steps s image a.entries)) (torn_is torn a.entries b.0 b.2 b.3) (subst (λ t. P (torn_text (Some torn) ++ t)) steps holds) in
    record {
      accepted = inr (a.front, a.entries, b.0, b.1);
      finished = λ ds d. absurd (b.1.unfinished (map entry_in ds, d.finished));
      unfinished = λ front ds stage u.
          let read : record { entries = map entry_in a.entries; stage = b.0 } ≡ record { entries = map entry_in ds; stage = stage } =
          some_same (record { entries = map entry_in a.entries; stage = b.0 }) (record { entries = map entry_in ds; stage = stage }) (sym b.1.reads.lines ∙ u.reads.lines) in
          let fronts : front ≡ a.front = sym (front_once text a.front front a.entries ds b.1.front_is u.front_is a.spelled u.spelled (ap (λ (r : Reading). r.entries) read)) in
          let entries : a.entries ≡ ds = spelled_once a.front a.entries ds a.spelled (subst (λ t. IsSpelled t ds) fronts u.spelled) in
          subst (λ g. P (unfinished_line (suc (length ds)) g ++ shown_steps s image ds)) (ap (λ (r : Reading). r.stage) read)
          (subst (λ xs. P (unfinished_line (suc (length xs)) b.0 ++ shown_steps s image xs)) entries all);
    }

-- a front of that, or of that and the last line, was written
pub shown_stopped : (text now image : List ℕ) (s : Steps) (slice marks : List Mark) (w0 w1 : Option (List ℕ)) (fault : ShowFault) → s.count ≤ length marks → now ≡ text → slice ≡ marks → (torn : Option Torn)
    → AreFrontMarks (Unit {0}) text marks torn → StopsPrefix 0 ((torn_text torn ++ newest_steps s image now s.count slice) ++ last_line s) w0 w1 fault → StopsShownPatch text image s w0 w1 fault
shown_stopped text now image s slice marks w0 w1 fault enough same is torn a stop =
    let of = shown_of (λ t. StopsPrefix 0 (t ++ last_line s) w0 w1 fault) text now image s slice marks enough same is torn a stop in
    record {
      quiet = λ no. absurd (no of.accepted);
      finished = of.finished;
      unfinished = λ front entries stage u.
          subst (λ t. StopsPrefix 0 t w0 w1 fault) (append_assoc (unfinished_line (suc (length entries)) stage) (shown_steps s image entries) (last_line s)) (of.unfinished front entries stage u);
    }

-- nothing was written
pub shown_refused : (text image : List ℕ) (s : Steps) (w : Option (List ℕ)) (fault : SessionFault) → StopsShownPatch text image s w w (Text fault)
shown_refused text image s w fault = record {
  quiet = λ no. refl;
  finished = λ ds d. stops_none 0 (shown_patch s image ds) w fault;
  unfinished = λ front ds stage u. stops_none 0 (unfinished_line (suc (length ds)) stage ++ shown_patch s image ds) w fault;
}
