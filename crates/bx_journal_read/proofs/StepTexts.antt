-- The steps of marks are those of the entries.
use Rattle.std.proofs.Common.{◌≡◌, ℕ, zero, suc, ◌+◌, ◌-◌, ◌<◌, ◌≤◌, Bool, true, false, get_or, List, [], ◌∷◌, ◌++◌, length, length-append, length-drop, take, drop, refl, ap, sym, ◌∙◌, subst, arith, append_assoc, append-nil, Option}
use Rattle.std.specs.Prelude.{◌==◌, IsTrue, if◌then◌else◌, codes}
use Rattle.std.proofs.lemmas.List.{drop_all, drop_more, drop-append-le}
use Rattle.std.proofs.KnownBytes.{Appends-nil, Appends-trans}
use Rattle.std.specs.Io.KnownBytes.{Appends}
use Rattle.bx_journal_format.specs.declared.read.marks.Mark.{Mark}
use Rattle.bx_journal_format.specs.Ranges.{ranges_text}
use Rattle.bx_journal_format.specs.Spelled.{EntryLines, GiveRuns, entry_lines, runs_behind}
use Rattle.bx_journal_format.specs.Text.{Split, text_of_lines, split}
use Rattle.bx_journal_format.specs.count.Marks.{mark_of, marks_of}
use Rattle.bx_journal_format.proofs.Damage.{split_joined}
use Rattle.bx_journal_format.proofs.ReadLoop.{drop_twice}
use Rattle.bx_journal_format.proofs.Splits.{AllPlain}
use Rattle.bx_journal_format.proofs.TallyLemmas.{take_sum}
use Rattle.bx_journal_read.proofs.AddedLemmas.{shown_there}
use Rattle.bx_journal_read.proofs.RowTexts.{joined-append, lines_there, marks_many, plain_front, ranges_there, tail_of}
use Rattle.bx_journal_read.specs.show.Differences.{diff_line, made_line}
use Rattle.bx_journal_read.specs.show.ShownSteps.{bytes_text, heading, length_words, lines_text, next_number, step_text, steps_text, amount_text, heading_at, heading_end, heading_front, heading_start, length_told, mark_step, newest_first, number_at, saved_lines_at, where_at}
use Rattle.bx_journal_read.specs.declared.show.way.Steps.{Steps}
use Rattle.bx_journal_read.specs.declared.show.way.Direction.{Direction}
use Rattle.bx_journal_read.specs.declared.show.way.Direction.TheVariants.{Undo, Redo}
use Rattle.bx_journal_read.specs.show.Showing.{lines_at}

-- a heading is written in three parts, and what a patch tells behind it with the last
pub heading_written : (w0 w1 w2 w3 : Option (List ℕ)) (text : List ℕ) (s : Steps) (n : ℕ) (mark : Mark) → Appends w0 w1 (heading_start s.way n mark.saved) → Appends w1 w2 (where_at text mark)
    → Appends w2 w3 (heading_end mark.after mark.len ++ length_told s mark.after mark.len) → Appends w0 w3 (heading_at text s.way n mark ++ length_told s mark.after mark.len)
heading_written w0 w1 w2 w3 text s n mark front places end =
    let start = heading_start s.way n mark.saved ++ where_at text mark in
    subst (Appends w0 w3) (sym (append_assoc start (heading_end mark.after mark.len) (length_told s mark.after mark.len)))
    (Appends-trans w0 w2 w3 start (heading_end mark.after mark.len ++ length_told s mark.after mark.len)
    (Appends-trans w0 w1 w2 (heading_start s.way n mark.saved) (where_at text mark) front places) end)

-- a step too
pub step_written : (w0 w1 w2 w3 : Option (List ℕ)) (s : Steps) (image text : List ℕ) (n : ℕ) (mark : Mark) → Appends w0 w1 (heading_at text s.way n mark ++ length_told s mark.after mark.len)
    → Appends w1 w2 (saved_lines_at s.compares image text mark) → Appends w2 w3 (codes "\n") → Appends w0 w3 (mark_step s image text n mark)
step_written w0 w1 w2 w3 s image text n mark front lines end =
    let start = heading_at text s.way n mark ++ length_told s mark.after mark.len in
    Appends-trans w0 w2 w3 (start ++ saved_lines_at s.compares image text mark) (codes "\n")
    (Appends-trans w0 w1 w2 start (saved_lines_at s.compares image text mark) front lines) end

-- the image counts only where it is compared
same_saved : (compares : Bool) (image now text : List ℕ) (mark : Mark) → (IsTrue compares → now ≡ image) → saved_lines_at compares now text mark ≡ saved_lines_at compares image text mark
same_saved true image now text mark same = ap (λ x. saved_lines_at true x text mark) (same refl)
same_saved false image now text mark same = refl

pub same_step : (s : Steps) (image now text : List ℕ) (n : ℕ) (mark : Mark) → (IsTrue s.compares → now ≡ image) → mark_step s now text n mark ≡ mark_step s image text n mark
same_step s image now text n mark same =
    ap (λ t. heading_at text s.way n mark ++ length_told s mark.after mark.len ++ t ++ codes "\n") (same_saved s.compares image now text mark same)

-- nothing is put yet
pub steps_none : (s : Steps) (image text : List ℕ) (n : ℕ) (marks : List Mark) → newest_first s image text n (drop (length marks - 0) marks) ≡ []
unfolding newest_first
steps_none s image text n marks = ap (newest_first s image text n) (drop_all (length marks - 0) marks (omega arith))

-- the step over the newest mark that isn't put yet
pub steps_next : (s : Steps) (image text : List ℕ) (n i : ℕ) (marks : List Mark) (d : Mark) → i < length marks
    → newest_first s image text n (drop (length marks - (i + 1)) marks) ≡ newest_first s image text n (drop (length marks - i) marks) ++ mark_step s image text (number_at s.way n i) (get_or marks (length marks - 1 - i) d)
unfolding newest_first
steps_next s image text n i marks d within =
    let place : length marks - (i + 1) ≡ length marks - 1 - i = omega (arith, within) in
    let behind : length marks - 1 - i + 1 ≡ length marks - i = omega (arith, within) in
    let left : length (drop (length marks - i) marks) ≡ i = omega (arith, within, length-drop (length marks - i) marks) in
    let m : Mark = get_or marks (length marks - 1 - i) d in
    let parts : drop (length marks - (i + 1)) marks ≡ m ∷ drop (length marks - i) marks =
    ap (λ k. drop k marks) place ∙ drop_more marks (length marks - 1 - i) d (omega (arith, within)) ∙ ap (λ k. m ∷ drop k marks) behind in
    ap (newest_first s image text n) parts ∙ ap (λ k. newest_first s image text n (drop (length marks - i) marks) ++ mark_step s image text (number_at s.way n k) m) left

-- and was put behind them
pub steps_put : (w0 w1 w2 : Option (List ℕ)) (s : Steps) (image image_now text text_now : List ℕ) (n i number : ℕ) (marks : List Mark) (d : Mark) → i < length marks → (IsTrue s.compares → image_now ≡ image) → text_now ≡ text
    → number ≡ number_at s.way n i → Appends w0 w1 (newest_first s image text n (drop (length marks - i) marks))
    → Appends w1 w2 (mark_step s image_now text_now number (get_or marks (length marks - 1 - i) d)) → Appends w0 w2 (newest_first s image text n (drop (length marks - (i + 1)) marks))
steps_put w0 w1 w2 s image image_now text text_now n i number marks d within same_image same number_is before step =
    let m : Mark = get_or marks (length marks - 1 - i) d in
    let this : mark_step s image_now text_now number m ≡ mark_step s image text (number_at s.way n i) m =
    same_step s image image_now text_now number m same_image ∙ ap (λ t. mark_step s image t number m) same ∙ ap (λ k. mark_step s image text k m) number_is in
    subst (Appends w0 w2) (sym (steps_next s image text n i marks d within))
    (Appends-trans w0 w1 w2 (newest_first s image text n (drop (length marks - i) marks)) (mark_step s image text (number_at s.way n i) m) before (subst (Appends w1 w2) this step))

-- the amount and the places of what is written
writes_same : (none : Bool) (x y places : List ℕ) → (if none then x else y) ++ (if none then [] else places) ≡ (if none then x else y ++ places)
writes_same true x y places = append-nil x
writes_same false x y places = refl

heading_parts : (front amount places writes end : List ℕ) → amount ++ places ≡ writes → ((front ++ amount) ++ places) ++ ((codes ", " ++ end) ++ codes "\n") ≡ (((front ++ writes) ++ codes ", ") ++ end) ++ codes "\n"
heading_parts front amount places writes end is =
    ap (λ t. t ++ ((codes ", " ++ end) ++ codes "\n")) (append_assoc front amount places ∙ ap (λ t. front ++ t) is)
    ∙ sym (append_assoc (front ++ writes) (codes ", " ++ end) (codes "\n"))
    ∙ ap (λ t. t ++ codes "\n") (sym (append_assoc (front ++ writes) (codes ", ") end))

-- what there is of an entry at the place of its mark
module _ (older : List EntryLines) (c : EntryLines) (rest text : List ℕ) (is : text ≡ text_of_lines (entry_lines (c ∷ older)) ++ rest) (plain : AllPlain c.saved) (runs : c.entry.saved.runs ≡ runs_behind c.entry.saved.len [] c.saved) where
  heading_there : (way : Direction) (n : ℕ) → heading_at text way n (mark_of older c) ≡ heading way n c.entry
  heading_there way n =
      let mark = mark_of older c in
      let places : where_at text mark ≡ (if mark.saved == 0 then [] else ranges_text c.entry.saved.runs) = ap (λ t. if mark.saved == 0 then [] else t) (ranges_there older c rest text is plain runs) in
      ap (λ t. heading_start way n mark.saved ++ t ++ heading_end mark.after mark.len) places
      ∙ heading_parts (heading_front way n) (amount_text mark.saved) (if mark.saved == 0 then [] else ranges_text c.entry.saved.runs)
      (if mark.saved == 0 then codes "no bytes" else bytes_text mark.saved ++ codes " at " ++ ranges_text c.entry.saved.runs) (length_words mark.after mark.len)
      (writes_same (mark.saved == 0) (codes "no bytes") (bytes_text mark.saved ++ codes " at ") (ranges_text c.entry.saved.runs))

  saved_there : (compares : Bool) (image : List ℕ) → saved_lines_at compares image text (mark_of older c) ≡ lines_text compares image c.entry.saved.len c.saved
  saved_there false image = shown_there (made_line c.entry.saved.len) older c rest text is plain
  saved_there true image = shown_there (diff_line image c.entry.saved.len) older c rest text is plain

  step_there : (s : Steps) (image : List ℕ) (n : ℕ) → mark_step s image text n (mark_of older c) ≡ step_text s image n c
  step_there s image n =
      let told = length_told s c.entry.after c.entry.saved.len in
      ap (λ t. t ++ told ++ saved_lines_at s.compares image text (mark_of older c) ++ codes "\n") (heading_there s.way n)
      ∙ ap (λ t. heading s.way n c.entry ++ told ++ t ++ codes "\n") (saved_there s.compares image)

number_none : (way : Direction) (n : ℕ) → number_at way n 0 ≡ n
number_none Undo n = omega arith
number_none Redo n = omega arith

number_more : (way : Direction) (n i k : ℕ) → k ≡ i + 1 → number_at way n k ≡ number_at way (next_number way n) i
number_more Undo n i k is = omega (arith, is)
number_more Redo n i k is = omega (arith, is)

-- the newest mark is stepped over first
newest_last : (s : Steps) (image text : List ℕ) (n : ℕ) (marks : List Mark) (m : Mark) → newest_first s image text n (marks ++ m ∷ []) ≡ mark_step s image text n m ++ newest_first s image text (next_number s.way n) marks
unfolding newest_first
newest_last s image text n [] m = ap (λ k. mark_step s image text k m) (number_none s.way n) ∙ sym (append-nil (mark_step s image text n m))
newest_last s image text n (x ∷ marks) m =
    ap (λ t. t ++ mark_step s image text (number_at s.way n (length (marks ++ m ∷ []))) x) (newest_last s image text n marks m)
    ∙ ap (λ k. (mark_step s image text n m ++ newest_first s image text (next_number s.way n) marks) ++ mark_step s image text k x)
    (number_more s.way n (length marks) (length (marks ++ m ∷ [])) (length-append marks (m ∷ [])))
    ∙ append_assoc (mark_step s image text n m) (newest_first s image text (next_number s.way n) marks) (mark_step s image text (number_at s.way (next_number s.way n) (length marks)) x)

-- the steps over the newest marks are those over the newest entries
pub steps_there : (s : Steps) (image : List ℕ) (cs : List EntryLines) (n k : ℕ) (rest text : List ℕ) → text ≡ text_of_lines (entry_lines cs) ++ rest → AllPlain (entry_lines cs) → GiveRuns cs → k ≤ length cs
    → newest_first s image text n (drop (length (marks_of cs) - k) (marks_of cs)) ≡ steps_text s image n (take k cs)
unfolding entry_lines marks_of newest_first steps_text
steps_there s image cs n zero rest text is plain runs enough = ap (newest_first s image text n) (drop_all (length (marks_of cs) - 0) (marks_of cs) (omega arith))
steps_there s image [] n (suc k) rest text is plain runs enough = absurd (omega (arith, enough))
steps_there s image (c ∷ older) n (suc k) rest text is plain runs enough =
    let own : List (List ℕ) = c.first ∷ (c.saved ++ tail_of older c) in
    let parts = plain_front (entry_lines older) own plain in
    let saved = plain_front c.saved (tail_of older c) parts.1.1 in
    let before : text ≡ text_of_lines (entry_lines older) ++ (text_of_lines own ++ rest) = is ∙ ap (λ t. t ++ rest) (joined-append (entry_lines older) own) ∙ append_assoc (text_of_lines (entry_lines older)) (text_of_lines own) rest in
    let m : Mark = mark_of older c in
    let many = marks_many older in
    let count : length (marks_of older ++ m ∷ []) - suc k ≡ length (marks_of older) - k = omega (arith, length-append (marks_of older) (m ∷ [])) in
    let left : drop (length (marks_of older ++ m ∷ []) - suc k) (marks_of older ++ m ∷ []) ≡ drop (length (marks_of older) - k) (marks_of older) ++ m ∷ [] =
    ap (λ j. drop j (marks_of older ++ m ∷ [])) count ∙ drop-append-le (length (marks_of older) - k) (marks_of older) (m ∷ []) (omega arith) in
    ap (newest_first s image text n) left
    ∙ newest_last s image text n (drop (length (marks_of older) - k) (marks_of older)) m
    ∙ ap (λ t. t ++ newest_first s image text (next_number s.way n) (drop (length (marks_of older) - k) (marks_of older))) (step_there older c rest text is saved.0 runs.0 s image n)
    ∙ ap (λ t. step_text s image n c ++ t) (steps_there s image older (next_number s.way n) k (text_of_lines own ++ rest) text before parts.0 runs.1 (omega (arith, enough)))
