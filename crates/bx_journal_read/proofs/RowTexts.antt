-- The rows of marks are those of the entries.
use Rattle.std.proofs.Common.{◌≡◌, ℕ, suc, ◌+◌, ◌-◌, ◌<◌, ◌≤◌, get_or, List, [], ◌∷◌, ◌++◌, length, length-append, map, take, drop, refl, ap, sym, ◌∙◌, subst, arith, append_assoc, append-nil, Option, Result, Ok, Err}
use Rattle.std.specs.Prelude.{All, OnOk, ◌==◌, if◌then◌else◌, codes, decimal}
use Rattle.std.proofs.lemmas.Grind.{flat_map-append}
use Rattle.std.proofs.lemmas.List.{length-map, length-take-le, take_more}
use Rattle.std.proofs.lemmas.List.Elements.{All-append, All-cons, All-nil}
use Rattle.std.proofs.KnownBytes.{Appends-trans}
use Rattle.std.specs.Io.KnownBytes.{Appends}
use lib.Seq.{drop-append_seam, take-append_seam}
use Rattle.bx_journal_format.specs.declared.read.marks.Mark.{Mark}
use Rattle.bx_journal_format.specs.Line.{save_line}
use Rattle.bx_journal_format.specs.Ranges.{ranges_text}
use Rattle.bx_journal_format.specs.Spelled.{EntryLines, GiveRuns, IsSpelled, entry_in, entry_lines, runs_behind}
use Rattle.bx_journal_format.specs.Text.{Between, Entry, Reading, Split, ended, text_of_lines, split}
use Rattle.bx_journal_format.specs.count.Marks.{mark_of, marks_of, lines_size}
use Rattle.bx_journal_format.specs.Finished.{IsFinished}
use Rattle.bx_journal_format.proofs.Damage.{split_joined}
use Rattle.bx_journal_format.proofs.Foreign.{joined_lines, lines_plain}
use Rattle.bx_journal_read.proofs.OpenLemmas.{some_same}
use Rattle.bx_journal_format.proofs.Splits.{AllPlain}
use Rattle.bx_journal_read.specs.show.Showing.{RangesOf, after_text, ranges_row, ranges_rows, AreAllMarks, LiesWithin, lines_at, mark_row, mark_rows, places_at, ranges_at, row_front}

pub joined-append : (a b : List (List ℕ)) → text_of_lines (a ++ b) ≡ text_of_lines a ++ text_of_lines b
joined-append a b = flat_map-append ended a b

-- what stands behind the saved lines of an entry
abbrev pub tail_of : List EntryLines → EntryLines → List (List ℕ)
tail_of older c = save_line (suc (length older)) ∷ c.last ∷ []

abbrev begin_of : List EntryLines → EntryLines → List ℕ
begin_of older c = text_of_lines (entry_lines older ++ c.first ∷ [])

lines_parts : (older : List EntryLines) (c : EntryLines) → text_of_lines (entry_lines (c ∷ older)) ≡ begin_of older c ++ (text_of_lines c.saved ++ text_of_lines (tail_of older c))
unfolding entry_lines
lines_parts older c =
    ap text_of_lines (sym (append_assoc (entry_lines older) (c.first ∷ []) (c.saved ++ tail_of older c)))
    ∙ joined-append (entry_lines older ++ c.first ∷ []) (c.saved ++ tail_of older c)
    ∙ ap (λ t. begin_of older c ++ t) (joined-append c.saved (tail_of older c))

mark_end : (older : List EntryLines) (c : EntryLines) → (mark_of older c).to ≡ (mark_of older c).from + length (text_of_lines c.saved)
mark_end older c =
    ap lines_size (sym (append_assoc (entry_lines older) (c.first ∷ []) c.saved)) ∙ ap length (joined-append (entry_lines older ++ c.first ∷ []) c.saved)
    ∙ length-append (begin_of older c) (text_of_lines c.saved)

-- the text between the places of a mark is that of the saved lines
pub lines_there : (older : List EntryLines) (c : EntryLines) (rest text : List ℕ) → text ≡ text_of_lines (entry_lines (c ∷ older)) ++ rest → lines_at text (mark_of older c) ≡ text_of_lines c.saved
lines_there older c rest text is =
    let mark = mark_of older c in
    let size : mark.to - mark.from ≡ length (text_of_lines c.saved) = omega (arith, mark_end older c) in
    let parts : text ≡ begin_of older c ++ (text_of_lines c.saved ++ (text_of_lines (tail_of older c) ++ rest)) =
    is ∙ ap (λ t. t ++ rest) (lines_parts older c) ∙ append_assoc (begin_of older c) (text_of_lines c.saved ++ text_of_lines (tail_of older c)) rest
    ∙ ap (λ t. begin_of older c ++ t) (append_assoc (text_of_lines c.saved) (text_of_lines (tail_of older c)) rest) in
    ap (λ n. take n (drop mark.from text)) size ∙ ap (λ t. take (length (text_of_lines c.saved)) (drop mark.from t)) parts
    ∙ ap (take (length (text_of_lines c.saved))) (drop-append_seam (begin_of older c) (text_of_lines c.saved ++ (text_of_lines (tail_of older c) ++ rest)))
    ∙ take-append_seam (text_of_lines c.saved) (text_of_lines (tail_of older c) ++ rest)

-- its ranges are those of the entry's runs
pub ranges_there : (older : List EntryLines) (c : EntryLines) (rest text : List ℕ) → text ≡ text_of_lines (entry_lines (c ∷ older)) ++ rest → AllPlain c.saved → c.entry.saved.runs ≡ runs_behind c.entry.saved.len [] c.saved
    → ranges_at text (mark_of older c) ≡ ranges_text c.entry.saved.runs
ranges_there older c rest text is plain runs =
    ap (λ t. ranges_text (runs_behind c.entry.saved.len [] (split t).lines)) (lines_there older c rest text is)
    ∙ ap (λ (s : Split). ranges_text (runs_behind c.entry.saved.len [] s.lines)) (split_joined c.saved plain)
    ∙ ap ranges_text (sym runs)

row_there : (older : List EntryLines) (c : EntryLines) (rest text : List ℕ) → text ≡ text_of_lines (entry_lines (c ∷ older)) ++ rest → AllPlain c.saved → c.entry.saved.runs ≡ runs_behind c.entry.saved.len [] c.saved
    → mark_row text (suc (length older)) (mark_of older c) ≡ ranges_row (suc (length older)) c.entry
row_there older c rest text is plain runs =
    ap (λ t. decimal (suc (length older)) ++ codes " " ++ decimal c.entry.saved.len ++ codes " " ++ after_text c.entry.after ++ codes " " ++ decimal (mark_of older c).saved ++ codes " "
    ++ (if (mark_of older c).saved == 0 then codes "-" else t) ++ codes "\n") (ranges_there older c rest text is plain runs)

pub marks_many : (cs : List EntryLines) → length (marks_of cs) ≡ length cs
unfolding marks_of
marks_many [] = refl
marks_many (c ∷ older) = omega (arith, length-append (marks_of older) (mark_of older c ∷ []), marks_many older)

pub mark_rows-append : (text : List ℕ) (n : ℕ) (a b : List Mark) → mark_rows text n (a ++ b) ≡ mark_rows text n a ++ mark_rows text (n + length a) b
unfolding mark_rows
mark_rows-append text n [] b = let e : n ≡ n + 0 = omega arith in ap (λ k. mark_rows text k b) e
mark_rows-append text n (m ∷ a) b =
    let e : suc n + length a ≡ n + suc (length a) = omega arith in
    ap (λ t. mark_row text n m ++ t) (mark_rows-append text (suc n) a b ∙ ap (λ k. mark_rows text (suc n) a ++ mark_rows text k b) e)
    ∙ sym (append_assoc (mark_row text n m) (mark_rows text (suc n) a) (mark_rows text (n + suc (length a)) b))

one_row : (text : List ℕ) (n : ℕ) (m : Mark) → mark_rows text n (m ∷ []) ≡ mark_row text n m
unfolding mark_rows
one_row text n m = append-nil (mark_row text n m)

-- one mark more
pub rows_pushed : (text : List ℕ) (marks : List Mark) (m : Mark) → mark_rows text 1 (marks ++ m ∷ []) ≡ mark_rows text 1 marks ++ mark_row text (length marks + 1) m
rows_pushed text marks m =
    let e : 1 + length marks ≡ length marks + 1 = omega arith in
    mark_rows-append text 1 marks (m ∷ []) ∙ ap (λ t. mark_rows text 1 marks ++ t) (one_row text (1 + length marks) m ∙ ap (λ n. mark_row text n m) e)

pub plain_front : (a b : List (List ℕ)) → AllPlain (a ++ b) → AllPlain a × AllPlain b
plain_front [] b plain = (tt, plain)
plain_front (l ∷ a) b plain = let more = plain_front a b plain.1 in ((plain.0, more.0), more.1)

-- the rows of all marks are those of the entries
pub rows_there : (cs : List EntryLines) (rest text : List ℕ) → text ≡ text_of_lines (entry_lines cs) ++ rest → AllPlain (entry_lines cs) → GiveRuns cs → mark_rows text 1 (marks_of cs) ≡ ranges_rows (map entry_in cs)
unfolding entry_lines marks_of mark_rows ranges_rows
rows_there [] rest text is plain runs = refl
rows_there (c ∷ older) rest text is plain runs =
    let own : List (List ℕ) = c.first ∷ (c.saved ++ tail_of older c) in
    let parts = plain_front (entry_lines older) own plain in
    let saved = plain_front c.saved (tail_of older c) parts.1.1 in
    let before : text ≡ text_of_lines (entry_lines older) ++ (text_of_lines own ++ rest) = is ∙ ap (λ t. t ++ rest) (joined-append (entry_lines older) own) ∙ append_assoc (text_of_lines (entry_lines older)) (text_of_lines own) rest in
    let number : length (marks_of older) + 1 ≡ suc (length older) = omega (arith, marks_many older) in
    let entries : suc (length older) ≡ suc (length (map entry_in older)) = omega (arith, length-map older entry_in) in
    rows_pushed text (marks_of older) (mark_of older c)
    ∙ ap (λ t. t ++ mark_row text (length (marks_of older) + 1) (mark_of older c)) (rows_there older (text_of_lines own ++ rest) text before parts.0 runs.1)
    ∙ ap (λ n. ranges_rows (map entry_in older) ++ mark_row text n (mark_of older c)) number
    ∙ ap (λ t. ranges_rows (map entry_in older) ++ t) (row_there older c rest text is saved.0 runs.0)
    ∙ ap (λ n. ranges_rows (map entry_in older) ++ ranges_row n c.entry) entries

-- the places of all marks lie within the lines
pub marks_lie : (cs : List EntryLines) (len : ℕ) → lines_size (entry_lines cs) ≤ len → All (LiesWithin len) (marks_of cs)
unfolding entry_lines marks_of
marks_lie [] len within = All-nil (LiesWithin len)
marks_lie (c ∷ older) len within =
    let mark = mark_of older c in
    let all : lines_size (entry_lines (c ∷ older)) ≡ mark.from + (length (text_of_lines c.saved) + length (text_of_lines (tail_of older c))) =
    ap length (lines_parts older c) ∙ length-append (begin_of older c) (text_of_lines c.saved ++ text_of_lines (tail_of older c))
    ∙ ap (λ n. mark.from + n) (length-append (text_of_lines c.saved) (text_of_lines (tail_of older c))) in
    let first : mark.from ≡ lines_size (entry_lines older) + length (text_of_lines (c.first ∷ [])) = ap length (joined-append (entry_lines older) (c.first ∷ [])) ∙ length-append (text_of_lines (entry_lines older)) (text_of_lines (c.first ∷ [])) in
    let end = mark_end older c in
    All-append (LiesWithin len) (marks_of older) (mark ∷ []) (marks_lie older len (omega (arith, within, all, first)))
    (All-cons (LiesWithin len) mark [] (omega (arith, end), omega (arith, end, all, within)) (All-nil (LiesWithin len)))

-- parts that are written one after another
pub row_written : (w0 w1 w2 w3 : Option (List ℕ)) (text : List ℕ) (n : ℕ) (mark : Mark) → Appends w0 w1 (row_front n mark) → Appends w1 w2 (places_at text mark) → Appends w2 w3 (codes "\n") → Appends w0 w3 (mark_row text n mark)
row_written w0 w1 w2 w3 text n mark front places end =
    Appends-trans w0 w2 w3 (row_front n mark ++ places_at text mark) (codes "\n") (Appends-trans w0 w1 w2 (row_front n mark) (places_at text mark) front places) end

-- what is written for a text of finished entries alone
pub log_rows : (text : List ℕ) (cs : List EntryLines) (es : List Entry) → IsSpelled text cs → IsFinished text es → mark_rows text 1 (marks_of cs) ≡ ranges_rows es
log_rows text cs es s f =
    let whole : text ≡ text_of_lines (entry_lines cs) ++ [] = sym (joined_lines text f.whole) ∙ ap text_of_lines s.lines ∙ sym (append-nil (text_of_lines (entry_lines cs))) in
    let plain : AllPlain (entry_lines cs) = subst AllPlain s.lines (lines_plain text) in
    let same : record { entries = map entry_in cs; stage = Between } ≡ record { entries = es; stage = Between } =
    some_same (record { entries = map entry_in cs; stage = Between }) (record { entries = es; stage = Between }) (sym s.finished.reads.lines ∙ f.reads.lines) in
    rows_there cs [] text whole plain s.runs ∙ ap (λ (r : Reading). ranges_rows r.entries) same

-- the places of all marks lie within the text
pub all_lie : (text : List ℕ) (cs : List EntryLines) (marks : List Mark) → IsSpelled text cs → marks ≡ marks_of cs → All (LiesWithin (length text)) marks
all_lie text cs marks s is =
    let size : lines_size (entry_lines cs) ≡ length text = ap lines_size (sym s.lines) ∙ ap length (joined_lines text s.finished.whole) in
    subst (All (LiesWithin (length text))) (sym is) (marks_lie cs (length text) (omega (arith, size)))

pub rows_none : (text : List ℕ) (n : ℕ) → mark_rows text n [] ≡ []
unfolding mark_rows
rows_none text n = refl

-- the row of the mark at a place follows those before it
pub rows_next : (text : List ℕ) (marks : List Mark) (i : ℕ) (d : Mark) → i < length marks
    → mark_rows text 1 (take (i + 1) marks) ≡ mark_rows text 1 (take i marks) ++ mark_row text (i + 1) (get_or marks i d)
rows_next text marks i d within =
    let long : length (take i marks) + 1 ≡ i + 1 = omega (arith, length-take-le i marks (omega (arith, within))) in
    ap (mark_rows text 1) (take_more marks i d within) ∙ rows_pushed text (take i marks) (get_or marks i d) ∙ ap (λ n. mark_rows text 1 (take i marks) ++ mark_row text n (get_or marks i d)) long

-- and was written behind them
pub rows_written : (w0 w1 w2 : Option (List ℕ)) (text now : List ℕ) (marks : List Mark) (i : ℕ) (d : Mark) → i < length marks → now ≡ text
    → Appends w0 w1 (mark_rows text 1 (take i marks)) → Appends w1 w2 (mark_row now (i + 1) (get_or marks i d)) → Appends w0 w2 (mark_rows text 1 (take (i + 1) marks))
rows_written w0 w1 w2 text now marks i d within same before row =
    subst (Appends w0 w2) (sym (rows_next text marks i d within))
    (Appends-trans w0 w1 w2 (mark_rows text 1 (take i marks)) (mark_row text (i + 1) (get_or marks i d)) before (subst (λ t. Appends w1 w2 (mark_row t (i + 1) (get_or marks i d))) same row))

-- what was written of a text that was marked, behind a call that only looked at it
pub ranges_written : (text now : List ℕ) (slice items : List Mark) (w0 w1 : Option (List ℕ)) (a : AreAllMarks (Unit {0}) text items) → now ≡ text → slice ≡ items → Appends w0 w1 (mark_rows now 1 slice) → RangesOf text w0 w1
ranges_written text now slice items w0 w1 a same is put = record {
  whole = (map entry_in a.entries, subst (λ t. IsFinished t (map entry_in a.entries)) (sym (a.is tt)) a.spelled.finished);
  rows = λ es f. subst (Appends w0 w1) (rows_are es f) put;
}
  where
    rows_are : (es : List Entry) → IsFinished text es → mark_rows now 1 slice ≡ ranges_rows es
    rows_are es f =
        let text_is : text ≡ a.text = a.is tt in
        ap (λ t. mark_rows t 1 slice) (same ∙ text_is) ∙ ap (mark_rows a.text 1) (is ∙ a.marks_are) ∙ log_rows a.text a.entries es a.spelled (subst (λ t. IsFinished t es) text_is f)

pub ok_weaker : {T E P Q : Type 0} (r : Result T E) → (P → Q) → OnOk r P → OnOk r Q
ok_weaker (Ok v) f p = f p
ok_weaker (Err e) f p = tt
