-- The rows of the entries before what is unfinished, by their marks.
use Rattle.std.proofs.Common.{◌≡◌, ℕ, suc, ◌+◌, ◌<◌, get_or, Bool, true, false, List, [], ◌∷◌, ◌++◌, length, map, take, drop, refl, ap, sym, ◌∙◌, subst, arith, append_assoc, append-nil, Option, None, Some, inl, inr}
use Rattle.std.specs.List.{flat_map}
use Rattle.std.specs.Prelude.{codes, decimal}
use Rattle.std.proofs.lemmas.Grind.{flat_map-append}
use Rattle.std.proofs.lemmas.List.{length-map, length-take-le, take-append-drop, take_more}
use Rattle.std.proofs.KnownBytes.{Appends-trans}
use Rattle.std.specs.Io.KnownBytes.{Appends}
use Rattle.bx_journal_format.specs.declared.read.marks.Mark.{Mark}
use Rattle.bx_journal_format.specs.Finished.{IsFinished}
use Rattle.bx_journal_format.specs.Spelled.{EntryLines, IsSpelled, entry_in, entry_lines}
use Rattle.bx_journal_format.specs.Text.{IsPrefix, Reading, Stage, text_of_lines}
use Rattle.bx_journal_format.specs.count.Marks.{mark_of, marks_of}
use Rattle.bx_journal_format.proofs.Foreign.{joined_lines, lines_plain}
use Rattle.bx_journal_format.proofs.Splits.{AllPlain}
use Rattle.bx_journal_read.specs.declared.scan.torn.Torn.{Torn}
use Rattle.bx_journal_format.specs.Shown.{shown}
use Rattle.bx_journal_read.specs.scan.Recovery.{FindFault}
use Rattle.bx_journal_read.specs.show.Showing.{PutFault, StopsLog, mark_rows}
use Rattle.bx_journal_read.specs.show.ShownSteps.{AreFrontMarks, IsUnfinishedBehind, torn_text, unfinished_line}
use Rattle.bx_journal_read.specs.show.Stopping.{CountsBytes, StopsPrefix}
use Rattle.bx_journal_read.proofs.OpenLemmas.{some_same}
use Rattle.bx_journal_read.proofs.RowTexts.{marks_many, rows_there}
use Rattle.bx_journal_read.proofs.Spellings.{front_once, spelled_once}
use Rattle.bx_journal_read.proofs.StepsShown.{torn_is}
use Rattle.bx_journal_read.proofs.StopLemmas.{counts_both, stops_at_second, stops_none}
use Rattle.bx_journal.specs.LogRow.{LogRow}
use Rattle.bx_journal.specs.Calls.{rows_of}
use Rattle.bx_journal.specs.SessionFault.{SessionFault}
use Rattle.bx_journal.specs.SessionFault.TheVariants.{Damaged}
use Rattle.bx_journal.specs.ShowFault.{ShowFault}
use Rattle.bx_journal.specs.ShowFault.TheVariants as look
use Rattle.bx_cli_commands.specs.Listing.{log_line}
use Rattle.bx_cli_commands.specs.declared.fault.Fault.TheVariants.{Session}
use Rattle.bx_run_report.specs.report.Unfinished.{IsFrontCut, ListsFront, StopsFrontRows, listed_rows, row_at, rows_at, unseen_by}
use Rattle.bx_run_report.proofs.Stopping.{listing_of_bytes}

pub rows_none : (v : Bool) (text : List ℕ) (n : ℕ) → rows_at v text n [] ≡ []
unfolding rows_at
rows_none v text n = refl

rows-append : (v : Bool) (text : List ℕ) (n : ℕ) (a b : List Mark) → rows_at v text n (a ++ b) ≡ rows_at v text n a ++ rows_at v text (n + length a) b
unfolding rows_at
rows-append v text n [] b = let e : n ≡ n + 0 = omega arith in ap (λ k. rows_at v text k b) e
rows-append v text n (m ∷ a) b =
    let e : suc n + length a ≡ n + suc (length a) = omega arith in
    ap (λ t. row_at v text n m ++ t) (rows-append v text (suc n) a b ∙ ap (λ k. rows_at v text (suc n) a ++ rows_at v text k b) e)
    ∙ sym (append_assoc (row_at v text n m) (rows_at v text (suc n) a) (rows_at v text (n + suc (length a)) b))

one_row : (v : Bool) (text : List ℕ) (n : ℕ) (m : Mark) → rows_at v text n (m ∷ []) ≡ row_at v text n m
unfolding rows_at
one_row v text n m = append-nil (row_at v text n m)

-- one mark more
rows_pushed : (v : Bool) (text : List ℕ) (marks : List Mark) (m : Mark) → rows_at v text 1 (marks ++ m ∷ []) ≡ rows_at v text 1 marks ++ row_at v text (length marks + 1) m
rows_pushed v text marks m =
    let e : 1 + length marks ≡ length marks + 1 = omega arith in
    rows-append v text 1 marks (m ∷ []) ∙ ap (λ t. rows_at v text 1 marks ++ t) (one_row v text (1 + length marks) m ∙ ap (λ n. row_at v text n m) e)

rows_next : (v : Bool) (text : List ℕ) (marks : List Mark) (i : ℕ) (d : Mark) → i < length marks
    → rows_at v text 1 (take (i + 1) marks) ≡ rows_at v text 1 (take i marks) ++ row_at v text (i + 1) (get_or marks i d)
rows_next v text marks i d within =
    let long : length (take i marks) + 1 ≡ i + 1 = omega (arith, length-take-le i marks (omega (arith, within))) in
    ap (rows_at v text 1) (take_more marks i d within) ∙ rows_pushed v text (take i marks) (get_or marks i d)
    ∙ ap (λ n. rows_at v text 1 (take i marks) ++ row_at v text n (get_or marks i d)) long

-- the row of the mark at a place was written behind those before it
pub rows_written : (w0 w1 w2 : Option (List ℕ)) (v : Bool) (text now : List ℕ) (marks : List Mark) (i : ℕ) (d : Mark) → i < length marks → now ≡ text
    → Appends w0 w1 (rows_at v text 1 (take i marks)) → Appends w1 w2 (row_at v now (i + 1) (get_or marks i d)) → Appends w0 w2 (rows_at v text 1 (take (i + 1) marks))
rows_written w0 w1 w2 v text now marks i d within same before row =
    subst (Appends w0 w2) (sym (rows_next v text marks i d within))
    (Appends-trans w0 w1 w2 (rows_at v text 1 (take i marks)) (row_at v text (i + 1) (get_or marks i d)) before
    (subst (λ t. Appends w1 w2 (row_at v t (i + 1) (get_or marks i d))) same row))

-- and counted
pub rows_counted : (v : Bool) (text now : List ℕ) (marks : List Mark) (i start written after : ℕ) (d : Mark) → i < length marks → now ≡ text
    → CountsBytes start (rows_at v text 1 (take i marks)) written → CountsBytes written (row_at v now (i + 1) (get_or marks i d)) after
    → CountsBytes start (rows_at v text 1 (take (i + 1) marks)) after
rows_counted v text now marks i start written after d within same before row =
    subst (λ t. CountsBytes start t after) (sym (rows_next v text marks i d within))
    (counts_both start written after (rows_at v text 1 (take i marks)) (row_at v text (i + 1) (get_or marks i d)) before
    (subst (λ t. CountsBytes written (row_at v t (i + 1) (get_or marks i d)) after) same row))

rows_split : (v : Bool) (text : List ℕ) (marks : List Mark) (i : ℕ) (d : Mark) → i < length marks
    → (behind : List ℕ) × (rows_at v text 1 marks ≡ (rows_at v text 1 (take i marks) ++ row_at v text (i + 1) (get_or marks i d)) ++ behind)
rows_split v text marks i d within = (
  rows_at v text (1 + length (take (i + 1) marks)) (drop (i + 1) marks),
  ap (rows_at v text 1) (sym (take-append-drop (i + 1) marks)) ∙ rows-append v text 1 (take (i + 1) marks) (drop (i + 1) marks)
      ∙ ap (λ t. t ++ rows_at v text (1 + length (take (i + 1) marks)) (drop (i + 1) marks)) (rows_next v text marks i d within),
)

-- or stopped
pub row_stopped : (w0 w1 w2 : Option (List ℕ)) (v : Bool) (text now : List ℕ) (marks : List Mark) (i start written : ℕ) (d : Mark) (fault : ShowFault)
    → i < length marks → now ≡ text → Appends w0 w1 (rows_at v text 1 (take i marks)) → CountsBytes start (rows_at v text 1 (take i marks)) written
    → StopsPrefix written (row_at v now (i + 1) (get_or marks i d)) w1 w2 fault → StopsPrefix start (rows_at v text 1 marks) w0 w2 fault
row_stopped w0 w1 w2 v text now marks i start written d fault within same before counted stop =
    let all = rows_split v text marks i d within in
    subst (λ t. StopsPrefix start t w0 w2 fault) (sym all.1)
    (stops_at_second start written (rows_at v text 1 (take i marks)) (row_at v text (i + 1) (get_or marks i d)) all.0 w0 w1 w2 fault before counted
    (subst (λ t. StopsPrefix written (row_at v t (i + 1) (get_or marks i d)) w1 w2 fault) same stop))

-- rows with ranges
verbose_rows : (text : List ℕ) (n : ℕ) (marks : List Mark) → rows_at true text n marks ≡ mark_rows text n marks
unfolding rows_at mark_rows
verbose_rows text n [] = refl
verbose_rows text n (m ∷ marks) = ap (λ t. row_at true text n m ++ t) (verbose_rows text (suc n) marks)

-- rows without
abbrev row_of : ℕ → Mark → LogRow
row_of n m = record { number = n; old_len = m.len; saved = m.saved }

plain_row : (text : List ℕ) (n : ℕ) (m : Mark) → row_at false text n m ≡ log_line (row_of n m)
plain_row text n m =
    ap (λ t. t ++ codes "\n") (append-nil (decimal n ++ codes " " ++ decimal m.len ++ codes " " ++ decimal m.saved))

plain_rows : (text : List ℕ) (cs : List EntryLines) → rows_at false text 1 (marks_of cs) ≡ flat_map log_line (rows_of (map entry_in cs))
unfolding marks_of rows_at
plain_rows text [] = refl
plain_rows text (c ∷ older) =
    let number : length (marks_of older) + 1 ≡ suc (length (map entry_in older)) = omega (arith, marks_many older, length-map older entry_in) in
    rows_pushed false text (marks_of older) (mark_of older c)
    ∙ ap (λ n. rows_at false text 1 (marks_of older) ++ row_at false text n (mark_of older c)) number
    ∙ ap (λ t. rows_at false text 1 (marks_of older) ++ t) (plain_row text (suc (length (map entry_in older))) (mark_of older c))
    ∙ ap (λ t. t ++ log_line (row_of (suc (length (map entry_in older))) (mark_of older c))) (plain_rows text older)
    ∙ ap (λ t. flat_map log_line (rows_of (map entry_in older)) ++ t) (sym (append-nil (log_line (row_of (suc (length (map entry_in older))) (mark_of older c)))))
    ∙ sym (flat_map-append log_line (rows_of (map entry_in older)) (row_of (suc (length (map entry_in older))) (mark_of older c) ∷ []))

-- the rows of all marks are those of the entries
rows_are : (v : Bool) (text now : List ℕ) (slice : List Mark) (front : List ℕ) (cs : List EntryLines) → now ≡ text → slice ≡ marks_of cs → IsPrefix front text
    → IsSpelled front cs → rows_at v now 1 slice ≡ listed_rows v (map entry_in cs)
rows_are true text now slice front cs same is prefix spelled =
    let whole : text ≡ text_of_lines (entry_lines cs) ++ prefix.0 =
    prefix.1 ∙ ap (λ t. t ++ prefix.0) (sym (joined_lines front spelled.finished.whole) ∙ ap text_of_lines spelled.lines) in
    let plain : AllPlain (entry_lines cs) = subst AllPlain spelled.lines (lines_plain front) in
    ap (λ t. rows_at true t 1 slice) same ∙ ap (rows_at true text 1) is ∙ verbose_rows text 1 (marks_of cs)
    ∙ rows_there cs prefix.0 text whole plain spelled.runs
rows_are false text now slice front cs same is prefix spelled = ap (rows_at false now 1) is ∙ plain_rows now cs

-- Of what was found in a text: what is written of it is written of each way to read it, which is one
module _ (text : List ℕ) (marks : List Mark) (P : List ℕ → Type 0) (v : Bool) (now : List ℕ) (slice : List Mark) (same : now ≡ text) (is : slice ≡ marks) where
  front_finished : AreFrontMarks (Unit {0}) text marks None → P (rows_at v now 1 slice) → (ds : List EntryLines) → IsSpelled text ds
      → P (listed_rows v (map entry_in ds))
  front_finished a put ds d =
      let whole : text ≡ a.front = a.behind tt in
      let entries : a.entries ≡ ds = spelled_once a.front a.entries ds a.spelled (subst (λ t. IsSpelled t ds) whole d) in
      subst (λ xs. P (listed_rows v (map entry_in xs))) entries
      (subst P (rows_are v text now slice a.front a.entries same (is ∙ a.marks_are) ([], whole ∙ sym (append-nil a.front)) a.spelled) put)

  front_unfinished : (torn : Torn) → AreFrontMarks (Unit {0}) text marks (Some torn) → P (torn_text (Some torn) ++ rows_at v now 1 slice)
      → (front : List ℕ) (ds : List EntryLines) (stage : Stage) → IsUnfinishedBehind text front ds stage
      → P (unfinished_line (suc (length ds)) stage ++ listed_rows v (map entry_in ds))
  front_unfinished torn a put front ds stage u =
      let b = a.behind tt in
      let read : record { entries = map entry_in a.entries; stage = b.0 } ≡ record { entries = map entry_in ds; stage = stage } =
      some_same (record { entries = map entry_in a.entries; stage = b.0 }) (record { entries = map entry_in ds; stage = stage }) (sym b.1.reads.lines ∙ u.reads.lines) in
      let fronts : front ≡ a.front =
      sym (front_once text a.front front a.entries ds b.1.front_is u.front_is a.spelled u.spelled (ap (λ (r : Reading). r.entries) read)) in
      let entries : a.entries ≡ ds = spelled_once a.front a.entries ds a.spelled (subst (λ t. IsSpelled t ds) fronts u.spelled) in
      let all : P (unfinished_line (suc (length a.entries)) b.0 ++ listed_rows v (map entry_in a.entries)) =
      subst (λ t. P (t ++ listed_rows v (map entry_in a.entries))) (torn_is torn a.entries b.0 b.2 b.3)
      (subst (λ t. P (torn_text (Some torn) ++ t)) (rows_are v text now slice a.front a.entries same (is ∙ a.marks_are) b.1.front_is a.spelled) put) in
      subst (λ g. P (unfinished_line (suc (length ds)) g ++ listed_rows v (map entry_in ds))) (ap (λ (r : Reading). r.stage) read)
      (subst (λ xs. P (unfinished_line (suc (length xs)) b.0 ++ listed_rows v (map entry_in xs))) entries all)

module _ (text now : List ℕ) (v : Bool) (slice marks : List Mark) (w0 w1 : Option (List ℕ)) (same : now ≡ text) (is : slice ≡ marks) where
  -- what was written is the list
  pub front_listed : (torn : Option Torn) → AreFrontMarks (Unit {0}) text marks torn → Appends w0 w1 (torn_text torn ++ rows_at v now 1 slice) → ListsFront v text w0 w1
  front_listed None a put =
      let whole : text ≡ a.front = a.behind tt in
      record {
        accepted = inl (a.entries, subst (λ t. IsSpelled t a.entries) (sym whole) a.spelled);
        finished = front_finished text marks (Appends w0 w1) v now slice same is a put;
        unfinished = λ front ds stage u. absurd (u.unfinished (map entry_in a.entries, subst (λ t. IsFinished t (map entry_in a.entries)) (sym whole) a.spelled.finished));
      }
  front_listed (Some torn) a put =
      let b = a.behind tt in
      record {
        accepted = inr (a.front, a.entries, b.0, b.1);
        finished = λ ds d. absurd (b.1.unfinished (map entry_in ds, d.finished));
        unfinished = front_unfinished text marks (Appends w0 w1) v now slice same is torn a put;
      }

  -- or a front of it
  pub front_stopped : (fault : ShowFault) (torn : Option Torn) → AreFrontMarks (Unit {0}) text marks torn
      → StopsPrefix 0 (torn_text torn ++ rows_at v now 1 slice) w0 w1 fault → StopsFrontRows v text w0 w1 fault
  front_stopped fault None a stop =
      let whole : text ≡ a.front = a.behind tt in
      record {
        quiet = λ no. absurd (no (inl (a.entries, subst (λ t. IsSpelled t a.entries) (sym whole) a.spelled)));
        finished = front_finished text marks (λ t. StopsPrefix 0 t w0 w1 fault) v now slice same is a stop;
        unfinished = λ front ds stage u. absurd (u.unfinished (map entry_in a.entries, subst (λ t. IsFinished t (map entry_in a.entries)) (sym whole) a.spelled.finished));
      }
  front_stopped fault (Some torn) a stop =
      let b = a.behind tt in
      record {
        quiet = λ no. absurd (no (inr (a.front, a.entries, b.0, b.1)));
        finished = λ ds d. absurd (b.1.unfinished (map entry_in ds, d.finished));
        unfinished = front_unfinished text marks (λ t. StopsPrefix 0 t w0 w1 fault) v now slice same is torn a stop;
      }

-- nothing was written
pub front_refused : (v : Bool) (text : List ℕ) (w : Option (List ℕ)) (fault : SessionFault) → StopsFrontRows v text w w (look.Text fault)
front_refused v text w fault = record {
  quiet = λ no. refl;
  finished = λ ds d. stops_none 0 (listed_rows v (map entry_in ds)) w fault;
  unfinished = λ front ds stage u. stops_none 0 (unfinished_line (suc (length ds)) stage ++ listed_rows v (map entry_in ds)) w fault;
}

-- which faults stop it
pub find_stops : (faithful : Type 0) (text : List ℕ) (e : SessionFault) → FindFault faithful (shown text) e → StopsLog faithful text (look.Text e)
find_stops faithful text (Damaged line) p = p
find_stops faithful text e p = p

pub put_stops : (faithful : Type 0) (text : List ℕ) (fault : ShowFault) → PutFault fault → StopsLog faithful text fault
put_stops faithful text (look.Text (Damaged line)) p = absurd p
put_stops faithful text (look.Text e) p = p
put_stops faithful text (look.Io fault) p = p

pub front_cut : (faithful : Type 0) → faithful → (v : Bool) (text : List ℕ) (old new : Option (List ℕ)) (fault : ShowFault) → StopsLog faithful text fault
    → StopsFrontRows v text old new fault → IsFrontCut v text old new (unseen_by fault)
front_cut faithful h v text old new (look.Text e) log stop = (listing_of_bytes faithful h text (Session e) log, stop)
front_cut faithful h v text old new (look.Io fault) log stop = (log, stop)
