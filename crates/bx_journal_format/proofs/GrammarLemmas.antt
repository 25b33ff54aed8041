-- What is read of a journal's text is what its grammar says.
use Rattle.std.proofs.Common.{◌≡◌, ◌↔◌, ◌⊎◌, inl, inr, ℕ, zero, suc, ◌+◌, ◌<◌, ◌≤◌, ◌^◌, Bool, true, false, List, [], ◌∷◌, ◌++◌, length, take, refl, ap, sym, ◌∙◌, subst, arith, append_assoc, append-nil, Option, Some, None, Result, Ok, Err}
use Rattle.std.specs.Prelude.{◌&&◌, nat_le, if◌then◌else◌, option_map}
use Rattle.std.specs.Result.{result_ok}
use Rattle.std.specs.Str.{bytes_eq}
use Rattle.std.proofs.lemmas.Grind.{common_steps}
use Rattle.bx_image.specs.declared.change.TheConstants.{MAX_LEN}
use Rattle.bx_read.specs.Digits.{pairs_of}
use Rattle.bx_read.specs.Grammar.{IsLine}
use Rattle.bx_read.specs.Line.{line_piece, read_line}
use Rattle.bx_read.specs.declared.fault.ReadFault.{ReadFault}
use Rattle.bx_read.proofs.GrammarLemmas.{and_true, read_line-found}
use Rattle.bx_read.proofs.PieceLemmas.{piece_of as line_gives}
use Rattle.bx_journal_format.specs.Kept.{Run, Kept, with_run}
use Rattle.bx_journal_format.specs.declared.format.version.Version.{Version}
use Rattle.bx_journal_format.specs.declared.format.version.Version.TheVariants.{First, Second}
use Rattle.bx_journal_format.specs.DumpLine.{run_of_line}
use Rattle.bx_journal_format.specs.Grammar.{IsSaved, AddRuns, IsEnd, IsHead, IsEntry, AreEntries, IsTail, AreLines, IsJournal, StopsBehind}
use Rattle.bx_journal_format.specs.Line.{address_width, start_line, save_line, end_line, after_in, saved_in}
use Rattle.bx_journal_format.specs.Text.{Entry, Stage, Between, Saving, Ending, Reading, Reads, Split, IsAccepted, IsDamagedAt, IsRest, after_lines, begins, begins_with_s, first_lines, text_of_lines, may_begin, next_at, split, start, next}
use Rattle.bx_journal_format.proofs.Damage.{accepts, first_all, first_few, front_read, split_joined, take_plain}
use Rattle.bx_journal_format.proofs.Foreign.{lines_plain}
use Rattle.bx_journal_format.proofs.Inverse.{bind_some, map_some, test_some, same_bytes, piece_apart, next_between, end_back}
use Rattle.bx_journal_format.proofs.LineLemmas.{bytes_eq-same, start_reads, first_not_second, end_reads}
use Rattle.bx_journal_format.proofs.Runs.{after_lines-append}
use Rattle.bx_journal_format.proofs.SavedLines.{saved_reads}
use Rattle.bx_journal_format.proofs.StepLemmas.{adds, start_first, start_second}

-- a saved line

ok_back : (r : Result (ℕ × List ℕ) ReadFault) (l : ℕ × List ℕ) → result_ok r ≡ Some l → r ≡ Ok l
ok_back (Ok m) l e = let same : m ≡ l = cc in ap (λ x. Ok x) same
ok_back (Err f) l e = absurd (cc)

line_found : (line : List ℕ) (read : ℕ × List ℕ) → line_piece line ≡ Some read → (hex : List ℕ) × IsLine line read.0 hex read.1
line_found line read e =
    let found = bind_some (λ (l : ℕ × List ℕ). option_map (λ (bytes : List ℕ). (l.0, bytes)) (pairs_of l.1)) (result_ok (read_line 1 line)) read e in
    let l : ℕ × List ℕ = found.0 in
    let bytes = map_some (λ (bytes : List ℕ). (l.0, bytes)) (pairs_of l.1) read found.2 in
    let is = read_line-found 1 line l.0 l.1 (ok_back (read_line 1 line) l found.1) in
    let same : is.0 ≡ bytes.0 = one_list (sym is.1.pairs ∙ bytes.1) in
    subst (λ (r : ℕ × List ℕ). (hex : List ℕ) × IsLine line r.0 hex r.1) bytes.2 (l.1, subst (IsLine line l.0 l.1) same is.1)
  where
    one_list : {a b : List ℕ} → Some a ≡ Some b → a ≡ b
    one_list e = cc

piece_found : (line : List ℕ) (run : Run) → run_of_line line ≡ Some run → (hex : List ℕ) × IsLine line run.at hex run.bytes
unfolding run_of_line
piece_found line run e =
    let found = map_some (λ (read : ℕ × List ℕ). (record { at = read.0; bytes = read.1 })) (line_piece line) run e in
    subst (λ (p : Run). (hex : List ℕ) × IsLine line p.at hex p.bytes) found.2 (line_found line found.0 found.1)

pub piece_only : (line hex : List ℕ) (run : Run) → IsLine line run.at hex run.bytes → run_of_line line ≡ Some run
unfolding run_of_line
piece_only line hex run is = rw (line_gives line run.at hex run.bytes is) refl

pub saved_found : (len : ℕ) (line : List ℕ) (run : Run) → saved_in len line ≡ Some run → IsSaved len line run
unfolding saved_in
saved_found len line run e =
    let found = bind_some (λ (piece : Run). if nat_le (length piece.bytes) 16 && nat_le (piece.at + length piece.bytes) len then Some piece else None) (run_of_line line) run e in
    let tests = test_some (nat_le (length found.0.bytes) 16 && nat_le (found.0.at + length found.0.bytes) len) found.0 run found.2 in
    let both = and_true (nat_le (length found.0.bytes) 16) (nat_le (found.0.at + length found.0.bytes) len) tests.0 in
    subst (IsSaved len line) tests.1 (piece_found line found.0 found.1, below (length found.0.bytes) 16 both.0, below (found.0.at + length found.0.bytes) len both.1)
  where
    below : (a b : ℕ) → nat_le a b ≡ true → a ≤ b
    below a b e = grind (arith, common_steps)

saved_only : (len : ℕ) (line : List ℕ) (run : Run) → IsSaved len line run → saved_in len line ≡ Some run
saved_only len line run is = saved_reads len line run (piece_only line is.0.0 run is.0.1) is.1 is.2

-- saved lines

add_last : (len : ℕ) (old : List Run) (lines : List (List ℕ)) (new : List Run) (line : List ℕ) (run : Run)
    → AddRuns len old lines new → IsSaved len line run → AddRuns len old (lines ++ line ∷ []) (with_run new run)
add_last len old [] new line run add is = (run, is, ap (λ runs. with_run runs run) add)
add_last len old (l ∷ lines) new line run add is = (add.0, add.1, add_last len (with_run old add.0) lines new line run add.2 is)

pub not_save : (line : List ℕ) (run : Run) (n : ℕ) → run_of_line line ≡ Some run → bytes_eq line (save_line n) ≡ false
unfolding save_line
not_save line run n is = by_test (bytes_eq line (save_line n)) refl
  where
    by_test : (b : Bool) → bytes_eq line (save_line n) ≡ b → b ≡ false
    by_test false e = refl
    by_test true e =
        let apart : begins_with_s line ≡ false = piece_apart line run is in
        let same : line ≡ save_line n = same_bytes line (save_line n) e in
        let clash : begins_with_s (save_line n) ≡ false = subst (λ l. begins_with_s l ≡ false) same apart in
        absurd (let no : true ≡ false = clash in cc)

runs_read : (es : List Entry) (v : Version) (len : ℕ) (lines : List (List ℕ)) (old new : List Run) → AddRuns len old lines new
    → after_lines (record { entries = es; stage = Saving v (record { len = len; runs = old }) }) lines ≡ Some (record { entries = es; stage = Saving v (record { len = len; runs = new }) })
unfolding after_lines
runs_read es v len [] old new add = let same : old ≡ new = sym add in ap (λ (runs : List Run). Some (record { entries = es; stage = Saving v (record { len = len; runs = runs }) })) same
runs_read es v len (line ∷ lines) old new add =
    let apart = not_save line add.0 (suc (length es)) (piece_only line add.1.0.0 add.0 add.1.0.1) in
    let step = adds es (suc (length es)) v (record { len = len; runs = old }) line refl add.0 apart (saved_only len line add.0 add.1) in
    rw step (runs_read es v len lines (with_run old add.0) new add.2)

-- the line that ends an entry

end_found : (v : Version) (n : ℕ) (line : List ℕ) (told : Option ℕ) → after_in v n line ≡ Some told → IsEnd v n told line
unfolding after_in
end_found First n line told e =
    let test = test_some (bytes_eq line (end_line First n 0)) None told e in
    subst (λ (t : Option ℕ). IsEnd First n t line) test.1 (same_bytes line (end_line First n 0) test.0)
end_found Second n line told e =
    let back = end_back Second n line told e in
    let reads : after_in Second n line ≡ Some (Some back.0) = ap (after_in Second n) back.2 ∙ end_reads n back.0 back.1 in
    subst (λ (t : Option ℕ). IsEnd Second n t line) (one_told (sym reads ∙ e)) (back.2, back.1)
  where
    one_told : {a b : Option ℕ} → Some a ≡ Some b → a ≡ b
    one_told e = cc

end_only : (v : Version) (n : ℕ) (told : Option ℕ) (line : List ℕ) → IsEnd v n told line → after_in v n line ≡ Some told
unfolding after_in
end_only First n None line is = rw is (rw (bytes_eq-same (end_line First n 0)) refl)
end_only First n (Some after) line is = absurd is
end_only Second n None line is = absurd is
end_only Second n (Some after) line is = ap (after_in Second n) is.0 ∙ end_reads n after is.1

-- what a line does

abbrev SavingStep : List Entry → Version → Kept → List ℕ → Reading → Type 0
SavingStep es v s line q = ((line ≡ save_line (suc (length es))) × (q ≡ record { entries = es; stage = Ending v s }))
    ⊎ ((run : Run) × (saved_in s.len line ≡ Some run) × (q ≡ record { entries = es; stage = Saving v (record { len = s.len; runs = with_run s.runs run }) }))

saving_step : (es : List Entry) (v : Version) (s : Kept) (line : List ℕ) (q : Reading) → next_at es (Saving v s) line ≡ Some q → SavingStep es v s line q
unfolding next_at
saving_step es v s line q e = by_test (bytes_eq line (save_line (suc (length es)))) refl e
  where
    by_test : (b : Bool) → bytes_eq line (save_line (suc (length es))) ≡ b
        → (if b then Some (record { entries = es; stage = Ending v s }) else option_map (λ (piece : Run). (record { entries = es; stage = Saving v (record { len = s.len; runs = with_run s.runs piece }) })) (saved_in s.len line)) ≡ Some q
        → SavingStep es v s line q
    by_test true is e = inl (same_bytes line (save_line (suc (length es))) is, cc)
    by_test false is e =
        let some = map_some (λ (piece : Run). (record { entries = es; stage = Saving v (record { len = s.len; runs = with_run s.runs piece }) })) (saved_in s.len line) q e in
        inr (some.0, some.1, sym some.2)

ending_step : (es : List Entry) (v : Version) (s : Kept) (line : List ℕ) (q : Reading) → next_at es (Ending v s) line ≡ Some q
    → (told : Option ℕ) × (after_in v (suc (length es)) line ≡ Some told) × (q ≡ record { entries = record { saved = s; after = told } ∷ es; stage = Between })
unfolding next_at
ending_step es v s line q e =
    let some = map_some (λ (after : Option ℕ). (record { entries = record { saved = s; after = after } ∷ es; stage = Between })) (after_in v (suc (length es)) line) q e in
    (some.0, some.1, sym some.2)

-- lines of the grammar with one more

grows_at : (finished tail : List (List ℕ)) (es : List Entry) (stage : Stage) (line : List ℕ) (q : Reading)
    → AreEntries finished es → IsTail es tail stage → next_at es stage line ≡ Some q → AreLines ((finished ++ tail) ++ line ∷ []) q
grows_at finished tail es Between line q entries none e =
    let b = next_between es line q e in
    let s : Kept = record { len = b.1.1; runs = [] } in
    let is : q ≡ record { entries = es; stage = Saving b.1.0 s } = b.2 ∙ ap (λ (stage : Stage). record { entries = es; stage = stage }) b.1.7 in
    let head : IsHead es b.1.0 (line ∷ []) s = record {
      first = line;
      saved = [];
      spelled = refl;
      room = b.1.2;
      start = b.1.6;
      small = b.1.3;
      fits = b.1.4;
      follows = b.1.5;
      saves = refl;
    } in
    let spelled : (finished ++ tail) ++ line ∷ [] ≡ finished ++ line ∷ [] =
    ap (λ (t : List (List ℕ)). (finished ++ t) ++ line ∷ []) none ∙ ap (λ (f : List (List ℕ)). f ++ line ∷ []) (append-nil finished) in
    subst (AreLines ((finished ++ tail) ++ line ∷ [])) (sym is) (record {
      finished = finished;
      tail = line ∷ [];
      spelled = spelled;
      entries = entries;
      unfinished = head;
    })
grows_at finished tail es (Saving v s) line q entries head e =
    elim (saving_step es v s line q e) [
      | inl is ↦ subst (AreLines ((finished ++ tail) ++ line ∷ [])) (sym is.1) (record {
        finished = finished;
        tail = tail ++ line ∷ [];
        spelled = append_assoc finished tail (line ∷ []);
        entries = entries;
        unfinished = (tail, ap (λ (l : List ℕ). tail ++ l ∷ []) is.0, head);
      })
      | inr is ↦ subst (AreLines ((finished ++ tail) ++ line ∷ [])) (sym is.2) (record {
        finished = finished;
        tail = tail ++ line ∷ [];
        spelled = append_assoc finished tail (line ∷ []);
        entries = entries;
        unfinished = record {
          first = head.first;
          saved = head.saved ++ line ∷ [];
          spelled = ap (λ (t : List (List ℕ)). t ++ line ∷ []) head.spelled;
          room = head.room;
          start = head.start;
          small = head.small;
          fits = head.fits;
          follows = head.follows;
          saves = add_last s.len [] head.saved s.runs line is.0 head.saves (saved_found s.len line is.0 is.1);
        };
      })
    ]
grows_at finished tail es (Ending v s) line q entries under e =
    let step = ending_step es v s line q e in
    let n = suc (length es) in
    let own : IsEntry es (tail ++ line ∷ []) (record { saved = s; after = step.0 }) = record {
      version = v;
      head = under.0;
      last = line;
      spelled = ap (λ (t : List (List ℕ)). t ++ line ∷ []) under.1 ∙ append_assoc under.0 (save_line n ∷ []) (line ∷ []);
      begun = under.2;
      ends = end_found v n line step.0 step.1;
    } in
    subst (AreLines ((finished ++ tail) ++ line ∷ [])) (sym step.2) (record {
      finished = (finished ++ tail) ++ line ∷ [];
      tail = [];
      spelled = sym (append-nil ((finished ++ tail) ++ line ∷ []));
      entries = (finished, tail ++ line ∷ [], append_assoc finished tail (line ∷ []), entries, own);
      unfinished = refl;
    })

grows : (lines : List (List ℕ)) (r q : Reading) (line : List ℕ) → AreLines lines r → next r line ≡ Some q → AreLines (lines ++ line ∷ []) q
grows lines r q line are e =
    subst (λ (l : List (List ℕ)). AreLines (l ++ line ∷ []) q) (sym are.spelled) (grows_at are.finished are.tail r.entries r.stage line q are.entries are.unfinished e)

all_found : (lines done : List (List ℕ)) (r q : Reading) → AreLines done r → after_lines r lines ≡ Some q → AreLines (done ++ lines) q
unfolding after_lines
all_found [] done r q are e =
    let same : r ≡ q = cc in
    subst (AreLines (done ++ [])) same (subst (λ (l : List (List ℕ)). AreLines l r) (sym (append-nil done)) are)
all_found (line ∷ lines) done r q are e =
    let b = bind_some (λ p. after_lines p lines) (next r line) q e in
    subst (λ (l : List (List ℕ)). AreLines l q) (append_assoc done (line ∷ []) lines) (all_found lines (done ++ line ∷ []) b.0 q (grows done r b.0 line are b.1) b.2)

found : (lines : List (List ℕ)) (q : Reading) → after_lines start lines ≡ Some q → AreLines lines q
found lines q e = all_found lines [] start q (record { finished = []; tail = []; spelled = refl; entries = refl; unfinished = refl }) e

-- and what is in the grammar is read

begins_by : (es : List Entry) (v : Version) (len : ℕ) → len ≤ MAX_LEN → len < 16 ^ address_width v → may_begin es len ≡ true
    → begins es v (start_line v (suc (length es)) len) ≡ Some (Saving v (record { len = len; runs = [] }))
begins_by es v len small fits may = rw (start_reads v (suc (length es)) len small fits, may) refl

first_read : (es : List Entry) (v : Version) (len : ℕ) → length es < 65535 → len ≤ MAX_LEN → len < 16 ^ address_width v → may_begin es len ≡ true
    → next_at es Between (start_line v (suc (length es)) len) ≡ Some (record { entries = es; stage = Saving v (record { len = len; runs = [] }) })
first_read es First len room small fits may =
    start_first es (suc (length es)) (start_line First (suc (length es)) len) (Saving First (record { len = len; runs = [] })) refl (omega (arith, room)) (begins_by es First len small fits may)
first_read es Second len room small fits may =
    let none : begins es First (start_line Second (suc (length es)) len) ≡ None = rw (first_not_second (suc (length es)) (suc (length es)) len) refl in
    start_second es (suc (length es)) (start_line Second (suc (length es)) len) (Saving Second (record { len = len; runs = [] })) refl (omega (arith, room)) none (begins_by es Second len small fits may)

head_read : (es : List Entry) (v : Version) (lines : List (List ℕ)) (s : Kept) → IsHead es v lines s
    → after_lines (record { entries = es; stage = Between }) lines ≡ Some (record { entries = es; stage = Saving v s })
unfolding after_lines
head_read es v lines s head =
    let first : next_at es Between head.first ≡ Some (record { entries = es; stage = Saving v (record { len = s.len; runs = [] }) }) =
    ap (next_at es Between) head.start ∙ first_read es v s.len head.room head.small head.fits head.follows in
    ap (after_lines (record { entries = es; stage = Between })) head.spelled ∙ (rw first (runs_read es v s.len head.saved [] s.runs head.saves))

save_read : (es : List Entry) (v : Version) (s : Kept) → next_at es (Saving v s) (save_line (suc (length es))) ≡ Some (record { entries = es; stage = Ending v s })
unfolding next_at
save_read es v s = rw (bytes_eq-same (save_line (suc (length es)))) refl

last_read : (es : List Entry) (v : Version) (s : Kept) (told : Option ℕ) (line : List ℕ) → IsEnd v (suc (length es)) told line
    → next_at es (Ending v s) line ≡ Some (record { entries = record { saved = s; after = told } ∷ es; stage = Between })
unfolding next_at
last_read es v s told line is = rw (end_only v (suc (length es)) told line is) refl

entry_read : (es : List Entry) (lines : List (List ℕ)) (e : Entry) → IsEntry es lines e
    → after_lines (record { entries = es; stage = Between }) lines ≡ Some (record { entries = e ∷ es; stage = Between })
unfolding after_lines
entry_read es lines e is =
    let n = suc (length es) in
    ap (after_lines (record { entries = es; stage = Between })) is.spelled
    ∙ after_lines-append (record { entries = es; stage = Between }) (record { entries = es; stage = Saving is.version e.saved }) is.head (save_line n ∷ is.last ∷ [])
    (head_read es is.version is.head e.saved is.begun)
    ∙ (rw (save_read es is.version e.saved, last_read es is.version e.saved e.after is.last is.ends) refl)

entries_read : (lines : List (List ℕ)) (es : List Entry) → AreEntries lines es → after_lines start lines ≡ Some (record { entries = es; stage = Between })
unfolding after_lines
entries_read lines [] none = ap (after_lines start) none
entries_read lines (e ∷ older) are =
    ap (after_lines start) are.2
    ∙ after_lines-append start (record { entries = older; stage = Between }) are.0 are.1 (entries_read are.0 older are.3)
    ∙ entry_read older are.1 e are.4

tail_read : (es : List Entry) (lines : List (List ℕ)) (stage : Stage) → IsTail es lines stage
    → after_lines (record { entries = es; stage = Between }) lines ≡ Some (record { entries = es; stage = stage })
unfolding after_lines
tail_read es lines Between none = ap (after_lines (record { entries = es; stage = Between })) none
tail_read es lines (Saving v s) head = head_read es v lines s head
tail_read es lines (Ending v s) under =
    ap (after_lines (record { entries = es; stage = Between })) under.1
    ∙ after_lines-append (record { entries = es; stage = Between }) (record { entries = es; stage = Saving v s }) under.0 (save_line (suc (length es)) ∷ [])
    (head_read es v under.0 s under.2)
    ∙ (rw (save_read es v s) refl)

only : (lines : List (List ℕ)) (r : Reading) → AreLines lines r → after_lines start lines ≡ Some r
only lines r are =
    ap (after_lines start) are.spelled
    ∙ after_lines-append start (record { entries = r.entries; stage = Between }) are.finished are.tail (entries_read are.finished r.entries are.entries)
    ∙ tail_read r.entries are.tail r.stage are.unfinished

pub journal_has_form : (text : List ℕ) (r : Reading) → Reads text r ↔ IsJournal text r
journal_has_form text r = (
  λ reads. (found (split text).lines r reads.lines, reads.rest),
  λ is. record { lines = only (split text).lines r is.0; rest = is.1 },
)

-- the line at which a text is damaged

front_accepted : (k : ℕ) (text : List ℕ) → k ≤ length (split text).lines → IsAccepted (first_lines k text) → (r : Reading) × (after_lines start (take k (split text).lines) ≡ Some r)
front_accepted k text within accepted =
    let lines : List (List ℕ) = take k (split text).lines in
    let moved : IsAccepted (text_of_lines lines) = subst IsAccepted (first_few k text within) accepted in
    let parts : split (text_of_lines lines) ≡ record { lines = lines; rest = [] } = split_joined lines (take_plain k (split text).lines (lines_plain text)) in
    (moved.0, ap (λ (s : Split). after_lines start s.lines) (sym parts) ∙ moved.1.lines)

take_less : {A : Type 0} (j k : ℕ) (xs : List A) → j ≤ k → take j (take k xs) ≡ take j xs
take_less zero k xs less = refl
take_less (suc j) zero xs less = absurd (omega (arith, less))
take_less (suc j) (suc k) [] less = refl
take_less (suc j) (suc k) (x ∷ xs) less = ap (λ s. x ∷ s) (take_less j k xs (omega (arith, less)))

take_all : {A : Type 0} (k : ℕ) (xs : List A) → k ≡ length xs → take k xs ≡ xs
take_all zero [] is = refl
take_all zero (x ∷ xs) is = absurd (omega (arith, is))
take_all (suc k) [] is = refl
take_all (suc k) (x ∷ xs) is = ap (λ s. x ∷ s) (take_all k xs (omega (arith, is)))

fronts_accepted : (k : ℕ) (text : List ℕ) (r : Reading) → k ≤ length (split text).lines → AreLines (take k (split text).lines) r
    → (j : ℕ) → j < suc k → IsAccepted (first_lines j text)
fronts_accepted k text r within are j below =
    let front = front_read j (take k (split text).lines) start r (only (take k (split text).lines) r are) in
    accepts j text front.0 (omega (arith, within, below)) (ap (after_lines start) (sym (take_less j k (split text).lines (omega (arith, below)))) ∙ front.1)

one_reading : {p q : Reading} → Some p ≡ Some q → p ≡ q
one_reading e = cc

damaged_by : (text : List ℕ) (k : ℕ) → StopsBehind text k → IsDamagedAt text (suc k)
damaged_by text k stops = elim stops.stops [
  | inl is ↦ record {
    damaged = λ accepted.
        let front = front_accepted (suc k) text (omega (arith, is.0)) accepted in
        is.1 front.0 (found (take (suc k) (split text).lines) front.0 front.1);
    least = fronts_accepted k text stops.reading (omega (arith, is.0)) stops.before;
  }
  | inr is ↦ record {
    damaged = λ accepted.
        let moved : IsAccepted text = subst IsAccepted (first_all (suc k) text (omega (arith, is.0))) accepted in
        let whole : after_lines start (split text).lines ≡ Some stops.reading =
        ap (after_lines start) (sym (take_all k (split text).lines is.0)) ∙ only (take k (split text).lines) stops.reading stops.before in
        let same : moved.0 ≡ stops.reading = one_reading (sym moved.1.lines ∙ whole) in
        is.1 (subst (λ (r : Reading). IsRest r.entries r.stage (split text).rest) same moved.1.rest);
    least = fronts_accepted k text stops.reading (omega (arith, is.0)) stops.before;
  }
]

stops_within : (text : List ℕ) (k : ℕ) → k < length (split text).lines → IsDamagedAt text (suc k) → StopsBehind text k
stops_within text k within damaged =
    let front = front_accepted k text (omega (arith, within)) (damaged.least k (omega arith)) in
    record {
      reading = front.0;
      before = found (take k (split text).lines) front.0 front.1;
      stops = inl (within, λ r are. damaged.damaged (accepts (suc k) text r (omega (arith, within)) (only (take (suc k) (split text).lines) r are)));
    }

stops_at_rest : (text : List ℕ) (k : ℕ) → k ≡ length (split text).lines → IsDamagedAt text (suc k) → StopsBehind text k
stops_at_rest text k is damaged =
    let front = front_accepted k text (omega (arith, is)) (damaged.least k (omega arith)) in
    let whole : after_lines start (split text).lines ≡ Some front.0 = ap (after_lines start) (sym (take_all k (split text).lines is)) ∙ front.1 in
    record {
      reading = front.0;
      before = found (take k (split text).lines) front.0 front.1;
      stops = inr (is, λ rest. damaged.damaged (subst IsAccepted (sym (first_all (suc k) text (omega (arith, is)))) (front.0, record { lines = whole; rest = rest })));
    }

-- beyond the rest there is no line
stops_past : (text : List ℕ) (k : ℕ) → length (split text).lines < k → IsDamagedAt text (suc k) → StopsBehind text k
stops_past text k past damaged =
    let accepted : IsAccepted text = subst IsAccepted (first_all k text past) (damaged.least k (omega arith)) in
    absurd (damaged.damaged (subst IsAccepted (sym (first_all (suc k) text (omega (arith, past)))) accepted))

pub damaged_is_first : (text : List ℕ) (k : ℕ) → IsDamagedAt text (suc k) ↔ StopsBehind text k
damaged_is_first text k = (λ damaged. by_place (nat_le (suc k) (length (split text).lines)) refl (nat_le k (length (split text).lines)) refl damaged, damaged_by text k)
  where
    by_place : (b : Bool) → nat_le (suc k) (length (split text).lines) ≡ b → (c : Bool) → nat_le k (length (split text).lines) ≡ c → IsDamagedAt text (suc k) → StopsBehind text k
    by_place true is c at damaged = stops_within text k (grind (arith, common_steps)) damaged
    by_place false is true at damaged = stops_at_rest text k (grind (arith, common_steps)) damaged
    by_place false is false at damaged = stops_past text k (grind (arith, common_steps)) damaged
