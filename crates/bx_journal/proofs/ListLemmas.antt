-- The rows of a text that is read in windows: a line more.
use Rattle.std.proofs.Common.{◌≡◌, ℕ, zero, suc, ◌+◌, ◌*◌, ◌≤◌, List, [], ◌∷◌, ◌++◌, length, take, drop, refl, ap, sym, ◌∙◌, subst, inl, inr, append_assoc, append-nil, arith, Result, Ok, Some}
use Rattle.std.specs.Prelude.{Vec}
use Rattle.std.proofs.lemmas.Result.{IfOk-weaker}
use Rattle.bx_image.specs.Power.{NoMore}
use Rattle.bx_image.proofs.Survivors.{NoMore_then}
use Rattle.bx_journal_store.specs.declared.store.TextStore.{Ghosts as StoreViews}
use Rattle.bx_journal_format.specs.declared.format.version.Version.{Version}
use Rattle.bx_journal_format.specs.declared.read.count.Place.{Place}
use Rattle.bx_journal_format.specs.declared.read.count.Place.TheVariants.{Between as BetweenPlace, Saving as SavingPlace, Ending as EndingPlace}
use Rattle.bx_journal_format.specs.declared.read.rows.Summed.{Summed}
use Rattle.bx_journal_format.specs.Text.{Entry, Stage, Between, Saving, Ending, Reading, Split, ended, split, start, next_at, after_lines}
use Rattle.bx_journal_format.specs.read.Followed.{AreFullSaved}
use Rattle.bx_journal_format.specs.read.Plain.{HasNoNewline}
use Rattle.bx_journal_format.specs.count.Rows.{IsMore, SumsTo, summed_of, with_more}
use Rattle.bx_journal_format.specs.count.Tally.{AreFullAt, place_of}
use Rattle.bx_journal_format.proofs.FullLemmas.{full_first, full_sums}
use Rattle.bx_journal_format.proofs.Inverse.{next_between, next_saving, next_ending}
use Rattle.bx_journal_format.proofs.Runs.{after_lines-append}
use Rattle.bx_journal_format.proofs.Splits.{split-append, split-ended}
use Rattle.bx_journal_format.proofs.TallyLemmas.{HasForm, IsFirstLine, has_form, last, line_taken, take_sum}
use Rattle.bx_journal_model.specs.Calls.{rows_of}
use Rattle.bx_journal_model.specs.declared.answers.LogRow.{LogRow}
use Rattle.bx_journal_model.specs.declared.fault.SessionFault.{SessionFault}
use Rattle.bx_journal_read.specs.declared.scan.windows.Reached.{Reached}
use Rattle.bx_journal.specs.declared.session.log.windows.RowScan.{RowScan}
use Rattle.bx_journal_model.specs.Looking.{LooksAt}
use Rattle.bx_journal.specs.private.Rows.{AreRowsOf, FindsRows, IsListed, ended_row}
use Rattle.bx_journal_read.specs.scan.Windows.{IsReached}
use Rattle.bx_journal_read.proofs.ScanLemmas.{reached_all}
use Rattle.bx_journal_read.proofs.WindowLemmas.{again_behind, looks_before}

-- a line adds a row where it ends an entry
abbrev RowsNext : List Entry → Reading → Type 0
RowsNext es q = rows_of q.entries ≡ rows_of es ++ ended_row (place_of q.stage) (summed_of q)

rows_next : (line : List ℕ) (q : Reading) (es : List Entry) (stage : Stage) → next_at es stage line ≡ Some q → RowsNext es q
rows_next line q es Between e =
    let b = next_between es line q e in
    let is : q ≡ record { entries = es; stage = Saving b.1.0 (record { len = b.1.1; runs = [] }) } = b.2 ∙ ap (λ s. record { entries = es; stage = s }) b.1.7 in
    subst (RowsNext es) (sym is) (sym (append-nil (rows_of es)))
rows_next line q es (Saving v s) e =
    elim (next_saving es v s line q e) [ inl is ↦ subst (RowsNext es) (sym is.1) (sym (append-nil (rows_of es))) | inr is ↦ subst (RowsNext es) (sym is.2) (sym (append-nil (rows_of es))) ]
rows_next line q es (Ending v s) e = subst (RowsNext es) (sym (next_ending es v s line q e).1) refl

-- nothing was read
pub listed_none : (s : Summed) (rows : List LogRow) → s ≡ summed_of start → rows ≡ [] → IsListed [] s rows
unfolding split after_lines
listed_none s rows none empty = record { reading = start; reads = refl; whole = refl; is = sym none; rows_are = empty }

-- one line more
pub listed_on : (text line : List ℕ) (s u : Summed) (rows : List LogRow) → IsListed text s rows → HasNoNewline line → ((r : Reading) → summed_of r ≡ s → SumsTo r line u)
    → IsListed (text ++ ended line) u (rows ++ ended_row u.tally.place u)
unfolding split
listed_on text line s u rows h plain lead =
    let to : SumsTo h.reading line u = lead h.reading h.is in
    let one : split (ended line) ≡ record { lines = line ∷ []; rest = [] } = split-ended line [] plain in
    let parts : split (text ++ ended line) ≡ record { lines = (split text).lines ++ line ∷ []; rest = [] } =
    split-append text (ended line) h.whole ∙ ap (λ (s : Split). record { lines = (split text).lines ++ s.lines; rest = s.rest }) one in
    let lines : (split (text ++ ended line)).lines ≡ (split text).lines ++ line ∷ [] = ap (λ (s : Split). s.lines) parts in
    let more : rows_of to.reading.entries ≡ rows_of h.reading.entries ++ ended_row u.tally.place u =
    rows_next line to.reading h.reading.entries h.reading.stage to.leads ∙ ap (λ (w : Summed). rows_of h.reading.entries ++ ended_row w.tally.place w) to.is in
    record {
      reading = to.reading;
      reads = ap (after_lines start) lines ∙ after_lines-append start h.reading (split text).lines (line ∷ []) h.reads ∙ last h.reading to.reading line to.leads;
      whole = ap (λ (s : Split). s.rest) parts;
      is = to.is;
      rows_are = ap (λ rs. rs ++ ended_row u.tally.place u) h.rows_are ∙ sym more;
    }

-- one line more of a window
pub listed_more : (front window rest : List ℕ) (taken i : ℕ) (s u : Summed) (rows new : List LogRow) → IsListed (front ++ take taken window) s rows → rest ≡ drop taken window → IsFirstLine rest i
    → ((r : Reading) → summed_of r ≡ s → SumsTo r (take i rest) u) → new ≡ rows ++ ended_row u.tally.place u → IsListed (front ++ take (taken + (i + 1)) window) u new
listed_more front window rest taken i s u rows new h left f lead pushed =
    let taken_is : take (taken + (i + 1)) window ≡ take taken window ++ ended (take i rest) =
    take_sum taken (i + 1) window ∙ ap (λ l. take taken window ++ take (i + 1) l) (sym left) ∙ ap (λ l. take taken window ++ l) (line_taken rest i f) in
    let same : front ++ take (taken + (i + 1)) window ≡ (front ++ take taken window) ++ ended (take i rest) =
    ap (λ l. front ++ l) taken_is ∙ sym (append_assoc front (take taken window) (ended (take i rest))) in
    subst (λ l. IsListed l u new) (sym same)
    (subst (IsListed ((front ++ take taken window) ++ ended (take i rest)) u) (sym pushed) (listed_on (front ++ take taken window) (take i rest) s u rows h f.plain lead))

-- k full lines more
listed_by : (front text : List ℕ) (s : Summed) (rows : List LogRow) (v : Version) (len count k : ℕ) → s.tally.place ≡ SavingPlace v len → AreFullSaved len text count → k ≤ count
    → IsListed front s rows → IsListed (front ++ take (68 * k) text) (with_more s (16 * k)) rows
listed_by front text s rows v len count zero place so below h =
    let saved : s.saved ≡ s.saved + 16 * 0 = omega arith in
    subst (λ l. IsListed l (with_more s (16 * 0)) rows) (sym (append-nil front)) (subst (λ n. IsListed front (record { tally = s.tally; len = s.len; saved = n }) rows) saved h)
listed_by front text s rows v len count (suc k) place so below h =
    let rest : List ℕ = drop (68 * k) text in
    let begins = so.each k (omega (arith, below)) in
    let now : Summed = with_more s (16 * k) in
    let next : Summed = with_more now 16 in
    let before = listed_by front text s rows v len count k place so (omega (arith, below)) h in
    let line = listed_on (front ++ take (68 * k) text) (take 67 rest) now next rows before begins.3.plain (λ r is. full_sums r now v len rest is place begins) in
    let same : rows ++ ended_row s.tally.place next ≡ rows = ap (λ p. rows ++ ended_row p next) place ∙ append-nil rows in
    let size : 68 * suc k ≡ 68 * k + 68 = omega arith in
    let saved : s.saved + 16 * k + 16 ≡ s.saved + 16 * suc k = omega arith in
    let end : take (68 * k) text ++ ended (take 67 rest) ≡ take (68 * suc k) text =
    sym (ap (λ m. take m text) size ∙ take_sum (68 * k) 68 text ∙ ap (λ l. take (68 * k) text ++ l) (line_taken rest 67 (full_first len begins.0 rest begins.1 begins.3))) in
    let whole : (front ++ take (68 * k) text) ++ ended (take 67 rest) ≡ front ++ take (68 * suc k) text = append_assoc front (take (68 * k) text) (ended (take 67 rest)) ∙ ap (λ l. front ++ l) end in
    subst (λ n. IsListed (front ++ take (68 * suc k) text) (record { tally = s.tally; len = s.len; saved = n }) rows) saved
    (subst (λ l. IsListed l next rows) whole (subst (IsListed ((front ++ take (68 * k) text) ++ ended (take 67 rest)) next) same line))

-- full lines at a place add their bytes to sums, and no row
full_listed : (front text : List ℕ) (s : Summed) (rows : List LogRow) (count : ℕ) → AreFullAt s.tally.place text count → IsListed front s rows
    → IsListed (front ++ take (68 * count) text) (with_more s (16 * count)) rows
full_listed front text s rows count so h = by s.tally.place refl so
  where
    none : count ≡ 0 → IsListed (front ++ take (68 * count) text) (with_more s (16 * count)) rows
    none is =
        let saved : s.saved ≡ s.saved + 16 * 0 = omega arith in
        subst (λ c. IsListed (front ++ take (68 * c) text) (with_more s (16 * c)) rows) (sym is)
        (subst (λ l. IsListed l (with_more s (16 * 0)) rows) (sym (append-nil front)) (subst (λ n. IsListed front (record { tally = s.tally; len = s.len; saved = n }) rows) saved h))

    by : (p : Place) → s.tally.place ≡ p → AreFullAt p text count → IsListed (front ++ take (68 * count) text) (with_more s (16 * count)) rows
    by BetweenPlace place so = none so
    by (SavingPlace v len) place so = listed_by front text s rows v len count count place so (omega arith) h
    by (EndingPlace v) place so = none so

-- the same behind a part of a window
pub listed_full : (front window rest : List ℕ) (s u : Summed) (rows : List LogRow) (taken count : ℕ) → rest ≡ drop taken window → AreFullAt s.tally.place rest count → IsMore s (16 * count) u
    → IsListed (front ++ take taken window) s rows → IsListed (front ++ take (taken + 68 * count) window) u rows
listed_full front window rest s u rows taken count left so more h =
    let end : take taken window ++ take (68 * count) rest ≡ take (taken + 68 * count) window = ap (λ l. take taken window ++ take (68 * count) l) left ∙ sym (take_sum taken (68 * count) window) in
    let whole : (front ++ take taken window) ++ take (68 * count) rest ≡ front ++ take (taken + 68 * count) window = append_assoc front (take taken window) (take (68 * count) rest) ∙ ap (λ l. front ++ l) end in
    subst (λ w. IsListed (front ++ take (taken + 68 * count) window) w rows) (sym more)
    (subst (λ l. IsListed l (with_more s (16 * count)) rows) whole (full_listed (front ++ take taken window) rest s rows count so h))

-- no line of a window
pub listed_same : (front window : List ℕ) (s : Summed) (rows : List LogRow) → IsListed front s rows → IsListed (front ++ take 0 window) s rows
listed_same front window s rows h = subst (λ l. IsListed l s rows) (sym (append-nil front)) h

-- the rows of a text that stands between two entries at its end
pub listed_all : {A : Type 0} → (H now : Type 0) (stored text : List ℕ) (len count : ℕ) (r : Reached (RowScan A)) → (H → now) → (H → text ≡ stored) → (H → len ≡ length stored) → r.at ≡ len
    → IsReached now text (λ s t. IsListed t s.sums s.rows.items) len r → r.scan.sums.tally.place ≡ BetweenPlace → r.scan.sums.tally.count ≡ count → AreRowsOf H stored r.scan.rows.items count
listed_all H now stored text len count r still same long all reached place many =
    let h = reached.led.leads in
    let between : h.reading.stage ≡ Between = subst (HasForm h.reading.stage) place (has_form h.reading.stage r.scan.sums.tally.place (ap (λ (s : Summed). s.tally.place) h.is)) in
    record {
      text = reached.led.text;
      is = reached_all H now stored text (λ s t. IsListed t s.sums s.rows.items) len r.at r.scan still same long all reached.led;
      entries = h.reading.entries;
      finished = record { reads = record { lines = h.reads ∙ ap (λ s. Some (record { entries = h.reading.entries; stage = s })) between; rest = inl h.whole }; whole = h.whole };
      counted = ap (λ (s : Summed). s.tally.count) h.is ∙ many;
      rows_are = h.rows_are;
    }

-- the rows of a text behind a call that only looked at it
pub rows_behind : {T A V : Type 0} (t : StoreViews T) {count : ℕ} {v : V} {old now new : T} → LooksAt t.faithful t.text t.failures (Ok v) old now
    → (t.faithful old → NoMore (t.survives old) (t.survives now)) → (r : Result (Vec LogRow A) SessionFault) → FindsRows t count r now new → FindsRows t count r old new
rows_behind t {count = count} {old = old} {now = now} first before r next = record {
  rows = IfOk-weaker r (λ v. AreRowsOf (t.faithful now) (t.text now) v.items count) (λ v. AreRowsOf (t.faithful old) (t.text old) v.items count)
      (λ v f. record { text = f.text; is = λ h. sym (first.same h) ∙ f.is (first.faith.1 h); entries = f.entries; finished = f.finished; counted = f.counted; rows_are = f.rows_are }) next.rows;
  fault = again_behind first count r next.fault;
  looks = looks_before first next.looks;
  found_before = λ h. NoMore_then _ _ _ (before h) (next.found_before (first.faith.1 h));
}
