-- Entries that are marked: a line more, and full lines.
use Rattle.std.proofs.Common.{◌≡◌, ℕ, zero, suc, ◌+◌, ◌*◌, ◌≤◌, List, [], ◌∷◌, ◌++◌, length, length-append, map, refl, ap, sym, ◌∙◌, subst, arith, append_assoc, append-nil, take, drop, length-take, Option, Some}
use Rattle.std.proofs.lemmas.List.{length-map}
use Rattle.bx_journal_format.specs.declared.format.version.Version.{Version}
use Rattle.bx_journal_format.specs.declared.read.count.Place.{Place}
use Rattle.bx_journal_format.specs.declared.read.count.Place.TheVariants.{Between as BetweenPlace, Saving as SavingPlace, Ending as EndingPlace}
use Rattle.bx_journal_format.specs.declared.read.marks.Mark.{Mark}
use Rattle.bx_journal_format.specs.declared.read.marks.Marking.{Marking}
use Rattle.bx_journal_format.specs.declared.read.rows.Summed.{Summed}
use Rattle.bx_journal_format.specs.Kept.{Run, Kept, with_run}
use Rattle.bx_journal_format.specs.Line.{save_line, saved_in}
use Rattle.bx_journal_format.specs.Spelled.{EntryLines, GiveRuns, entry_in, entry_lines, runs_behind}
use Rattle.bx_journal_format.specs.Text.{Entry, Stage, Between, Saving, Ending, Reading, Split, ended, text_of_lines, split, start, after_lines}
use Rattle.bx_journal_format.specs.read.Event.{kept_with}
use Rattle.bx_journal_format.specs.read.Followed.{AreFullSaved, BeginsFull}
use Rattle.bx_journal_format.specs.count.Marks.{GoOnWith, IsBegun, IsMarked, IsMarkedOn, ended_mark, mark_of, marks_of, lines_size}
use Rattle.bx_journal_format.specs.read.Plain.{HasNoNewline}
use Rattle.bx_journal_format.specs.count.Rows.{SumsTo, summed_of, with_more}
use Rattle.bx_journal_format.specs.count.Tally.{AreFullAt, place_of}
use Rattle.bx_journal_format.proofs.Foreign.{joined_lines}
use Rattle.bx_journal_format.proofs.FullLemmas.{full_first, full_sums_at}
use Rattle.bx_journal_format.proofs.RangeSteps.{behind_some, runs_behind-append}
use Rattle.bx_journal_format.proofs.Runs.{after_lines-append}
use Rattle.bx_journal_format.proofs.Splits.{split-append, split-ended}
use Rattle.bx_journal_format.proofs.TallyLemmas.{HasForm, IsFirstLine, has_form, last, line_taken, take_sum}

-- nothing was read
pub marked_none : (s : Summed) → s ≡ summed_of start → IsMarked [] (record { sums = s; from = 0; to = 0 }) []
unfolding split after_lines entry_lines marks_of
marked_none s none = record {
  reading = start;
  reads = refl;
  whole = refl;
  is = sym none;
  entries = [];
  are = refl;
  behind = [];
  lines = refl;
  goes_on = refl;
  runs = tt;
  marks_are = refl;
}

-- one line more
module _ (text line : List ℕ) (marks : List Mark) (now : Marking) (sums : Summed) (h : IsMarked text now marks) (plain : HasNoNewline line) (lead : SumsTo h.reading line sums) where
  abbrev q : Reading
  q = lead.reading

  parts : split (text ++ ended line) ≡ record { lines = (split text).lines ++ line ∷ []; rest = [] }
  unfolding split
  parts = split-append text (ended line) h.whole ∙ ap (λ (s : Split). record { lines = (split text).lines ++ s.lines; rest = s.rest }) (split-ended line [] plain)

  lines_are : (split (text ++ ended line)).lines ≡ (split text).lines ++ line ∷ []
  lines_are = ap (λ (s : Split). s.lines) parts

  whole_is : (split (text ++ ended line)).rest ≡ []
  whole_is = ap (λ (s : Split). s.rest) parts

  -- how many bytes all lines have
  size_is : (ls : List (List ℕ)) (after : ℕ) → (split text).lines ++ line ∷ [] ≡ ls → after ≡ length text + length line + 1 → after ≡ lines_size ls
  size_is ls after is long =
      let all : text_of_lines ls ≡ text ++ ended line = ap text_of_lines (sym (lines_are ∙ is)) ∙ joined_lines (text ++ ended line) whole_is in
      omega (arith, long, ap length all, length-append text (ended line), length-append line (10 ∷ []))

  marked : (from to : ℕ) (es : List EntryLines) (behind : List (List ℕ)) (new : List Mark) → map entry_in es ≡ q.entries → (split text).lines ++ line ∷ [] ≡ entry_lines es ++ behind
      → GoOnWith es q.stage behind from to → GiveRuns es → new ≡ marks_of es → IsMarked (text ++ ended line) (record { sums = sums; from = from; to = to }) new
  marked from to es behind new are lines goes_on runs marks_are = record {
    reading = q;
    reads = ap (after_lines start) lines_are ∙ after_lines-append start h.reading (split text).lines (line ∷ []) h.reads ∙ last h.reading q line lead.leads;
    whole = whole_is;
    is = lead.is;
    entries = es;
    are = are;
    behind = behind;
    lines = lines_are ∙ lines;
    goes_on = goes_on;
    runs = runs;
    marks_are = marks_are;
  }

  place_is : place_of q.stage ≡ sums.tally.place
  place_is = ap (λ (s : Summed). s.tally.place) lead.is

  -- a place that ends no entry adds no mark
  no_mark : (m : Marking) (stage : Stage) → q.stage ≡ stage → ended_mark (place_of stage) m ≡ [] → marks ++ ended_mark sums.tally.place m ≡ marks_of h.entries
  no_mark m stage is none = ap (λ p. marks ++ ended_mark p m) (sym place_is ∙ ap place_of is) ∙ ap (λ ms. marks ++ ms) none ∙ append-nil marks ∙ h.marks_are

  number_is : suc (length h.reading.entries) ≡ suc (length h.entries)
  number_is = ap suc (sym (ap length h.are) ∙ length-map h.entries entry_in)

  were : (stage : Stage) → h.reading.stage ≡ stage → GoOnWith h.entries stage h.behind now.from now.to
  were stage is = subst (λ s. GoOnWith h.entries s h.behind now.from now.to) is h.goes_on

  lines_more : (behind : List (List ℕ)) → h.behind ++ line ∷ [] ≡ behind → (split text).lines ++ line ∷ [] ≡ entry_lines h.entries ++ behind
  lines_more behind is = ap (λ ls. ls ++ line ∷ []) h.lines ∙ append_assoc (entry_lines h.entries) h.behind (line ∷ []) ∙ ap (λ ls. entry_lines h.entries ++ ls) is

  abbrev Goes : ℕ → ℕ → Type 0
  Goes from to = IsMarked (text ++ ended line) (record { sums = sums; from = from; to = to }) (marks ++ ended_mark sums.tally.place (record { sums = sums; from = from; to = to }))

  -- a line that begins an entry
  pub marked_start : (v : Version) (len after : ℕ) → h.reading.stage ≡ Between → q ≡ record { entries = h.reading.entries; stage = Saving v (record { len = len; runs = [] }) }
      → after ≡ length text + length line + 1 → Goes after after
  unfolding runs_behind
  marked_start v len after between q_is long =
      let s : Kept = record { len = len; runs = [] } in
      let stage_is : q.stage ≡ Saving v s = ap (λ (r : Reading). r.stage) q_is in
      let none : h.behind ≡ [] = were Between between in
      let behind : h.behind ++ line ∷ [] ≡ line ∷ [] = ap (λ ls. ls ++ line ∷ []) none in
      let all = lines_more (line ∷ []) behind in
      let begun : IsBegun h.entries s.len s.runs [] (line ∷ []) after after = record {
        first = line;
        saved = [];
        is = refl;
        begins = size_is (entry_lines h.entries ++ line ∷ []) after all long;
        ends = size_is (entry_lines h.entries ++ line ∷ []) after all long;
        runs = refl;
      } in
      marked after after h.entries (line ∷ []) (marks ++ ended_mark sums.tally.place (record { sums = sums; from = after; to = after }))
      (h.are ∙ sym (ap (λ (r : Reading). r.entries) q_is)) all (subst (λ z. GoOnWith h.entries z (line ∷ []) after after) (sym stage_is) begun) h.runs
      (no_mark (record { sums = sums; from = after; to = after }) (Saving v s) stage_is refl)

  -- the save line
  pub marked_save : (v : Version) (s : Kept) → h.reading.stage ≡ Saving v s → q ≡ record { entries = h.reading.entries; stage = Ending v s } → line ≡ save_line (suc (length h.reading.entries)) → Goes now.from now.to
  marked_save v s was q_is save =
      let b : IsBegun h.entries s.len s.runs [] h.behind now.from now.to = were (Saving v s) was in
      let stage_is : q.stage ≡ Ending v s = ap (λ (r : Reading). r.stage) q_is in
      let tail : List (List ℕ) = save_line (suc (length h.entries)) ∷ [] in
      let line_is : line ≡ save_line (suc (length h.entries)) = save ∙ ap save_line number_is in
      let behind : h.behind ++ line ∷ [] ≡ b.first ∷ (b.saved ++ tail) =
      ap (λ ls. ls ++ line ∷ []) b.is ∙ ap (λ ls. b.first ∷ (ls ++ line ∷ [])) (append-nil b.saved) ∙ ap (λ l. b.first ∷ (b.saved ++ l ∷ [])) line_is in
      let begun : IsBegun h.entries s.len s.runs tail (b.first ∷ (b.saved ++ tail)) now.from now.to = record { first = b.first; saved = b.saved; is = refl; begins = b.begins; ends = b.ends; runs = b.runs } in
      marked now.from now.to h.entries (b.first ∷ (b.saved ++ tail)) (marks ++ ended_mark sums.tally.place (record { sums = sums; from = now.from; to = now.to }))
      (h.are ∙ sym (ap (λ (r : Reading). r.entries) q_is)) (lines_more (b.first ∷ (b.saved ++ tail)) behind)
      (subst (λ z. GoOnWith h.entries z (b.first ∷ (b.saved ++ tail)) now.from now.to) (sym stage_is) begun) h.runs
      (no_mark (record { sums = sums; from = now.from; to = now.to }) (Ending v s) stage_is refl)

  -- a saved line
  pub marked_line : (v : Version) (s : Kept) (p : Run) (after : ℕ) → h.reading.stage ≡ Saving v s → q ≡ record { entries = h.reading.entries; stage = Saving v (kept_with s p) } → saved_in s.len line ≡ Some p
      → after ≡ length text + length line + 1 → Goes now.from after
  marked_line v s p after was q_is gives long =
      let b : IsBegun h.entries s.len s.runs [] h.behind now.from now.to = were (Saving v s) was in
      let t : Kept = kept_with s p in
      let stage_is : q.stage ≡ Saving v t = ap (λ (r : Reading). r.stage) q_is in
      let saved : List (List ℕ) = b.saved ++ line ∷ [] in
      let lines : List (List ℕ) = b.first ∷ (saved ++ []) in
      let behind : h.behind ++ line ∷ [] ≡ lines =
      ap (λ ls. ls ++ line ∷ []) b.is ∙ ap (λ ls. b.first ∷ (ls ++ line ∷ [])) (append-nil b.saved) ∙ ap (λ ls. b.first ∷ ls) (sym (append-nil saved)) in
      let all = lines_more lines behind in
      let bare : entry_lines h.entries ++ lines ≡ entry_lines h.entries ++ b.first ∷ saved = ap (λ ls. entry_lines h.entries ++ b.first ∷ ls) (append-nil saved) in
      let begun : IsBegun h.entries t.len t.runs [] lines now.from after = record {
        first = b.first;
        saved = saved;
        is = refl;
        begins = b.begins;
        ends = size_is (entry_lines h.entries ++ b.first ∷ saved) after (all ∙ bare) long;
        runs = ap (λ rs. with_run rs p) b.runs ∙ sym (behind_some s.len (runs_behind s.len [] b.saved) line p gives) ∙ sym (runs_behind-append s.len [] b.saved (line ∷ []));
      } in
      marked now.from after h.entries lines (marks ++ ended_mark sums.tally.place (record { sums = sums; from = now.from; to = after }))
      (h.are ∙ sym (ap (λ (r : Reading). r.entries) q_is)) all (subst (λ z. GoOnWith h.entries z lines now.from after) (sym stage_is) begun) h.runs
      (no_mark (record { sums = sums; from = now.from; to = after }) (Saving v t) stage_is refl)

  -- a line that ends an entry
  pub marked_end : (v : Version) (s : Kept) (told : Option ℕ) → h.reading.stage ≡ Ending v s → q ≡ record { entries = record { saved = s; after = told } ∷ h.reading.entries; stage = Between } → Goes now.from now.to
  unfolding entry_lines marks_of
  marked_end v s told was q_is =
      let b : IsBegun h.entries s.len s.runs (save_line (suc (length h.entries)) ∷ []) h.behind now.from now.to = were (Ending v s) was in
      let entry : Entry = record { saved = s; after = told } in
      let stage_is : q.stage ≡ Between = ap (λ (r : Reading). r.stage) q_is in
      let c : EntryLines = record { entry = entry; first = b.first; saved = b.saved; last = line } in
      let sums_are : summed_of (record { entries = entry ∷ h.reading.entries; stage = Between }) ≡ sums = ap summed_of (sym q_is) ∙ lead.is in
      let behind : h.behind ++ line ∷ [] ≡ b.first ∷ (b.saved ++ save_line (suc (length h.entries)) ∷ line ∷ []) =
      ap (λ ls. ls ++ line ∷ []) b.is ∙ ap (λ ls. b.first ∷ ls) (append_assoc b.saved (save_line (suc (length h.entries)) ∷ []) (line ∷ [])) in
      let mark : mark_of h.entries c ≡ record { from = now.from; to = now.to; len = sums.len; after = sums.tally.told; saved = sums.saved } =
      ap (λ n. record { from = n; to = lines_size (entry_lines h.entries ++ b.first ∷ b.saved); len = s.len; after = told; saved = (summed_of (record { entries = entry ∷ h.reading.entries; stage = Between })).saved }) (sym b.begins)
      ∙ ap (λ n. record { from = now.from; to = n; len = s.len; after = told; saved = (summed_of (record { entries = entry ∷ h.reading.entries; stage = Between })).saved }) (sym b.ends)
      ∙ ap (λ (z : Summed). record { from = now.from; to = now.to; len = z.len; after = z.tally.told; saved = z.saved }) sums_are in
      let pushed : marks ++ ended_mark sums.tally.place (record { sums = sums; from = now.from; to = now.to }) ≡ marks_of h.entries ++ mark_of h.entries c ∷ [] =
      ap (λ p. marks ++ ended_mark p (record { sums = sums; from = now.from; to = now.to })) (sym place_is ∙ ap place_of stage_is)
      ∙ ap (λ ms. ms ++ record { from = now.from; to = now.to; len = sums.len; after = sums.tally.told; saved = sums.saved } ∷ []) h.marks_are
      ∙ ap (λ m. marks_of h.entries ++ m ∷ []) (sym mark) in
      marked now.from now.to (c ∷ h.entries) [] (marks ++ ended_mark sums.tally.place (record { sums = sums; from = now.from; to = now.to }))
      (ap (λ es. entry ∷ es) h.are ∙ sym (ap (λ (r : Reading). r.entries) q_is))
      (lines_more (b.first ∷ (b.saved ++ save_line (suc (length h.entries)) ∷ line ∷ [])) behind ∙ sym (append-nil (entry_lines (c ∷ h.entries))))
      (subst (λ z. GoOnWith (c ∷ h.entries) z [] now.from now.to) (sym stage_is) refl) (b.runs, h.runs) pushed

-- one line more of a window
pub marked_more : (front window rest : List ℕ) (taken i : ℕ) (now next : Marking) (marks new : List Mark) → IsMarked (front ++ take taken window) now marks → rest ≡ drop taken window → IsFirstLine rest i
    → (IsMarked (front ++ take taken window) now marks → IsMarked ((front ++ take taken window) ++ ended (take i rest)) next (marks ++ ended_mark next.sums.tally.place next))
    → new ≡ marks ++ ended_mark next.sums.tally.place next → IsMarked (front ++ take (taken + (i + 1)) window) next new
marked_more front window rest taken i now next marks new h left f more pushed =
    let taken_is : take (taken + (i + 1)) window ≡ take taken window ++ ended (take i rest) =
    take_sum taken (i + 1) window ∙ ap (λ l. take taken window ++ take (i + 1) l) (sym left) ∙ ap (λ l. take taken window ++ l) (line_taken rest i f) in
    let same : front ++ take (taken + (i + 1)) window ≡ (front ++ take taken window) ++ ended (take i rest) =
    ap (λ l. front ++ l) taken_is ∙ sym (append_assoc front (take taken window) (ended (take i rest))) in
    subst (λ l. IsMarked l next new) (sym same) (subst (IsMarked ((front ++ take taken window) ++ ended (take i rest)) next) (sym pushed) (more h))

-- no line of a window
pub marked_same : (front window : List ℕ) (m : Marking) (marks : List Mark) → IsMarked front m marks → IsMarked (front ++ take 0 window) m marks
marked_same front window m marks h = subst (λ l. IsMarked l m marks) (sym (append-nil front)) h

-- among saved lines the last of them ends where the text does
to_is : (text : List ℕ) (marks : List Mark) (m : Marking) (v : Version) (n : ℕ) → m.sums.tally.place ≡ SavingPlace v n → IsMarked text m marks → m.to ≡ length text
to_is text marks m v n at h =
    let was : HasForm h.reading.stage (SavingPlace v n) = has_form h.reading.stage (SavingPlace v n) (ap (λ (s : Summed). s.tally.place) h.is ∙ at) in
    let s : Kept = was.0 in
    let b : IsBegun h.entries s.len s.runs [] h.behind m.from m.to = subst (λ z. GoOnWith h.entries z h.behind m.from m.to) was.1 h.goes_on in
    let lines : (split text).lines ≡ entry_lines h.entries ++ b.first ∷ b.saved = h.lines ∙ ap (λ ls. entry_lines h.entries ++ ls) (b.is ∙ ap (λ ls. b.first ∷ ls) (append-nil b.saved)) in
    b.ends ∙ ap length (ap text_of_lines (sym lines) ∙ joined_lines text h.whole)

-- k full lines more
marked_by : (front text : List ℕ) (m : Marking) (marks : List Mark) (v : Version) (len count k : ℕ) → m.sums.tally.place ≡ SavingPlace v len → AreFullSaved len text count → k ≤ count
    → IsMarked front m marks → IsMarked (front ++ take (68 * k) text) (record { sums = with_more m.sums (16 * k); from = m.from; to = m.to + 68 * k }) marks
marked_by front text m marks v len count zero place so below h =
    let saved : m.sums.saved ≡ m.sums.saved + 16 * 0 = omega arith in
    let to : m.to ≡ m.to + 68 * 0 = omega arith in
    subst (λ l. IsMarked l (record { sums = with_more m.sums (16 * 0); from = m.from; to = m.to + 68 * 0 }) marks) (sym (append-nil front))
    (subst (λ n. IsMarked front (record { sums = record { tally = m.sums.tally; len = m.sums.len; saved = n }; from = m.from; to = m.to + 68 * 0 }) marks) saved
    (subst (λ n. IsMarked front (record { sums = m.sums; from = m.from; to = n }) marks) to h))
marked_by front text m marks v len count (suc k) place so below h =
    let rest : List ℕ = drop (68 * k) text in
    let begins = so.each k (omega (arith, below)) in
    let all : List ℕ = front ++ take (68 * k) text in
    let now : Marking = record { sums = with_more m.sums (16 * k); from = m.from; to = m.to + 68 * k } in
    let next : Summed = with_more now.sums 16 in
    let after : ℕ = m.to + 68 * suc k in
    let before : IsMarked all now marks = marked_by front text m marks v len count k place so (omega (arith, below)) h in
    let long : after ≡ length all + length (take 67 rest) + 1 = omega (arith, to_is all marks now v len place before, length-take 67 rest, begins.3.long) in
    let was : HasForm before.reading.stage (SavingPlace v len) = has_form before.reading.stage (SavingPlace v len) (ap (λ (s : Summed). s.tally.place) before.is ∙ place) in
    let full : BeginsFull was.0.len rest = subst (λ n. BeginsFull n rest) (sym was.2) begins in
    let line = marked_line all (take 67 rest) marks now next before begins.3.plain (full_sums_at before.reading now.sums v was.0 rest before.is was.1 full)
    v was.0 (record { at = full.0; bytes = full.1 }) after was.1 refl full.3.saved long in
    let at : IsMarked (all ++ ended (take 67 rest)) (record { sums = next; from = m.from; to = after }) (marks ++ []) =
    subst (λ p. IsMarked (all ++ ended (take 67 rest)) (record { sums = next; from = m.from; to = after }) (marks ++ ended_mark p (record { sums = next; from = m.from; to = after }))) place line in
    let size : 68 * suc k ≡ 68 * k + 68 = omega arith in
    let saved : m.sums.saved + 16 * k + 16 ≡ m.sums.saved + 16 * suc k = omega arith in
    let end : take (68 * k) text ++ ended (take 67 rest) ≡ take (68 * suc k) text =
    sym (ap (λ n. take n text) size ∙ take_sum (68 * k) 68 text ∙ ap (λ l. take (68 * k) text ++ l) (line_taken rest 67 (full_first len begins.0 rest begins.1 begins.3))) in
    let whole : all ++ ended (take 67 rest) ≡ front ++ take (68 * suc k) text = append_assoc front (take (68 * k) text) (ended (take 67 rest)) ∙ ap (λ l. front ++ l) end in
    subst (λ n. IsMarked (front ++ take (68 * suc k) text) (record { sums = record { tally = m.sums.tally; len = m.sums.len; saved = n }; from = m.from; to = after }) marks) saved
    (subst (λ l. IsMarked l (record { sums = next; from = m.from; to = after }) marks) whole
    (subst (IsMarked (all ++ ended (take 67 rest)) (record { sums = next; from = m.from; to = after })) (append-nil marks) at))

-- full lines at a place add no mark
full_marked : (front text : List ℕ) (m : Marking) (marks : List Mark) (count : ℕ) → AreFullAt m.sums.tally.place text count → IsMarked front m marks
    → IsMarked (front ++ take (68 * count) text) (record { sums = with_more m.sums (16 * count); from = m.from; to = m.to + 68 * count }) marks
full_marked front text m marks count so h = by m.sums.tally.place refl so
  where
    none : count ≡ 0 → IsMarked (front ++ take (68 * count) text) (record { sums = with_more m.sums (16 * count); from = m.from; to = m.to + 68 * count }) marks
    none is =
        let saved : m.sums.saved ≡ m.sums.saved + 16 * 0 = omega arith in
        let to : m.to ≡ m.to + 68 * 0 = omega arith in
        subst (λ c. IsMarked (front ++ take (68 * c) text) (record { sums = with_more m.sums (16 * c); from = m.from; to = m.to + 68 * c }) marks) (sym is)
        (subst (λ l. IsMarked l (record { sums = with_more m.sums (16 * 0); from = m.from; to = m.to + 68 * 0 }) marks) (sym (append-nil front))
        (subst (λ n. IsMarked front (record { sums = record { tally = m.sums.tally; len = m.sums.len; saved = n }; from = m.from; to = m.to + 68 * 0 }) marks) saved
        (subst (λ n. IsMarked front (record { sums = m.sums; from = m.from; to = n }) marks) to h)))

    by : (p : Place) → m.sums.tally.place ≡ p → AreFullAt p text count
        → IsMarked (front ++ take (68 * count) text) (record { sums = with_more m.sums (16 * count); from = m.from; to = m.to + 68 * count }) marks
    by BetweenPlace place so = none so
    by (SavingPlace v len) place so = marked_by front text m marks v len count count place so (omega arith) h
    by (EndingPlace v) place so = none so

-- the same behind a part of a window
pub marked_full : (front window rest : List ℕ) (m next : Marking) (marks : List Mark) (taken count : ℕ) → rest ≡ drop taken window → AreFullAt m.sums.tally.place rest count → IsMarkedOn m count next
    → IsMarked (front ++ take taken window) m marks → IsMarked (front ++ take (taken + 68 * count) window) next marks
marked_full front window rest m next marks taken count left so more h =
    let end : take taken window ++ take (68 * count) rest ≡ take (taken + 68 * count) window = ap (λ l. take taken window ++ take (68 * count) l) left ∙ sym (take_sum taken (68 * count) window) in
    let whole : (front ++ take taken window) ++ take (68 * count) rest ≡ front ++ take (taken + 68 * count) window = append_assoc front (take taken window) (take (68 * count) rest) ∙ ap (λ l. front ++ l) end in
    subst (λ w. IsMarked (front ++ take (taken + 68 * count) window) w marks) (sym more)
    (subst (λ l. IsMarked l (record { sums = with_more m.sums (16 * count); from = m.from; to = m.to + 68 * count }) marks) whole (full_marked (front ++ take taken window) rest m marks count so h))
