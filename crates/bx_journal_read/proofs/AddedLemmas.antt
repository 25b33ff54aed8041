-- Saved lines that are shown: a line more, and a window more.
use Rattle.std.proofs.Common.{◌≡◌, ℕ, ◌+◌, ◌-◌, ◌≤◌, List, [], ◌∷◌, ◌++◌, length, take, drop, refl, ap, sym, ◌∙◌, subst, arith, append_assoc, append-nil, Option}
use Rattle.std.proofs.KnownBytes.{Appends-nil, Appends-trans}
use Rattle.std.proofs.lemmas.Grind.{flat_map-append}
use Rattle.std.specs.Prelude.{flat_map}
use Rattle.std.specs.Io.KnownBytes.{Appends}
use Rattle.bx_journal_format.specs.Spelled.{EntryLines, entry_lines}
use Rattle.bx_journal_format.specs.Text.{Split, ended, text_of_lines, split}
use Rattle.bx_journal_format.specs.count.Marks.{mark_of}
use Rattle.bx_journal_format.proofs.Damage.{split_joined}
use Rattle.bx_journal_format.proofs.ReadLoop.{drop_twice}
use Rattle.bx_journal_format.proofs.Splits.{AllPlain, split-append, split-ended}
use Rattle.bx_journal_format.proofs.TallyLemmas.{IsFirstLine, line_taken, take_sum}
use Rattle.bx_journal_read.specs.declared.show.fault.ShowFault.{ShowFault}
use Rattle.bx_journal_read.specs.show.Differences.{shown_between, AreAdded, AreWritten}
use Rattle.bx_journal_read.specs.show.Stopping.{CountsBytes, StopsPrefix}
use Rattle.bx_journal_read.proofs.StopLemmas.{counts_both, stops_first, stops_later}
use Rattle.bx_journal_read.specs.show.Showing.{lines_at}
use Rattle.bx_journal_read.proofs.RowTexts.{lines_there}
use Rattle.bx_journal_model.proofs.WindowBytes.{front_of}

-- no line yet
pub added_none : (show : List ℕ → List ℕ) (window text : List ℕ) → AreAdded show window 0 text text
unfolding split
added_none show window text = record { whole = refl; added = sym (append-nil text) }

-- a line more
pub added_next : (show : List ℕ → List ℕ) (window rest : List ℕ) (taken i : ℕ) (old mid new : List ℕ) → AreAdded show window taken old mid → rest ≡ drop taken window → IsFirstLine rest i
    → new ≡ mid ++ show (take i rest) → AreAdded show window (taken + (i + 1)) old new
unfolding split
added_next show window rest taken i old mid new before left f more =
    let taken_is : take (taken + (i + 1)) window ≡ take taken window ++ ended (take i rest) =
    take_sum taken (i + 1) window ∙ ap (λ l. take taken window ++ take (i + 1) l) (sym left) ∙ ap (λ l. take taken window ++ l) (line_taken rest i f) in
    let one : split (ended (take i rest)) ≡ record { lines = take i rest ∷ []; rest = [] } = split-ended (take i rest) [] f.plain in
    let parts : split (take (taken + (i + 1)) window) ≡ record { lines = (split (take taken window)).lines ++ take i rest ∷ []; rest = [] } =
    ap split taken_is ∙ split-append (take taken window) (ended (take i rest)) before.whole ∙ ap (λ (s : Split). record { lines = (split (take taken window)).lines ++ s.lines; rest = s.rest }) one in
    let text : flat_map show (split (take (taken + (i + 1)) window)).lines ≡ flat_map show (split (take taken window)).lines ++ show (take i rest) =
    ap (λ (s : Split). flat_map show s.lines) parts ∙ flat_map-append show (split (take taken window)).lines (take i rest ∷ [])
    ∙ ap (λ t. flat_map show (split (take taken window)).lines ++ t) (append-nil (show (take i rest))) in
    record {
      whole = ap (λ (s : Split). s.rest) parts;
      added = more ∙ ap (λ t. t ++ show (take i rest)) before.added
          ∙ append_assoc old (flat_map show (split (take taken window)).lines) (show (take i rest)) ∙ ap (λ t. old ++ t) (sym text);
    }

-- the lines between three places of a stored text
shown_parts : (show : List ℕ → List ℕ) (stored : List ℕ) (from mid to : ℕ) → from ≤ mid → mid ≤ to → (split (take (mid - from) (drop from stored))).rest ≡ []
    → shown_between show stored from to ≡ shown_between show stored from mid ++ shown_between show stored mid to
shown_parts show stored from mid to behind on whole =
    let a : List ℕ = take (mid - from) (drop from stored) in
    let b : List ℕ = take (to - mid) (drop mid stored) in
    let sum : to - from ≡ (mid - from) + (to - mid) = omega (arith, behind, on) in
    let place : from + (mid - from) ≡ mid = omega (arith, behind) in
    let bytes : take (to - from) (drop from stored) ≡ take (mid - from) (drop from stored) ++ take (to - mid) (drop mid stored) =
    ap (λ n. take n (drop from stored)) sum ∙ take_sum (mid - from) (to - mid) (drop from stored)
    ∙ ap (λ l. take (mid - from) (drop from stored) ++ take (to - mid) l) (drop_twice from (mid - from) stored)
    ∙ ap (λ n. take (mid - from) (drop from stored) ++ take (to - mid) (drop n stored)) place in
    ap (flat_map show) (ap (λ t. (split t).lines) bytes ∙ ap (λ (s : Split). s.lines) (split-append a b whole)) ∙ flat_map-append show (split a).lines (split b).lines

-- what was gathered of a window that was read
window_text : (show : List ℕ → List ℕ) (window stored : List ℕ) (at taken size : ℕ) (old text : List ℕ) → taken ≤ length window → window ≡ take size (drop at stored) → old ≡ []
    → AreAdded show window taken old text → text ≡ shown_between show stored at (at + taken)
window_text show window stored at taken size old text within is empty added =
    let count : (at + taken) - at ≡ taken = omega arith in
    let bytes : take taken window ≡ take ((at + taken) - at) (drop at stored) = front_of taken size window (drop at stored) within is ∙ ap (λ n. take n (drop at stored)) (sym count) in
    added.added ∙ ap (λ t. t ++ flat_map show (split (take taken window)).lines) empty ∙ ap (λ l. flat_map show (split l).lines) bytes

-- it was counted
pub window_counted : (show : List ℕ → List ℕ) (window stored : List ℕ) (at taken size : ℕ) (old text : List ℕ) (before after : ℕ) → taken ≤ length window → window ≡ take size (drop at stored) → old ≡ []
    → AreAdded show window taken old text → CountsBytes before text after → CountsBytes before (shown_between show stored at (at + taken)) after
window_counted show window stored at taken size old text before after within is empty added counted =
    subst (λ t. CountsBytes before t after) (window_text show window stored at taken size old text within is empty added) counted

-- it was stopped: behind it the lines go on up to a place
pub window_stopped : (show : List ℕ → List ℕ) (window stored : List ℕ) (at taken size to : ℕ) (old text : List ℕ) (before : ℕ) (w0 w1 : Option (List ℕ)) (fault : ShowFault) → taken ≤ length window
    → window ≡ take size (drop at stored) → old ≡ [] → AreAdded show window taken old text → at + taken ≤ to → StopsPrefix before text w0 w1 fault
    → StopsPrefix before (shown_between show stored at to) w0 w1 fault
window_stopped show window stored at taken size to old text before w0 w1 fault within is empty added inside stop =
    let count : (at + taken) - at ≡ taken = omega arith in
    let bytes : take taken window ≡ take ((at + taken) - at) (drop at stored) = front_of taken size window (drop at stored) within is ∙ ap (λ n. take n (drop at stored)) (sym count) in
    let whole : (split (take ((at + taken) - at) (drop at stored))).rest ≡ [] = ap (λ l. (split l).rest) (sym bytes) ∙ added.whole in
    let here : StopsPrefix before (shown_between show stored at (at + taken)) w0 w1 fault =
    subst (λ t. StopsPrefix before t w0 w1 fault) (window_text show window stored at taken size old text within is empty added) stop in
    subst (λ t. StopsPrefix before t w0 w1 fault) (sym (shown_parts show stored at (at + taken) to (omega arith) inside whole))
    (stops_first before (shown_between show stored at (at + taken)) (shown_between show stored (at + taken) to) w0 w1 fault here)

-- no window was counted
pub counted_none : (show : List ℕ → List ℕ) (stored : List ℕ) (at before : ℕ) → CountsBytes before (shown_between show stored at at) before
unfolding split
counted_none show stored at before few =
    let none : at - at ≡ 0 = omega arith in
    let empty : length (shown_between show stored at at) ≡ 0 = ap (λ n. length (flat_map show (split (take n (drop at stored))).lines)) none in
    omega (arith, empty)

-- one more was, of a text that is the same as before
pub counted_more : (show : List ℕ → List ℕ) (stored text : List ℕ) (from mid to before now after : ℕ) (w0 w1 : Option (List ℕ)) → from ≤ mid → mid ≤ to → text ≡ stored → AreWritten show stored from mid w0 w1
    → CountsBytes before (shown_between show stored from mid) now → CountsBytes now (shown_between show text mid to) after → CountsBytes before (shown_between show stored from to) after
counted_more show stored text from mid to before now after w0 w1 behind on same written first next =
    subst (λ t. CountsBytes before t after) (sym (shown_parts show stored from mid to behind on written.whole))
    (counts_both before now after (shown_between show stored from mid) (shown_between show stored mid to) first (subst (λ t. CountsBytes now (shown_between show t mid to) after) same next))

-- one more was stopped
pub stopped_more : (show : List ℕ → List ℕ) (stored text : List ℕ) (from mid to before now : ℕ) (w0 w1 w2 : Option (List ℕ)) (fault : ShowFault) → from ≤ mid → mid ≤ to → text ≡ stored
    → AreWritten show stored from mid w0 w1 → CountsBytes before (shown_between show stored from mid) now → StopsPrefix now (shown_between show text mid to) w1 w2 fault
    → StopsPrefix before (shown_between show stored from to) w0 w2 fault
stopped_more show stored text from mid to before now w0 w1 w2 fault behind on same written counted stop =
    subst (λ t. StopsPrefix before t w0 w2 fault) (sym (shown_parts show stored from mid to behind on written.whole))
    (stops_later before now (shown_between show stored from mid) (shown_between show stored mid to) w0 w1 w2 fault written.written counted
    (subst (λ t. StopsPrefix now (shown_between show t mid to) w1 w2 fault) same stop))

-- the lines of a window that was read were written
pub written_window : (show : List ℕ → List ℕ) (window stored : List ℕ) (at taken size : ℕ) (old text : List ℕ) (w0 w1 : Option (List ℕ)) → taken ≤ length window → window ≡ take size (drop at stored) → old ≡ []
    → AreAdded show window taken old text → Appends w0 w1 text → AreWritten show stored at (at + taken) w0 w1
written_window show window stored at taken size old text w0 w1 within is empty added put =
    let count : (at + taken) - at ≡ taken = omega arith in
    let bytes : take taken window ≡ take ((at + taken) - at) (drop at stored) = front_of taken size window (drop at stored) within is ∙ ap (λ n. take n (drop at stored)) (sym count) in
    let text_is : text ≡ flat_map show (split (take ((at + taken) - at) (drop at stored))).lines =
    added.added ∙ ap (λ t. t ++ flat_map show (split (take taken window)).lines) empty ∙ ap (λ l. flat_map show (split l).lines) bytes in
    record { whole = ap (λ l. (split l).rest) (sym bytes) ∙ added.whole; written = subst (Appends w0 w1) text_is put }

-- no window yet
pub written_none : (show : List ℕ → List ℕ) (stored : List ℕ) (at : ℕ) (w : Option (List ℕ)) → AreWritten show stored at at w w
unfolding split
written_none show stored at w =
    let none : at - at ≡ 0 = omega arith in
    record {
      whole = ap (λ n. (split (take n (drop at stored))).rest) none;
      written = subst (λ n. Appends w w (flat_map show (split (take n (drop at stored))).lines)) (sym none) (Appends-nil w);
    }

-- a window more
pub written_more : (show : List ℕ → List ℕ) (stored : List ℕ) (from mid to : ℕ) (w0 w1 w2 : Option (List ℕ)) → from ≤ mid → mid ≤ to → AreWritten show stored from mid w0 w1 → AreWritten show stored mid to w1 w2
    → AreWritten show stored from to w0 w2
written_more show stored from mid to w0 w1 w2 behind on first next =
    let a : List ℕ = take (mid - from) (drop from stored) in
    let b : List ℕ = take (to - mid) (drop mid stored) in
    let sum : to - from ≡ (mid - from) + (to - mid) = omega (arith, behind, on) in
    let place : from + (mid - from) ≡ mid = omega (arith, behind) in
    let bytes : take (to - from) (drop from stored) ≡ take (mid - from) (drop from stored) ++ take (to - mid) (drop mid stored) =
    ap (λ n. take n (drop from stored)) sum ∙ take_sum (mid - from) (to - mid) (drop from stored)
    ∙ ap (λ l. take (mid - from) (drop from stored) ++ take (to - mid) l) (drop_twice from (mid - from) stored)
    ∙ ap (λ n. take (mid - from) (drop from stored) ++ take (to - mid) (drop n stored)) place in
    let parts : split (take (to - from) (drop from stored)) ≡ record { lines = (split a).lines ++ (split b).lines; rest = (split b).rest } = ap split bytes ∙ split-append a b first.whole in
    let text : flat_map show (split (take (to - from) (drop from stored))).lines ≡ flat_map show (split a).lines ++ flat_map show (split b).lines =
    ap (λ (s : Split). flat_map show s.lines) parts ∙ flat_map-append show (split a).lines (split b).lines in
    record {
      whole = ap (λ (s : Split). s.rest) parts ∙ next.whole;
      written = subst (Appends w0 w2) (sym text) (Appends-trans w0 w1 w2 (flat_map show (split a).lines) (flat_map show (split b).lines) first.written next.written);
    }

-- what was written of a text that is the same as before
pub written_from : (show : List ℕ → List ℕ) (stored text : List ℕ) (from to : ℕ) (w0 w1 : Option (List ℕ)) → text ≡ stored → AreWritten show text from to w0 w1 → AreWritten show stored from to w0 w1
written_from show stored text from to w0 w1 same written = subst (λ t. AreWritten show t from to w0 w1) same written

-- the lines of an entry's mark are its saved lines
pub shown_there : (show : List ℕ → List ℕ) (older : List EntryLines) (c : EntryLines) (rest text : List ℕ) → text ≡ text_of_lines (entry_lines (c ∷ older)) ++ rest → AllPlain c.saved
    → flat_map show (split (lines_at text (mark_of older c))).lines ≡ flat_map show c.saved
shown_there show older c rest text is plain =
    ap (λ t. flat_map show (split t).lines) (lines_there older c rest text is) ∙ ap (λ (s : Split). flat_map show s.lines) (split_joined c.saved plain)
