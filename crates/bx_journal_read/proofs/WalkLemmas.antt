-- The lines of a text that was walked along, and what is unfinished at its end.
use Rattle.std.proofs.Common.{◌≡◌, inl, inr, ℕ, ◌+◌, ◌-◌, ◌≤◌, Bool, true, false, List, [], ◌∷◌, ◌++◌, length, length-append, take, drop, length-take, length-drop, refl, ap, sym, ◌∙◌, subst, arith, append-nil, Option, Some, None}
use Rattle.bx_journal_format.specs.Kept.{Kept}
use Rattle.bx_journal_format.specs.Text.{Entry, Stage, Between, Saving, Ending, Reading, Reads, IsRest, text_of_lines, split, start, next_at, after_lines}
use Rattle.bx_journal_format.specs.count.Mark.{IsMark}
use Rattle.bx_journal_format.proofs.Inverse.{bind_some, next_between, next_ending, next_saving}
use Rattle.bx_journal_format.specs.declared.read.count.Tally.{Tally}
use Rattle.bx_journal_format.specs.declared.read.window.Passed.{Passed}
use Rattle.bx_journal_format.specs.declared.format.version.Version.{Version}
use Rattle.bx_journal_format.specs.declared.read.count.Place.TheVariants.{Between as BetweenPlace, Saving as SavingPlace, Ending as EndingPlace}
use Rattle.bx_journal_format.specs.Parsed.{told_by}
use Rattle.bx_journal_format.specs.count.Tally.{IsPassed, IsTallied, place_of, tally_of}
use Rattle.bx_journal_format.proofs.Runs.{after_lines-append}
use Rattle.bx_journal_format.proofs.Splits.{split-append, split-plain}
use Rattle.bx_journal_format.proofs.Foreign.{joined_lines, no_way_back}
use Rattle.bx_journal_format.specs.Finished.{IsFinished}
use Rattle.bx_journal_format.specs.declared.read.types.Front.{Front}
use Rattle.bx_journal_format.specs.read.Plain.{HasNoNewline}
use Rattle.bx_journal_model.specs.declared.mark.Mark.{Mark}
use Rattle.bx_journal_read.specs.declared.scan.count.Walk.{Walk}
use Rattle.bx_journal_read.specs.scan.Recovery.{HasMark, HasTorn}
use Rattle.std.proofs.lemmas.List.{take-append-drop}
use Rattle.bx_journal_model.specs.Restoring.{StandsAt}
use Rattle.bx_journal_read.specs.scan.Windows.{IsFrontCounted, IsWalkedTo}
use Rattle.bx_journal_format.proofs.TallyLemmas.{has_form, take_sum}
use Rattle.bx_journal_model.proofs.RestoreLemmas.{lines_more, same_reading}
use Rattle.bx_journal_model.proofs.StandLemmas.{saving_of}

-- where no entry was finished the finished entries are the same
entries_next : (es : List Entry) (stage : Stage) (line : List ℕ) (q : Reading) → next_at es stage line ≡ Some q → length q.entries ≤ length es → q.entries ≡ es
entries_next es Between line q e le = let b = next_between es line q e in ap (λ (p : Reading). p.entries) b.2
entries_next es (Saving v s) line q e le =
    elim (next_saving es v s line q e) [
      | inl is ↦ ap (λ (p : Reading). p.entries) is.1
      | inr is ↦ ap (λ (p : Reading). p.entries) is.2
    ]
entries_next es (Ending v s) line q e le =
    let n = next_ending es v s line q e in
    absurd (omega (arith, le, ap (λ (p : Reading). length p.entries) n.1))

pub entries_same : (ls : List (List ℕ)) (r q : Reading) → after_lines r ls ≡ Some q → length r.entries ≡ length q.entries → r.entries ≡ q.entries
unfolding after_lines
entries_same [] r q e long = let same : r ≡ q = cc in ap (λ (p : Reading). p.entries) same
entries_same (l ∷ ls) r q e long =
    let b = bind_some (λ p. after_lines p ls) (next_at r.entries r.stage l) q e in
    let more = lines_more ls b.0 q b.2 in
    let first : b.0.entries ≡ r.entries = entries_next r.entries r.stage l b.0 b.1 (omega (arith, more, long)) in
    sym first ∙ entries_same ls b.0 q b.2 (omega (arith, long, ap length first))

-- the lines between two places
pub lines_between : (text : List ℕ) (p q : Reading) (n m : ℕ) → IsMark text n p → IsMark text m q → n ≤ m → after_lines p (split (take (m - n) (drop n text))).lines ≡ Some q
lines_between text p q n m first next le =
    let a : List ℕ = take n text in
    let b : List ℕ = take (m - n) (drop n text) in
    let count : n + (m - n) ≡ m = omega (arith, le) in
    let is : take m text ≡ a ++ b = ap (λ i. take i text) (sym count) ∙ take_sum n (m - n) text in
    let both = ap split is ∙ split-append a b first.whole in
    sym (after_lines-append start p (split a).lines (split b).lines first.lines) ∙ ap (after_lines start) (sym (ap (λ s. s.lines) both)) ∙ next.lines

saving_form : (stage : Stage) (w : Version) (len : ℕ) → place_of stage ≡ SavingPlace w len → (k : Kept) × (stage ≡ Saving w k) × (k.len ≡ len)
saving_form stage w len is = has_form stage (SavingPlace w len) is

-- the first line of an entry records the length of its record
pub len_of : (text window : List ℕ) (from at : ℕ) (r : Reading) (v w : Version) (s : Kept) (len : ℕ) (t : Tally) (p : Passed) → IsMark text from (record { entries = r.entries; stage = Between }) → IsMark text at r
    → tally_of r ≡ t → r.stage ≡ Ending v s → take p.taken window ≡ take p.taken (drop from text) → from + p.taken ≤ at
    → ((front : List ℕ) (n : ℕ) → IsTallied false front (record { count = t.count; told = t.told; place = BetweenPlace }) n → IsPassed false front n window p) → p.tally.place ≡ SavingPlace w len → len ≡ s.len
len_of text window from at r v w s len t p first last is stage bytes within leads place =
    let front : List ℕ = take from text in
    let count : length r.entries ≡ t.count = ap (λ (u : Tally). u.count) is in
    let told : told_by r.entries ≡ t.told = ap (λ (u : Tally). u.told) is in
    let here : IsTallied false front (record { count = t.count; told = t.told; place = BetweenPlace }) (length (split front).lines) = record {
      reading = record { entries = r.entries; stage = Between };
      reads = first.lines;
      whole = first.whole;
      many = refl;
      is = ap (λ n. record { count = n; told = told_by r.entries; place = BetweenPlace }) count ∙ ap (λ m. record { count = t.count; told = m; place = BetweenPlace }) told;
      tell = λ only. absurd (let f : false ≡ true = only in cc);
    } in
    let next = leads front (length (split front).lines) here in
    let q : Reading = next.reading in
    let text_is : front ++ take p.taken window ≡ take (from + p.taken) text = ap (λ u. front ++ u) bytes ∙ sym (take_sum from p.taken text) in
    let mark : IsMark text (from + p.taken) q = record {
      within = omega (arith, within, last.within);
      lines = subst (λ u. after_lines start (split u).lines ≡ Some q) text_is next.reads;
      whole = subst (λ u. (split u).rest ≡ []) text_is next.whole;
    } in
    let up = lines_between text (record { entries = r.entries; stage = Between }) q from (from + p.taken) first mark (omega arith) in
    let on = lines_between text q r (from + p.taken) at mark last within in
    let least = lines_more _ (record { entries = r.entries; stage = Between }) q up in
    let most = lines_more _ q r on in
    let same : q.entries ≡ r.entries = entries_same _ q r on (omega (arith, least, most)) in
    let k = saving_form q.stage w len (ap (λ (u : Tally). u.place) next.is ∙ place) in
    let led : after_lines (record { entries = r.entries; stage = Saving w k.0 }) (split (take (at - (from + p.taken)) (drop (from + p.taken) text))).lines ≡ Some (record { entries = r.entries; stage = Ending v s }) =
    subst (λ st. after_lines (record { entries = r.entries; stage = Saving w k.0 }) (split (take (at - (from + p.taken)) (drop (from + p.taken) text))).lines ≡ Some (record { entries = r.entries; stage = st })) stage
    (subst (λ st. after_lines (record { entries = r.entries; stage = st }) (split (take (at - (from + p.taken)) (drop (from + p.taken) text))).lines ≡ Some r) k.1
    (subst (λ es. after_lines (record { entries = es; stage = q.stage }) (split (take (at - (from + p.taken)) (drop (from + p.taken) text))).lines ≡ Some r) same on)) in
    sym k.2 ∙ (saving_of r.entries w v k.0 s _ led).len

whole_between : (text : List ℕ) (p q : Reading) (n m : ℕ) → IsMark text n p → IsMark text m q → n ≤ m → (split (take (m - n) (drop n text))).rest ≡ []
whole_between text p q n m first next le =
    let a : List ℕ = take n text in
    let b : List ℕ = take (m - n) (drop n text) in
    let count : n + (m - n) ≡ m = omega (arith, le) in
    let is : take m text ≡ a ++ b = ap (λ i. take i text) (sym count) ∙ take_sum n (m - n) text in
    sym (ap (λ s. s.rest) (ap split is ∙ split-append a b first.whole)) ∙ next.whole

no_lines : (ls : List (List ℕ)) → length ls ≡ 0 → length (text_of_lines ls) ≡ 0
no_lines [] h = refl
no_lines (l ∷ ls) h = absurd (omega (arith, h))

-- where the text is finished entries alone, they end where it ends
pub finished_end : (text : List ℕ) (f w : ℕ) (r : Reading) (es : List Entry) → IsMark text f (record { entries = r.entries; stage = Between }) → IsMark text w r → f ≤ w → Reads text r → (split text).rest ≡ drop w text → IsFinished text es
    → f ≡ length text
finished_end text f w r es first last le reads rest fin =
    let same : r ≡ record { entries = es; stage = Between } = same_reading r (record { entries = es; stage = Between }) (sym reads.lines ∙ fin.reads.lines) in
    let stage : r.stage ≡ Between = ap (λ (q : Reading). q.stage) same in
    let b : List ℕ = take (w - f) (drop f text) in
    let led : after_lines (record { entries = r.entries; stage = Between }) (split b).lines ≡ Some (record { entries = r.entries; stage = Between }) =
    subst (λ st. after_lines (record { entries = r.entries; stage = Between }) (split b).lines ≡ Some (record { entries = r.entries; stage = st })) stage (lines_between text (record { entries = r.entries; stage = Between }) r f w first last le) in
    let none = no_lines (split b).lines (no_way_back r.entries (split b).lines led) in
    let all : length b ≡ 0 = sym (ap length (joined_lines b (whole_between text (record { entries = r.entries; stage = Between }) r f w first last le))) ∙ none in
    omega (arith, all, length-take (w - f) (drop f text), length-drop f text, le, last.within, ap length (sym rest ∙ fin.whole), length-drop w text)

-- what was found at the end of a text that was walked along
pub torn_found : (text : List ℕ) (len : ℕ) (w : Walk) (f : Front) (mark : Option Mark) → IsWalkedTo (Unit {0}) text false len w → IsFrontCounted (Unit {0}) text false f → len ≡ length text
    → f.count ≡ w.tally.count → f.at ≤ w.at
    → ((r : Reading) → tally_of r ≡ w.tally → IsRest r.entries r.stage (drop w.at text) × HasNoNewline (drop w.at text))
    → ((r : Reading) → IsMark text f.at (record { entries = r.entries; stage = Between }) → IsMark text w.at r → tally_of r ≡ w.tally → HasMark text r.stage mark)
    → HasTorn text (record { count = f.count; told = f.told; begins = f.at; mark = mark })
torn_found text len w f mark walked front long count le rest find =
    let t = walked.led.leads in
    let r : Reading = t.reading in
    let is : walked.led.text ≡ take w.at text = walked.led.is tt in
    let last : IsMark text w.at r = record {
      within = omega (arith, walked.below, long);
      lines = subst (λ u. after_lines start (split u).lines ≡ Some r) is t.reads;
      whole = subst (λ u. (split u).rest ≡ []) is t.whole;
    } in
    let c = front.counted.counted in
    let f_is : front.front ≡ take f.at text = front.is tt in
    let p : Reading = record { entries = c.entries; stage = Between } in
    let here : IsMark text f.at p = record {
      within = omega (arith, le, walked.below, long);
      lines = subst (λ u. after_lines start (split u).lines ≡ Some p) f_is c.finished.reads.lines;
      whole = subst (λ u. (split u).rest ≡ []) f_is c.finished.whole;
    } in
    let many : length c.entries ≡ length r.entries = omega (arith, c.counted, count, ap (λ (u : Tally). u.count) t.is) in
    let same : c.entries ≡ r.entries = entries_same _ p r (lines_between text p r f.at w.at here last le) many in
    let first : IsMark text f.at (record { entries = r.entries; stage = Between }) = subst (λ es. IsMark text f.at (record { entries = es; stage = Between })) same here in
    let behind = rest r t.is in
    let both = ap split (sym (take-append-drop w.at text)) ∙ split-append (take w.at text) (drop w.at text) last.whole ∙ ap (λ s. record { lines = (split (take w.at text)).lines ++ s.lines; rest = s.rest }) (split-plain (drop w.at text) behind.1) in
    let lines : (split text).lines ≡ (split (take w.at text)).lines = ap (λ s. s.lines) both ∙ append-nil (split (take w.at text)).lines in
    let reads : Reads text r = record {
      lines = ap (after_lines start) lines ∙ last.lines;
      rest = subst (IsRest r.entries r.stage) (sym (ap (λ s. s.rest) both)) behind.0;
    } in
    record {
      reading = r;
      torn = record {
        reads = reads;
        begins = first;
        count = c.counted ∙ ap length same;
        told = c.told_is ∙ ap told_by same;
        few = front.few;
        mark = find r first last t.is;
      };
    }

-- what a text's tally says of where a record stands
pub mark_between : (text : List ℕ) (r : Reading) (t : Tally) → tally_of r ≡ t → t.place ≡ BetweenPlace → HasMark text r.stage None
mark_between text r t is place =
    let form : r.stage ≡ Between = has_form r.stage BetweenPlace (ap (λ (u : Tally). u.place) is ∙ place) in
    subst (λ stage. HasMark text stage None) (sym form) tt

pub mark_saving : (text : List ℕ) (r : Reading) (t : Tally) (w : Version) (len : ℕ) → tally_of r ≡ t → t.place ≡ SavingPlace w len → HasMark text r.stage None
mark_saving text r t w len is place =
    let k = saving_form r.stage w len (ap (λ (u : Tally). u.place) is ∙ place) in
    subst (λ stage. HasMark text stage None) (sym k.1) tt

pub mark_ending : (text : List ℕ) (r : Reading) (t : Tally) (w : Version) (m : Mark) → tally_of r ≡ t → t.place ≡ EndingPlace w → ((s : Kept) → r.stage ≡ Ending w s → StandsAt text m s) → HasMark text r.stage (Some m)
mark_ending text r t w m is place stands =
    let form : (s : Kept) × (r.stage ≡ Ending w s) = has_form r.stage (EndingPlace w) (ap (λ (u : Tally). u.place) is ∙ place) in
    subst (λ stage. HasMark text stage (Some m)) (sym form.1) (stands form.0 form.1)

-- what was walked along of a store is so of it later
pub walked_after : (H now : Type 0) (stored text : List ℕ) (only : Bool) (len : ℕ) (w : Walk) → (now → H) → (H → text ≡ stored) → IsWalkedTo H stored only len w → IsWalkedTo now text only len w
walked_after H now stored text only len w back same walked = record {
  led = record { text = walked.led.text; is = λ n. walked.led.is (back n) ∙ ap (take w.at) (sym (same (back n))); long = walked.led.long; leads = walked.led.leads };
  below = walked.below;
  lines = walked.lines;
  few = walked.few;
}

pub walked_surely : (H : Type 0) (text : List ℕ) (only : Bool) (len : ℕ) (w : Walk) → H → IsWalkedTo H text only len w → IsWalkedTo (Unit {0}) text only len w
walked_surely H text only len w h walked = walked_after H (Unit {0}) text text only len w (λ u. h) (λ h. refl) walked

pub front_surely : (H : Type 0) (stored text : List ℕ) (only : Bool) (f : Front) → H → stored ≡ text → IsFrontCounted H stored only f → IsFrontCounted (Unit {0}) text only f
front_surely H stored text only f h same c = record { front = c.front; is = λ u. c.is h ∙ ap (take f.at) same; long = c.long; counted = c.counted; lines = c.lines; few = c.few }
