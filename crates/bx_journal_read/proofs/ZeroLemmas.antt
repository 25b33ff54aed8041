-- Zeros in a text that is read a window at a time, and what is unfinished before them.
use Rattle.std.proofs.Common.{◌≡◌, inl, ℕ, suc, ◌+◌, ◌-◌, ◌<◌, ◌≤◌, Bool, true, false, not, cond, eqb, List, [], ◌∷◌, ◌++◌, length, take, take_all, drop, length-take, length-drop, refl, ap, sym, ◌∙◌, subst, arith, Option, Some, None}
use Rattle.std.specs.Prelude.{IfOk, IfSome, Result, Ok, Err, ◌&&◌}
use Rattle.std.specs.List.{list_all}
use Rattle.std.proofs.lemmas.List.{drop-take, take-append-drop, take-take}
use Rattle.std.proofs.Math.ListN.{drop_of_length-le}
use Rattle.bx_journal_format.specs.Finished.{IsFinished}
use Rattle.bx_journal_format.specs.Kept.{Kept}
use Rattle.bx_journal_format.specs.Shown.{before_zero, shown}
use Rattle.bx_journal_format.specs.Text.{Stage, Between, Saving, Ending, Reading, Reads, IsRest, split, start, after_lines}
use Rattle.bx_journal_format.specs.declared.read.shown.LastLine.{LastLine}
use Rattle.bx_journal_format.specs.declared.read.types.Front.{Front}
use Rattle.bx_journal_format.specs.read.Left.{IsTornAs, is_torn}
use Rattle.bx_journal_format.specs.count.Mark.{IsMark}
use Rattle.bx_journal_format.proofs.CleanLemmas.{clean_shown}
use Rattle.bx_journal_format.proofs.ReadLoop.{drop_twice}
use Rattle.bx_journal_format.proofs.ZeroLemmas.{end_torn}
use Rattle.bx_journal_model.specs.Redo.{IsClean}
use Rattle.bx_journal_model.specs.declared.mark.Mark.{Mark}
use Rattle.bx_journal_read.specs.declared.scan.torn.Torn.{Torn}
use Rattle.bx_journal_read.specs.declared.scan.count.Walk.{Walk}
use Rattle.bx_journal_read.specs.scan.Recovery.{HasMark, HasTorn, IsTorn, IsTornFront, IsTornIn, IsUnfinishedIn}
use Rattle.bx_journal_model.specs.Restoring.{StandsAt}
use Rattle.bx_journal_read.specs.scan.Windows.{IsFrontCounted, IsWalkedTo}
use Rattle.bx_journal_read.proofs.WindowsStated.{HasNoZero, is_no_zero}
use Rattle.bx_journal_read.proofs.ShownTail.{shown_tail}
use Rattle.bx_journal_read.proofs.WalkLemmas.{finished_end}

-- where the first zero of two texts is, the first of them without one
before_all : (a b : List ℕ) → length a ≤ length (before_zero a) → length (before_zero (a ++ b)) ≡ length a + length (before_zero b)
unfolding before_zero
before_all [] b le = omega arith
before_all (x ∷ a) b le = by (eqb x 0) refl le (before_all a b)
  where
    by : (none : Bool) → eqb x 0 ≡ none → suc (length a) ≤ length (cond (eqb x 0) [] (x ∷ before_zero a)) → (length a ≤ length (before_zero a) → length (before_zero (a ++ b)) ≡ length a + length (before_zero b))
        → length (cond (eqb x 0) [] (x ∷ before_zero (a ++ b))) ≡ suc (length a) + length (before_zero b)
    by true e le later = absurd (let f : suc (length a) ≤ 0 = subst (λ c. suc (length a) ≤ length (cond c [] (x ∷ before_zero a))) e le in omega (arith, f))
    by false e le later =
        let f : suc (length a) ≤ suc (length (before_zero a)) = subst (λ c. suc (length a) ≤ length (cond c [] (x ∷ before_zero a))) e le in
        let g = later (omega (arith, f)) in
        rw e (omega (arith, g))

-- and where the first one has one
before_some : (a b : List ℕ) → length (before_zero a) < length a → length (before_zero (a ++ b)) ≡ length (before_zero a)
unfolding before_zero
before_some [] b lt = absurd (omega (arith, lt))
before_some (x ∷ a) b lt = by (eqb x 0) refl lt (before_some a b)
  where
    by : (none : Bool) → eqb x 0 ≡ none → length (cond (eqb x 0) [] (x ∷ before_zero a)) < suc (length a) → (length (before_zero a) < length a → length (before_zero (a ++ b)) ≡ length (before_zero a))
        → length (cond (eqb x 0) [] (x ∷ before_zero (a ++ b))) ≡ length (cond (eqb x 0) [] (x ∷ before_zero a))
    by true e lt later = rw e refl
    by false e lt later =
        let f : suc (length (before_zero a)) < suc (length a) = subst (λ c. length (cond c [] (x ∷ before_zero a)) < suc (length a)) e lt in
        rw e (ap suc (later (omega (arith, f))))

-- a window at a place, and what stands behind it
parts_at : (text : List ℕ) (at n : ℕ) → take n (drop at text) ++ drop (at + n) text ≡ drop at text
parts_at text at n = ap (λ u. take n (drop at text) ++ u) (sym (drop_twice at n text)) ∙ take-append-drop n (drop at text)

-- no zero stands in a window
pub zero_behind : (text part : List ℕ) (at n : ℕ) → part ≡ take n (drop at text) → length part ≡ n → n ≤ length (before_zero part) → length (before_zero (drop at text)) ≡ n + length (before_zero (drop (at + n) text))
zero_behind text part at n is long le =
    let whole : part ++ drop (at + n) text ≡ drop at text = ap (λ u. u ++ drop (at + n) text) is ∙ parts_at text at n in
    let all = before_all part (drop (at + n) text) (omega (arith, long, le)) in
    omega (arith, all, long, ap (λ u. length (before_zero u)) whole)

-- and one does
pub zero_within : (text part : List ℕ) (at n : ℕ) → part ≡ take n (drop at text) → length part ≡ n → length (before_zero part) < n → length (before_zero (drop at text)) ≡ length (before_zero part)
zero_within text part at n is long lt =
    let whole : part ++ drop (at + n) text ≡ drop at text = ap (λ u. u ++ drop (at + n) text) is ∙ parts_at text at n in
    let some = before_some part (drop (at + n) text) (omega (arith, long, lt)) in
    omega (arith, some, ap (λ u. length (before_zero u)) whole)

pub zero_at_end : (text : List ℕ) (at : ℕ) → length text ≤ at → length (before_zero (drop at text)) ≡ 0
unfolding before_zero
zero_at_end text at le = ap (λ u. length (before_zero u)) (drop_of_length-le text le)

-- a window more of what a loss of power may have left
pub torn_behind : (text part : List ℕ) (at n : ℕ) (line : LastLine) (found : Option LastLine) → part ≡ take n (drop at text) → ((rest : List ℕ) → IsTornAs found (is_torn line (part ++ rest)) rest)
    → IsTornAs found (is_torn line (drop at text)) (drop (at + n) text)
torn_behind text part at n line found is on =
    subst (λ u. IsTornAs found (is_torn line u) (drop (at + n) text)) (ap (λ u. u ++ drop (at + n) text) is ∙ parts_at text at n) (on (drop (at + n) text))

pub torn_at_end : (text : List ℕ) (at : ℕ) (line : LastLine) → length text ≤ at → is_torn line (drop at text) ≡ true
torn_at_end text at line le = ap (is_torn line) (drop_of_length-le text le) ∙ end_torn line

-- a text before whose end no zero stands has none
no_zero_in : (t : List ℕ) → length t ≤ length (before_zero t) → HasNoZero t
unfolding before_zero
no_zero_in [] le = refl
no_zero_in (x ∷ t) le = by (eqb x 0) refl le (no_zero_in t)
  where
    by : (none : Bool) → eqb x 0 ≡ none → suc (length t) ≤ length (cond (eqb x 0) [] (x ∷ before_zero t)) → (length t ≤ length (before_zero t) → list_all is_no_zero t ≡ true) → (not (eqb x 0) && list_all is_no_zero t) ≡ true
    by true e le later = absurd (let f : suc (length t) ≤ 0 = subst (λ c. suc (length t) ≤ length (cond c [] (x ∷ before_zero t))) e le in omega (arith, f))
    by false e le later =
        let f : suc (length t) ≤ suc (length (before_zero t)) = subst (λ c. suc (length t) ≤ length (cond c [] (x ∷ before_zero t))) e le in
        rw e (later (omega (arith, f)))

pub no_zero_from : (text : List ℕ) (from len at : ℕ) → len ≡ length text → from ≤ len → at ≡ from + length (before_zero (drop from text)) → len ≤ at → HasNoZero (drop from text)
no_zero_from text from len at long below is all = no_zero_in (drop from text) (omega (arith, length-drop from text, long, below, is, all))

-- places in a front of a text
pub front_mark : (text : List ℕ) (n a : ℕ) (r : Reading) → IsMark (take n text) a r → IsMark text a r
front_mark text n a r mark =
    let below : a ≤ n = omega (arith, mark.within, length-take n text) in
    let same : take a (take n text) ≡ take a text = take-take a n text below in
    record {
      within = omega (arith, mark.within, length-take n text);
      lines = subst (λ u. after_lines start (split u).lines ≡ Some r) same mark.lines;
      whole = subst (λ u. (split u).rest ≡ []) same mark.whole;
    }

mark_front : (text : List ℕ) (n a : ℕ) (r : Reading) → a ≤ n → IsMark text a r → IsMark (take n text) a r
mark_front text n a r below mark =
    let same : take a text ≡ take a (take n text) = sym (take-take a n text below) in
    record {
      within = omega (arith, mark.within, length-take n text, below);
      lines = subst (λ u. after_lines start (split u).lines ≡ Some r) same mark.lines;
      whole = subst (λ u. (split u).rest ≡ []) same mark.whole;
    }

stands_front : (text : List ℕ) (n : ℕ) (m : Mark) (s : Kept) → m.saved ≤ n → StandsAt text m s → StandsAt (take n text) m s
stands_front text n m s below st = record {
  entries = st.entries;
  version = st.version;
  len = st.len;
  begins = mark_front text n m.lines _ (omega (arith, st.order, below)) st.begins;
  ends = mark_front text n m.saved _ below st.ends;
  order = st.order;
}

pub has_front : (text : List ℕ) (n : ℕ) (stage : Stage) (mark : Option Mark) → IfSome mark (λ m. m.saved ≤ n) → HasMark text stage mark → HasMark (take n text) stage mark
has_front text n Between None below h = tt
has_front text n (Saving v s) None below h = tt
has_front text n (Ending v s) (Some m) below h = stands_front text n m s below h
has_front text n Between (Some m) below h = absurd h
has_front text n (Saving v s) (Some m) below h = absurd h
has_front text n (Ending v s) None below h = absurd h

-- a walk along the lines of a text, as one of its front
pub walked_front : (text : List ℕ) (n : ℕ) (w : Walk) → IsWalkedTo (Unit {0}) text false n w → IsWalkedTo (Unit {0}) (take n text) false n w
walked_front text n w walked = record {
  led = record { text = walked.led.text; is = λ u. walked.led.is u ∙ sym (take-take w.at n text walked.below); long = walked.led.long; leads = walked.led.leads };
  below = walked.below;
  lines = walked.lines;
  few = walked.few;
}

pub counted_front : (text : List ℕ) (n : ℕ) (f : Front) → f.at ≤ n → IsFrontCounted (Unit {0}) text false f → IsFrontCounted (Unit {0}) (take n text) false f
counted_front text n f below c = record { front = c.front; is = λ u. c.is u ∙ sym (take-take f.at n text below); long = c.long; counted = c.counted; lines = c.lines; few = c.few }

-- what is torn and begins before the text's end isn't finished entries alone
pub torn_unclean : (text : List ℕ) (t : Torn) (r : Reading) → IsTorn text r t → (t.begins ≡ length text → ⊥) → IsClean text → ⊥
torn_unclean text t r torn some clean =
    let all : take (length text) text ≡ text = take_all (length text) text (omega arith) in
    let end : IsMark text (length text) r = record {
      within = omega arith;
      lines = subst (λ u. after_lines start (split u).lines ≡ Some r) (sym all) torn.reads.lines;
      whole = subst (λ u. (split u).rest ≡ []) (sym all) clean.1.whole;
    } in
    some (finished_end text t.begins (length text) r clean.0 torn.begins end torn.begins.within torn.reads (clean.1.whole ∙ sym (drop_of_length-le text (omega arith))) clean.1)

-- where no zero stands in what is torn, all of the text is read
pub torn_plain : (text : List ℕ) (t : Torn) → HasTorn text t → HasNoZero (drop t.begins text) → (t.begins ≡ length text → ⊥) → IsTornIn text t
torn_plain text t has plain some =
    let r : Reading = has.reading in
    let torn = has.torn in
    let mark = torn.begins in
    let reads : Reads (take t.begins text) (record { entries = r.entries; stage = Between }) = record { lines = mark.lines; rest = subst (IsRest r.entries Between) (sym mark.whole) (inl refl) } in
    let finished : IsFinished (take t.begins text) r.entries = record { reads = reads; whole = mark.whole } in
    let all : shown text ≡ text = subst (λ u. shown u ≡ u) (take-append-drop t.begins text) (shown_tail (take t.begins text) (drop t.begins text) r.entries finished plain) in
    record {
      reading = r;
      torn = subst (λ u. IsTorn u r t) (sym all) torn;
      unfinished = torn_unclean text t r torn some;
    }

-- and where a loss of power left zeros, what is torn stands before them
pub torn_faded : (text : List ℕ) (n : ℕ) (t : Torn) → take n text ≡ shown text → n < length text → HasTorn (take n text) t → IsTornIn text t
torn_faded text n t is lt has = record {
  reading = has.reading;
  torn = subst (λ u. IsTorn u has.reading t) is has.torn;
  unfinished = λ clean. let same : take n text ≡ text = is ∙ clean_shown text clean.0 clean.1 in omega (arith, ap length same, length-take n text, lt);
}

-- what follows a place in a front of a text
pub rest_front : (text : List ℕ) (at n : ℕ) → at ≤ n → take (n - at) (drop at text) ≡ drop at (take n text)
rest_front text at n le = let e : at + (n - at) ≡ n = omega (arith, le) in sym (drop-take at (n - at) text) ∙ ap (λ m. drop at (take m text)) e

pub ends_within : (mark : Option Mark) (at n : ℕ) → at ≤ n → IfSome mark (λ m. m.saved ≡ at) → IfSome mark (λ m. m.saved ≤ n)
ends_within None at n le h = tt
ends_within (Some m) at n le h = omega (arith, le, h)

-- the same of a store's text
pub plain_found : (H : Type 0) (stored : List ℕ) (len : ℕ) (t : Torn) → (H → len ≡ length stored) → t.begins < len → (H → HasNoZero (drop t.begins stored)) → IsTornFront H stored len t
    → IsUnfinishedIn H stored t
plain_found H stored len t long lt plain f = record {
  torn = λ h. torn_plain stored t (subst (λ u. HasTorn u t) (take_all len stored (omega (arith, long h))) (f.torn h)) (plain h) (λ e. omega (arith, e, lt, long h));
  few = f.few;
  order = f.order;
}

pub faded_found : (H now : Type 0) (stored text : List ℕ) (len n : ℕ) (t : Torn) → (H → now) → (H → text ≡ stored) → (H → len ≡ length stored) → n < len → (H → take n stored ≡ shown stored) → IsTornFront now text n t
    → IsUnfinishedIn H stored t
faded_found H now stored text len n t on same long lt is f = record {
  torn = λ h. torn_faded stored n t (is h) (omega (arith, long h, lt)) (subst (λ u. HasTorn (take n u) t) (same h) (f.torn (on h)));
  few = f.few;
  order = f.order;
}

pub found_all : {E : Type 0} → (P Q : Torn → Type 0) (result : Result (Option Torn) E) → ((t : Torn) → P t → Q t) → IfOk result (λ found. IfSome found P) → IfOk result (λ found. IfSome found Q)
found_all P Q (Ok (Some t)) all h = all t h
found_all P Q (Ok None) all h = tt
found_all P Q (Err e) all h = tt
