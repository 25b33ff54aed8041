-- Counting entries: what a line does, and the loop over lines.
use Rattle.std.proofs.Common.{◌≡◌, ℕ, Bool, zero, suc, ◌+◌, ◌<◌, List, [], ◌∷◌, ◌++◌, length, take, drop, refl, ap, sym, ◌∙◌, subst, inl, arith, append_assoc, append-nil, length-append, length-take, Some, None}
use Rattle.bx_journal_format.specs.declared.read.classify.Event.{Event}
use Rattle.bx_journal_format.specs.declared.read.classify.Event.TheVariants.{Begun, Saved, Complete, Committed}
use Rattle.bx_journal_format.specs.declared.read.count.Place.{Place}
use Rattle.bx_journal_format.specs.declared.read.count.Place.TheVariants.{Between as BetweenPlace, Saving as SavingPlace, Ending as EndingPlace}
use Rattle.bx_journal_format.specs.declared.read.count.Tally.{Tally}
use Rattle.bx_journal_format.specs.Kept.{Kept}
use Rattle.bx_journal_format.specs.Text.{Stage, Between, Saving, Ending, Reading, Split, ended, split, start, after_lines, next}
use Rattle.bx_journal_format.specs.read.Event.{IsEvent, tally_behind}
use Rattle.bx_journal_format.specs.read.Plain.{HasNoNewline}
use Rattle.std.proofs.lemmas.List.{take-append-drop, drop-take}
use Rattle.std.proofs.Math.Seq.{drop-append_seam}
use Rattle.bx_journal_format.specs.count.Tally.{place_of, tally_of, LeadsTo, IsTallied, IsCountedAll}
use Rattle.bx_journal_format.proofs.Runs.{after_lines-append}
use Rattle.bx_journal_format.proofs.Splits.{split-append, split-ended}

-- a stage that is at a place is of the place's form, whatever was saved
abbrev pub HasForm : Stage → Place → Type 0
HasForm stage BetweenPlace = stage ≡ Between
HasForm stage (SavingPlace v len) = (s : Kept) × (stage ≡ Saving v s) × (s.len ≡ len)
HasForm stage (EndingPlace v) = (s : Kept) × (stage ≡ Ending v s)

pub has_form : (stage : Stage) (p : Place) → place_of stage ≡ p → HasForm stage p
has_form stage p is = subst (HasForm stage) is (form_of stage)
  where
    form_of : (stage : Stage) → HasForm stage (place_of stage)
    form_of Between = refl
    form_of (Saving v s) = (s, refl, refl)
    form_of (Ending v s) = (s, refl)

-- what is seen of a reading as a tally, behind a line
pub event_counts : (r q : Reading) (line : List ℕ) (e : Event) → IsEvent r.entries r.stage line q e → tally_of q ≡ tally_behind (tally_of r) e
event_counts r q line (Begun v len) is = ap tally_of is.1
event_counts r q line (Saved l) is = ap tally_of is.3 ∙ ap (λ s. tally_of (record { entries = r.entries; stage = s })) (sym is.2)
event_counts r q line (Complete v) is = ap tally_of is.2
event_counts r q line (Committed after) is =
    let more : suc (length r.entries) ≡ length r.entries + 1 = omega arith in
    ap tally_of is.3 ∙ ap (λ n. record { count = n; told = after; place = BetweenPlace }) more

pub take_less : (n m : ℕ) (xs : List ℕ) → take n (take (n + m) xs) ≡ take n xs
take_less zero m xs = refl
take_less (suc n) m [] = let e : suc n + m ≡ suc (n + m) = omega arith in ap (λ k. take (suc n) (take k [])) e
take_less (suc n) m (x ∷ xs) =
    let e : suc n + m ≡ suc (n + m) = omega arith in
    ap (λ k. take (suc n) (take k (x ∷ xs))) e ∙ ap (λ l. x ∷ l) (take_less n m xs)

-- n bytes, and m more
pub take_sum : (n m : ℕ) (xs : List ℕ) → take (n + m) xs ≡ take n xs ++ take m (drop n xs)
take_sum n m xs =
    sym (take-append-drop n (take (n + m) xs)) ∙ ap (λ l. l ++ drop n (take (n + m) xs)) (take_less n m xs) ∙ ap (λ l. take n xs ++ l) (drop-take n m xs)

-- the first newline of what is left
pub record IsFirstLine (rest : List ℕ) (i : ℕ) : Type 0 where
  pub below : i < length rest
  pub plain : HasNoNewline (take i rest)
  pub is : rest ≡ take i rest ++ 10 ∷ drop (i + 1) rest

pub line_taken : (rest : List ℕ) (i : ℕ) → IsFirstLine rest i → take (i + 1) rest ≡ ended (take i rest)
line_taken rest i f =
    let ten : take 1 (drop i rest) ≡ 10 ∷ [] = ap (take 1) (ap (drop i) f.is ∙ seam (take i rest) (10 ∷ drop (i + 1) rest) i (omega (arith, length-take i rest, f.below))) in
    take_sum i 1 rest ∙ ap (λ l. take i rest ++ l) ten
  where
    seam : (a b : List ℕ) (n : ℕ) → length a ≡ n → drop n (a ++ b) ≡ b
    seam a b n long = subst (λ k. drop k (a ++ b) ≡ b) long (drop-append_seam a b)

-- nothing was counted
pub tallied_none : (only_second : Bool) → IsTallied only_second [] (record { count = 0; told = None; place = BetweenPlace }) 0
unfolding split after_lines
tallied_none only_second = record { reading = start; reads = refl; whole = refl; many = refl; is = refl; tell = λ only. tt }

pub last : (r q : Reading) (line : List ℕ) → next r line ≡ Some q → after_lines r (line ∷ []) ≡ Some q
unfolding after_lines
last r q line e = rw e refl

-- one line more
pub tallied_on : (only_second : Bool) (text line : List ℕ) (t u : Tally) (n : ℕ) → IsTallied only_second text t n → HasNoNewline line
    → ((r : Reading) → tally_of r ≡ t → LeadsTo only_second r line u) → IsTallied only_second (text ++ ended line) u (n + 1)
unfolding split after_lines
tallied_on only_second text line t u n h plain lead =
    let to : LeadsTo only_second h.reading line u = lead h.reading h.is in
    let one : split (ended line) ≡ record { lines = line ∷ []; rest = [] } = split-ended line [] plain in
    let parts : split (text ++ ended line) ≡ record { lines = (split text).lines ++ line ∷ []; rest = [] } =
    split-append text (ended line) h.whole ∙ ap (λ (s : Split). record { lines = (split text).lines ++ s.lines; rest = s.rest }) one in
    let lines : (split (text ++ ended line)).lines ≡ (split text).lines ++ line ∷ [] = ap (λ (s : Split). s.lines) parts in
    record {
      reading = to.reading;
      reads = ap (after_lines start) lines ∙ after_lines-append start h.reading (split text).lines (line ∷ []) h.reads ∙ last h.reading to.reading line to.leads;
      whole = ap (λ (s : Split). s.rest) parts;
      many = omega (arith, h.many, ap length lines, length-append (split text).lines (line ∷ []));
      is = to.is;
      tell = λ only. to.tell only (h.tell only);
    }

-- one line more of a window
pub tallied_more : (only_second : Bool) (front window rest : List ℕ) (taken i n m : ℕ) (t u : Tally) → IsTallied only_second (front ++ take taken window) t (n + m) → rest ≡ drop taken window
    → IsFirstLine rest i → ((r : Reading) → tally_of r ≡ t → LeadsTo only_second r (take i rest) u) → IsTallied only_second (front ++ take (taken + (i + 1)) window) u (n + (m + 1))
tallied_more only_second front window rest taken i n m t u h left f lead =
    let taken_is : take (taken + (i + 1)) window ≡ take taken window ++ ended (take i rest) =
    take_sum taken (i + 1) window ∙ ap (λ l. take taken window ++ take (i + 1) l) (sym left) ∙ ap (λ l. take taken window ++ l) (line_taken rest i f) in
    let same : front ++ take (taken + (i + 1)) window ≡ (front ++ take taken window) ++ ended (take i rest) =
    ap (λ l. front ++ l) taken_is ∙ sym (append_assoc front (take taken window) (ended (take i rest))) in
    let count : (n + m) + 1 ≡ n + (m + 1) = omega arith in
    subst (λ l. IsTallied only_second l u (n + (m + 1))) (sym same)
    (subst (λ k. IsTallied only_second ((front ++ take taken window) ++ ended (take i rest)) u k) count
    (tallied_on only_second (front ++ take taken window) (take i rest) t u (n + m) h f.plain lead))

-- no line of a window
pub tallied_same : (only_second : Bool) (front window : List ℕ) (t : Tally) (n : ℕ) → IsTallied only_second front t n → IsTallied only_second (front ++ take 0 window) t (n + 0)
tallied_same only_second front window t n h =
    let count : n ≡ n + 0 = omega arith in
    subst (λ l. IsTallied only_second l t (n + 0)) (sym (append-nil front)) (subst (λ k. IsTallied only_second front t k) count h)

-- between two entries
pub tallied_end : (only_second : Bool) (text : List ℕ) (t : Tally) (n : ℕ) → IsTallied only_second text t n → t.place ≡ BetweenPlace → IsCountedAll only_second text t.count t.told n
tallied_end only_second text t n h place =
    let at : HasForm h.reading.stage BetweenPlace = subst (HasForm h.reading.stage) place (has_form h.reading.stage t.place (ap (λ (u : Tally). u.place) h.is)) in
    let lines : after_lines start (split text).lines ≡ Some (record { entries = h.reading.entries; stage = Between }) =
    h.reads ∙ ap (λ s. Some (record { entries = h.reading.entries; stage = s })) at in
    record {
      counted = record {
        entries = h.reading.entries;
        finished = record { reads = record { lines = lines; rest = inl h.whole }; whole = h.whole };
        counted = sym (ap (λ (u : Tally). u.count) h.is);
        told_is = sym (ap (λ (u : Tally). u.told) h.is);
      };
      tell = h.tell;
      many = h.many;
    }
