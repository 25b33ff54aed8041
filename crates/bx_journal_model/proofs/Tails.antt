-- A text whose unfinished end is cut off.
use Rattle.std.proofs.Common.{◌≡◌, ℕ, suc, ◌+◌, ◌-◌, Bool, true, false, cond, eqb, List, [], ◌∷◌, ◌++◌, length, take, drop, refl, ap, sym, ◌∙◌, subst, inl, inr, arith, append_assoc, append-nil, Some}
use Rattle.std.specs.List.{list_all}
use Rattle.std.proofs.lemmas.Bool.{cases_lt}
use Rattle.std.proofs.lemmas.Grind.{common_steps}
use Rattle.std.proofs.lemmas.List.{take-append-drop, take-append-le}
use Rattle.std.proofs.lemmas.List.Folds.{list_all-append}
use Rattle.std.proofs.Math.Seq.{take-append-add}
use Rattle.bx_journal_format.specs.Kept.{Kept}
use Rattle.bx_image.specs.Change.{IsAsGood}
use Rattle.bx_journal_format.specs.declared.format.version.Version.{Version}
use Rattle.bx_journal_format.specs.read.Plain.{HasNoNewline}
use Rattle.bx_journal_format.specs.Text.{IsPrefix, Reading, Entry, Stage, Between, Saving, Ending, IsRest, Reads, Split, split, with_first_byte, start, text_of_lines, after_lines, is_short, begins_with_s}
use Rattle.bx_journal_model.specs.Stack.{stack_of, HaveLengths, AllCover, image_at, recovered, IsSound, Recovers}
use Rattle.bx_journal_model.specs.Phase.{IsAtRest}
use Rattle.bx_journal_format.specs.count.Mark.{IsMark}
use Rattle.bx_journal_model.specs.Step.{HasTail}
use Rattle.bx_journal_store.specs.Store.{IsCutInPart}
use Rattle.bx_journal_format.proofs.Splits.{split-append, split-plain, plain_front}
use Rattle.bx_journal_format.proofs.EntryRun.{short_front}
use Rattle.bx_journal_format.proofs.Runs.{SafeRun, GoesBy, GoesAllBy, Goes, safe_prefix, safe_all, after_lines-append}
use Rattle.bx_journal_format.proofs.Foreign.{lines_plain, and_true, OnTheWay, foreign_run, IsEarly, way_in_tail}
use Rattle.bx_journal_model.proofs.Phases.{Fine, IsWhole, ReadsShort, extends, length-stack_of}
use Rattle.std.proofs.Math.ListN.{drop_of_length-le}
use Rattle.bx_journal_model.proofs.Cuts.{Leaves, cut_front}
use Rattle.bx_journal_format.proofs.Damage.{split_at_mark}

prefix_of : (t a b : List ℕ) → IsPrefix t a → IsPrefix a b → IsPrefix t b
prefix_of t a b p q = (p.0 ++ q.0, q.1 ∙ ap (λ s. s ++ q.0) p.1 ∙ append_assoc t p.0 q.0)

-- each front of what may stand at the end may stand there
pub rest_front : (es : List Entry) (stage : Stage) (rest t : List ℕ) → IsRest es stage rest → IsPrefix t rest → IsRest es stage t
rest_front es Between rest t r front =
    elim r [
      | inl none ↦ inl (empty_front t rest none front)
      | inr is ↦ inr (is.0, is.1, is.2, is.3, is.4, is.5, prefix_of t rest _ front is.6)
    ]
  where
    empty_front : (t rest : List ℕ) → rest ≡ [] → IsPrefix t rest → t ≡ []
    empty_front [] rest none front = refl
    empty_front (b ∷ t) rest none front = absurd (let e : [] ≡ b ∷ (t ++ front.0) = sym none ∙ front.1 in cc)
rest_front es (Saving v s) rest [] r front = inr (refl, refl)
rest_front es (Saving v s) rest (b ∷ t) r front =
    let same : begins_with_s rest ≡ begins_with_s (b ∷ t) = ap begins_with_s front.1 in
    elim r [
      | inl is ↦ inl (sym same ∙ is.0, prefix_of (b ∷ t) rest _ front is.1)
      | inr is ↦ inr (sym same ∙ is.0, short_front (b ∷ t) front.0 rest front.1 is.1)
    ]
rest_front es (Ending v s) rest t r front = (r.0, r.1, prefix_of t rest _ front r.2)

-- lines and what follows them are all of the text
front_joined : (b : ℕ) (s : Split) → text_of_lines (with_first_byte b s).lines ++ (with_first_byte b s).rest ≡ b ∷ (text_of_lines s.lines ++ s.rest)
front_joined b s = by_lines s.lines
  where
    by_lines : (lines : List (List ℕ)) → text_of_lines (with_first_byte b (record { lines = lines; rest = s.rest })).lines ++ (with_first_byte b (record { lines = lines; rest = s.rest })).rest ≡ b ∷ (text_of_lines lines ++ s.rest)
    by_lines [] = refl
    by_lines (l ∷ ls) = refl

newline : (b : ℕ) → eqb b 10 ≡ true → 10 ≡ b
newline b is = grind (arith, common_steps)

pub joined_rest : (text : List ℕ) → text_of_lines (split text).lines ++ (split text).rest ≡ text
unfolding split
joined_rest [] = refl
joined_rest (b ∷ text) = by_test (eqb b 10) refl (joined_rest text)
  where
    by_test : (is : Bool) → eqb b 10 ≡ is → text_of_lines (split text).lines ++ (split text).rest ≡ text
        → text_of_lines (cond is (record { lines = [] ∷ (split text).lines; rest = (split text).rest }) (with_first_byte b (split text))).lines ++ (cond is (record { lines = [] ∷ (split text).lines; rest = (split text).rest }) (with_first_byte b (split text))).rest ≡ b ∷ text
    by_test true is ih =
        let same : 10 ≡ b = newline b is in
        rw same (ap (λ s. b ∷ s) ih)
    by_test false is ih = front_joined b (split text) ∙ ap (λ s. b ∷ s) ih

front_rest : (b : ℕ) (s : Split) → eqb b 10 ≡ false → HasNoNewline s.rest → HasNoNewline (with_first_byte b s).rest
front_rest b s apart plain = by_lines s.lines
  where
    by_lines : (lines : List (List ℕ)) → HasNoNewline (with_first_byte b (record { lines = lines; rest = s.rest })).rest
    by_lines [] = (apart, plain)
    by_lines (l ∷ ls) = plain

pub rest_plain : (text : List ℕ) → HasNoNewline (split text).rest
unfolding split
rest_plain [] = tt
rest_plain (b ∷ text) = by_test (eqb b 10) refl (rest_plain text)
  where
    by_test : (is : Bool) → eqb b 10 ≡ is → HasNoNewline (split text).rest → HasNoNewline (cond is (record { lines = [] ∷ (split text).lines; rest = (split text).rest }) (with_first_byte b (split text))).rest
    by_test true is plain = plain
    by_test false is plain = front_rest b (split text) is plain

-- a front of lines and a rest
goes_in : (Q : Reading → Type 0) (r q : Reading) (ls : List (List ℕ)) (R : List ℕ) (j : ℕ) → SafeRun Q (λ s. s ≡ q) r ls → HasNoNewline R → IsRest q.entries q.stage R → Goes Q r (take j (text_of_lines ls ++ R))
goes_in Q r q ls R j run plain rest =
    elim (cases_lt j (length (text_of_lines ls))) [
      | inl less ↦
          let same : take j (text_of_lines ls ++ R) ≡ take j (text_of_lines ls) = take-append-le j (text_of_lines ls) R (omega (arith, less)) in
          subst (Goes Q r) (sym same) (safe_prefix Q (λ s. s ≡ q) r ls run (take j (text_of_lines ls)) (drop j (text_of_lines ls), sym (take-append-drop j (text_of_lines ls))))
      | inr more ↦
          let k : ℕ = j - length (text_of_lines ls) in
          let count : j ≡ length (text_of_lines ls) + k = omega (arith, more) in
          let same : take j (text_of_lines ls ++ R) ≡ text_of_lines ls ++ take k R = ap (λ n. take n (text_of_lines ls ++ R)) count ∙ take-append-add (text_of_lines ls) R k in
          subst (Goes Q r) (sym same) (behind k)
    ]
  where
    behind : (k : ℕ) → Goes Q r (text_of_lines ls ++ take k R)
    behind k =
        let g : GoesAllBy Q (λ s. s ≡ q) r (split (text_of_lines ls)) = safe_all Q (λ s. s ≡ q) r ls run in
        let plain_k : HasNoNewline (take k R) = plain_front (take k R) (drop k R) (subst HasNoNewline (sym (take-append-drop k R)) plain) in
        let parts : split (text_of_lines ls ++ take k R) ≡ record { lines = (split (text_of_lines ls)).lines; rest = take k R } =
        split-append (text_of_lines ls) (take k R) g.whole ∙ ap (λ (s : Split). record { lines = (split (text_of_lines ls)).lines ++ s.lines; rest = s.rest }) (split-plain (take k R) plain_k)
        ∙ ap (λ ms. record { lines = ms; rest = take k R }) (append-nil (split (text_of_lines ls)).lines) in
        let fits : IsRest g.reading.entries g.reading.stage (take k R) =
        subst (λ (s : Reading). IsRest s.entries s.stage (take k R)) (sym g.ends) (rest_front q.entries q.stage R (take k R) rest (drop k R, sym (take-append-drop k R))) in
        let goes : GoesBy Q r (record { lines = (split (text_of_lines ls)).lines; rest = take k R }) = record { reading = g.reading; lines = g.lines; rest = fits; has = g.has; short = g.short } in
        subst (GoesBy Q r) (sym parts) goes

-- what a cut that failed leaves of a text with a rest
pub tail_leaves : (Q : Reading → Type 0) (text new : List ℕ) (n : ℕ) (r q : Reading) → IsMark text n r → ReadsShort text q → OnTheWay Q r q → IsCutInPart n text new → Leaves Q new
tail_leaves Q text new n r q mark read each part =
    let parts = split_at_mark text n r mark in
    let ls : List (List ℕ) = (split (drop n text)).lines in
    let R : List ℕ = (split (drop n text)).rest in
    let shorts : (list_all is_short (split (take n text)).lines ≡ true) × (list_all is_short (split (drop n text)).lines ≡ true) =
    and_true (list_all is_short (split (take n text)).lines) (list_all is_short (split (drop n text)).lines)
    (sym (list_all-append is_short (split (take n text)).lines (split (drop n text)).lines) ∙ sym (ap (λ (s : Split). list_all is_short s.lines) parts) ∙ read.short) in
    let front : IsWhole (take n text) r = record { lines = mark.lines; whole = mark.whole; short = shorts.0 } in
    let lines : after_lines r (split (drop n text)).lines ≡ Some q =
    sym (after_lines-append start r (split (take n text)).lines (split (drop n text)).lines mark.lines) ∙ sym (ap (λ (s : Split). after_lines start s.lines) parts) ∙ read.lines in
    let rest : IsRest q.entries q.stage (split (drop n text)).rest = subst (λ (s : Split). IsRest q.entries q.stage s.rest) parts read.rest in
    let run : SafeRun Q (λ s. s ≡ q) r (split (drop n text)).lines = foreign_run Q q (split (drop n text)).lines r lines (lines_plain (drop n text)) shorts.1 each in
    let g0 : Goes Q r (take (length new - n) (text_of_lines (split (drop n text)).lines ++ (split (drop n text)).rest)) =
    goes_in Q r q (split (drop n text)).lines (split (drop n text)).rest (length new - n) run (rest_plain (drop n text)) rest in
    let g : Goes Q r (take (length new - n) (drop n text)) = subst (λ t. Goes Q r (take (length new - n) t)) (joined_rest (drop n text)) g0 in
    let is : take n text ++ take (length new - n) (drop n text) ≡ new = sym (cut_front text new n part.no_shorter part.front) in
    record { reading = g.reading; reads = subst (λ t. ReadsShort t g.reading) is (extends Q (take n text) (take (length new - n) (drop n text)) r front g); has = g.has }

early_fine : (x : List ℕ) (stack : List (List ℕ)) (es : List Entry) → AllCover es x → HaveLengths es x → stack_of es x ≡ stack → (stage : Stage) → IsEarly stage → Fine x stack (record { entries = es; stage = stage })
early_fine x stack es finished lengths is Between h = record { covers = tt; finished = finished; lengths = lengths; stack_is = is }
early_fine x stack es finished lengths is (Saving w t) h = record { covers = tt; finished = finished; lengths = lengths; stack_is = is }
early_fine x stack es finished lengths is (Ending w t) h = absurd h

pub tail_recovers : (text x : List ℕ) (stack : List (List ℕ)) (es : List Entry) (stage : Stage) (n : ℕ) → HasTail text x stack es stage n → Recovers text x stack
tail_recovers text x stack es stage n t = record { reading = record { entries = es; stage = stage }; reads = t.reads; sound = t.sound; lengths = t.lengths; stack_is = t.stack_is }

pub tail_fault : (text new x : List ℕ) (stack : List (List ℕ)) (es : List Entry) (stage : Stage) (n : ℕ) → HasTail text x stack es stage n → image_at stage x ≡ x → IsCutInPart n text new → Recovers new x stack
tail_fault text new x stack es stage n t same part =
    let q : Reading = record { entries = es; stage = stage } in
    let read : ReadsShort text (record { entries = es; stage = stage }) = record { lines = t.reads.lines; rest = t.reads.rest; short = t.sound.short } in
    let last : Fine x stack (record { entries = es; stage = stage }) = record { covers = t.sound.unfinished; finished = t.sound.finished; lengths = t.lengths; stack_is = t.stack_is } in
    let early = early_fine x stack es (subst (AllCover es) same t.sound.finished) (subst (HaveLengths es) same t.lengths) (ap (stack_of es) (sym same) ∙ t.stack_is) in
    let l = tail_leaves (Fine x stack) text new n (record { entries = es; stage = Between }) (record { entries = es; stage = stage }) t.mark read (way_in_tail (Fine x stack) es stage early last) part in
    record { reading = l.reading; reads = record { lines = l.reads.lines; rest = l.reads.rest }; sound = record { short = l.reads.short; unfinished = l.has.covers; finished = l.has.finished }; lengths = l.has.lengths; stack_is = l.has.stack_is }

pub tail_ok : (text new x y : List ℕ) (stack : List (List ℕ)) (es : List Entry) (stage : Stage) (n : ℕ) → HasTail text x stack es stage n → y ≡ image_at stage x → new ≡ take n text → IsAtRest new y stack
tail_ok text new x y stack es stage n t is cut =
    let parts = split_at_mark text n (record { entries = es; stage = Between }) t.mark in
    let shorts : (list_all is_short (split (take n text)).lines ≡ true) × (list_all is_short (split (drop n text)).lines ≡ true) =
    and_true (list_all is_short (split (take n text)).lines) (list_all is_short (split (drop n text)).lines)
    (sym (list_all-append is_short (split (take n text)).lines (split (drop n text)).lines) ∙ sym (ap (λ (s : Split). list_all is_short s.lines) parts) ∙ t.sound.short) in
    let rest : IsAtRest (take n text) (image_at stage x) stack = record {
      stands = record { entries = es; reads = record { lines = t.mark.lines; rest = subst (IsRest es Between) (sym t.mark.whole) (inl refl) }; whole = t.mark.whole; lengths = t.lengths; stack_is = sym t.stack_is };
      sound = record { short = shorts.0; unfinished = tt; finished = t.sound.finished };
    } in
    subst (λ s. IsAtRest s y stack) (sym cut) (subst (λ z. IsAtRest (take n text) z stack) (sym is) rest)

-- another image serves as well
pub tail_moves : (text x y : List ℕ) (stack : List (List ℕ)) (es : List Entry) (v : Version) (s : Kept) (n : ℕ) → HasTail text x stack es (Ending v s) n → IsAsGood s x y → HasTail text y stack es (Ending v s) n
tail_moves text x y stack es v s n t good = record {
  reads = t.reads;
  sound = record { short = t.sound.short; unfinished = good.covers; finished = subst (AllCover es) (sym good.same) t.sound.finished };
  lengths = subst (HaveLengths es) (sym good.same) t.lengths;
  stack_is = ap (stack_of es) good.same ∙ t.stack_is;
  mark = t.mark;
}

one_reading : {p q : Reading} → Some p ≡ Some q → p ≡ q
one_reading e = cc

-- the tail of a pair that recovers, by what was read
pub tail_of : (text x : List ℕ) (stack : List (List ℕ)) (es : List Entry) (stage : Stage) (n : ℕ) → Recovers text x stack → Reads text (record { entries = es; stage = stage })
    → IsMark text n (record { entries = es; stage = Between }) → HasTail text x stack es stage n
tail_of text x stack es stage n r reads mark =
    let same : r.reading ≡ record { entries = es; stage = stage } = one_reading (sym r.reads.lines ∙ reads.lines) in
    let P : Reading → Type 0 = λ q. IsSound text x q × HaveLengths q.entries (image_at q.stage x) × (recovered q x ≡ stack) in
    let all : P (record { entries = es; stage = stage }) = subst P same (r.sound, r.lengths, r.stack_is) in
    record { reads = reads; sound = all.0; lengths = all.1; stack_is = all.2; mark = mark }

pub rest_none : (text : List ℕ) (n : ℕ) → drop n text ≡ (split text).rest → n ≡ length text → (split text).rest ≡ []
rest_none text n is all = sym is ∙ ap (λ k. drop k text) all ∙ drop_of_length-le text (omega arith)

pub counted_stack : (text x : List ℕ) (stack : List (List ℕ)) (es : List Entry) (stage : Stage) (n : ℕ) → HasTail text x stack es stage n → length stack ≡ suc (length es)
counted_stack text x stack es stage n t = ap length (sym t.stack_is) ∙ length-stack_of es (image_at stage x)
