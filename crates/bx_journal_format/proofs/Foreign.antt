-- Lines that were read may be cut anywhere, if they are short.
use Rattle.std.proofs.Common.{◌≡◌, ℕ, suc, ◌+◌, ◌*◌, ◌≤◌, Bool, true, false, cond, eqb, List, [], ◌∷◌, length, refl, ap, sym, ◌∙◌, subst, inl, inr, arith, Some}
use Rattle.std.specs.Prelude.{◌&&◌}
use Rattle.std.specs.List.{list_all}
use Rattle.std.proofs.lemmas.Grind.{common_steps}
use Rattle.bx_journal_format.specs.Kept.{Kept}
use Rattle.bx_journal_format.specs.declared.format.version.Version.{Version}
use Rattle.bx_journal_format.specs.Text.{Split, split, with_first_byte, text_of_lines, Reading, Entry, Stage, Between, Saving, Ending, next_at, after_lines, is_short, next}
use Rattle.bx_journal_format.proofs.Splits.{AllPlain}
use Rattle.bx_journal_format.proofs.Runs.{SafeRun}
use Rattle.bx_journal_format.proofs.Inverse.{bind_some, next_between, next_saving, next_ending, rest_of_next}

front_plain : (b : ℕ) (s : Split) → eqb b 10 ≡ false → AllPlain s.lines → AllPlain (with_first_byte b s).lines
front_plain b s apart plain = by_lines s.lines plain
  where
    by_lines : (lines : List (List ℕ)) → AllPlain lines → AllPlain (with_first_byte b (record { lines = lines; rest = s.rest })).lines
    by_lines [] plain = tt
    by_lines (l ∷ ls) plain = ((apart, plain.0), plain.1)

pub lines_plain : (text : List ℕ) → AllPlain (split text).lines
unfolding split
lines_plain [] = tt
lines_plain (b ∷ text) = by_test (eqb b 10) refl (lines_plain text)
  where
    by_test : (is : Bool) → eqb b 10 ≡ is → AllPlain (split text).lines → AllPlain (cond is (record { lines = [] ∷ (split text).lines; rest = (split text).rest }) (with_first_byte b (split text))).lines
    by_test true is plain = (tt, plain)
    by_test false is plain = front_plain b (split text) is plain

newline : (b : ℕ) → eqb b 10 ≡ true → 10 ≡ b
newline b is = grind (arith, common_steps)

-- the lines of a whole text are all of it
front_joined : (b : ℕ) (s : Split) → (with_first_byte b s).rest ≡ [] → text_of_lines (with_first_byte b s).lines ≡ b ∷ text_of_lines s.lines
front_joined b s e = by_lines s.lines e
  where
    by_lines : (lines : List (List ℕ)) → (with_first_byte b (record { lines = lines; rest = s.rest })).rest ≡ [] → text_of_lines (with_first_byte b (record { lines = lines; rest = s.rest })).lines ≡ b ∷ text_of_lines lines
    by_lines [] e = absurd (let h : b ∷ s.rest ≡ [] = e in cc)
    by_lines (l ∷ ls) e = refl

front_whole : (b : ℕ) (s : Split) → (with_first_byte b s).rest ≡ [] → s.rest ≡ []
front_whole b s e = by_lines s.lines e
  where
    by_lines : (lines : List (List ℕ)) → (with_first_byte b (record { lines = lines; rest = s.rest })).rest ≡ [] → s.rest ≡ []
    by_lines [] e = absurd (let h : b ∷ s.rest ≡ [] = e in cc)
    by_lines (l ∷ ls) e = e

pub joined_lines : (text : List ℕ) → (split text).rest ≡ [] → text_of_lines (split text).lines ≡ text
unfolding split
joined_lines [] e = refl
joined_lines (b ∷ text) e = by_test (eqb b 10) refl (joined_lines text) e
  where
    by_test : (is : Bool) → eqb b 10 ≡ is → ((split text).rest ≡ [] → text_of_lines (split text).lines ≡ text) → (cond is (record { lines = [] ∷ (split text).lines; rest = (split text).rest }) (with_first_byte b (split text))).rest ≡ []
        → text_of_lines (cond is (record { lines = [] ∷ (split text).lines; rest = (split text).rest }) (with_first_byte b (split text))).lines ≡ b ∷ text
    by_test true is ih e =
        let same : 10 ≡ b = newline b is in
        rw same (ap (λ s. b ∷ s) (ih e))
    by_test false is ih e = front_joined b (split text) e ∙ ap (λ s. b ∷ s) (ih (front_whole b (split text) e))

pub weight_of : Stage → ℕ
weight_of Between = 0
weight_of (Saving v s) = 1
weight_of (Ending v s) = 2

-- how far a reading is
pub weight : Reading → ℕ
weight r = 3 * length r.entries + weight_of r.stage

stage_weight : (stage : Stage) → weight_of stage ≤ 2
unfolding weight_of
stage_weight Between = omega arith
stage_weight (Saving v s) = omega arith
stage_weight (Ending v s) = omega arith

next_grows : (es : List Entry) (stage : Stage) (line : List ℕ) (q : Reading) → next_at es stage line ≡ Some q → 3 * length es + weight_of stage ≤ weight q
unfolding weight weight_of
next_grows es Between line q e =
    let b = next_between es line q e in
    rw (b.2) (omega arith)
next_grows es (Saving v s) line q e =
    elim (next_saving es v s line q e) [ inl is ↦ rw (is.1) (omega arith) | inr is ↦ rw (is.2) (omega arith) ]
next_grows es (Ending v s) line q e =
    let n = next_ending es v s line q e in
    rw (n.1) (omega arith)

pub lines_grow : (ls : List (List ℕ)) (r q : Reading) → after_lines r ls ≡ Some q → weight r ≤ weight q
unfolding after_lines weight
lines_grow [] r q e = let same : r ≡ q = cc in subst (λ (p : Reading). weight r ≤ weight p) same (omega arith)
lines_grow (l ∷ ls) r q e =
    let b = bind_some (λ p. after_lines p ls) (next r l) q e in
    omega (arith, next_grows r.entries r.stage l b.0 b.1, lines_grow ls b.0 q b.2)

-- from between two entries no line leads back to there
pub no_way_back : (es : List Entry) (ls : List (List ℕ)) → after_lines (record { entries = es; stage = Between }) ls ≡ Some (record { entries = es; stage = Between }) → length ls ≡ 0
unfolding after_lines weight weight_of
no_way_back es [] is = refl
no_way_back es (l ∷ ls) is =
    let b = bind_some (λ q. after_lines q ls) (next (record { entries = es; stage = Between }) l) (record { entries = es; stage = Between }) is in
    let first = next_between es l b.0 b.1 in
    let grows = lines_grow ls b.0 (record { entries = es; stage = Between }) b.2 in
    let heavy : weight b.0 ≡ 3 * length es + 1 = ap weight (first.2 ∙ ap (λ s. record { entries = es; stage = s }) first.1.7) in
    absurd (omega (arith, grows, heavy))

pub and_true : (a b : Bool) → (a && b) ≡ true → (a ≡ true) × (b ≡ true)
and_true true b h = (refl, h)
and_true false b h = absurd (cc)

-- all readings on the way from r to q have Q
abbrev pub OnTheWay : (Reading → Type 0) → Reading → Reading → Type 0
OnTheWay Q r q = (p : Reading) (a b : List (List ℕ)) → after_lines r a ≡ Some p → after_lines p b ≡ Some q → Q p

pub foreign_run : (Q : Reading → Type 0) (q : Reading) (ls : List (List ℕ)) (r : Reading) → after_lines r ls ≡ Some q → AllPlain ls → list_all is_short ls ≡ true → OnTheWay Q r q
    → SafeRun Q (λ p. p ≡ q) r ls
unfolding after_lines
foreign_run Q q [] r e plain short each = let same : r ≡ q = cc in (each r [] [] refl e, same)
foreign_run Q q (l ∷ ls) r e plain short each =
    let b = bind_some (λ p. after_lines p ls) (next r l) q e in
    let tests = and_true (is_short l) (list_all is_short ls) short in (
      each r [] (l ∷ ls) refl e,
      rest_of_next r.entries r.stage l b.0 b.1 tests.0,
      plain.0,
      tests.0,
      (b.0, b.1, foreign_run Q q ls b.0 b.2 plain.1 tests.1 (λ p a c first last. each p (l ∷ a) c (rw (b.1) first) last)),
    )

too_far : (l : List ℕ) (es : List Entry) (v : Version) (s : Kept) (p q : Reading) → next_at es (Ending v s) l ≡ Some p → weight p ≤ weight q → length q.entries ≤ length es → ⊥
unfolding weight weight_of
too_far l es v s p q e grows long =
    let is = (next_ending es v s l p e).1 in
    let heavy : weight p ≡ 3 * suc (length es) + 0 = ap weight is in
    omega (arith, heavy, stage_weight q.stage)

same_entries : (ls : List (List ℕ)) (r q : Reading) → after_lines r ls ≡ Some q → length r.entries ≡ length q.entries → r.entries ≡ q.entries
unfolding after_lines
same_entries [] r q e long = let same : r ≡ q = cc in ap (λ (p : Reading). p.entries) same
same_entries (l ∷ ls) r q e long =
    let b = bind_some (λ p. after_lines p ls) (next r l) q e in
    by_stage r.entries r.stage b.0 b.1 (lines_grow ls b.0 q b.2) (same_entries ls b.0 q b.2) long
  where
    by_stage : (es : List Entry) (stage : Stage) (p : Reading) → next_at es stage l ≡ Some p → weight p ≤ weight q → (length p.entries ≡ length q.entries → p.entries ≡ q.entries) → length es ≡ length q.entries → es ≡ q.entries
    by_stage es Between p e grows ih long =
        let is = (next_between es l p e).2 in
        let same : p.entries ≡ es = ap (λ (r : Reading). r.entries) is in
        sym same ∙ ih (ap length same ∙ long)
    by_stage es (Saving v s) p e grows ih long =
        let same : p.entries ≡ es = elim (next_saving es v s l p e) [ inl is ↦ ap (λ (r : Reading). r.entries) is.1 | inr is ↦ ap (λ (r : Reading). r.entries) is.2 ] in
        sym same ∙ ih (ap length same ∙ long)
    by_stage es (Ending v s) p e grows ih long = absurd (too_far l es v s p q e grows (omega arith))

ending_last : (b : List (List ℕ)) (es : List Entry) (v : Version) (s : Kept) (q : Reading) → after_lines (record { entries = es; stage = Ending v s }) b ≡ Some q → length q.entries ≤ length es → record { entries = es; stage = Ending v s } ≡ q
unfolding after_lines
ending_last [] es v s q e long = cc
ending_last (l ∷ b) es v s q e long =
    let found = bind_some (λ p. after_lines p b) (next (record { entries = es; stage = Ending v s }) l) q e in
    absurd (too_far l es v s found.0 q found.1 (lines_grow b found.0 q found.2) long)

abbrev pub IsEarly : Stage → Type 0
IsEarly Between = Unit {0}
IsEarly (Saving v s) = Unit {0}
IsEarly (Ending v s) = ⊥

between_of : (p : Reading) → weight_of p.stage ≡ 0 → p ≡ record { entries = p.entries; stage = Between }
unfolding weight_of
between_of p e = by_stage p.stage e
  where
    by_stage : (stage : Stage) → weight_of stage ≡ 0 → ◌≡◌ {A = Reading} (record { entries = p.entries; stage = stage }) (record { entries = p.entries; stage = Between })
    by_stage Between e = refl
    by_stage (Saving v s) e = absurd (omega (arith, e))
    by_stage (Ending v s) e = absurd (omega (arith, e))

-- from the save line of an entry to its end
pub way_in_end : (Q : Reading → Type 0) (es : List Entry) (e : Entry) (v : Version) (s : Kept) → Q (record { entries = es; stage = Ending v s }) → Q (record { entries = e ∷ es; stage = Between })
    → OnTheWay Q (record { entries = es; stage = Ending v s }) (record { entries = e ∷ es; stage = Between })
unfolding weight weight_of after_lines
way_in_end Q es e v s first last p [] b at_first rest = let same : record { entries = es; stage = Ending v s } ≡ p = cc in subst Q same first
way_in_end Q es e v s first last p (l ∷ a) b up rest =
    let found = bind_some (λ q. after_lines q a) (next (record { entries = es; stage = Ending v s }) l) p up in
    let is = (next_ending es v s l found.0 found.1).1 in
    let heavy : weight found.0 ≡ 3 * suc (length es) + 0 = ap weight is in
    let grows = lines_grow a found.0 p found.2 in
    let down = lines_grow b p (record { entries = e ∷ es; stage = Between }) rest in
    let long : length p.entries ≡ suc (length es) = omega (arith, heavy, grows, down, stage_weight p.stage) in
    let light : weight_of p.stage ≡ 0 = omega (arith, heavy, grows, down, stage_weight p.stage) in
    let same : p.entries ≡ e ∷ es = same_entries b p (record { entries = e ∷ es; stage = Between }) rest long in
    let is_p : p ≡ record { entries = e ∷ es; stage = Between } = between_of p light ∙ ap (λ f. record { entries = f; stage = Between }) same in
    subst Q (sym is_p) last

-- from the start of an entry on
pub way_in_tail : (Q : Reading → Type 0) (es : List Entry) (last : Stage) → ((stage : Stage) → IsEarly stage → Q (record { entries = es; stage = stage })) → Q (record { entries = es; stage = last })
    → OnTheWay Q (record { entries = es; stage = Between }) (record { entries = es; stage = last })
unfolding weight weight_of
way_in_tail Q es last early at_last p a b first rest =
    let up = lines_grow a (record { entries = es; stage = Between }) p first in
    let down = lines_grow b p (record { entries = es; stage = last }) rest in
    let long : length p.entries ≡ length es = omega (arith, up, down, stage_weight p.stage, stage_weight last) in
    let same : p.entries ≡ es = same_entries b p (record { entries = es; stage = last }) rest long in
    by_stage p.stage p.entries same rest
  where
    by_stage : (stage : Stage) (entries : List Entry) → entries ≡ es → after_lines (record { entries = entries; stage = stage }) b ≡ Some (record { entries = es; stage = last }) → Q (record { entries = entries; stage = stage })
    by_stage Between entries same rest = subst (λ f. Q (record { entries = f; stage = Between })) (sym same) (early Between tt)
    by_stage (Saving w t) entries same rest = subst (λ f. Q (record { entries = f; stage = Saving w t })) (sym same) (early (Saving w t) tt)
    by_stage (Ending w t) entries same rest =
        let is = ending_last b entries w t (record { entries = es; stage = last }) rest (omega (arith, ap length same)) in
        subst Q (sym is) at_last
