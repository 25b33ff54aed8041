-- Maximal ranges.
use Rattle.std.proofs.Common.{eq-eqb, ◌≡◌, ◌⊎◌, ℕ, zero, suc, ◌+◌, ◌<◌, ◌≤◌, Bool, true, false, cond, eqb, List, [], ◌∷◌, inl, inr, refl, sym, ap, subst, ◌∙◌, arith}
use Rattle.std.proofs.lemmas.Bool.{eqb-true, ne_eqb}
use Rattle.std.proofs.lemmas.Bool.Decides.{nat_tests}
use Rattle.bx_image.specs.declared.record.spans.Span.{Span}
use Rattle.bx_patch.specs.Text.{with_place, spans_from}

-- one of the ranges has the place
abbrev pub HaveSpan : List Span → ℕ → Type 0
HaveSpan [] j = ⊥
HaveSpan (s ∷ spans) j = ((s.at ≤ j) × (j < s.end)) ⊎ HaveSpan spans j

-- none of the ranges is empty
abbrev AreSome : List Span → Type 0
AreSome [] = Unit {0}
AreSome (s ∷ spans) = (s.at < s.end) × AreSome spans

some_with : (at : ℕ) (spans : List Span) → AreSome spans → AreSome (with_place at spans)
unfolding with_place
some_with at [] some = (omega arith, tt)
some_with at (s ∷ spans) some = go (eqb s.at (suc at)) refl
  where
    go : (b : Bool) → eqb s.at (suc at) ≡ b →
        AreSome (cond b (record { at = at; end = s.end } ∷ spans) (record { at = at; end = suc at } ∷ s ∷ spans))
    go true e = (omega (arith, some.0, eqb-true s.at (suc at) e), some.1)
    go false e = (omega arith, some)

with_keeps : (at j : ℕ) (spans : List Span) → HaveSpan spans j → HaveSpan (with_place at spans) j
unfolding with_place
with_keeps at j [] have = absurd have
with_keeps at j (s ∷ spans) have = go (eqb s.at (suc at)) refl have
  where
    go : (b : Bool) → eqb s.at (suc at) ≡ b → HaveSpan (s ∷ spans) j →
        HaveSpan (cond b (record { at = at; end = s.end } ∷ spans) (record { at = at; end = suc at } ∷ s ∷ spans)) j
    go true e (inl here) = inl (omega (arith, here.0, eqb-true s.at (suc at) e), here.1)
    go true e (inr later) = inr later
    go false e other = inr other

with_has : (at : ℕ) (spans : List Span) → AreSome spans → HaveSpan (with_place at spans) at
unfolding with_place
with_has at [] some = inl (omega arith, omega arith)
with_has at (s ∷ spans) some = go (eqb s.at (suc at)) refl
  where
    go : (b : Bool) → eqb s.at (suc at) ≡ b →
        HaveSpan (cond b (record { at = at; end = s.end } ∷ spans) (record { at = at; end = suc at } ∷ s ∷ spans)) at
    go true e = inl (omega arith, omega (arith, some.0, eqb-true s.at (suc at) e))
    go false e = inl (omega arith, omega arith)

some_from : (test : ℕ → Bool) (at n : ℕ) → AreSome (spans_from test at n)
unfolding spans_from
some_from test at zero = tt
some_from test at (suc n) = go (test at) (some_from test (suc at) n)
  where
    go : (b : Bool) → AreSome (spans_from test (suc at) n) → AreSome (cond b (with_place at (spans_from test (suc at) n)) (spans_from test (suc at) n))
    go true some = some_with at (spans_from test (suc at) n) some
    go false some = some

above_more : (a b : ℕ) → a ≤ b → eqb a b ≡ false → suc a ≤ b
above_more a b h e = grind (arith, nat_tests)

-- a place where the test holds is in a range
pub has_span : (test : ℕ → Bool) (at n j : ℕ) → at ≤ j → j < at + n → test j ≡ true → HaveSpan (spans_from test at n) j
unfolding spans_from
has_span test at zero j above below holds = absurd (omega arith)
has_span test at (suc n) j above below holds = either (eqb at j) refl (λ more. has_span test (suc at) n j more (omega arith) holds)
  where
    later : (b : Bool) → HaveSpan (spans_from test (suc at) n) j →
        HaveSpan (cond b (with_place at (spans_from test (suc at) n)) (spans_from test (suc at) n)) j
    later true have = with_keeps at j (spans_from test (suc at) n) have
    later false have = have

    here : (b : Bool) → b ≡ true → HaveSpan (cond b (with_place at (spans_from test (suc at) n)) (spans_from test (suc at) n)) at
    here true e = with_has at (spans_from test (suc at) n) (some_from test (suc at) n)
    here false e = cc

    either : (b : Bool) → eqb at j ≡ b → (suc at ≤ j → HaveSpan (spans_from test (suc at) n) j) →
        HaveSpan (cond (test at) (with_place at (spans_from test (suc at) n)) (spans_from test (suc at) n)) j
    either true e rest =
        let same : at ≡ j = eqb-true at j e in
        let holds_at : test at ≡ true = ap test same ∙ holds in
        let P : ℕ → Type 0 = λ k. HaveSpan (cond (test at) (with_place at (spans_from test (suc at) n)) (spans_from test (suc at) n)) k in
        subst P same (here (test at) holds_at)
    either false e rest = later (test at) (rest (above_more at j above e))

-- the first range begins behind a place
abbrev BeginBehind : ℕ → List Span → Type 0
BeginBehind at [] = Unit {0}
BeginBehind at (s ∷ spans) = at < s.at

begin_with : (at : ℕ) (spans : List Span) (before : ℕ) → before < at → BeginBehind before (with_place at spans)
unfolding with_place
begin_with at [] before below = below
begin_with at (s ∷ spans) before below = go (eqb s.at (suc at))
  where
    go : (b : Bool) → BeginBehind before (cond b (record { at = at; end = s.end } ∷ spans) (record { at = at; end = suc at } ∷ s ∷ spans))
    go true = below
    go false = below

begin_from : (test : ℕ → Bool) (at n before : ℕ) → before < at → BeginBehind before (spans_from test at n)
unfolding spans_from
begin_from test at zero before below = tt
begin_from test at (suc n) before below = go (test at) (begin_from test (suc at) n before (omega arith))
  where
    go : (b : Bool) → BeginBehind before (spans_from test (suc at) n) → BeginBehind before (cond b (with_place at (spans_from test (suc at) n)) (spans_from test (suc at) n))
    go true later = begin_with at (spans_from test (suc at) n) before below
    go false later = later

-- a place where the test fails is passed
pub span_passed : (test : ℕ → Bool) (at n : ℕ) → test at ≡ false → spans_from test at (suc n) ≡ spans_from test (suc at) n
unfolding spans_from
span_passed test at n fails = ap (λ b. cond b (with_place at (spans_from test (suc at) n)) (spans_from test (suc at) n)) fails

span_taken : (test : ℕ → Bool) (at n : ℕ) → test at ≡ true → spans_from test at (suc n) ≡ with_place at (spans_from test (suc at) n)
unfolding spans_from
span_taken test at n holds = ap (λ b. cond b (with_place at (spans_from test (suc at) n)) (spans_from test (suc at) n)) holds

with_apart : (at : ℕ) (spans : List Span) → BeginBehind (suc at) spans → with_place at spans ≡ record { at = at; end = suc at } ∷ spans
unfolding with_place
with_apart at [] behind = refl
with_apart at (s ∷ spans) behind = ap (λ b. cond b (record { at = at; end = s.end } ∷ spans) (record { at = at; end = suc at } ∷ s ∷ spans)) (ne_eqb s.at (suc at) (λ e. absurd (omega arith)))

with_next : (at end : ℕ) (spans : List Span) → with_place at (record { at = suc at; end = end } ∷ spans) ≡ record { at = at; end = end } ∷ spans
unfolding with_place
with_next at end spans = ap (λ b. cond b (record { at = at; end = end } ∷ spans) (record { at = at; end = suc at } ∷ record { at = suc at; end = end } ∷ spans)) (eq-eqb (suc at) (suc at) refl)

-- none is left, or the test fails at the first place
abbrev pub Ends : (ℕ → Bool) → ℕ → ℕ → Type 0
Ends test at m = (m ≡ 0) ⊎ (test at ≡ false)

behind_end : (test : ℕ → Bool) (at m : ℕ) → Ends test (suc at) m → BeginBehind (suc at) (spans_from test (suc at) m)
unfolding spans_from
behind_end test at zero ends = tt
behind_end test at (suc m) (inl none) = absurd (omega arith)
behind_end test at (suc m) (inr fails) = rw (span_passed test (suc at) m fails) (begin_from test (suc (suc at)) m (suc at) (omega arith))

-- a maximal range in front
pub span_run : (test : ℕ → Bool) (at k m : ℕ) → ((j : ℕ) → at ≤ j → j < at + suc k → test j ≡ true) → Ends test (at + suc k) m →
    spans_from test at (suc k + m) ≡ record { at = at; end = at + suc k } ∷ spans_from test (at + suc k) m
span_run test at zero m holds ends =
    let count : 1 + m ≡ suc m = omega arith in
    let next : at + 1 ≡ suc at = omega arith in
    let P : ℕ → Type 0 = λ e. Ends test e m in
    let last : Ends test (suc at) m = subst P next ends in
    ap (spans_from test at) count ∙ span_taken test at m (holds at (omega arith) (omega arith)) ∙ with_apart at (spans_from test (suc at) m) (behind_end test at m last)
    ∙ ap (λ e. record { at = at; end = e } ∷ spans_from test e m) (sym next)
span_run test at (suc k) m holds ends =
    let count : suc (suc k) + m ≡ suc (suc k + m) = omega arith in
    let next : suc at + suc k ≡ at + suc (suc k) = omega arith in
    let P : ℕ → Type 0 = λ e. Ends test e m in
    let last : Ends test (suc at + suc k) m = subst P (sym next) ends in
    let later = span_run test (suc at) k m (λ j above below. holds j (omega arith) (omega arith)) last in
    ap (spans_from test at) count ∙ span_taken test at (suc k + m) (holds at (omega arith) (omega arith)) ∙ ap (with_place at) later
    ∙ with_next at (suc at + suc k) (spans_from test (suc at + suc k) m)
    ∙ ap (λ e. record { at = at; end = e } ∷ spans_from test e m) next

-- where the test never holds there is none
pub span_none : (test : ℕ → Bool) (at n : ℕ) → ((j : ℕ) → test j ≡ false) → spans_from test at n ≡ []
unfolding spans_from
span_none test at zero never = refl
span_none test at (suc n) never = span_passed test at n (never at) ∙ span_none test (suc at) n never

-- a list of places without a difference in front
pub span_skip : (test : ℕ → Bool) (at k m : ℕ) → ((j : ℕ) → at ≤ j → j < at + k → test j ≡ false) → spans_from test at (k + m) ≡ spans_from test (at + k) m
span_skip test at zero m fails =
    let count : 0 + m ≡ m = omega arith in
    let place : at ≡ at + 0 = omega arith in
    ap (spans_from test at) count ∙ ap (λ a. spans_from test a m) place
span_skip test at (suc k) m fails =
    let count : suc k + m ≡ suc (k + m) = omega arith in
    let place : suc at + k ≡ at + suc k = omega arith in
    ap (spans_from test at) count ∙ span_passed test at (k + m) (fails at (omega arith) (omega arith))
    ∙ span_skip test (suc at) k m (λ j above below. fails j (omega arith) (omega arith)) ∙ ap (λ a. spans_from test a m) place
