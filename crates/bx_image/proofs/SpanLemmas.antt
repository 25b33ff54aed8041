-- Ranges of addresses: which addresses they have, when they are joined, and the runs that stand over them.
use Rattle.std.proofs.Common.{◌≡◌, ℕ, suc, ◌+◌, ◌<◌, ◌≤◌, inl, inr, max, Bool, true, false, ◌||◌, ◌&&◌, Option, None, Some, List, [], ◌∷◌, ◌++◌, length, get_or, take, refl, ap, ◌∙◌, sym, arith}
use Rattle.std.specs.Prelude.{nat_lt, nat_le}
use Rattle.std.specs.Option.{unwrap_or}
use Rattle.std.specs.List.{list_any}
use Rattle.std.specs.List.Sorted.{IsPermutation}
use Rattle.std.proofs.Math.Bool.{or_assoc}
use Rattle.std.proofs.lemmas.Bool.{cases_lt}
use Rattle.std.proofs.lemmas.Bool.Decides.{nat_tests}
use Rattle.std.proofs.lemmas.List.Elements.{All-push}
use Rattle.std.proofs.lemmas.List.Folds.{list_any-append, list_any_more}
use Rattle.std.proofs.lemmas.List.Sorted.{list_any-IsPermutation}
use Rattle.bx_text.specs.declared.owned.pieces.Piece.{Piece}
use Rattle.bx_image.specs.declared.record.spans.Span.{Span}
use Rattle.bx_image.specs.declared.change.Change.{Change}
use Rattle.bx_image.specs.Change.{touches, AllWithin, AreNonEmpty, HaveGaps}
use Rattle.bx_image.specs.private.Change.{is_cut_off, is_covered}
use Rattle.bx_image.specs.Over.{IsWithin, LieWithin}
use Rattle.bx_image.specs.private.Spans.{is_between, are_over, with_span, AreApart, StandOver}
use Rattle.bx_image.proofs.Images.{end_of_le}

or_none : (b : Bool) → (b || false) ≡ b
or_none true = refl
or_none false = refl

pub are_over-none : (i : ℕ) → are_over [] i ≡ false
unfolding are_over
are_over-none i = refl

pub are_over-first : (s : Span) (spans : List Span) (i : ℕ) → are_over (s ∷ spans) i ≡ (is_between s.at s.end i || are_over spans i)
unfolding are_over
are_over-first s spans i = refl

pub are_over-push : (spans : List Span) (s : Span) (i : ℕ) → are_over (spans ++ s ∷ []) i ≡ (are_over spans i || is_between s.at s.end i)
unfolding are_over
are_over-push spans s i =
    list_any-append (λ (v : Span). is_between v.at v.end i) spans (s ∷ [])
    ∙ ap (λ (b : Bool). list_any (λ (v : Span). is_between v.at v.end i) spans || b) (or_none (is_between s.at s.end i))

pub are_over-permutation : (xs ys : List Span) (i : ℕ) → IsPermutation xs ys → are_over ys i ≡ are_over xs i
unfolding are_over
are_over-permutation xs ys i moved = sym (list_any-IsPermutation (λ (v : Span). is_between v.at v.end i) xs ys moved)

pub are_over-more : (spans : List Span) (k : ℕ) (d : Span) (i : ℕ) → k < length spans → are_over (take (k + 1) spans) i ≡ (are_over (take k spans) i || is_between (get_or spans k d).at (get_or spans k d).end i)
unfolding are_over
are_over-more spans k d i h = list_any_more (λ (v : Span). is_between v.at v.end i) spans k d h

is_between_none : (at end i : ℕ) → end ≤ at → is_between at end i ≡ false
is_between_none at end i none = elim (cases_lt i at) [
  | inl below ↦ let no : nat_le at i ≡ false = grind (arith, nat_tests) in rw no refl
  | inr hi ↦ let no : nat_lt i end ≡ false = grind (arith, nat_tests) in let yes : nat_le at i ≡ true = grind (arith, nat_tests) in rw (yes, no) refl
]

-- one more range, where it has an address
pub are_over-with_span : (at end : ℕ) (spans : List Span) (i : ℕ) → are_over (with_span at end spans) i ≡ (are_over spans i || is_between at end i)
unfolding with_span
are_over-with_span at end spans i = elim (cases_lt at end) [
  | inl some ↦
      let test : nat_lt at end ≡ true = grind (arith, nat_tests) in
      rw test (are_over-push spans (record { at = at; end = end }) i)
  | inr none ↦
      let test : nat_lt at end ≡ false = grind (arith, nat_tests) in
      rw (test, is_between_none at end i none) (sym (or_none (are_over spans i)))
]

pub LieWithin-with_span : (len at end : ℕ) (spans : List Span) → LieWithin len spans → end ≤ len → LieWithin len (with_span at end spans)
unfolding with_span
LieWithin-with_span len at end spans all h = elim (cases_lt at end) [
  | inl some ↦
      let test : nat_lt at end ≡ true = grind (arith, nat_tests) in
      rw test (All-push (IsWithin len) spans (record { at = at; end = end }) all (record { some = some; within = h }))
  | inr none ↦
      let test : nat_lt at end ≡ false = grind (arith, nat_tests) in
      rw test all
]

-- what lies at or above the base
pub over_base : (base : Option ℕ) (len i : ℕ) → are_over (with_span (unwrap_or base len) len []) i ≡ (nat_lt i len && (is_cut_off base i || false))
over_base base len i = are_over-with_span (unwrap_or base len) len [] i ∙ rw (are_over-none i) (go base)
  where
    turned : (a b : Bool) → (a && b) ≡ (b && (a || false))
    turned true true = refl
    turned true false = refl
    turned false true = refl
    turned false false = refl

    never : (b : Bool) → false ≡ (b && false)
    never true = refl
    never false = refl

    go : (o : Option ℕ) → is_between (unwrap_or o len) len i ≡ (nat_lt i len && (is_cut_off o i || false))
    go None = is_between_none len len i (omega arith) ∙ never (nat_lt i len)
    go (Some n) = turned (nat_le n i) (nat_lt i len)

-- ranges with gaps; one is the last
pub apart_later : (spans : List Span) (a b : Span) → AreApart (spans ++ a ∷ []) → a.at ≤ b.at → AreApart (spans ++ b ∷ [])
apart_later [] a b apart later = (tt, tt)
apart_later (s ∷ []) a b apart later = (omega (arith, apart.0), apart_later [] a b apart.1 later)
apart_later (s ∷ t ∷ spans) a b apart later = (apart.0, apart_later (t ∷ spans) a b apart.1 later)

pub apart_push : (spans : List Span) (a b : Span) → AreApart (spans ++ a ∷ []) → a.end < b.at → AreApart ((spans ++ a ∷ []) ++ b ∷ [])
apart_push [] a b apart later = (later, (tt, tt))
apart_push (s ∷ []) a b apart later = (apart.0, apart_push [] a b apart.1 later)
apart_push (s ∷ t ∷ spans) a b apart later = (apart.0, apart_push (t ∷ spans) a b apart.1 later)

apart_front : (spans : List Span) (a : Span) → AreApart (spans ++ a ∷ []) → AreApart spans
apart_front [] a apart = tt
apart_front (s ∷ []) a apart = (tt, tt)
apart_front (s ∷ t ∷ spans) a apart = (apart.0, apart_front (t ∷ spans) a apart.1)

-- a range that begins behind a gap
pub apart-next : (at end : ℕ) (spans : List Span) (a b : Span) → a.at ≡ at → a.end ≡ end → AreApart (spans ++ a ∷ []) → at ≤ end → end < b.at → AreApart (with_span at end spans ++ b ∷ [])
unfolding with_span
apart-next at end spans a b is_at is_end apart order gap = elim (cases_lt at end) [
  | inl some ↦
      let test : nat_lt at end ≡ true = grind (arith, nat_tests) in
      let s : Span = record { at = at; end = end } in
      let as_s : AreApart (spans ++ s ∷ []) = apart_later spans a s apart (omega arith) in
      rw test (apart_push spans s b as_s gap)
  | inr none ↦
      let test : nat_lt at end ≡ false = grind (arith, nat_tests) in
      rw test (apart_later spans a b apart (omega arith))
]

pub apart-all : (at end : ℕ) (spans : List Span) (a : Span) → a.at ≡ at → AreApart (spans ++ a ∷ []) → AreApart (with_span at end spans)
unfolding with_span
apart-all at end spans a is_at apart = elim (cases_lt at end) [
  | inl some ↦
      let test : nat_lt at end ≡ true = grind (arith, nat_tests) in
      rw test (apart_later spans a (record { at = at; end = end }) apart (omega arith))
  | inr none ↦
      let test : nat_lt at end ≡ false = grind (arith, nat_tests) in
      rw test (apart_front spans a apart)
]

-- two ranges that overlap or touch
pub joined : (at end more upto i : ℕ) → at ≤ more → more ≤ end → is_between at (max end upto) i ≡ (is_between at end i || is_between more upto i)
joined at end more upto i lo touch = elim (cases_lt i at) [
  | inl below ↦
      let no : nat_le at i ≡ false = grind (arith, nat_tests) in
      let no_more : nat_le more i ≡ false = grind (arith, nat_tests) in
      rw (no, no_more) refl
  | inr hi ↦
      let yes : nat_le at i ≡ true = grind (arith, nat_tests) in
      rw yes (elim (cases_lt i end) [
        | inl within ↦
            let first : nat_lt i end ≡ true = grind (arith, nat_tests) in
            let both : nat_lt i (max end upto) ≡ true = grind (arith, nat_tests) in
            rw (first, both) refl
        | inr above ↦
            let first : nat_lt i end ≡ false = grind (arith, nat_tests) in
            let begun : nat_le more i ≡ true = grind (arith, nat_tests) in
            let same : nat_lt i (max end upto) ≡ nat_lt i upto = grind (arith, nat_tests) in
            rw (first, begun, same) refl
      ])
]

-- the addresses so far, one range among them unfinished
pub over_next : (at end next upto i : ℕ) (spans before : List Span) → (are_over spans i || is_between at end i) ≡ are_over before i
    → (are_over (with_span at end spans) i || is_between next upto i) ≡ (are_over before i || is_between next upto i)
over_next at end next upto i spans before so_far = ap (λ (b : Bool). b || is_between next upto i) (are_over-with_span at end spans i ∙ so_far)

pub over_joined : (at end next upto i : ℕ) (spans before : List Span) → at ≤ next → next ≤ end → (are_over spans i || is_between at end i) ≡ are_over before i
    → (are_over spans i || is_between at (max end upto) i) ≡ (are_over before i || is_between next upto i)
over_joined at end next upto i spans before lo touch so_far =
    ap (λ (b : Bool). are_over spans i || b) (joined at end next upto i lo touch)
    ∙ sym (or_assoc (are_over spans i) (is_between at end i) (is_between next upto i))
    ∙ ap (λ (b : Bool). b || is_between next upto i) so_far

-- runs that stand over ranges
pub StandOver-push : {A : Type 0} (spans : List Span) (runs : List (Piece A)) (s : Span) (run : Piece A) → StandOver spans runs → run.at ≡ s.at → run.at + length run.bytes ≡ s.end → StandOver (spans ++ s ∷ []) (runs ++ run ∷ [])
StandOver-push [] [] s run all at end = (at, end, tt)
StandOver-push [] (r ∷ runs) s run all at end = absurd all
StandOver-push (t ∷ spans) [] s run all at end = absurd all
StandOver-push (t ∷ spans) (r ∷ runs) s run all at end = (all.0, all.1, StandOver-push spans runs s run all.2 at end)

pub covered-StandOver : {A : Type 0} (spans : List Span) (runs : List (Piece A)) (i : ℕ) → StandOver spans runs → is_covered runs i ≡ are_over spans i
covered-StandOver [] [] i all = sym (are_over-none i)
covered-StandOver [] (r ∷ runs) i all = absurd all
covered-StandOver (s ∷ spans) [] i all = absurd all
covered-StandOver (s ∷ spans) (r ∷ runs) i all =
    rw (are_over-first s spans i, ← covered-StandOver spans runs i all.2, ← all.0, ← all.1) refl

pub HaveGaps-StandOver : {A : Type 0} (spans : List Span) (runs : List (Piece A)) → StandOver spans runs → AreApart spans → HaveGaps runs
HaveGaps-StandOver [] [] all apart = tt
HaveGaps-StandOver [] (r ∷ runs) all apart = absurd all
HaveGaps-StandOver (s ∷ spans) [] all apart = absurd all
HaveGaps-StandOver (s ∷ []) (r ∷ []) all apart = (tt, tt)
HaveGaps-StandOver (s ∷ []) (r ∷ q ∷ runs) all apart = absurd all.2
HaveGaps-StandOver (s ∷ t ∷ spans) (r ∷ []) all apart = absurd all.2
HaveGaps-StandOver (s ∷ t ∷ spans) (r ∷ q ∷ runs) all apart =
    (omega (arith, apart.0, all.1, all.2.0), HaveGaps-StandOver (t ∷ spans) (q ∷ runs) all.2 apart.1)

pub AreNonEmpty-StandOver : {A : Type 0} (len : ℕ) (spans : List Span) (runs : List (Piece A)) → StandOver spans runs → LieWithin len spans → AreNonEmpty runs
AreNonEmpty-StandOver len [] [] all within = tt
AreNonEmpty-StandOver len [] (r ∷ runs) all within = absurd all
AreNonEmpty-StandOver len (s ∷ spans) [] all within = absurd all
AreNonEmpty-StandOver len (s ∷ spans) (r ∷ runs) all within =
    let first : IsWithin len s = within 0 s (omega arith) in
    (omega (arith, all.0, all.1, first.some), AreNonEmpty-StandOver len spans runs all.2 (λ k d h. within (suc k) d (omega arith)))

pub AllWithin-StandOver : {A : Type 0} (len : ℕ) (spans : List Span) (runs : List (Piece A)) → StandOver spans runs → LieWithin len spans → AllWithin len runs
AllWithin-StandOver len [] [] all within = tt
AllWithin-StandOver len [] (r ∷ runs) all within = absurd all
AllWithin-StandOver len (s ∷ spans) [] all within = absurd all
AllWithin-StandOver len (s ∷ spans) (r ∷ runs) all within =
    let first : IsWithin len s = within 0 s (omega arith) in
    (omega (arith, all.1, first.within, end_of_le r.at r.bytes), AllWithin-StandOver len spans runs all.2 (λ k d h. within (suc k) d (omega arith)))

-- ranges over what a base and writes touch are over what their change touches
pub over_change : {A : Type 0} (c : Change A) (base : Option ℕ) (writes : List (Piece A)) (spans : List Span) (len : ℕ) → c.base ≡ base → c.writes ≡ writes
    → ((i : ℕ) → are_over spans i ≡ (nat_lt i len && (is_cut_off base i || is_covered writes i))) → (i : ℕ) → are_over spans i ≡ (nat_lt i len && touches c i)
unfolding touches
over_change c base writes spans len base_is writes_are over i = rw (base_is, writes_are) (over i)
