-- The lines of the least patch: at each of their addresses the two lists differ.
use Rattle.std.proofs.Common.{◌≡◌, ℕ, zero, suc, ◌+◌, ◌-◌, ◌*◌, ◌<◌, ◌≤◌, Bool, true, false, cond, eqb, List, [], ◌∷◌, length, drop, inl, inr, refl, sym, ap, subst, ◌∙◌, arith}
use Rattle.std.specs.Prelude.{flat_map}
use Rattle.std.specs.List.{All}
use Rattle.std.proofs.lemmas.Bool.{cases_lt, eqb-true}
use Rattle.std.proofs.lemmas.List.{length-take, length-drop}
use Rattle.std.proofs.lemmas.List.Elements.{All-cons, All-nil}
use Rattle.bx_image.specs.declared.record.spans.Span.{Span}
use Rattle.bx_text.specs.Fold.{line_bytes}
use Rattle.bx_patch.specs.declared.diff.row.Extent.TheVariants.{Bytes}
use Rattle.bx_patch.specs.Laws.{DiffersAll, PatchIsLeast}
use Rattle.bx_patch.specs.Patch.{Asked}
use Rattle.bx_patch.specs.Text.{PatchLine, differs, line_for, patch_lines, row_count, row_lines, rows_from, span_lines, spans_from, with_place}
use Rattle.bx_patch.proofs.LineLemmas.{Each, Each-append, asked_by, pieces_of}
use Rattle.bx_patch.proofs.MakesLemmas.{is_asked}
use Rattle.bx_patch.proofs.RowLemmas.{differs_at, part}

-- the test holds in each of the ranges
abbrev Hold : (ℕ → Bool) → Span → Type 0
Hold test s = (j : ℕ) → s.at ≤ j → j < s.end → test j ≡ true

abbrev HoldAll : (ℕ → Bool) → List Span → Type 0
HoldAll test [] = Unit {0}
HoldAll test (s ∷ spans) = Hold test s × HoldAll test spans

-- a place and what follows it
hold_more : (test : ℕ → Bool) (at end : ℕ) → test at ≡ true → ((j : ℕ) → suc at ≤ j → j < end → test j ≡ true) → Hold test (record { at = at; end = end })
hold_more test at end holds more = λ j above below. elim (cases_lt at j) [
  | inl behind ↦ more j (omega arith) below
  | inr here ↦ let same : at ≡ j = omega arith in ap test (sym same) ∙ holds
]

hold_with : (test : ℕ → Bool) (at : ℕ) (spans : List Span) → test at ≡ true → HoldAll test spans → HoldAll test (with_place at spans)
unfolding with_place
hold_with test at [] holds all = (hold_more test at (suc at) holds (λ j above below. absurd (omega arith)), tt)
hold_with test at (s ∷ spans) holds all = go (eqb s.at (suc at)) refl
  where
    go : (b : Bool) → eqb s.at (suc at) ≡ b → HoldAll test (cond b (record { at = at; end = s.end } ∷ spans) (record { at = at; end = suc at } ∷ s ∷ spans))
    go true e =
        let next : s.at ≡ suc at = eqb-true s.at (suc at) e in
        (hold_more test at s.end holds (λ j above below. all.0 j (omega (arith, next)) below), all.1)
    go false e = (hold_more test at (suc at) holds (λ j above below. absurd (omega arith)), all)

hold_from : (test : ℕ → Bool) (at n : ℕ) → HoldAll test (spans_from test at n)
unfolding spans_from
hold_from test at zero = tt
hold_from test at (suc n) = go (test at) refl (hold_from test (suc at) n)
  where
    go : (b : Bool) → test at ≡ b → HoldAll test (spans_from test (suc at) n) → HoldAll test (cond b (with_place at (spans_from test (suc at) n)) (spans_from test (suc at) n))
    go true holds all = hold_with test at (spans_from test (suc at) n) holds all
    go false fails all = all

module _ (x y : List ℕ) where
  -- at each address of a line the two differ
  abbrev Differs : PatchLine → Type 0
  Differs l = DiffersAll x y (l.1, l.2)

  part_within : (t : List ℕ) (k j : ℕ) (s : Span) → s.at ≤ j → j < s.at + length (part t k s) → (j < s.end) × (j < 16)
  part_within t k j s above below = (
    omega (arith, length-take {A = ℕ} (s.end - s.at) (drop s.at (line_bytes t k))),
    omega (arith, length-take {A = ℕ} (s.end - s.at) (drop s.at (line_bytes t k)), length-drop {A = ℕ} s.at (line_bytes t k), length-take {A = ℕ} 16 (drop (16 * k) t)),
  )

  one_differs : (new : Bool) (k : ℕ) (s : Span) (t bytes : List ℕ) → bytes ≡ part t k s → Hold (differs (line_bytes x k) (line_bytes y k)) s →
      Each Differs (line_for new (16 * k + s.at) bytes)
  one_differs new k s t [] e hold = tt
  one_differs new k s t (b ∷ bytes) e hold = (
    λ i above below.
        let j : ℕ = i - 16 * k in
        let place : 16 * k + j ≡ i = omega arith in
        let behind : s.at ≤ j = omega arith in
        let inside : j < s.at + length (part t k s) = omega (arith, ap length e) in
        let within = part_within t k j s behind inside in
        ap (differs x y) (sym place) ∙ sym (differs_at x y k j within.1) ∙ hold j behind within.0,
    tt,
  )

  span_differs : (k : ℕ) (s : Span) → Hold (differs (line_bytes x k) (line_bytes y k)) s → Each Differs (span_lines (16 * k) (line_bytes x k) (line_bytes y k) s)
  span_differs k s hold =
      Each-append Differs (line_for false (16 * k + s.at) (part x k s)) (line_for true (16 * k + s.at) (part y k s))
      (one_differs false k s x (part x k s) refl hold) (one_differs true k s y (part y k s) refl hold)

  spans_differ : (k : ℕ) (spans : List Span) → HoldAll (differs (line_bytes x k) (line_bytes y k)) spans →
      Each Differs (flat_map (span_lines (16 * k) (line_bytes x k) (line_bytes y k)) spans)
  spans_differ k [] all = tt
  spans_differ k (s ∷ spans) all =
      Each-append Differs (span_lines (16 * k) (line_bytes x k) (line_bytes y k) s)
      (flat_map (span_lines (16 * k) (line_bytes x k) (line_bytes y k)) spans) (span_differs k s all.0) (spans_differ k spans all.1)

  rows_differ : (k n : ℕ) → Each Differs (rows_from Bytes x y k n)
  rows_differ k zero = tt
  rows_differ k (suc n) =
      Each-append Differs (row_lines Bytes (16 * k) (line_bytes x k) (line_bytes y k)) (rows_from Bytes x y (k + 1) n)
      (spans_differ k (spans_from (differs (line_bytes x k) (line_bytes y k)) 0 16) (hold_from (differs (line_bytes x k) (line_bytes y k)) 0 16)) (rows_differ (k + 1) n)

  side_differs : (new : Bool) (ls : List PatchLine) → Each Differs ls → All (DiffersAll x y) (pieces_of new ls)
  side_differs new [] each = All-nil (DiffersAll x y)
  side_differs true ((true, at, bytes) ∷ ls) each = All-cons (DiffersAll x y) (at, bytes) (pieces_of true ls) each.0 (side_differs true ls each.1)
  side_differs true ((false, at, bytes) ∷ ls) each = side_differs true ls each.1
  side_differs false ((true, at, bytes) ∷ ls) each = side_differs false ls each.1
  side_differs false ((false, at, bytes) ∷ ls) each = All-cons (DiffersAll x y) (at, bytes) (pieces_of false ls) each.0 (side_differs false ls each.1)

  asked_differs : (ls : List PatchLine) → Each Differs ls →
      let p = asked_by (length x) (length y) ls in All (DiffersAll x y) p.expected × All (DiffersAll x y) p.written
  asked_differs [] each = (All-nil (DiffersAll x y), All-nil (DiffersAll x y))
  asked_differs (l ∷ ls) each = (side_differs false (l ∷ ls) each, side_differs true (l ∷ ls) each)

pub patch_is_least : PatchIsLeast
patch_is_least x y p short little is =
    let P : Asked → Type 0 = λ p. All (DiffersAll x y) p.expected × All (DiffersAll x y) p.written in
    subst P (is_asked ℕ Bytes x y short little p is) (asked_differs x y (patch_lines Bytes x y) (rows_differ x y 0 (row_count x y)))
