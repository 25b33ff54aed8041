-- Pieces that stand in order are walked.
use Rattle.std.proofs.Common.{◌≡◌, ℕ, ◌+◌, ◌^◌, ◌<◌, ◌≤◌, Bool, true, false, cond, max, min, nat_le, nat_lt, zero, suc, Option, None, Some, List, [], ◌∷◌, length, get_or, drop, inl, inr, refl, sym, ap, subst, ◌∙◌, arith}
use Rattle.std.specs.Prelude.{◌↔◌, IsTrue}
use Rattle.std.proofs.lemmas.Bool.{cases_lt}
use Rattle.std.proofs.lemmas.Bool.Decides.{nat_tests}
use Rattle.std.proofs.lemmas.List.{drop_all, drop_more}
use Rattle.std.proofs.lemmas.List.Elements.{All-cons, All-head, All-nil, All-tail}
use Rattle.bx_text.specs.declared.owned.pieces.Piece.{Piece}
use Rattle.bx_read.specs.Text.{contents, lines_of}
use Rattle.bx_patch.specs.Grammar.{GivesPatch, GivesSigned, IsReadPatch}
use Rattle.bx_patch.specs.Patch.{AreInOrder, Asked, IsBelowBoth, IsCutAway, Pieces, HasByteAt, TurnsRound}
use Rattle.bx_patch.specs.private.Turn.{AreSmall, below_both, reach_each, run_from}
use Rattle.bx_patch.proofs.ReadLemmas.{small_end}
use Rattle.bx_patch.proofs.TurnLemmas.{not_before}

le_of : (a b : ℕ) → nat_le a b ≡ true → a ≤ b
le_of a b e = grind (arith, nat_tests, e)

gt_of : (a b : ℕ) → nat_le a b ≡ false → b < a
gt_of a b e = grind (arith, nat_tests, e)

lt_of : (a b : ℕ) → nat_lt a b ≡ true → a < b
lt_of a b e = grind (arith, nat_tests, e)

ge_of : (a b : ℕ) → nat_lt a b ≡ false → b ≤ a
ge_of a b e = grind (arith, nat_tests, e)

-- what a walk from a place comes to
record Runs (pieces : Pieces) (at : ℕ) (run : Pieces × ℕ) : Type 0 where
  on : at ≤ run.1
  reached : (j : ℕ) → at ≤ j → j < run.1 → HasByteAt pieces j
  left : (j : ℕ) → run.1 ≤ j → HasByteAt pieces j → HasByteAt run.0 j
  whole : (j : ℕ) → HasByteAt run.0 j → HasByteAt pieces j
  behind : (from : ℕ) → AreInOrder from pieces → (HasByteAt pieces run.1 → ⊥) × AreInOrder from run.0

runs : (pieces : Pieces) (at : ℕ) → Runs pieces at (run_from pieces at)
runs [] at = record {
  on = omega arith;
  reached = λ j above below. absurd (omega (arith, above, below));
  left = λ j above here. here;
  whole = λ j here. here;
  behind = λ from order. ((λ here. here), tt);
}
runs (p ∷ ps) at = go (nat_le p.0 at) refl (runs ps (max at (p.0 + length p.1)))
  where
    go : (b : Bool) → nat_le p.0 at ≡ b → Runs ps (max at (p.0 + length p.1)) (run_from ps (max at (p.0 + length p.1))) → Runs (p ∷ ps) at (cond b (run_from ps (max at (p.0 + length p.1))) (p ∷ ps, at))
    go true e later =
        let near = le_of p.0 at e in
        record {
          on = omega (arith, later.on);
          reached = λ j above below. elim (cases_lt j (max at (p.0 + length p.1))) [
            | inl within ↦ inl (omega (arith, near, above), omega (arith, within, above))
            | inr past ↦ inr (later.reached j past below)
          ];
          left = λ j above here. elim here [
            | inl first ↦ absurd (omega (arith, first.1, above, later.on))
            | inr rest ↦ later.left j above rest
          ];
          whole = λ j here. inr (later.whole j here);
          behind = λ from order.
              let on = later.behind (p.0 + length p.1) order.1 in (
                λ here. elim here [ inl first ↦ omega (arith, first.1, later.on) | inr rest ↦ on.0 rest ],
                order_from from (p.0 + length p.1) (run_from ps (max at (p.0 + length p.1))).0 (omega (arith, order.0)) on.1,
              );
        }
      where
        order_from : (a b : ℕ) (qs : Pieces) → a ≤ b → AreInOrder b qs → AreInOrder a qs
        order_from a b [] le order = tt
        order_from a b (q ∷ qs) le order = (omega (arith, le, order.0), order.1)
    go false e later =
        let far = gt_of p.0 at e in
        record {
          on = omega arith;
          reached = λ j above below. absurd (omega (arith, above, below));
          left = λ j above here. here;
          whole = λ j here. here;
          behind = λ from order. (not_before p.0 (p ∷ ps) at (omega arith, order.1) far, order);
        }

-- each place below a limit that others reach
Covers : ℕ → Pieces → Pieces → Type 0
Covers below whole inner = (i : ℕ) → i < below → HasByteAt inner i → HasByteAt whole i

-- the pieces of the whole that are left at a walk have all places from there on, and those before it, from one on, are reached
record Stands (whole : Pieces) (outer : Pieces × ℕ) (from : ℕ) : Type 0 where
  before : (j : ℕ) → from ≤ j → j < outer.1 → HasByteAt whole j
  left : (j : ℕ) → outer.1 ≤ j → HasByteAt whole j → HasByteAt outer.0 j
  within : (j : ℕ) → HasByteAt outer.0 j → HasByteAt whole j
  order : (g : ℕ) × AreInOrder g outer.0

goes_on : (whole : Pieces) (outer : Pieces × ℕ) (from at end : ℕ) → from ≤ at → at ≤ end → Stands whole outer from → Stands whole (run_from outer.0 (max outer.1 at)) end
goes_on whole outer from at end above most stands =
    let run = runs outer.0 (max outer.1 at) in
    record {
      before = λ j behind below. elim (cases_lt j outer.1) [
        | inl early ↦ stands.before j (omega (arith, behind, above, most)) early
        | inr late ↦ stands.within j (run.reached j (omega (arith, late, behind, most)) below)
      ];
      left = λ j past here. run.left j past (stands.left j (omega (arith, past, run.on)) here);
      within = λ j here. stands.within j (run.whole j here);
      order = (stands.order.0, (run.behind stands.order.0 stands.order.1).1);
    }

covers_is : (below : ℕ) (whole : Pieces) (outer : Pieces × ℕ) (from : ℕ) (inner : Pieces) → Stands whole outer from → AreInOrder from inner →
    IsTrue (reach_each below outer inner) ↔ Covers below whole inner
unfolding Covers
covers_is below whole outer from [] stands order = ((λ is i small here. absurd here), λ all. refl)
covers_is below whole outer from (q ∷ qs) stands order =
    go (nat_lt (run_from outer.0 (max outer.1 q.0)).1 (min below (q.0 + length q.1))) refl
    (covers_is below whole (run_from outer.0 (max outer.1 q.0)) (q.0 + length q.1) qs (goes_on whole outer from q.0 (q.0 + length q.1) order.0 (omega arith) stands) order.1)
  where
    run : Runs outer.0 (max outer.1 q.0) (run_from outer.0 (max outer.1 q.0))
    run = runs outer.0 (max outer.1 q.0)

    go : (b : Bool) → nat_lt (run_from outer.0 (max outer.1 q.0)).1 (min below (q.0 + length q.1)) ≡ b →
        IsTrue (reach_each below (run_from outer.0 (max outer.1 q.0)) qs) ↔ Covers below whole qs →
        IsTrue (cond b false (reach_each below (run_from outer.0 (max outer.1 q.0)) qs)) ↔ Covers below whole (q ∷ qs)
    go true e later =
        let short = lt_of (run_from outer.0 (max outer.1 q.0)).1 (min below (q.0 + length q.1)) e in
        let place : ℕ = (run_from outer.0 (max outer.1 q.0)).1 in
        let on = run.on in (
          λ is. let no : false ≡ true = is in cc,
          λ all. absurd ((run.behind stands.order.0 stands.order.1).0 (stands.left place (omega (arith, on)) (all place (omega (arith, short)) (inl (omega (arith, on), omega (arith, short)))))),
        )
    go false e later =
        let long = ge_of (run_from outer.0 (max outer.1 q.0)).1 (min below (q.0 + length q.1)) e in (
          λ is i small here. elim here [
            | inr rest ↦ later.0 is i small rest
            | inl first ↦ elim (cases_lt i outer.1) [
              | inl early ↦ stands.before i (omega (arith, order.0, first.0)) early
              | inr late ↦ stands.within i (run.reached i (omega (arith, late, first.0)) (omega (arith, long, small, first.1)))
            ]
          ],
          λ all. later.1 (λ i small rest. all i small (inr rest)),
        )

pub covers : (below : ℕ) (outer inner : Pieces) → AreInOrder 0 outer → AreInOrder 0 inner →
    IsTrue (reach_each below (outer, 0) inner) ↔ ((i : ℕ) → i < below → HasByteAt inner i → HasByteAt outer i)
unfolding Covers
covers below outer inner order others =
    covers_is below outer (outer, 0) 0 inner
    (record { before = λ j above less. absurd (omega (arith, less)); left = λ j above here. here; within = λ j here. here; order = (0, order) }) others

-- a range that pieces reach
pub reaches_range : (pieces : Pieces) (at end : ℕ) → AreInOrder 0 pieces → end ≤ (run_from pieces at).1 ↔ ((i : ℕ) → (at ≤ i) × (i < end) → HasByteAt pieces i)
reaches_range pieces at end order =
    let run = runs pieces at in (
      λ most i inside. run.reached i inside.0 (omega (arith, inside.1, most)),
      λ all. elim (cases_lt (run_from pieces at).1 end) [
        | inl short ↦ absurd ((run.behind 0 order).0 (all (run_from pieces at).1 (run.on, short)))
        | inr fits ↦ fits
      ],
    )

-- a place that small pieces reach is small
pub reached_small : (pieces : Pieces) (i : ℕ) → AreSmall pieces → HasByteAt pieces i → i < 2 ^ 63
reached_small [] i small here = absurd here
reached_small (p ∷ ps) i small (inl here) = omega (arith, here.1, All-head (λ piece. piece.0 + length piece.1 < 2 ^ 63) p ps small)
reached_small (p ∷ ps) i small (inr later) = reached_small ps i (All-tail (λ piece. piece.0 + length piece.1 < 2 ^ 63) p ps small) later

-- below both lengths
pub below_is : (l : Option (ℕ × ℕ)) (i : ℕ) → IsBelowBoth l i → i < 2 ^ 63 → i < below_both l
below_is None i below small = omega (arith, small)
below_is (Some l) i below small = omega (arith, below.0, below.1)

pub is_below : (l : Option (ℕ × ℕ)) (i : ℕ) → i < below_both l → IsBelowBoth l i
is_below None i less = tt
is_below (Some l) i less = (omega (arith, less), omega (arith, less))

-- the pieces of a slice from an index on
pub contents_at : {A : Type 0} (ps : List (Piece A)) (i : ℕ) (piece : Piece A) → i < length ps → piece ≡ get_or ps i piece →
    contents (drop i ps) ≡ (piece.at, piece.bytes) ∷ contents (drop (i + 1) ps)
contents_at ps i piece inside is = ap contents (drop_more ps i piece inside ∙ ap (λ p. p ∷ drop (i + 1) ps) (sym is))

pub contents_end : {A : Type 0} (ps : List (Piece A)) (i : ℕ) → length ps ≤ i → contents (drop i ps) ≡ []
contents_end ps i past = ap contents (drop_all i ps past)

pub small_at : {A : Type 0} (ps : List (Piece A)) (i : ℕ) (piece : Piece A) → AreSmall (contents ps) → i < length ps → piece ≡ get_or ps i piece → piece.at + length piece.bytes < 2 ^ 63
small_at [] i piece small inside is = absurd (omega (arith, inside))
small_at {A = A} (p ∷ ps) zero piece small inside is =
    subst (λ (q : Piece A). q.at + length q.bytes < 2 ^ 63) (sym is) (All-head (λ piece. piece.0 + length piece.1 < 2 ^ 63) (p.at, p.bytes) (contents ps) small)
small_at (p ∷ ps) (suc i) piece small inside is =
    small_at ps i piece (All-tail (λ piece. piece.0 + length piece.1 < 2 ^ 63) (p.at, p.bytes) (contents ps) small) (omega (arith, inside)) is

-- a walk of a slice
pub run_stops : {A : Type 0} (ps : List (Piece A)) (i end : ℕ) (piece : Piece A) → i < length ps → piece ≡ get_or ps i piece → end < piece.at →
    (contents (drop i ps), end) ≡ run_from (contents (drop i ps)) end
run_stops ps i end piece inside is far = rw (contents_at ps i piece inside is) (go (nat_le piece.at end) refl)
  where
    go : (b : Bool) → nat_le piece.at end ≡ b → ((piece.at, piece.bytes) ∷ contents (drop (i + 1) ps), end)
        ≡ cond b (run_from (contents (drop (i + 1) ps)) (max end (piece.at + length piece.bytes))) ((piece.at, piece.bytes) ∷ contents (drop (i + 1) ps), end)
    go true e = absurd (omega (arith, far, le_of piece.at end e))
    go false e = refl

pub run_goes : {A : Type 0} (ps : List (Piece A)) (i end : ℕ) (piece : Piece A) → i < length ps → piece ≡ get_or ps i piece → piece.at ≤ end →
    run_from (contents (drop (i + 1) ps)) (max end (piece.at + length piece.bytes)) ≡ run_from (contents (drop i ps)) end
run_goes ps i end piece inside is near = rw (contents_at ps i piece inside is) (go (nat_le piece.at end) refl)
  where
    go : (b : Bool) → nat_le piece.at end ≡ b → run_from (contents (drop (i + 1) ps)) (max end (piece.at + length piece.bytes))
        ≡ cond b (run_from (contents (drop (i + 1) ps)) (max end (piece.at + length piece.bytes))) ((piece.at, piece.bytes) ∷ contents (drop (i + 1) ps), end)
    go true e = refl
    go false e = absurd (omega (arith, near, gt_of piece.at end e))

pub run_ends : {A : Type 0} (ps : List (Piece A)) (i end : ℕ) → length ps ≤ i → (contents (drop i ps), end) ≡ run_from (contents (drop i ps)) end
run_ends ps i end past = rw (contents_end ps i past) refl

-- whether the pieces of a slice are in order
module _ {A : Type 0} (X : Type 0) (ps : List (Piece A)) (i end : ℕ) (stands : AreInOrder end (contents (drop i ps)) ↔ X) where
  pub order_goes : (piece : Piece A) → i < length ps → piece ≡ get_or ps i piece → end ≤ piece.at → AreInOrder (piece.at + length piece.bytes) (contents (drop (i + 1) ps)) ↔ X
  order_goes piece inside is near =
      let same = contents_at ps i piece inside is in (
        λ order. stands.0 (subst (AreInOrder end) (sym same) (near, order)),
        λ x. (subst (AreInOrder end) same (stands.1 x)).1,
      )

  pub order_stops : (piece : Piece A) → i < length ps → piece ≡ get_or ps i piece → piece.at < end → X → ⊥
  order_stops piece inside is early x =
      let order = subst (AreInOrder end) (contents_at ps i piece inside is) (stands.1 x) in omega (arith, early, order.0)

  pub order_ends : length ps ≤ i → X
  order_ends past = stands.0 (subst (AreInOrder end) (sym (contents_end ps i past)) tt)

-- whether pieces reach each place that the pieces of a slice reach
module _ {A : Type 0} (below : ℕ) (outer run : Pieces × ℕ) (ps : List (Piece A)) (i : ℕ) (piece : Piece A) (inside : i < length ps) (is : piece ≡ get_or ps i piece)
    (on : run ≡ run_from outer.0 (max outer.1 piece.at)) where
  pub each_stops : run.1 < min below (piece.at + length piece.bytes) → false ≡ reach_each below outer (contents (drop i ps))
  each_stops short = rw (contents_at ps i piece inside is) (go (nat_lt (run_from outer.0 (max outer.1 piece.at)).1 (min below (piece.at + length piece.bytes))) refl)
    where
      go : (b : Bool) → nat_lt (run_from outer.0 (max outer.1 piece.at)).1 (min below (piece.at + length piece.bytes)) ≡ b
          → false ≡ cond b false (reach_each below (run_from outer.0 (max outer.1 piece.at)) (contents (drop (i + 1) ps)))
      go true e = refl
      go false e = absurd (omega (arith, short, ap (λ (r : Pieces × ℕ). r.1) on, ge_of (run_from outer.0 (max outer.1 piece.at)).1 (min below (piece.at + length piece.bytes)) e))

  pub each_goes : min below (piece.at + length piece.bytes) ≤ run.1 → reach_each below run (contents (drop (i + 1) ps)) ≡ reach_each below outer (contents (drop i ps))
  each_goes far = rw (contents_at ps i piece inside is) (go (nat_lt (run_from outer.0 (max outer.1 piece.at)).1 (min below (piece.at + length piece.bytes))) refl)
    where
      go : (b : Bool) → nat_lt (run_from outer.0 (max outer.1 piece.at)).1 (min below (piece.at + length piece.bytes)) ≡ b
          → reach_each below run (contents (drop (i + 1) ps)) ≡ cond b false (reach_each below (run_from outer.0 (max outer.1 piece.at)) (contents (drop (i + 1) ps)))
      go true e = absurd (omega (arith, far, ap (λ (r : Pieces × ℕ). r.1) on, lt_of (run_from outer.0 (max outer.1 piece.at)).1 (min below (piece.at + length piece.bytes)) e))
      go false e = ap (λ r. reach_each below r (contents (drop (i + 1) ps))) on

pub each_ends : {A : Type 0} (below : ℕ) (outer : Pieces × ℕ) (ps : List (Piece A)) (i : ℕ) → length ps ≤ i → true ≡ reach_each below outer (contents (drop i ps))
each_ends below outer ps i past = rw (contents_end ps i past) refl

-- whether pieces reach each place that is cut off
pub cut_is : (pieces : Pieces) (old new : ℕ) (run : Pieces × ℕ) → AreInOrder 0 pieces → run ≡ run_from pieces new → IsTrue (nat_le old run.1) ↔ ((i : ℕ) → IsCutAway (Some (old, new)) i → HasByteAt pieces i)
cut_is pieces old new run order on =
    let range = reaches_range pieces new old order in
    let same : run.1 ≡ (run_from pieces new).1 = ap (λ (r : Pieces × ℕ). r.1) on in (
      λ is. range.0 (omega (arith, same, le_of old run.1 is)),
      λ all. let most = range.1 all in true_of old run.1 (omega (arith, most, same)),
    )
  where
    true_of : (a b : ℕ) → a ≤ b → IsTrue (nat_le a b)
    true_of a b le = grind (arith, nat_tests, le)

-- what is asked below both lengths
pub told_is : (l : Option (ℕ × ℕ)) (outer inner : Pieces) → AreSmall inner → AreInOrder 0 outer → AreInOrder 0 inner →
    IsTrue (reach_each (below_both l) (outer, 0) inner) ↔ ((i : ℕ) → IsBelowBoth l i → HasByteAt inner i → HasByteAt outer i)
told_is l outer inner small order others =
    let is = covers (below_both l) outer inner order others in (
      λ all i below here. is.0 all i (below_is l i below (reached_small inner i small here)) here,
      λ told. is.1 (λ i less here. told i (is_below l i less) here),
    )

-- the pieces of a text are small
signed_small : (lines : List (List ℕ)) (e w : Pieces) → GivesSigned lines e w → AreSmall e × AreSmall w
signed_small [] e w is = (subst AreSmall (sym is.0) (All-nil (λ piece. piece.0 + length piece.1 < 2 ^ 63)), subst AreSmall (sym is.1) (All-nil (λ piece. piece.0 + length piece.1 < 2 ^ 63)))
signed_small (line ∷ lines) e w (inl a) = signed_small lines e w a.1
signed_small (line ∷ lines) e w (inr (inl a)) =
    let rest = signed_small lines a.1 w a.4 in
    (subst AreSmall (sym a.3) (All-cons (λ piece. piece.0 + length piece.1 < 2 ^ 63) a.0 a.1 (small_end a.2.text a.0.0 a.0.1 (a.2.hex, a.2.is)) rest.0), rest.1)
signed_small (line ∷ lines) e w (inr (inr a)) =
    let rest = signed_small lines e a.1 a.4 in
    (rest.0, subst AreSmall (sym a.3) (All-cons (λ piece. piece.0 + length piece.1 < 2 ^ 63) a.0 a.1 (small_end a.2.text a.0.0 a.0.1 (a.2.hex, a.2.is)) rest.1))

patch_small : (lines : List (List ℕ)) (p : Asked) → GivesPatch lines p → AreSmall p.expected × AreSmall p.written
patch_small [] p is = signed_small [] p.expected p.written is.1
patch_small (line ∷ lines) p (inl a) = patch_small lines p a.1
patch_small (line ∷ lines) p (inr (inl a)) = signed_small lines p.expected p.written a.4
patch_small (line ∷ lines) p (inr (inr a)) = signed_small (line ∷ lines) p.expected p.written a.1

pub readable_small : (p : Asked) → IsReadPatch p → AreSmall p.expected × AreSmall p.written
readable_small p is = patch_small (lines_of is.1.lines) p is.1.before.gives

-- whether a patch can be turned round, as both walks tell
module _ (l : Option (ℕ × ℕ)) (e w : Pieces) (small : AreSmall e) (little : AreSmall w) (order : AreInOrder 0 e) (others : AreInOrder 0 w) (n : ℕ) (limit : n ≡ below_both l) where
  abbrev asks : Asked
  asks = record { lengths = l; expected = e; written = w }

  pub turns_no : (a : Bool) → a ≡ reach_each n (e, 0) w → a ≡ false → TurnsRound asks → ⊥
  turns_no a is off turns =
      let on : IsTrue (reach_each (below_both l) (e, 0) w) = (told_is l e w little order others).1 turns.told in
      let bad : false ≡ true = sym off ∙ is ∙ ap (λ m. reach_each m (e, 0) w) limit ∙ on in cc

  pub turns_yes : (a b : Bool) → ((i : ℕ) → IsCutAway l i → HasByteAt e i) → a ≡ reach_each n (e, 0) w → a ≡ true → b ≡ reach_each n (w, 0) e → IsTrue b ↔ TurnsRound asks
  turns_yes a b cut is on back =
      let told = (told_is l e w little order others).0 (sym (ap (λ m. reach_each m (e, 0) w) limit) ∙ sym is ∙ on) in
      let same : b ≡ reach_each (below_both l) (w, 0) e = back ∙ ap (λ m. reach_each m (w, 0) e) limit in (
        λ all. record { old_order = order; new_order = others; told = told; rewritten = (told_is l w e small others order).0 (sym same ∙ all); cut = cut },
        λ turns. same ∙ (told_is l w e small others order).1 turns.rewritten,
      )

pub slice_small : {A : Type 0} (ps qs : List (Piece A)) → ps ≡ qs → AreSmall (contents qs) → AreSmall (contents ps)
slice_small {A = A} ps qs e small = subst (λ (rs : List (Piece A)). AreSmall (contents rs)) (sym e) small
