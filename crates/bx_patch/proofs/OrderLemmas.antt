-- The patch from one list to another can be turned round.
use Rattle.std.proofs.Common.{◌≡◌, ◌⊎◌, ℕ, zero, suc, ◌+◌, ◌-◌, ◌*◌, ◌<◌, ◌≤◌, Bool, true, false, cond, eqb, List, [], ◌∷◌, ◌++◌, length, map, take, drop, inl, inr, refl, sym, ap, subst, ◌∙◌, append-nil, arith}
use Rattle.std.specs.Prelude.{flat_map, bytes_eq}
use Rattle.std.proofs.lemmas.List.{length-take, length-drop}
use Rattle.bx_image.specs.declared.record.spans.Span.{Span}
use Rattle.bx_text.specs.Fold.{line_bytes}
use Rattle.bx_patch.specs.Laws.{PatchTurnsRound}
use Rattle.bx_patch.specs.Patch.{AreInOrder, Pieces, HasByteAt, TurnsRound}
use Rattle.bx_patch.specs.declared.diff.row.Extent.{Extent}
use Rattle.bx_patch.specs.declared.diff.row.Extent.TheVariants.{Bytes, Rows}
use Rattle.bx_patch.specs.Text.{PatchLine, differs, line_for, patch_lines, row_count, row_lines, rows_from, span_lines, spans_from, with_place}
use Rattle.bx_patch.proofs.LineLemmas.{asked_by, pieces_of}
use Rattle.bx_patch.proofs.MakesLemmas.{either_differs, is_asked, not_differs, side_cover}
use Rattle.bx_patch.proofs.PushLemmas.{flat_more}
use Rattle.bx_patch.proofs.RowLemmas.{nested_take, reaches, side}
use Rattle.bx_patch.proofs.SpanLemmas.{HaveSpan}

-- ranges in order, from a place up to another
abbrev Between : ℕ → ℕ → List Span → Type 0
Between from to [] = from ≤ to
Between from to (s ∷ ss) = (from ≤ s.at) × (s.at ≤ s.end) × Between s.end to ss

between_le : (a b : ℕ) (ss : List Span) → Between a b ss → a ≤ b
between_le a b [] is = is
between_le a b (s ∷ ss) is = omega (arith, is.0, is.1, between_le s.end b ss is.2)

between_from : (a b c : ℕ) (ss : List Span) → a ≤ b → Between b c ss → Between a c ss
between_from a b c [] le is = omega (arith, le, is)
between_from a b c (s ∷ ss) le is = (omega (arith, le, is.0), is.1, is.2)

between_both : (a b c : ℕ) (ss ts : List Span) → Between a b ss → Between b c ts → Between a c (ss ++ ts)
between_both a b c [] ts is more = between_from a b c ts is more
between_both a b c (s ∷ ss) ts is more = (is.0, is.1, between_both s.end b c ss ts is.2 more)

with_between : (at e : ℕ) (ss : List Span) → Between (suc at) e ss → Between at e (with_place at ss)
unfolding with_place
with_between at e [] is = (omega arith, omega arith, is)
with_between at e (s ∷ ss) is = go (eqb s.at (suc at)) refl
  where
    go : (b : Bool) → eqb s.at (suc at) ≡ b → Between at e (cond b (record { at = at; end = s.end } ∷ ss) (record { at = at; end = suc at } ∷ s ∷ ss))
    go true h = (omega arith, omega (arith, is.0, is.1), is.2)
    go false h = (omega arith, omega arith, is)

spans_between : (test : ℕ → Bool) (at n : ℕ) → Between at (at + n) (spans_from test at n)
unfolding spans_from
spans_between test at zero = omega arith
spans_between test at (suc n) = go (test at) (subst (λ (e : ℕ). Between (suc at) e (spans_from test (suc at) n)) (omega arith) (spans_between test (suc at) n))
  where
    go : (b : Bool) → Between (suc at) (at + suc n) (spans_from test (suc at) n) → Between at (at + suc n) (cond b (with_place at (spans_from test (suc at) n)) (spans_from test (suc at) n))
    go true later = with_between at (at + suc n) (spans_from test (suc at) n) later
    go false later = between_from at (suc at) (at + suc n) (spans_from test (suc at) n) (omega arith) later

-- the lines for a range of both lists
abbrev at_lines : List ℕ → List ℕ → Span → List PatchLine
at_lines x y s = line_for false s.at (take (s.end - s.at) (drop s.at x)) ++ line_for true s.at (take (s.end - s.at) (drop s.at y))

-- lines of ranges in order
abbrev AreOf : List ℕ → List ℕ → ℕ → ℕ → List PatchLine → Type 0
AreOf x y from to ls = (ss : List Span) × (ls ≡ flat_map (at_lines x y) ss) × Between from to ss

-- a range of a row
abbrev moved : ℕ → Span → Span
moved k s = record { at = 16 * k + s.at; end = 16 * k + s.end }

span_moved : (x y : List ℕ) (k : ℕ) (s : Span) → s.at ≤ s.end → s.end ≤ 16 → span_lines (16 * k) (line_bytes x k) (line_bytes y k) s ≡ at_lines x y (moved k s)
span_moved x y k s order small =
    ap (λ b. line_for false (16 * k + s.at) b ++ line_for true (16 * k + s.at) (take (s.end - s.at) (drop s.at (line_bytes y k)))) (bytes_are x)
    ∙ ap (λ b. line_for false (16 * k + s.at) (take (16 * k + s.end - (16 * k + s.at)) (drop (16 * k + s.at) x)) ++ line_for true (16 * k + s.at) b) (bytes_are y)
  where
    bytes_are : (t : List ℕ) → take (s.end - s.at) (drop s.at (line_bytes t k)) ≡ take (16 * k + s.end - (16 * k + s.at)) (drop (16 * k + s.at) t)
    bytes_are t =
        let count : s.end - s.at ≡ 16 * k + s.end - (16 * k + s.at) = omega arith in
        nested_take t (16 * k) 16 s.at (s.end - s.at) (omega (arith, order, small)) ∙ ap (λ n. take n (drop (16 * k + s.at) t)) count

spans_moved : (x y : List ℕ) (k from : ℕ) (ss : List Span) → Between from 16 ss →
    (flat_map (span_lines (16 * k) (line_bytes x k) (line_bytes y k)) ss ≡ flat_map (at_lines x y) (map (moved k) ss)) × Between (16 * k + from) (16 * k + 16) (map (moved k) ss)
spans_moved x y k from [] is = (refl, omega (arith, is))
spans_moved x y k from (s ∷ ss) is =
    let later = spans_moved x y k s.end ss is.2 in
    let small = between_le s.end 16 ss is.2 in (
      ap (λ l. l ++ flat_map (span_lines (16 * k) (line_bytes x k) (line_bytes y k)) ss) (span_moved x y k s is.1 small) ∙ ap (λ t. at_lines x y (moved k s) ++ t) later.0,
      (omega (arith, is.0), omega (arith, is.1), later.1),
    )

row_is_of : (extent : Extent) (x y : List ℕ) (k : ℕ) → AreOf x y (16 * k) (16 * k + 16) (row_lines extent (16 * k) (line_bytes x k) (line_bytes y k))
row_is_of Bytes x y k =
    let ss = spans_from (differs (line_bytes x k) (line_bytes y k)) 0 16 in
    let is = spans_moved x y k 0 ss (spans_between (differs (line_bytes x k) (line_bytes y k)) 0 16) in
    (map (moved k) ss, is.0, between_from (16 * k) (16 * k + 0) (16 * k + 16) (map (moved k) ss) (omega arith) is.1)
row_is_of Rows x y k = go (bytes_eq (line_bytes x k) (line_bytes y k))
  where
    go : (b : Bool) → AreOf x y (16 * k) (16 * k + 16) (cond b [] (span_lines (16 * k) (line_bytes x k) (line_bytes y k) (record { at = 0; end = 16 })))
    go true = ([], refl, omega arith)
    go false = (
      moved k (record { at = 0; end = 16 }) ∷ [],
      span_moved x y k (record { at = 0; end = 16 }) (omega arith) (omega arith) ∙ sym (append-nil (at_lines x y (moved k (record { at = 0; end = 16 })))),
      (omega arith, omega arith, omega arith),
    )

rows_are_of : (extent : Extent) (x y : List ℕ) (k n : ℕ) → AreOf x y (16 * k) (16 * (k + n)) (rows_from extent x y k n)
rows_are_of extent x y k zero = ([], refl, omega arith)
rows_are_of extent x y k (suc n) =
    let first = row_is_of extent x y k in
    let rest = rows_are_of extent x y (k + 1) n in
    let row = row_lines extent (16 * k) (line_bytes x k) (line_bytes y k) in
    let start : 16 * (k + 1) ≡ 16 * k + 16 = omega arith in
    let end : 16 * (k + 1 + n) ≡ 16 * (k + suc n) = omega arith in (
      first.0 ++ rest.0,
      ap (λ l. l ++ rows_from extent x y (k + 1) n) first.1 ∙ ap (λ t. flat_map (at_lines x y) first.0 ++ t) rest.1 ∙ sym (flat_more (at_lines x y) first.0 rest.0),
      between_both (16 * k) (16 * k + 16) (16 * (k + suc n)) first.0 rest.0 first.2
          (subst (λ (e : ℕ). Between (16 * k + 16) e rest.0) end (subst (λ (b : ℕ). Between b (16 * (k + 1 + n)) rest.0) start rest.2)),
    )

-- the piece for bytes, where there are any
abbrev some_piece : ℕ → List ℕ → Pieces
some_piece at [] = []
some_piece at (b ∷ bytes) = (at, b ∷ bytes) ∷ []

parts : (new : Bool) (at : ℕ) (a b : List ℕ) (rest : List PatchLine) → pieces_of new ((line_for false at a ++ line_for true at b) ++ rest) ≡ some_piece at (cond new b a) ++ pieces_of new rest
parts true at [] [] rest = refl
parts true at [] (d ∷ b) rest = refl
parts true at (c ∷ a) [] rest = refl
parts true at (c ∷ a) (d ∷ b) rest = refl
parts false at [] [] rest = refl
parts false at [] (d ∷ b) rest = refl
parts false at (c ∷ a) [] rest = refl
parts false at (c ∷ a) (d ∷ b) rest = refl

order_from : (a b : ℕ) (ps : Pieces) → a ≤ b → AreInOrder b ps → AreInOrder a ps
order_from a b [] le order = tt
order_from a b (p ∷ ps) le order = (omega (arith, le, order.0), order.1)

order_put : (from at end : ℕ) (bytes : List ℕ) (rest : Pieces) → from ≤ at → at + length bytes ≤ end → AreInOrder end rest → AreInOrder from (some_piece at bytes ++ rest)
order_put from at end [] rest above most order = order_from from end rest (omega (arith, above, most)) order
order_put from at end (b ∷ bytes) rest above most order = (above, order_from (at + length (b ∷ bytes)) end rest most order)

split : (at : ℕ) (bytes : List ℕ) (rest : Pieces) (i : ℕ) → HasByteAt (some_piece at bytes ++ rest) i → ((at ≤ i) × (i < at + length bytes)) ⊎ HasByteAt rest i
split at [] rest i here = inr here
split at (b ∷ bytes) rest i here = here

join : (at : ℕ) (bytes : List ℕ) (rest : Pieces) (i : ℕ) → ((at ≤ i) × (i < at + length bytes)) ⊎ HasByteAt rest i → HasByteAt (some_piece at bytes ++ rest) i
join at [] rest i (inl here) = absurd (omega (arith, here.0, here.1))
join at [] rest i (inr later) = later
join at (b ∷ bytes) rest i here = here

module _ (x y : List ℕ) where
  -- the bytes of one side in a range
  abbrev of_side : Bool → Span → List ℕ
  of_side new s = cond new (take (s.end - s.at) (drop s.at y)) (take (s.end - s.at) (drop s.at x))

  side_length : (new : Bool) (s : Span) (i : ℕ) → s.at ≤ i → s.at ≤ s.end → i < s.at + length (of_side new s) → (i < s.end) × (i < length (side new x y))
  side_length true s i above order below = (
    omega (arith, above, order, below, length-take {A = ℕ} (s.end - s.at) (drop s.at y), length-drop {A = ℕ} s.at y),
    omega (arith, above, order, below, length-take {A = ℕ} (s.end - s.at) (drop s.at y), length-drop {A = ℕ} s.at y),
  )
  side_length false s i above order below = (
    omega (arith, above, order, below, length-take {A = ℕ} (s.end - s.at) (drop s.at x), length-drop {A = ℕ} s.at x),
    omega (arith, above, order, below, length-take {A = ℕ} (s.end - s.at) (drop s.at x), length-drop {A = ℕ} s.at x),
  )

  side_most : (new : Bool) (s : Span) → s.at ≤ s.end → s.at + length (of_side new s) ≤ s.end
  side_most true s order = omega (arith, order, length-take {A = ℕ} (s.end - s.at) (drop s.at y))
  side_most false s order = omega (arith, order, length-take {A = ℕ} (s.end - s.at) (drop s.at x))

  side_long : (new : Bool) (s : Span) (i : ℕ) → s.at ≤ i → i < s.end → i < length (side new x y) → i < s.at + length (of_side new s)
  side_long true s i above below inside = omega (arith, above, below, inside, length-take {A = ℕ} (s.end - s.at) (drop s.at y), length-drop {A = ℕ} s.at y)
  side_long false s i above below inside = omega (arith, above, below, inside, length-take {A = ℕ} (s.end - s.at) (drop s.at x), length-drop {A = ℕ} s.at x)

  abbrev pieces_in : Bool → List Span → Pieces
  pieces_in new ss = pieces_of new (flat_map (at_lines x y) ss)

  pieces_first : (new : Bool) (s : Span) (ss : List Span) → pieces_in new (s ∷ ss) ≡ some_piece s.at (of_side new s) ++ pieces_in new ss
  pieces_first new s ss = parts new s.at (take (s.end - s.at) (drop s.at x)) (take (s.end - s.at) (drop s.at y)) (flat_map (at_lines x y) ss)

  in_order : (new : Bool) (from to : ℕ) (ss : List Span) → Between from to ss → AreInOrder from (pieces_in new ss)
  in_order new from to [] is = tt
  in_order new from to (s ∷ ss) is =
      subst (AreInOrder from) (sym (pieces_first new s ss)) (order_put from s.at s.end (of_side new s) (pieces_in new ss) is.0 (side_most new s is.1) (in_order new s.end to ss is.2))

  reached : (new : Bool) (from to : ℕ) (ss : List Span) (i : ℕ) → Between from to ss → HasByteAt (pieces_in new ss) i → HaveSpan ss i × (i < length (side new x y))
  reached new from to [] i is here = absurd here
  reached new from to (s ∷ ss) i is here =
      elim (split s.at (of_side new s) (pieces_in new ss) i (subst (λ (ps : Pieces). HasByteAt ps i) (pieces_first new s ss) here)) [
        | inl first ↦ let ends = side_length new s i first.0 is.1 first.1 in (inl (first.0, ends.0), ends.1)
        | inr later ↦ let rest = reached new s.end to ss i is.2 later in (inr rest.0, rest.1)
      ]

  reaches_back : (new : Bool) (from to : ℕ) (ss : List Span) (i : ℕ) → Between from to ss → HaveSpan ss i → i < length (side new x y) → HasByteAt (pieces_in new ss) i
  reaches_back new from to [] i is have inside = absurd have
  reaches_back new from to (s ∷ ss) i is have inside =
      subst (λ (ps : Pieces). HasByteAt ps i) (sym (pieces_first new s ss)) (join s.at (of_side new s) (pieces_in new ss) i (by have (λ later. reaches_back new s.end to ss i is.2 later inside)))
    where
      by : HaveSpan (s ∷ ss) i → (HaveSpan ss i → HasByteAt (pieces_in new ss) i) → ((s.at ≤ i) × (i < s.at + length (of_side new s))) ⊎ HasByteAt (pieces_in new ss) i
      by (inl here) rest = inl (here.0, side_long new s i here.0 here.1 inside)
      by (inr later) rest = inr (rest later)

  -- the lines of the patch
  module _ (extent : Extent) where
    own : AreOf x y (16 * 0) (16 * (0 + row_count x y)) (patch_lines extent x y)
    own = rows_are_of extent x y 0 (row_count x y)

    ordered : (new : Bool) → AreInOrder 0 (pieces_of new (patch_lines extent x y))
    ordered new =
        let first : 16 * 0 ≡ 0 = omega arith in
        order_from 0 (16 * 0) (pieces_of new (patch_lines extent x y)) (omega arith)
        (subst (λ (ls : List PatchLine). AreInOrder (16 * 0) (pieces_of new ls)) (sym own.1) (in_order new (16 * 0) (16 * (0 + row_count x y)) own.0 own.2))

    across : (new other : Bool) (i : ℕ) → i < length (side other x y) → HasByteAt (pieces_of new (patch_lines extent x y)) i → HasByteAt (pieces_of other (patch_lines extent x y)) i
    across new other i inside here =
        let have = (reached new (16 * 0) (16 * (0 + row_count x y)) own.0 i own.2 (subst (λ (ls : List PatchLine). HasByteAt (pieces_of new ls) i) own.1 here)).0 in
        subst (λ (ls : List PatchLine). HasByteAt (pieces_of other ls) i) (sym own.1) (reaches_back other (16 * 0) (16 * (0 + row_count x y)) own.0 i own.2 have inside)

    cut_away : (i : ℕ) → length y ≤ i → i < length x → HasByteAt (pieces_of false (patch_lines extent x y)) i
    cut_away i past inside = side_cover false (patch_lines extent x y) i (reaches x y extent false i inside differ)
      where
        differ : differs x y i ≡ true
        differ = elim (either_differs (differs x y i)) [
          | inl apart ↦ apart
          | inr same ↦ absurd (omega (arith, past, inside, ap length (not_differs x y i same), length-take {A = ℕ} 1 (drop i x), length-drop {A = ℕ} i x, length-take {A = ℕ} 1 (drop i y), length-drop {A = ℕ} i y))
        ]

    turns_by : (ls : List PatchLine) → patch_lines extent x y ≡ ls → TurnsRound (asked_by (length x) (length y) ls)
    turns_by [] e = record { old_order = tt; new_order = tt; told = λ i below here. here; rewritten = λ i below here. here; cut = λ i cut. cut }
    turns_by (l ∷ ls) e =
        let P : (List PatchLine → Type 0) → Type 0 = λ Q. Q (patch_lines extent x y) → Q (l ∷ ls) in
        let to : (Q : List PatchLine → Type 0) → P Q = λ Q q. subst Q e q in
        record {
          old_order = to (λ ls. AreInOrder 0 (pieces_of false ls)) (ordered false);
          new_order = to (λ ls. AreInOrder 0 (pieces_of true ls)) (ordered true);
          told = λ i below. to (λ ls. HasByteAt (pieces_of true ls) i → HasByteAt (pieces_of false ls) i) (across true false i below.0);
          rewritten = λ i below. to (λ ls. HasByteAt (pieces_of false ls) i → HasByteAt (pieces_of true ls) i) (across false true i below.1);
          cut = λ i cut. to (λ ls. HasByteAt (pieces_of false ls) i) (cut_away i cut.0 cut.1);
        }

pub patch_turns_round : PatchTurnsRound
patch_turns_round extent x y p short little is =
    subst TurnsRound (is_asked ℕ extent x y short little p is) (turns_by x y extent (patch_lines extent x y) refl)
