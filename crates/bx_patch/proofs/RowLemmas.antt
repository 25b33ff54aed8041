-- The lines of rows: whose bytes they have, and which addresses they reach.
use Rattle.std.proofs.Common.{◌≡◌, ◌⊎◌, ℕ, zero, suc, ◌+◌, ◌-◌, ◌*◌, ◌/◌, ◌%◌, ◌<◌, ◌≤◌, ◌^◌, max, Bool, true, false, not, cond, List, [], ◌∷◌, ◌++◌, length, take, drop, inl, inr, refl, sym, ap, subst, ◌∙◌, arith}
use Rattle.std.specs.Prelude.{flat_map, bytes_eq}
use Rattle.std.specs.List.{All}
use Rattle.std.proofs.lemmas.Grind.{same_number_lists}
use Rattle.std.proofs.lemmas.List.{places, length-take, length-drop}
use Rattle.std.proofs.lemmas.Bool.{cases_lt}
use Rattle.std.proofs.lemmas.List.Elements.{All-take, All-drop}
use Rattle.std.proofs.lemmas.Slice.Eq.{bytes_eq-Decides}
use Rattle.bx_image.specs.declared.record.spans.Span.{Span}
use Rattle.bx_text.specs.Fold.{line_bytes}
use Rattle.bx_patch.specs.Patch.{HasPiece}
use Rattle.bx_patch.specs.declared.diff.row.Extent.{Extent}
use Rattle.bx_patch.specs.declared.diff.row.Extent.TheVariants.{Bytes, Rows}
use Rattle.bx_patch.specs.Text.{PatchLine, differs, line_for, span_lines, row_lines, row_count, rows_from, patch_lines, spans_from}
use Rattle.bx_patch.proofs.LineLemmas.{Each, Each-append, IsFine}
use Rattle.bx_patch.proofs.SpanLemmas.{HaveSpan, has_span}

-- one of two lists
abbrev pub side : Bool → List ℕ → List ℕ → List ℕ
side new x y = cond new y x

-- the bytes of row k in a range
abbrev pub part : List ℕ → ℕ → Span → List ℕ
part t k s = take (s.end - s.at) (drop s.at (line_bytes t k))

part_length : (t : List ℕ) (k : ℕ) (s : Span) → length (part t k s) ≤ length t - (16 * k + s.at)
part_length t k s = omega (arith, length-take {A = ℕ} (s.end - s.at) (drop s.at (line_bytes t k)), length-drop {A = ℕ} s.at (line_bytes t k), length-take {A = ℕ} 16 (drop (16 * k) t), length-drop {A = ℕ} (16 * k) t)

part_few : (t : List ℕ) (k : ℕ) (s : Span) → length (part t k s) ≤ 16
part_few t k s = omega (arith, length-take {A = ℕ} (s.end - s.at) (drop s.at (line_bytes t k)), length-drop {A = ℕ} s.at (line_bytes t k), length-take {A = ℕ} 16 (drop (16 * k) t))

-- as many as are asked for, in the row and in the list
part_reach : (t : List ℕ) (k j : ℕ) (s : Span) → s.at ≤ j → j < s.end → j < 16 → 16 * k + j < length t → j < s.at + length (part t k s)
part_reach t k j s above below small inside =
    omega (arith, length-take {A = ℕ} (s.end - s.at) (drop s.at (line_bytes t k)), length-drop {A = ℕ} s.at (line_bytes t k), length-take {A = ℕ} 16 (drop (16 * k) t), length-drop {A = ℕ} (16 * k) t)

-- bytes of a part of a part
nested_has : (t : List ℕ) (base width at n : ℕ) → let bytes = take n (drop at (take width (drop base t))) in take (length bytes) (drop (base + at) t) ≡ bytes
nested_has t base width at n =
    let bytes = take n (drop at (take width (drop base t))) in
    let len : length (take (length bytes) (drop (base + at) t)) ≡ length bytes =
    omega (arith, length-take {A = ℕ} (length bytes) (drop (base + at) t), length-drop {A = ℕ} (base + at) t, length-take {A = ℕ} n (drop at (take width (drop base t))), length-drop {A = ℕ} at (take width (drop base t)), length-take {A = ℕ} width (drop base t), length-drop {A = ℕ} base t) in
    same_number_lists (take (length bytes) (drop (base + at) t)) bytes len (λ i h. grind (arith, places))

pub nested_take : (t : List ℕ) (base width at n : ℕ) → at + n ≤ width → take n (drop at (take width (drop base t))) ≡ take n (drop (base + at) t)
nested_take t base width at n fits =
    let len : length (take n (drop at (take width (drop base t)))) ≡ length (take n (drop (base + at) t)) =
    omega (arith, length-take {A = ℕ} n (drop (base + at) t), length-drop {A = ℕ} (base + at) t, length-take {A = ℕ} n (drop at (take width (drop base t))), length-drop {A = ℕ} at (take width (drop base t)), length-take {A = ℕ} width (drop base t), length-drop {A = ℕ} base t) in
    same_number_lists (take n (drop at (take width (drop base t)))) (take n (drop (base + at) t)) len (λ i h. grind (arith, places))

part_has : (t : List ℕ) (k : ℕ) (s : Span) → HasPiece t (16 * k + s.at, part t k s)
part_has t k s = nested_has t (16 * k) 16 s.at (s.end - s.at)

-- a line is of one side, and has its bytes
pub record IsOf (x y : List ℕ) (l : PatchLine) : Type 0 where
  pub fine : IsFine l
  pub has : HasPiece (side l.0 x y) (l.1, l.2)

-- a line reaches an address of one side
abbrev pub Reach : Bool → List PatchLine → ℕ → Type 0
Reach new [] i = ⊥
Reach new (l ∷ ls) i = ((l.0 ≡ new) × (l.1 ≤ i) × (i < l.1 + length l.2)) ⊎ Reach new ls i

Reach-left : (new : Bool) (ls ms : List PatchLine) (i : ℕ) → Reach new ls i → Reach new (ls ++ ms) i
Reach-left new [] ms i h = absurd h
Reach-left new (l ∷ ls) ms i (inl h) = inl h
Reach-left new (l ∷ ls) ms i (inr h) = inr (Reach-left new ls ms i h)

Reach-right : (new : Bool) (ls ms : List PatchLine) (i : ℕ) → Reach new ms i → Reach new (ls ++ ms) i
Reach-right new [] ms i h = h
Reach-right new (l ∷ ls) ms i h = inr (Reach-right new ls ms i h)

module _ (x y : List ℕ) (small : length x ≤ 2 ^ 62) (little : length y ≤ 2 ^ 62) (are : All (λ b. b < 256) x) (others : All (λ b. b < 256) y) where
  side_small : (new : Bool) → length (side new x y) ≤ 2 ^ 62
  side_small true = little
  side_small false = small

  side_bytes : (new : Bool) → All (λ b. b < 256) (side new x y)
  side_bytes true = others
  side_bytes false = are

  -- the line of one side in a range
  one_of : (new : Bool) (k : ℕ) (s : Span) (bytes : List ℕ) → bytes ≡ part (side new x y) k s → Each (IsOf x y) (line_for new (16 * k + s.at) bytes)
  one_of new k s [] e = tt
  one_of new k s (b ∷ bytes) e =
      let t = side new x y in
      let few = part_length t k s in
      let long : suc (length bytes) ≡ length (part t k s) = ap length e in (
        record {
          fine = record {
            some = omega arith;
            few = omega (arith, part_few t k s);
            bytes = subst (All (λ b. b < 256)) (sym e) (All-take (λ b. b < 256) (s.end - s.at) (drop s.at (line_bytes t k)) (All-drop (λ b. b < 256) s.at (line_bytes t k) (All-take (λ b. b < 256) 16 (drop (16 * k) t) (All-drop (λ b. b < 256) (16 * k) t (side_bytes new)))));
            small = omega (arith, side_small new);
          };
          has = subst (λ (bytes : List ℕ). HasPiece t (16 * k + s.at, bytes)) (sym e) (part_has t k s);
        },
        tt,
      )

  span_of : (k : ℕ) (s : Span) → Each (IsOf x y) (span_lines (16 * k) (line_bytes x k) (line_bytes y k) s)
  span_of k s =
      Each-append (IsOf x y) (line_for false (16 * k + s.at) (part x k s)) (line_for true (16 * k + s.at) (part y k s))
      (one_of false k s (part x k s) refl) (one_of true k s (part y k s) refl)

  spans_of : (k : ℕ) (spans : List Span) → Each (IsOf x y) (flat_map (span_lines (16 * k) (line_bytes x k) (line_bytes y k)) spans)
  spans_of k [] = tt
  spans_of k (s ∷ spans) =
      Each-append (IsOf x y) (span_lines (16 * k) (line_bytes x k) (line_bytes y k) s)
      (flat_map (span_lines (16 * k) (line_bytes x k) (line_bytes y k)) spans) (span_of k s) (spans_of k spans)

  row_of : (extent : Extent) (k : ℕ) → Each (IsOf x y) (row_lines extent (16 * k) (line_bytes x k) (line_bytes y k))
  row_of Bytes k = spans_of k (spans_from (differs (line_bytes x k) (line_bytes y k)) 0 16)
  row_of Rows k = go (bytes_eq (line_bytes x k) (line_bytes y k))
    where
      go : (b : Bool) → Each (IsOf x y) (cond b [] (span_lines (16 * k) (line_bytes x k) (line_bytes y k) (record { at = 0; end = 16 })))
      go true = tt
      go false = span_of k (record { at = 0; end = 16 })

  pub rows_of : (extent : Extent) (k n : ℕ) → Each (IsOf x y) (rows_from extent x y k n)
  rows_of extent k zero = tt
  rows_of extent k (suc n) =
      Each-append (IsOf x y) (row_lines extent (16 * k) (line_bytes x k) (line_bytes y k)) (rows_from extent x y (k + 1) n)
      (row_of extent k) (rows_of extent (k + 1) n)

-- the line of one side in a range reaches each of its addresses
module _ (x y : List ℕ) where
  one_reach : (new : Bool) (k j : ℕ) (s : Span) (bytes : List ℕ) → s.at ≤ j → j < s.at + length bytes → Reach new (line_for new (16 * k + s.at) bytes) (16 * k + j)
  one_reach new k j s [] above below = absurd (omega arith)
  one_reach new k j s (b ∷ bytes) above below = inl (refl, omega arith, omega arith)

  span_reach : (new : Bool) (k j : ℕ) (s : Span) → s.at ≤ j → j < s.end → j < 16 → 16 * k + j < length (side new x y) →
      Reach new (span_lines (16 * k) (line_bytes x k) (line_bytes y k) s) (16 * k + j)
  span_reach false k j s above below small inside =
      Reach-left false (line_for false (16 * k + s.at) (part x k s)) (line_for true (16 * k + s.at) (part y k s)) (16 * k + j)
      (one_reach false k j s (part x k s) above (part_reach x k j s above below small inside))
  span_reach true k j s above below small inside =
      Reach-right true (line_for false (16 * k + s.at) (part x k s)) (line_for true (16 * k + s.at) (part y k s)) (16 * k + j)
      (one_reach true k j s (part y k s) above (part_reach y k j s above below small inside))

  spans_reach : (new : Bool) (k j : ℕ) (spans : List Span) → HaveSpan spans j → j < 16 → 16 * k + j < length (side new x y) →
      Reach new (flat_map (span_lines (16 * k) (line_bytes x k) (line_bytes y k)) spans) (16 * k + j)
  spans_reach new k j [] have small inside = absurd have
  spans_reach new k j (s ∷ spans) (inl here) small inside =
      Reach-left new (span_lines (16 * k) (line_bytes x k) (line_bytes y k) s) (flat_map (span_lines (16 * k) (line_bytes x k) (line_bytes y k)) spans) (16 * k + j)
      (span_reach new k j s here.0 here.1 small inside)
  spans_reach new k j (s ∷ spans) (inr later) small inside =
      Reach-right new (span_lines (16 * k) (line_bytes x k) (line_bytes y k) s) (flat_map (span_lines (16 * k) (line_bytes x k) (line_bytes y k)) spans) (16 * k + j)
      (spans_reach new k j spans later small inside)

  -- a place of a row is that address of the list
  at_place : (t : List ℕ) (k j : ℕ) → j < 16 → take 1 (drop j (line_bytes t k)) ≡ take 1 (drop (16 * k + j) t)
  at_place t k j small = nested_take t (16 * k) 16 j 1 (omega arith)

  pub differs_at : (k j : ℕ) → j < 16 → differs (line_bytes x k) (line_bytes y k) j ≡ differs x y (16 * k + j)
  differs_at k j small =
      ap (λ a. not (bytes_eq a (take 1 (drop j (line_bytes y k))))) (at_place x k j small)
      ∙ ap (λ b. not (bytes_eq (take 1 (drop (16 * k + j) x)) b)) (at_place y k j small)

  -- rows that are equal differ nowhere
  equal_row : (a b : List ℕ) (j : ℕ) → bytes_eq a b ≡ true → differs a b j ≡ true → ⊥
  equal_row a b j same differ =
      let both : take 1 (drop j a) ≡ take 1 (drop j b) = ap (λ l. take 1 (drop j l)) ((bytes_eq-Decides a b).0 same) in
      not_both (bytes_eq (take 1 (drop j a)) (take 1 (drop j b))) ((bytes_eq-Decides (take 1 (drop j a)) (take 1 (drop j b))).1 both) differ
    where
      not_both : (b : Bool) → b ≡ true → not b ≡ true → ⊥
      not_both true e f = cc
      not_both false e f = cc

  row_reach : (extent : Extent) (new : Bool) (k j : ℕ) → j < 16 → 16 * k + j < length (side new x y) → differs x y (16 * k + j) ≡ true →
      Reach new (row_lines extent (16 * k) (line_bytes x k) (line_bytes y k)) (16 * k + j)
  row_reach Bytes new k j small inside differ =
      spans_reach new k j (spans_from (differs (line_bytes x k) (line_bytes y k)) 0 16)
      (has_span (differs (line_bytes x k) (line_bytes y k)) 0 16 j (omega arith) (omega arith) (differs_at k j small ∙ differ)) small inside
  row_reach Rows new k j small inside differ =
      go (bytes_eq (line_bytes x k) (line_bytes y k)) refl
    where
      go : (b : Bool) → bytes_eq (line_bytes x k) (line_bytes y k) ≡ b →
          Reach new (cond b [] (span_lines (16 * k) (line_bytes x k) (line_bytes y k) (record { at = 0; end = 16 }))) (16 * k + j)
      go true same = absurd (equal_row (line_bytes x k) (line_bytes y k) j same (differs_at k j small ∙ differ))
      go false other = span_reach new k j (record { at = 0; end = 16 }) (omega arith) small small inside

  rows_reach : (extent : Extent) (new : Bool) (from n k j : ℕ) → from ≤ k → k < from + n → j < 16 → 16 * k + j < length (side new x y) → differs x y (16 * k + j) ≡ true →
      Reach new (rows_from extent x y from n) (16 * k + j)
  rows_reach extent new from zero k j above below small inside differ = absurd (omega arith)
  rows_reach extent new from (suc n) k j above below small inside differ = elim (cases_le_suc from k above) [
    | inl same ↦ Reach-left new (row_lines extent (16 * from) (line_bytes x from) (line_bytes y from)) (rows_from extent x y (from + 1) n) (16 * k + j) (let P : ℕ → Type 0 = λ m. Reach new (row_lines extent (16 * m) (line_bytes x m) (line_bytes y m)) (16 * k + j) in subst P (sym same) (row_reach extent new k j small inside differ))
    | inr more ↦ Reach-right new (row_lines extent (16 * from) (line_bytes x from) (line_bytes y from)) (rows_from extent x y (from + 1) n) (16 * k + j) (rows_reach extent new (from + 1) n k j more (omega arith) small inside differ)
  ]
    where
      cases_le_suc : (a b : ℕ) → a ≤ b → (a ≡ b) ⊎ (a + 1 ≤ b)
      cases_le_suc a b h = elim (cases_lt a b) [ inl below ↦ inr (omega arith) | inr over ↦ inl (omega arith) ]

  -- an address where the two differ is reached on each side that has it
  pub reaches : (extent : Extent) (new : Bool) (i : ℕ) → i < length (side new x y) → differs x y i ≡ true → Reach new (patch_lines extent x y) i
  reaches extent new i inside differ =
      let k = i / 16 in
      let j = i % 16 in
      let place : 16 * k + j ≡ i = omega arith in
      let P : ℕ → Type 0 = λ a. Reach new (patch_lines extent x y) a in
      subst P place (rows_reach extent new 0 (row_count x y) k j (omega arith) (omega (arith, side_max new)) (omega arith) (omega arith) (ap (differs x y) place ∙ differ))
    where
      side_max : (new : Bool) → length (side new x y) ≤ max (length x) (length y)
      side_max true = omega arith
      side_max false = omega arith
