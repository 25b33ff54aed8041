-- Places at which two lists have the same bytes, and the rows that have no lines there.
use Rattle.std.proofs.Common.{◌≡◌, ℕ, zero, suc, ◌+◌, ◌-◌, ◌*◌, ◌/◌, ◌%◌, ◌<◌, ◌≤◌, inl, inr, max, false, Option, List, [], ◌∷◌, ◌++◌, length, take, drop, slice_index, refl, sym, ap, subst, ◌∙◌, append-nil, arith}
use Rattle.std.proofs.Math.Seq.{drop-cons}
use Rattle.std.proofs.lemmas.Bool.{cases_lt}
use Rattle.std.proofs.lemmas.List.{drop_all}
use Rattle.bx_text.specs.Fold.{line_bytes}
use Rattle.bx_text.proofs.KnownLemmas.{Appends-nil}
use Rattle.bx_patch.specs.declared.diff.row.Extent.{Extent}
use Rattle.bx_patch.specs.Text.{PatchLine, differs, row_lines, rows_from}
use Rattle.bx_patch.specs.private.Row.{AreSame}
use Rattle.bx_image.proofs.Images.{same_image}
use Rattle.bx_patch.specs.private.Diff.{HasPut, lines_before, part_at}
use Rattle.bx_patch.proofs.DiffLemmas.{flat_split}
use Rattle.bx_patch.proofs.MakesLemmas.{not_differs, same_byte}
use Rattle.bx_patch.proofs.RowLemmas.{nested_take}
use Rattle.bx_patch.proofs.OtherLemmas.{drop_twice, is_same}
use Rattle.bx_patch.proofs.PushLemmas.{equal_rows}
use Rattle.bx_patch.proofs.WritingLemmas.{no_more}

-- two lists that both have a byte at a place, and the same one
pub same_at : (x y : List ℕ) (j : ℕ) → j < length x → j < length y → slice_index x j ≡ slice_index y j → differs x y j ≡ false
same_at x y j inside within same = is_same (take 1 (drop j x)) (take 1 (drop j y)) (one x inside ∙ ap (λ b. b ∷ []) same ∙ sym (one y within))
  where
    one : (t : List ℕ) → j < length t → take 1 (drop j t) ≡ slice_index t j ∷ []
    one t inside = ap (take 1) (drop-cons t j 0 inside)

-- two lists that have no byte there
pub both_end : (x y : List ℕ) (j : ℕ) → length x ≤ j → length y ≤ j → differs x y j ≡ false
both_end x y j behind past = is_same (take 1 (drop j x)) (take 1 (drop j y)) (ap (take 1) (drop_all j x behind ∙ sym (drop_all j y past)))

-- lists that have the same bytes at their first n places
same_front : (n : ℕ) (a b : List ℕ) → ((j : ℕ) → j < n → take 1 (drop j a) ≡ take 1 (drop j b)) → take n a ≡ take n b
same_front zero a b same = refl
same_front (suc n) [] [] same = refl
same_front (suc n) [] (b ∷ others) same = let e : [] ≡ b ∷ [] = same 0 (omega arith) in cc
same_front (suc n) (a ∷ more) [] same = let e : a ∷ [] ≡ [] = same 0 (omega arith) in cc
same_front (suc n) (a ∷ more) (b ∷ others) same =
    let first : a ∷ [] ≡ b ∷ [] = same 0 (omega arith) in
    let rest : take n more ≡ take n others = same_front n more others (λ j below. same (suc j) (omega arith)) in
    cc

same_row : (x y : List ℕ) (k : ℕ) → AreSame x y (16 * k) (16 * k + 16) → line_bytes x k ≡ line_bytes y k
same_row x y k same = same_front 16 (drop (16 * k) x) (drop (16 * k) y) (λ j below.
    ap (take 1) (drop_twice (16 * k) j x) ∙ not_differs x y (16 * k + j) (same (16 * k + j) (omega arith) (omega arith)) ∙ ap (take 1) (sym (drop_twice (16 * k) j y)))

-- rows without a byte that differs have no lines
rows_none : (extent : Extent) (x y : List ℕ) (k n : ℕ) → AreSame x y (16 * k) (16 * (k + n)) → rows_from extent x y k n ≡ []
rows_none extent x y k zero same = refl
rows_none extent x y k (suc n) same =
    let row = row_lines extent (16 * k) (line_bytes x k) (line_bytes y k) in
    let equal : line_bytes x k ≡ line_bytes y k = same_row x y k (λ j above below. same j above (omega arith)) in
    let none : row ≡ [] = no_more row (ap length (equal_rows extent (16 * k) (line_bytes x k) (line_bytes y k) equal)) in
    ap (λ t. t ++ rows_from extent x y (k + 1) n) none ∙ rows_none extent x y (k + 1) n (λ j above below. same j (omega arith) (omega arith))

module _ (extent : Extent) (x y : List ℕ) (at next end : ℕ) (long : end ≡ max (length x) (length y)) (least : at ≤ next) (most : next ≤ end)
    (whole : at < end → at % 32768 ≡ 0) (aligned : next < end → next % 32768 ≡ 0) (same : AreSame x y at next) where
  -- up to the end of the row that a place lies in
  same_on : at < next → AreSame x y at (16 * ((next + 15) / 16))
  same_on more j above below = elim (cases_lt j next) [
    | inl inside ↦ same j above inside
    | inr behind ↦ elim (cases_lt next end) [
      | inl inner ↦ let start : next % 32768 ≡ 0 = aligned inner in absurd (omega arith)
      | inr over ↦ both_end x y j (omega arith) (omega arith)
    ]
  ]

  -- the lines before an address are those before a place behind it, where the two have the same bytes between them
  pub lines_passed : lines_before extent x y at ≡ lines_before extent x y next
  lines_passed = elim (cases_lt at next) [
    | inl more ↦
        let start : at % 32768 ≡ 0 = whole (omega arith) in
        let k : ℕ = (at + 15) / 16 in
        let n : ℕ = (next + 15) / 16 - k in
        let base : 16 * k ≡ at = omega arith in
        let count : (next + 15) / 16 ≡ k + n = omega arith in
        let place : 0 + k ≡ k = omega arith in
        let f = λ (k : ℕ). row_lines extent (16 * k) (line_bytes x k) (line_bytes y k) in
        let none : rows_from extent x y k n ≡ [] = rows_none extent x y k n (λ j above below. same_on more j (omega arith) (omega arith)) in
        sym (ap (rows_from extent x y 0) count ∙ flat_split f 0 k n ∙ ap (λ p. rows_from extent x y 0 k ++ rows_from extent x y p n) place
        ∙ ap (λ t. rows_from extent x y 0 k ++ t) none ∙ append-nil (rows_from extent x y 0 k))
    | inr over ↦ let here : at ≡ next = omega arith in ap (lines_before extent x y) here
  ]

  pub put_passed : (head : List ℕ) (number written : ℕ) (first now : Option (List ℕ)) →
      HasPut head (lines_before extent x y at) number written first now → HasPut head (lines_before extent x y next) number written first now
  put_passed head number written first now put = subst (λ (ls : List PatchLine). HasPut head ls number written first now) lines_passed put

-- nothing was written
pub put_first : (head : List ℕ) (number written : ℕ) (first : Option (List ℕ)) → number ≡ 0 → written ≡ 0 → HasPut head [] number written first first
put_first head number written first fresh none = record { put = Appends-nil first; number_is = omega (arith, fresh); count = none }

-- windows that are the same
pub window_same : (x y : List ℕ) (at : ℕ) → part_at x at ≡ part_at y at → AreSame x y at (at + 32768)
window_same x y at same j above below =
    let k : ℕ = j - at in
    let place : at + k ≡ j = omega (arith, above) in
    let byte = λ (t : List ℕ). nested_take t at 32768 k 1 (omega (arith, below, above)) in
    is_same (take 1 (drop j x)) (take 1 (drop j y))
    (ap (λ p. take 1 (drop p x)) (sym place) ∙ sym (byte x) ∙ ap (λ (t : List ℕ). take 1 (drop k t)) same ∙ byte y ∙ ap (λ p. take 1 (drop p y)) place)

-- the same so far, in a window behind that, and from there on
pub same_further : (x y : List ℕ) (at mid next : ℕ) → AreSame x y 0 at → part_at x at ≡ part_at y at → mid ≤ at + 32768 → AreSame x y mid next → AreSame x y 0 next
same_further x y at mid next before here within on j above below = elim (cases_lt j at) [
  | inl first ↦ before j above first
  | inr behind ↦ elim (cases_lt j mid) [ inl inside ↦ window_same x y at here j behind (omega (arith, inside, within)) | inr later ↦ on j later below ]
]

-- the same up to their end
pub all_same : (x y : List ℕ) (at : ℕ) → length x ≡ length y → length x ≤ at → AreSame x y 0 at → x ≡ y
all_same x y at long all same = same_image x y long (λ i inside. same_byte x y i (same i (omega arith) (omega (arith, inside, all))))
