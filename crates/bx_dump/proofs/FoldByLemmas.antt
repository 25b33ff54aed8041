-- Folded lines of n bytes, one after another.
use Rattle.std.proofs.Common.{◌≡◌, ℕ, zero, suc, ◌+◌, ◌-◌, ◌*◌, ◌/◌, ◌<◌, ◌≤◌, Bool, true, false, List, [], ◌++◌, length, min, take, drop, refl, sym, ap, ◌∙◌, arith, add-zero, append-nil, length-append, cond}
use Rattle.std.specs.List.{flat_map, range_with_len}
use Rattle.std.proofs.lemmas.List.{drop-append-le, take-append-le, length-drop, length-take, take_min}
use Rattle.std.proofs.lemmas.Slice.Eq.{bytes_eq-Decides}
use Rattle.std.proofs.Math.Nat.{mul-add-div, mul-le-mul_left, div-eq_of_lt}
use Rattle.std.proofs.Math.Seq.{drop-append-add}
use Rattle.bx_text.specs.Fold.{line_text, folded, is_hidden, show_at}
use Rattle.bx_text.proofs.RangeLemmas.{flat_map_along, flat_map_split}
use Rattle.bx_dump.specs.FoldBy.{line_bytes_by, is_hidden_by, show_by, line_text_by, folded_by}
use Rattle.bx_dump.specs.private.FoldBy.{HasTakenBy, IsTakenInLines, line_count_by, lines_to_by}
use Rattle.bx_dump.specs.declared.driver.wide.fold.WideFold.{WideFold}

-- what stands in front stays the same
module _ (n : ℕ) (pos : 0 < n) (xs ys : List ℕ) (m : ℕ) (whole : length xs ≡ n * m) where
  line_fits : (k : ℕ) → k < m → n * k + n ≤ length xs
  line_fits k below = omega (arith, mul-le-mul_left {m = k + 1} {n = m} n (omega arith))

  pub bytes_stay_by : (k : ℕ) → k < m → line_bytes_by n (xs ++ ys) k ≡ line_bytes_by n xs k
  bytes_stay_by k below =
      let fits = line_fits k below in
      ap (take n) (drop-append-le (n * k) xs ys (omega arith)) ∙ take-append-le n (drop (n * k) xs) ys (omega (arith, length-drop (n * k) xs))

  pub hidden_stay_by : (k : ℕ) → k < m → is_hidden_by n (xs ++ ys) k ≡ is_hidden_by n xs k
  hidden_stay_by zero below = refl
  hidden_stay_by (suc k) below = rw (bytes_stay_by (suc k) below, bytes_stay_by k (omega arith)) refl

  show_stay : (k : ℕ) → k < m → show_by n (xs ++ ys) k ≡ show_by n xs k
  show_stay zero below = refl
  show_stay (suc k) below = rw (hidden_stay_by (suc k) below, hidden_stay_by k (omega arith)) refl

  text_stay : (line : ℕ → List ℕ → List ℕ) (all : Bool) (at k : ℕ) → k < m → line_text_by n line all at (xs ++ ys) k ≡ line_text_by n line all at xs k
  text_stay line true at k below = rw (bytes_stay_by k below) refl
  text_stay line false at k below = rw (bytes_stay_by k below, show_stay k below) refl

  pub lines_stay_by : (line : ℕ → List ℕ → List ℕ) (all : Bool) (at : ℕ) → lines_to_by n line all at (xs ++ ys) m ≡ lines_to_by n line all at xs m
  lines_stay_by line all at = flat_map_along (line_text_by n line all at (xs ++ ys)) (line_text_by n line all at xs) 0 0 m (λ k below. text_stay line all at (0 + k) (omega arith))

  pub count_is_by : line_count_by n xs ≡ m
  count_is_by =
      let e : length xs + (n - 1) ≡ n * m + (n - 1) = omega arith in
      let z : (n - 1) / n ≡ 0 = div-eq_of_lt (omega arith) in
      ap (λ t. t / n) e ∙ mul-add-div pos m (n - 1) ∙ rw z (add-zero m)

  pub count_all_by : line_count_by n (xs ++ ys) ≡ m + line_count_by n ys
  count_all_by =
      let e : length (xs ++ ys) + (n - 1) ≡ n * m + (length ys + (n - 1)) = omega (arith, length-append xs ys) in
      ap (λ t. t / n) e ∙ mul-add-div pos m (length ys + (n - 1))

  -- line k of what comes after
  pub bytes_after_by : (k begin size : ℕ) → begin ≡ n * k → size ≡ min (begin + n) (length ys) - begin → begin ≤ length ys → take size (drop begin ys) ≡ line_bytes_by n (xs ++ ys) (m + k)
  bytes_after_by k begin size at is inside =
      let place : n * (m + k) ≡ length xs + begin = omega arith in
      let cut : min n (length (drop begin ys)) ≡ size = omega (arith, length-drop begin ys) in
      sym (rw (place, drop-append-add xs ys begin) (sym (take_min n (drop begin ys)) ∙ ap (λ t. take t (drop begin ys)) cut))

  pub taken_stay_by : (all : Bool) (fold : WideFold) → IsTakenInLines n all fold xs m → IsTakenInLines n all fold (xs ++ ys) m
  taken_stay_by true fold taken = tt
  taken_stay_by false fold taken = stay m fold (omega arith) taken
    where
      stay : (j : ℕ) (fold : WideFold) → j ≤ m → HasTakenBy n fold xs j → HasTakenBy n fold (xs ++ ys) j
      stay zero fold le taken = taken
      stay (suc j) fold le taken = rw (bytes_stay_by j (omega arith), hidden_stay_by j (omega arith)) taken

-- one line more
pub lines_next_by : (n : ℕ) (line : ℕ → List ℕ → List ℕ) (all : Bool) (at : ℕ) (bytes : List ℕ) (m : ℕ) → lines_to_by n line all at bytes (m + 1) ≡ lines_to_by n line all at bytes m ++ line_text_by n line all at bytes m
lines_next_by n line all at bytes m =
    let z : 0 + m ≡ m = omega arith in
    flat_map_split (line_text_by n line all at bytes) 0 m 1 ∙ rw (z, append-nil (line_text_by n line all at bytes m)) refl

-- a dump goes on where more bytes come
pub more_text_by : (n : ℕ) (line : ℕ → List ℕ → List ℕ) (all : Bool) (at m : ℕ) (xs ys : List ℕ) → 0 < n → length xs ≡ n * m →
    (rest : List ℕ) × (folded_by n line all at (xs ++ ys) ≡ folded_by n line all at xs ++ rest)
more_text_by n line all at m xs ys pos whole =
    let text = line_text_by n line all at (xs ++ ys) in
    let front : lines_to_by n line all at (xs ++ ys) m ≡ folded_by n line all at xs =
    lines_stay_by n pos xs ys m whole line all at ∙ ap (lines_to_by n line all at xs) (sym (count_is_by n pos xs ys m whole)) in (
      flat_map text (range_with_len (0 + m) (line_count_by n ys)),
      ap (lines_to_by n line all at (xs ++ ys)) (count_all_by n pos xs ys m whole) ∙ flat_map_split text 0 m (line_count_by n ys) ∙ ap (λ t. t ++ flat_map text (range_with_len (0 + m) (line_count_by n ys))) front,
    )

-- none of no lines were taken
pub none_taken_by : (n : ℕ) (all : Bool) (fold : WideFold) → fold.len ≡ 0 → IsTakenInLines n all fold [] 0
none_taken_by n true fold new = tt
none_taken_by n false fold new = new

-- no bytes have no lines
pub none_by : (n : ℕ) (line : ℕ → List ℕ → List ℕ) (all : Bool) (at : ℕ) → 0 < n → folded_by n line all at [] ≡ []
none_by n line all at pos =
    let none : (0 + (n - 1)) / n ≡ 0 = div-eq_of_lt (omega arith) in
    rw none refl

-- lines of 16 bytes are those of any dump
same_hidden : (bytes : List ℕ) (k : ℕ) → is_hidden_by 16 bytes k ≡ is_hidden bytes k
same_hidden bytes zero = refl
same_hidden bytes (suc k) = refl

same_show : (bytes : List ℕ) (k : ℕ) → show_by 16 bytes k ≡ show_at bytes k
same_show bytes zero = refl
same_show bytes (suc k) = rw (same_hidden bytes k) refl

same_line : (line : ℕ → List ℕ → List ℕ) (all : Bool) (at : ℕ) (bytes : List ℕ) (k : ℕ) → line_text_by 16 line all at bytes k ≡ line_text line all at bytes k
same_line line true at bytes k = refl
same_line line false at bytes k = rw (same_show bytes k) refl

pub folded_sixteen : (line : ℕ → List ℕ → List ℕ) (all : Bool) (at : ℕ) (bytes : List ℕ) → folded_by 16 line all at bytes ≡ folded line all at bytes
folded_sixteen line all at bytes = flat_map_along (line_text_by 16 line all at bytes) (line_text line all at bytes) 0 0 ((length bytes + 15) / 16) (λ k below. same_line line all at bytes (0 + k))

-- a line that equals the one that is held is hidden, and is held then
pub taken_again : (n : ℕ) (fold : WideFold) (size : ℕ) (line bytes : List ℕ) (k : ℕ) → length fold.last ≡ 256 → size ≡ min fold.len 256 → line ≡ take size fold.last → 0 < length line →
    line ≡ line_bytes_by n bytes k → HasTakenBy n fold bytes k → (take fold.len fold.last ≡ line_bytes_by n bytes k) × (true ≡ is_hidden_by n bytes k)
taken_again n fold size line bytes zero long cut same some is taken =
    absurd (omega (arith, ap length same, length-take size fold.last))
taken_again n fold size line bytes (suc k) long cut same some is taken =
    let all : min fold.len (length fold.last) ≡ size = omega arith in
    let held : take fold.len fold.last ≡ line = sym (take_min fold.len fold.last) ∙ ap (λ m. take m fold.last) all ∙ sym same in
    (held ∙ is, sym ((bytes_eq-Decides (line_bytes_by n bytes (suc k)) (line_bytes_by n bytes k)).1 (sym is ∙ sym held ∙ taken.0)))
