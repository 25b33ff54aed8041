-- Windows of an image behind changes.
use Rattle.std.proofs.Common.{◌≡◌, ℕ, ◌+◌, ◌-◌, ◌<◌, ◌≤◌, inl, inr, min, List, length, take, drop, slice_index, sym, ap, ◌∙◌, arith}
use Rattle.std.proofs.lemmas.Bool.{cases_lt}
use Rattle.std.proofs.lemmas.List.{places, length-take, length-drop}
use Rattle.bx_image.specs.Image.{cut, place}
use Rattle.bx_image.proofs.Images.{same_image, length-cut, slice_index-cut, length-place, end_of_le, slice_index-place_within, slice_index-place_below, slice_index-place_above, slice_index_past}
use Rattle.bx_patch.specs.private.preview.Window.{IsWindow}

-- a piece behind a window
pub piece_behind : (window y bytes : List ℕ) (at from : ℕ) → at + length window ≤ from → IsWindow window at y → IsWindow window at (place y from bytes)
piece_behind window y bytes at from above win j inside = win j inside ∙ sym (slice_index-place_below y from bytes (at + j) (omega arith))

-- a piece before it
pub piece_before : (window y bytes : List ℕ) (at from : ℕ) → from + length bytes ≤ at → IsWindow window at y → IsWindow window at (place y from bytes)
piece_before window y bytes at from below win j inside = win j inside ∙ sym (slice_index-place_above y from bytes (at + j) (omega arith))

-- the part of a piece that stands in a window, from one of its places on, is put where it stands
pub put_part : (window y bytes part : List ℕ) (at from here skip : ℕ) → at + here ≡ from + skip → min here skip ≡ 0 → here ≤ length window → skip ≤ length bytes
    → length part ≡ min (length bytes - skip) (length window - here) → ((k : ℕ) → k < length part → slice_index part k ≡ slice_index bytes (skip + k))
    → IsWindow window at y → IsWindow (place window here part) at (place y from bytes)
put_part window y bytes part at from here skip one none fits some long same win j inside = elim (cases_lt j here) [
  | inl below ↦
      slice_index-place_below window here part j below
      ∙ win j small ∙ sym (slice_index-place_below y from bytes (at + j) (omega arith))
  | inr above ↦ elim (cases_lt j (here + length part)) [
    | inl within ↦
        let place_is : at + j - from ≡ skip + (j - here) = omega arith in
        slice_index-place_within window here part j above within
        ∙ same (j - here) (omega arith) ∙ ap (slice_index bytes) (sym place_is)
        ∙ sym (slice_index-place_within y from bytes (at + j) (omega arith) (omega arith))
    | inr behind ↦
        slice_index-place_above window here part j behind
        ∙ win j small ∙ sym (slice_index-place_above y from bytes (at + j) (omega (arith, small)))
  ]
]
  where
    small : j < length window
    small = omega (arith, inside, length-place window here part, end_of_le here part)

pub front_same : (bytes : List ℕ) (n k : ℕ) → k < length (take n bytes) → slice_index (take n bytes) k ≡ slice_index bytes (0 + k)
front_same bytes n k inside = grind (arith, places)

pub mid_same : (bytes : List ℕ) (skip n k : ℕ) → k < length (take n (drop skip bytes)) → slice_index (take n (drop skip bytes)) k ≡ slice_index bytes (skip + k)
mid_same bytes skip n k inside = grind (arith, places)

-- a window that is cut within, or before it
pub cut_within : (old new y : List ℕ) (at n start : ℕ) → ((j : ℕ) → j < start → at + j < n) → n ≤ at + start → length new ≡ length old
    → ((j : ℕ) → j < start → slice_index new j ≡ slice_index old j) → ((j : ℕ) → start ≤ j → slice_index new j ≡ 0)
    → IsWindow old at y → IsWindow new at (cut y n)
cut_within old new y at n start below above long front zeros win j inside = elim (cases_lt j start) [
  | inl before ↦ front j before ∙ win j (omega (arith, inside, long)) ∙ sym (slice_index-cut y n (at + j) (below j before))
  | inr behind ↦ zeros j behind ∙ sym (slice_index_past (cut y n) (at + j) (omega (arith, length-cut y n)))
]

-- and one that is cut behind it
pub cut_behind : (window y : List ℕ) (at n : ℕ) → at + length window ≤ n → IsWindow window at y → IsWindow window at (cut y n)
cut_behind window y at n above win j inside = win j inside ∙ sym (slice_index-cut y n (at + j) (omega arith))

-- a window within an image
pub window_is : (window z : List ℕ) (at : ℕ) → at + length window ≤ length z → IsWindow window at z → window ≡ take (length window) (drop at z)
window_is window z at fits win =
    let long : length (take (length window) (drop at z)) ≡ length window = omega (arith, length-take {A = ℕ} (length window) (drop at z), length-drop {A = ℕ} at z) in
    same_image window (take (length window) (drop at z)) (sym long) (λ i inside. win i inside ∙ sym (there i inside))
  where
    there : (i : ℕ) → i < length window → slice_index (take (length window) (drop at z)) i ≡ slice_index z (at + i)
    there i inside = grind (arith, places)
