-- What steps of a file come to.
use Rattle.std.proofs.Common.{◌≡◌, ℕ, ◌+◌, ◌-◌, ◌≤◌, inl, inr, List, [], ◌∷◌, ◌++◌, length, take, drop, Result, Ok, Err, ap, sym, ◌∙◌, arith}
use Rattle.std.specs.Prelude.{OnOk, OnErr}
use Rattle.std.proofs.lemmas.List.{take_rest, places, length-take, drop-drop}
use Rattle.std.proofs.lemmas.Bool.{cases_lt}
use Rattle.std.proofs.Math.Seq.{take-add}
use borrow.Rule.Slice.PartMut.{put_mid}
use Rattle.bx_text.proofs.KnownLemmas.{take-put_mid_more}
use Rattle.bx_image.specs.Image.{place, cut}
use Rattle.bx_image.specs.Device.{IsPartlyWritten, IsPartlyCut}
use Rattle.bx_image.specs.File.{IsFrontPlaced, IsCutOnTheWay}
use Rattle.bx_image.proofs.Images.{same_image, length-place, length-cut, slice_index-cut, slice_index-place_within, slice_index-place_below, slice_index-place_above, IsPartlyWritten-place}
use Rattle.bx_image.proofs.Edits.{place_none}
use Rattle.bx_image.proofs.Devices.{IsPartlyWritten_wider}

pub cut_self : (x : List ℕ) → cut x (length x) ≡ x
cut_self x = same_image _ _ (length-cut x (length x)) (λ i h. slice_index-cut x (length x) i (omega (arith, length-cut x (length x))))

-- nothing was placed
pub IsFrontPlaced_none : (at : ℕ) (bytes x y : List ℕ) → y ≡ x → IsFrontPlaced at bytes x y
IsFrontPlaced_none at bytes x y same = (0, same ∙ sym (place_none x at))

pub IsCutOnTheWay_none : (n : ℕ) (x y : List ℕ) → y ≡ x → IsCutOnTheWay n x y
IsCutOnTheWay_none n x y same = (length x, omega arith, omega arith, same ∙ sym (cut_self x))

-- bytes that are placed right behind others
pub place_next : (x front back : List ℕ) (at : ℕ) → place (place x at front) (at + length front) back ≡ place x at (front ++ back)
place_next x front back at =
    same_image _ _ (lengths front back) (λ i h. elim (cases_lt i at) [
      | inl lo ↦ grind (arith, places, slice_index-place_below)
      | inr hi ↦ elim (cases_lt i (at + length front)) [
        | inl first ↦ grind (arith, places, slice_index-place_below, slice_index-place_within)
        | inr past ↦ elim (cases_lt i (at + length front + length back)) [
          | inl second ↦ grind (arith, places, slice_index-place_within)
          | inr above ↦ grind (arith, places, slice_index-place_above)
        ]
      ]
    ])
  where
    lengths : (one two : List ℕ) → length (place (place x at one) (at + length one) two) ≡ length (place x at (one ++ two))
    lengths [] [] = omega (arith, length-place x at [], length-place (place x at []) (at + 0) [])
    lengths [] (b ∷ two) = grind (arith, length-place, places)
    lengths (a ∷ one) [] = grind (arith, length-place, places)
    lengths (a ∷ one) (b ∷ two) = grind (arith, length-place, places)

-- the front that was placed is placed on
pub place_on : (x bytes : List ℕ) (at d n : ℕ) → d ≤ length bytes → place (place x at (take d bytes)) (at + d) (take n (drop d bytes)) ≡ place x at (take (d + n) bytes)
place_on x bytes at d n fits =
    let front : length (take d bytes) ≡ d = omega (arith, length-take d bytes) in
    ap (λ (k : ℕ). place (place x at (take d bytes)) (at + k) (take n (drop d bytes))) (sym front)
    ∙ place_next x (take d bytes) (take n (drop d bytes)) at
    ∙ ap (place x at) (sym (take-add d n bytes))

-- what a write of the rest leaves, after a front was placed
pub placed_on : (x bytes : List ℕ) (at d k : ℕ) (y z : List ℕ) → d ≤ length bytes → y ≡ place x at (take d bytes) → z ≡ place y (at + d) (take k (take (length bytes - d) (drop d bytes))) → z ≡ place x at (take (d + k) bytes)
placed_on x bytes at d k y z fits first next =
    next
    ∙ ap (λ (l : List ℕ). place y (at + d) (take k l)) (take_rest bytes d)
    ∙ ap (λ (w : List ℕ). place w (at + d) (take k (drop d bytes))) first
    ∙ place_on x bytes at d k fits

pub IsFrontPlaced_on : (x bytes : List ℕ) (at d : ℕ) (y z : List ℕ) → d ≤ length bytes → y ≡ place x at (take d bytes) → IsFrontPlaced (at + d) (take (length bytes - d) (drop d bytes)) y z → IsFrontPlaced at bytes x z
IsFrontPlaced_on x bytes at d y z fits first (k, is) = (d + k, placed_on x bytes at d k y z fits first is)

pub OnErr_map : {T E : Type 0} (r : Result T E) (P Q : Type 0) → (P → Q) → OnErr r P → OnErr r Q
OnErr_map (Ok v) P Q f p = tt
OnErr_map (Err e) P Q f p = f p

-- the front that was read is read on
pub read_on : (x buf part : List ℕ) (at d k n : ℕ) → d ≤ length buf → n ≤ length part → take d buf ≡ take d (drop at x) → take n part ≡ take n (drop (at + d) x) → take (d + n) (put_mid d k buf part) ≡ take (d + n) (drop at x)
read_on x buf part at d k n within fits first next =
    take-put_mid_more buf part d k n within fits
    ∙ ap (λ (l : List ℕ). l ++ take n part) first
    ∙ ap (λ (l : List ℕ). take d (drop at x) ++ l) (next ∙ ap (take n) (sym (drop-drop d at x)))
    ∙ sym (take-add d n (drop at x))

pub IsPartlyWritten-front : (at : ℕ) (bytes x y : List ℕ) → IsFrontPlaced at bytes x y → IsPartlyWritten at (length bytes) x y
IsPartlyWritten-front at bytes x y (k, is) =
    rw is (IsPartlyWritten_wider at (length (take k bytes)) (length bytes) x _ (omega (arith, length-take k bytes)) (IsPartlyWritten-place x at (take k bytes)))

pub IsPartlyCut-on_the_way : (n : ℕ) (x y : List ℕ) → IsCutOnTheWay n x y → IsPartlyCut n x y
IsPartlyCut-on_the_way n x y (m, least, most, is) = rw is (record {
  no_shorter = omega (arith, length-cut x m);
  no_longer = omega (arith, length-cut x m);
  front = λ i old new. slice_index-cut x m i (omega arith);
})

-- what a write leaves is no longer than what its old length and its range's end are within
pub within_placed : {T E : Type 0} (r : Result T E) (at most : ℕ) (bytes x y : List ℕ) → length x ≤ most → at + length bytes ≤ most → OnOk r (y ≡ place x at bytes) → OnErr r (IsFrontPlaced at bytes x y) → length y ≤ most
within_placed (Ok v) at most bytes x y old end is failed =
    rw is (let written = IsPartlyWritten-place x at bytes in omega (arith, written.no_longer))
within_placed (Err e) at most bytes x y old end is failed =
    let written = IsPartlyWritten-front at bytes x y failed in omega (arith, written.no_longer)

-- the same of a change of the length
pub within_cut : {T E : Type 0} (r : Result T E) (n most : ℕ) (x y : List ℕ) → length x ≤ most → n ≤ most → OnOk r (y ≡ cut x n) → OnErr r (IsCutOnTheWay n x y) → length y ≤ most
within_cut (Ok v) n most x y old end is failed = rw is (omega (arith, length-cut x n))
within_cut (Err e) n most x y old end is failed =
    let left = IsPartlyCut-on_the_way n x y failed in omega (arith, left.no_longer)
