-- Appends and cuts, as they are made on an image.
use Rattle.std.proofs.Common.{◌≡◌, ℕ, ◌≤◌, inl, inr, List, [], ◌∷◌, ◌++◌, length, take, Result, Ok, Err, ap, sym, ◌∙◌, arith}
use Rattle.std.specs.Prelude.{OnOk, OnErr}
use Rattle.std.proofs.lemmas.Bool.{cases_lt}
use Rattle.std.proofs.lemmas.List.{places, take_all}
use Rattle.bx_image.specs.Image.{place, cut}
use Rattle.bx_image.specs.File.{IsFrontPlaced, IsCutOnTheWay}
use Rattle.bx_image.proofs.Images.{same_image, length-place, length-cut, slice_index-cut, slice_index-place_within, slice_index-place_below}
use Rattle.bx_journal_store.specs.Store.{IsPartlyAppended, IsCutInPart}

-- bytes that are placed at the end are appended
pub place_end : (x bytes : List ℕ) → place x (length x) bytes ≡ x ++ bytes
place_end x bytes = same_image _ _ (lengths bytes) (λ i h. elim (cases_lt i (length x)) [
  | inl lo ↦ grind (arith, places, slice_index-place_below)
  | inr hi ↦ grind (arith, places, slice_index-place_within, lengths)
])
  where
    lengths : (bs : List ℕ) → length (place x (length x) bs) ≡ length (x ++ bs)
    lengths [] = grind (arith, places, length-place)
    lengths (b ∷ bs) = grind (arith, places, length-place)

-- a cut that makes it no longer takes a front
pub cut_front : (x : List ℕ) (n : ℕ) → n ≤ length x → cut x n ≡ take n x
cut_front x n fits = same_image _ _ (grind (arith, places, length-cut)) (λ i h. grind (arith, places, slice_index-cut, length-cut))

pub IsPartlyAppended_either : {T E : Type 0} (r : Result T E) (bytes old new : List ℕ) → OnOk r (new ≡ old ++ bytes) → OnErr r (IsPartlyAppended bytes old new) → IsPartlyAppended bytes old new
IsPartlyAppended_either (Ok v) bytes old new ok err = (length bytes, ok ∙ ap (λ (l : List ℕ). old ++ l) (sym (take_all (length bytes) bytes (omega arith))))
IsPartlyAppended_either (Err e) bytes old new ok err = err

pub OnOk_map : {T E : Type 0} (r : Result T E) (P Q : Type 0) → (P → Q) → OnOk r P → OnOk r Q
OnOk_map (Ok v) P Q f p = f p
OnOk_map (Err e) P Q f p = tt

-- the end was read first
pub appended_at : (x y z bytes : List ℕ) (end : ℕ) → end ≡ length x → y ≡ x → z ≡ place y end bytes → z ≡ x ++ bytes
appended_at x y z bytes end is same placed =
    placed ∙ ap (λ (l : List ℕ). place l end bytes) same ∙ ap (λ (n : ℕ). place x n bytes) is ∙ place_end x bytes

pub IsPartlyAppended-placed : (x y z bytes : List ℕ) (end : ℕ) → end ≡ length x → y ≡ x → IsFrontPlaced end bytes y z → IsPartlyAppended bytes x z
IsPartlyAppended-placed x y z bytes end is same (k, placed) = (k, appended_at x y z (take k bytes) end is same placed)

pub IsPartlyCut-on_the_way : (n : ℕ) (old new : List ℕ) → n ≤ length old → IsCutOnTheWay n old new → IsCutInPart n old new
IsPartlyCut-on_the_way n old new fits (m, least, most, is) =
    let long : length (cut old m) ≡ m = length-cut old m in
    rw is (record {
      no_shorter = omega (arith, long);
      front = cut_front old m (omega arith) ∙ ap (λ k. take k old) (sym long);
    })
