-- Calls that would write, which an image behind changes refuses.
use Rattle.std.proofs.Common.{◌≡◌, ◌⊎◌, ℕ, Bool, ◌<◌, inl, inr, true, List, [], ◌∷◌, ◌++◌, length, slice_index, refl, sym, ap, ◌∙◌, subst, arith}
use Rattle.std.proofs.lemmas.Bool.{cases_Bool, true≢false}
use Rattle.std.proofs.lemmas.List.{get_or_append_left, length-append}
use Rattle.bx_image.specs.declared.device.Device.{Ghosts as DeviceViews}
use Rattle.bx_patch.specs.preview.Changed.{OnlyReadRefusesNone, image_behind}

-- with a byte more each byte is there as it was
longer_keeps : (x : List ℕ) (i : ℕ) → i < length x → (i < length (x ++ 0 ∷ [])) × (slice_index (x ++ 0 ∷ []) i ≡ slice_index x i)
longer_keeps x i h = (omega (arith, h, length-append x (0 ∷ [])), get_or_append_left x (0 ∷ []) 0 i h)

-- so what may be found behind a refused call comes by one step from what was found before
pub found_then : (x : List ℕ) (was is : Bool) (P : ℕ → Type 0) (z : List ℕ) → (z ≡ x) ⊎ (is ≡ true) × (z ≡ x ++ 0 ∷ [])
    → (y : List ℕ) × ((y ≡ x) ⊎ (was ≡ true) × (y ≡ x ++ 0 ∷ [])) × ((i : ℕ) → i < length y → P i → (i < length z) × (slice_index z i ≡ slice_index y i))
found_then x was is P z (inl same) = (x, inl refl, λ i h _. (omega (arith, h, ap length same), ap (λ l. slice_index l i) same))
found_then x was is P z (inr more) =
    (x, inl refl, λ i h _. subst (λ l. (i < length l) × (slice_index l i ≡ slice_index x i)) (sym more.1) (longer_keeps x i h))

-- so none was refused where no more may be found of the device than before
pub still_none : {D A : Type 0} (d : DeviceViews D) → OnlyReadRefusesNone d A
still_none d c e failed faithful none reads = elim (cases_Bool e.refused) [
  | inl asked ↦ absurd (elim (reads.no_more faithful (image_behind d e ++ 0 ∷ []) (inr (asked, refl))) [
    | inl same ↦
        let longer : length (image_behind d e ++ 0 ∷ []) ≡ length (image_behind d e) = ap length (same ∙ sym (reads.stays faithful)) in
        omega (arith, longer, length-append (image_behind d e) (0 ∷ []))
    | inr was ↦ true≢false (sym was.0 ∙ none)
  ])
  | inr never ↦ never
]
