-- The patch of steps, or what is written of it.
use Rattle.std.proofs.Common.{◌≡◌, ◌≤◌, ◌<◌, ℕ, List, Option, Result, inl, inr, refl, sym, ap, subst, ◌∙◌}
use Rattle.std.specs.Io.KnownBytes.{Appends}
use Rattle.std.specs.Result.{IfErr, OnOk}
use Rattle.std.proofs.lemmas.Result.{IfErr-weaker, on_ok_weaker}
use Rattle.bx_image.specs.declared.device.Device.{Ghosts as DeviceViews}
use Rattle.bx_journal_store.specs.declared.store.TextStore.{Ghosts as StoreViews}
use Rattle.bx_journal.specs.Images.{Images}
use Rattle.bx_journal.specs.Machine.{top}
use Rattle.bx_journal.specs.SessionView.{SessionView, devices_of}
use Rattle.bx_journal.specs.Direction.{Direction}
use Rattle.bx_run_report.specs.report.Devices.{HoldBytes, IsDeviceStop}
use Rattle.bx_run_report.specs.report.Looks.{HidesChanges, IsUnseenOr}
use Rattle.bx_run_report.specs.report.Stepped.{CountsHeld, HoldCounted, HoldsImage, IsPatchCut, IsStepsCut, OfImages, WritesSteps, patch_between, behind_steps, steps_in, steps_patch, too_few}
use Rattle.bx_run_report.specs.declared.report.error.ReportError.{ReportError}
use Rattle.bx_run_report.proofs.Looking.{stop_hides}
use Rattle.bx_run_report.proofs.StepLemmas.{one_images, top_stands}

-- Of the devices of a session that hold images.
module _ {D T : Type 0} (d : DeviceViews D) (t : StoreViews T) (image journal redo : List ℕ) (s : Images) (v : SessionView D T) (again : D)
    (holds : HoldCounted d t image journal redo s v again) where
  -- the patch is that of the steps
  pub patch_is : (way : Direction) (k : ℕ) (x behind : List ℕ) → x ≡ image → behind ≡ top (behind_steps way k s).stack → patch_between way x behind ≡ steps_patch way k s
  patch_is way k x behind here there =
      ap (λ y. patch_between way y behind) (here ∙ sym (top_stands journal image s.stack holds.images.stack)) ∙ ap (patch_between way (top s.stack)) there

  -- it is written
  pub steps_written : {R E : Type 0} (r : Result R E) (way : Direction) (k have : ℕ) (old new : Option (List ℕ)) (x behind : List ℕ) → k ≤ have → have ≡ steps_in way s
      → x ≡ image → behind ≡ top (behind_steps way k s).stack → OnOk r (Appends old new (patch_between way x behind)) → OnOk r (WritesSteps way k s old new)
  steps_written r way k have old new x behind few is here there =
      on_ok_weaker r (λ writes. (subst (λ n. k ≤ n) is few, subst (Appends old new) (patch_is way k x behind here there) writes))

  -- or a prefix of it
  pub steps_cut : {R : Type 0} (r : Result R ReportError) (way : Direction) (k have : ℕ) (old new : Option (List ℕ)) (x behind : List ℕ) → k ≤ have → have ≡ steps_in way s
      → x ≡ image → behind ≡ top (behind_steps way k s).stack → IfErr r (IsPatchCut (patch_between way x behind) old new)
      → IfErr r (λ u. IsUnseenOr (IsDeviceStop u) old new (IsStepsCut way k s old new u))
  steps_cut r way k have old new x behind few is here there = IfErr-weaker r _ _ (λ u cut.
      inr (inr (subst (λ n. k ≤ n) is few, subst (λ p. IsPatchCut p old new u) (patch_is way k x behind here there) cut)))

-- there are too few
pub steps_few : (s : Images) (way : Direction) (k have : ℕ) (w : Option (List ℕ)) (u : ReportError) → have < k → have ≡ steps_in way s → u ≡ too_few way have
    → IsUnseenOr (IsDeviceStop u) w w (IsStepsCut way k s w w u)
steps_few s way k have w u less is said = inr (inl ((subst (λ n. n < k) is less, said ∙ ap (too_few way) is), refl))

-- what is so of the images that a session counts is so of all that the three hold
pub of_images : {D T : Type 0} (image journal redo : List ℕ) (v : SessionView D T) (held : CountsHeld image journal redo v) (holds : Images → Type 0)
    → holds held.0 → OfImages image journal redo holds
of_images image journal redo v held holds is = record {
  some = (held.0, held.1);
  each = λ s other. subst holds (one_images image journal redo held.0 s held.1 other) is;
}

-- Of a session that was opened on devices which hold images.
module _ {D T : Type 0} (d : DeviceViews D) (t : StoreViews T) (image journal redo : List ℕ) (v : SessionView D T) (again : D)
    (devices : HoldBytes d t image journal redo (devices_of v)) (held : CountsHeld image journal redo v) (copy : HoldsImage d image again) where
  abbrev counted : HoldCounted d t image journal redo held.0 v again
  counted = record { devices = devices; images = held.1; counted = held.2; copy = copy }

  pub whole_written : {R E : Type 0} (r : Result R E) (way : Direction) (k : ℕ) (old new : Option (List ℕ))
      → ((s : Images) → HoldCounted d t image journal redo s v again → OnOk r (WritesSteps way k s old new))
      → OnOk r (OfImages image journal redo (λ s. WritesSteps way k s old new))
  whole_written r way k old new writes = on_ok_weaker r (of_images image journal redo v held (λ s. WritesSteps way k s old new)) (writes held.0 counted)

  pub whole_cut : {R : Type 0} (r : Result R ReportError) (way : Direction) (k : ℕ) (old new : Option (List ℕ))
      → ((s : Images) → HoldCounted d t image journal redo s v again → IfErr r (λ u. IsUnseenOr (IsDeviceStop u) old new (IsStepsCut way k s old new u)))
      → IfErr r (λ u. IsUnseenOr (HidesChanges image journal redo u) old new (OfImages image journal redo (λ s. IsStepsCut way k s old new u)))
  whole_cut r way k old new cut = IfErr-weaker r _ _ by (cut held.0 counted)
    where
      by : (u : ReportError) → IsUnseenOr (IsDeviceStop u) old new (IsStepsCut way k held.0 old new u)
          → IsUnseenOr (HidesChanges image journal redo u) old new (OfImages image journal redo (λ s. IsStepsCut way k s old new u))
      by u (inl stop) = inl (stop_hides image journal redo u stop.0, stop.1)
      by u (inr is) = inr (of_images image journal redo v held (λ s. IsStepsCut way k s old new u) is)
