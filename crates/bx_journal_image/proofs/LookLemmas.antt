-- Calls that only look at an image and texts, one behind another.
use Rattle.std.proofs.Common.{◌≡◌, ◌∙◌, ℕ, ◌+◌, Bool, true, false, List, refl, arith, if◌then◌else◌}
use Rattle.bx_image.specs.Cached.{OnlyReadsImage}
use Rattle.bx_image.specs.declared.device.Device.{Ghosts as DeviceViews}
use Rattle.bx_image.proofs.Devices.{GoesOn_refl, GoesOn_then}
use Rattle.bx_image.proofs.Survivors.{NoMore_then}
use Rattle.bx_journal_store.specs.declared.store.TextStore.{Ghosts as StoreViews}
use Rattle.bx_journal_model.specs.Looking.{OnlyReadsText}
use Rattle.bx_journal_image.specs.Looks.{BothCount, LooksAtBoth, LeavesDevice}

-- no call yet
pub looks_none : {D : Type 0} (faithful : D → Type 0) (view : D → List ℕ) (survives : D → List ℕ → Type 0) (now : D) → LeavesDevice faithful view survives now now
looks_none faithful view survives now = record { same = λ h. refl; survives = λ h x there. there; faith = ((λ h. h), λ h. h) }

-- calls behind others
pub looks_then : {D : Type 0} (faithful : D → Type 0) (view : D → List ℕ) (survives : D → List ℕ → Type 0) (old now new : D) → LeavesDevice faithful view survives old now → LeavesDevice faithful view survives now new
    → LeavesDevice faithful view survives old new
looks_then faithful view survives old now new first more = record {
  same = λ h. more.same (first.faith.1 h) ∙ first.same h;
  survives = λ h. NoMore_then _ _ _ (first.survives h) (more.survives (first.faith.1 h));
  faith = ((λ h. first.faith.0 (more.faith.0 h)), λ h. more.faith.1 (first.faith.1 h));
}

counted_then : (failed : Bool) (d t d_now t_now d_new t_new : ℕ) → BothCount false d t d_now t_now → BothCount failed d_now t_now d_new t_new → BothCount failed d t d_new t_new
counted_then true d t d_now t_now d_new t_new first more = (omega (arith, first.0, more.0), omega (arith, first.1, more.1), omega (arith, first.0, first.1, more.2))
counted_then false d t d_now t_now d_new t_new first more = (more.0 ∙ first.0, more.1 ∙ first.1)

image_counted : (failed : Bool) (d t d_new : ℕ) → d_new ≡ (if failed then d + 1 else d) → BothCount failed d t d_new t
image_counted true d t d_new is = (omega (arith, is), omega arith, omega (arith, is))
image_counted false d t d_new is = (is, refl)

text_counted : (failed : Bool) (d t t_new : ℕ) → t_new ≡ (if failed then t + 1 else t) → BothCount failed d t d t_new
text_counted true d t t_new is = (omega arith, omega (arith, is), omega (arith, is))
text_counted false d t t_new is = (refl, is)

module _ {D T : Type 0} (d : DeviceViews D) (t : StoreViews T) where
  -- no call yet
  pub both_none : (image : D) (text : T) → LooksAtBoth d t false image image text text
  both_none image text = record {
    image = looks_none d.faithful d.image d.survives image;
    text = looks_none t.faithful t.text t.survives text;
    counted = (refl, refl);
  }

  -- calls behind others
  pub both_then : {failed : Bool} {image image_now image_new : D} {text text_now text_new : T} → LooksAtBoth d t false image image_now text text_now → LooksAtBoth d t failed image_now image_new text_now text_new
      → LooksAtBoth d t failed image image_new text text_new
  both_then {failed = failed} first more = record {
    image = looks_then d.faithful d.image d.survives _ _ _ first.image more.image;
    text = looks_then t.faithful t.text t.survives _ _ _ first.text more.text;
    counted = counted_then failed _ _ _ _ _ _ first.counted more.counted;
  }

  image_both : {failed : Bool} {image image_new : D} (text : T) → OnlyReadsImage d failed image image_new → LooksAtBoth d t failed image image_new text text
  image_both {failed = failed} text reads = record {
    image = record { same = reads.image; survives = reads.survives; faith = reads.goes_on.faith };
    text = looks_none t.faithful t.text t.survives text;
    counted = image_counted failed _ _ _ reads.goes_on.counted;
  }

  text_both : {failed : Bool} (image : D) {text text_new : T} → OnlyReadsText t failed text text_new → LooksAtBoth d t failed image image text text_new
  text_both {failed = failed} image reads = record {
    image = looks_none d.faithful d.image d.survives image;
    text = record { same = reads.text; survives = reads.survives; faith = reads.goes_on.faith };
    counted = text_counted failed _ _ _ reads.goes_on.counted;
  }

  -- calls that read the image behind others, the last of them failed or not
  pub then_image : {failed : Bool} {image image_now image_new : D} {text text_now : T} → LooksAtBoth d t false image image_now text text_now → OnlyReadsImage d failed image_now image_new
      → LooksAtBoth d t failed image image_new text text_now
  then_image {text_now = text_now} first reads = both_then first (image_both text_now reads)

  -- those that read the text
  pub then_text : {failed : Bool} {image image_now : D} {text text_now text_new : T} → LooksAtBoth d t false image image_now text text_now → OnlyReadsText t failed text_now text_new
      → LooksAtBoth d t failed image image_now text text_new
  then_text {image_now = image_now} first reads = both_then first (text_both image_now reads)

-- calls that read an image, one behind another
pub reads_then : {D : Type 0} (d : DeviceViews D) {failed : Bool} {old now new : D} → OnlyReadsImage d false old now → OnlyReadsImage d failed now new → OnlyReadsImage d failed old new
reads_then d first more = record {
  image = λ h. more.image (first.goes_on.faith.1 h) ∙ first.image h;
  survives = λ h. NoMore_then _ _ _ (first.survives h) (more.survives (first.goes_on.faith.1 h));
  goes_on = GoesOn_then _ _ _ _ _ _ _ first.goes_on more.goes_on;
}

-- no call yet
pub reads_none : {D : Type 0} (d : DeviceViews D) (now : D) → OnlyReadsImage d false now now
reads_none d now = record { image = λ h. refl; survives = λ h x there. there; goes_on = GoesOn_refl _ _ _ _ }
