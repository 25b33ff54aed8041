-- A patch that is written, read back, and made on an image.
use Rattle.std.proofs.Common.{◌≡◌, ◌≢◌, ◌<◌, ◌≤◌, ◌↔◌, ℕ, Bool, true, false, List, max, length, refl, sym, subst, ap, ◌∙◌, arith}
use Rattle.std.specs.List.{All}
use Rattle.std.proofs.lemmas.Bool.{false≢true}
use Rattle.bx_image.specs.declared.change.Change.{Change}
use Rattle.bx_image.specs.declared.device.Device.{Ghosts as DeviceViews}
use Rattle.bx_image.specs.Change.{effect}
use Rattle.bx_journal_store.specs.declared.store.TextStore.{Ghosts as StoreViews}
use Rattle.bx_journal.specs.Devices.{Devices}
use Rattle.bx_journal.specs.Images.{Images}
use Rattle.bx_journal.specs.Looking.{OnlyLooks}
use Rattle.bx_journal.specs.SessionView.{SessionView, devices_of}
use Rattle.bx_patch.specs.Diff.{AreShort}
use Rattle.bx_patch.specs.Grammar.{IsPatch}
use Rattle.bx_patch.specs.Laws.{IsShort}
use Rattle.bx_patch.specs.Patch.{Agrees, Asked, patch_change}
use Rattle.bx_patch.specs.Text.{patch_text}
use Rattle.bx_patch.specs.declared.diff.row.Extent.{Extent}
use Rattle.bx_patch.proofs.CutLemmas.{one_request}
use Rattle.bx_patch.proofs.MakesLemmas.{patch_is_strict, patch_makes_new, patch_reversed}
use Rattle.bx_patch.proofs.OtherLemmas.{other_disagrees}
use Rattle.bx_patch.specs.Other.{HasOther}
use Rattle.bx_patch.specs.declared.other.Other.{Other}
use Rattle.bx_cli_commands.specs.PatchTrip.{DiffsAndPatches, HoldTheSame, IsPatched, IsReadBack}
use Rattle.bx_cli_commands.specs.RoundTrip.{RestsIn, images_after}
use Rattle.bx_cli_commands.proofs.RoundTrips.{top_rests}
use Rattle.bx_cli_commands.proofs.Stays.{shows_same}

-- each of two images that could be compared is short
old_short : (x y : List ℕ) → All (λ b. b < 256) x → AreShort x y → IsShort x
old_short x y bytes short = record { bytes = bytes; short = omega (arith, short) }

new_short : (x y : List ℕ) → All (λ b. b < 256) y → AreShort x y → IsShort y
new_short x y bytes short = record { bytes = bytes; short = omega (arith, short) }

module _ {D T : Type 0} (d : DeviceViews D) (t : StoreViews T) where
  -- of an image that agrees the change was made
  made_of : (A : Type 0) (p : Asked) (old new : Devices D T) (made : Bool) → IsPatched d t A p old new made → Agrees p (d.image old.image) → made ≡ true
  made_of A p old new true is agrees = refl
  made_of A p old new false is agrees = absurd (is.disagrees refl agrees)

  -- so one that the patch is of becomes what the patch makes of it
  makes_of : (A : Type 0) (p : Asked) (x y : List ℕ) (old new : Devices D T) (made : Bool) → IsPatched d t A p old new made → Agrees p x
      → effect {A = A} (patch_change p) x ≡ y → d.image old.image ≡ x → (made ≡ true) × (d.image new.image ≡ y)
  makes_of A p x y old new made is agrees makes same =
      let made_is = made_of A p old new made is (subst (Agrees p) (sym same) agrees) in
      (made_is, is.changed made_is ∙ ap (effect {A = A} (patch_change p)) same ∙ makes)

  -- a patch that was written, read back and made
  pub patch_trip : (A : Type 0) (extent : Extent) (x y text : List ℕ) (reverse : Bool) (p : Asked) (old new : Devices D T) (made : Bool)
      → All (λ b. b < 256) x → All (λ b. b < 256) y → AreShort x y → text ≡ patch_text extent x y → IsReadBack text reverse p → IsPatched d t A p old new made
      → DiffsAndPatches d t x y reverse old new made
  patch_trip A extent x y text false p old new made x_bytes y_bytes short is back patched =
      let x_short = old_short x y x_bytes short in
      let y_short = new_short x y y_bytes short in
      let read : IsPatch (patch_text extent x y) p = subst (λ a. IsPatch (patch_text extent x y) a) (sym back.asked_is) (subst (λ s. IsPatch s back.told) is back.read) in
      let law = patch_makes_new A extent x y x_short y_short in
      let same : law.0 ≡ p = one_request (patch_text extent x y) law.0 p law.1 read in
      record {
        makes = makes_of A p x y old new made patched (subst (λ a. Agrees a x) same law.2) (subst (λ a. effect {A = A} (patch_change a) x ≡ y) same law.3);
        same = patched.same;
        strict = λ _ made_is apart. patch_is_strict extent x y (d.image old.image) p x_short y_short apart read (patched.agrees made_is);
      }
  patch_trip A extent x y text true p old new made x_bytes y_bytes short is back patched =
      let x_short = old_short x y x_bytes short in
      let y_short = new_short x y y_bytes short in
      let read : IsPatch (patch_text extent x y) back.told = subst (λ s. IsPatch s back.told) is back.read in
      let law = patch_reversed A extent x y back.told x_short y_short read in
      record {
        makes = makes_of A p y x old new made patched (subst (λ a. Agrees a y) (sym back.asked_is) law.0)
            (subst (λ a. effect {A = A} (patch_change a) y ≡ x) (sym back.asked_is) law.1);
        same = patched.same;
        strict = λ e. absurd (false≢true (sym e));
      }

  -- three devices are as faithful as before
  abbrev AreAsFaithful : SessionView D T → SessionView D T → Type 0
  AreAsFaithful old new = (d.faithful new.image ↔ d.faithful old.image) × (t.faithful new.journal ↔ t.faithful old.journal) × (t.faithful new.redo ↔ t.faithful old.redo)

  -- a session that was looked at shows the same images
  pub look_rests : (old new : SessionView D T) (i : Images) → OnlyLooks d t old new → AreAsFaithful old new → RestsIn d t old i → RestsIn d t new i
  look_rests old new i looks faith rests = record {
    image = faith.0.1 rests.image;
    journal = faith.1.1 rests.journal;
    redo = faith.2.1 rests.redo;
    shows = shows_same d.image t.text old new i
        (record { image_same = looks.image rests.image; text_same = ap t.text looks.journal; count = looks.count; broken = looks.is_broken })
        (record { text_same = ap t.text looks.redo; undone = looks.undone }) rests.shows;
  }

  -- a change behind a look that found nothing otherwise
  pub made_patched : (A : Type 0) (p : Asked) (old new : SessionView D T) (c : Change A) (i : Images) → RestsIn d t old i
      → (d.faithful old.image → Agrees p (d.image old.image)) → c ≡ patch_change p → RestsIn d t new (images_after c i)
      → IsPatched d t A p (devices_of old) (devices_of new) true
  made_patched A p old new c i rests agrees is made =
      let top_is = sym (top_rests d t old i rests) in
      record {
        agrees = λ _. agrees rests.image;
        changed = λ _. top_rests d t new (images_after c i) made ∙ ap (effect c) top_is ∙ ap (λ (a : Change A). effect a (d.image old.image)) is;
        disagrees = λ e. absurd (false≢true (sym e));
        same = λ e. absurd (false≢true (sym e));
      }

  -- a look that found something otherwise
  pub other_patched : (A : Type 0) (p : Asked) (old new : SessionView D T) (other : Other) → OnlyLooks d t old new → d.faithful old.image
      → (d.faithful old.image → HasOther p (d.image old.image) other) → IsPatched d t A p (devices_of old) (devices_of new) false
  other_patched A p old new other looks faithful has = record {
    agrees = λ e. absurd (false≢true e);
    changed = λ e. absurd (false≢true e);
    disagrees = λ _ agrees. other_disagrees p (d.image old.image) other (has faithful) agrees;
    same = λ _. record { image = looks.image faithful; journal = ap t.text looks.journal; redo = ap t.text looks.redo };
  }

  -- so it is of devices that hold the same before and behind it
  pub same_patched : (A : Type 0) (p : Asked) (x old new y : Devices D T) (made : Bool) → HoldTheSame d t x old → HoldTheSame d t new y
      → IsPatched d t A p old new made → IsPatched d t A p x y made
  same_patched A p x old new y made before behind is = record {
    agrees = λ m. subst (Agrees p) before.image (is.agrees m);
    changed = λ m. behind.image ∙ is.changed m ∙ ap (effect {A = A} (patch_change p)) before.image;
    disagrees = λ m agrees. is.disagrees m (subst (Agrees p) (sym before.image) agrees);
    same = λ m.
        let kept = is.same m in
        record { image = behind.image ∙ kept.image ∙ before.image; journal = behind.journal ∙ kept.journal ∙ before.journal; redo = behind.redo ∙ kept.redo ∙ before.redo };
  }
