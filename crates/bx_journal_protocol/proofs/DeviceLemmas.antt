-- The three devices of a session, behind one step after another.
use Rattle.std.proofs.Common.{◌≡◌, ◌∙◌, ◌+◌, ◌↔◌, true, false, refl, sym, subst, arith, Result, Ok, Err}
use Rattle.std.specs.Prelude.{OnErr, OnOk}
use Rattle.std.proofs.lemmas.Result.{on_ok_weaker, on_err_weaker}
use Rattle.bx_image.specs.Device.{GoesOn}
use Rattle.bx_image.specs.declared.device.Device.{Ghosts as DeviceViews}
use Rattle.bx_journal_store.specs.declared.store.TextStore.{Ghosts as StoreViews}
use Rattle.bx_journal_model.specs.declared.devices.Devices.{Devices}
use Rattle.bx_journal_model.specs.ThreeDevices.{StepsOn}

none_ok : {T E : Type 0} (P : Type 0) (r : Result T E) (e : E) → r ≡ Err e → OnOk r P
none_ok P r e is = subst (λ q. OnOk q P) (sym is) tt

pub always_err : {T E P : Type 0} (r : Result T E) → P → OnErr r P
always_err (Ok x) p = tt
always_err (Err e) p = p

pub both_ways : {A B C : Type 0} → (C ↔ B) → (B ↔ A) → (C ↔ A)
both_ways next first = ((λ h. first.0 (next.0 h)), λ h. next.1 (first.1 h))

-- none of the steps failed so far
abbrev pub HaveGoneOn : {D T : Type 0} → DeviceViews D → StoreViews T → Devices D T → Devices D T → Type 0
HaveGoneOn d t = StepsOn {R = Unit {0}} {E = Unit {0}} d t (Ok tt)

-- the three devices with another one of the image
abbrev pub with_device : {D T : Type 0} → Devices D T → D → Devices D T
with_device x device = record { image = device; journal = x.journal; redo = x.redo }

module _ {D T : Type 0} {d : DeviceViews D} {t : StoreViews T} where
  pub none_yet : {x : Devices D T} → HaveGoneOn d t x x
  none_yet = record {
    image_faith = ((λ h. h), λ h. h);
    journal_faith = ((λ h. h), λ h. h);
    redo_faith = ((λ h. h), λ h. h);
    no_failure = (refl, refl, refl);
    failure = tt;
  }

  -- a step more, whatever it answers
  pub one_more : {R E : Type 0} {x y z : Devices D T} (r : Result R E) → HaveGoneOn d t x y → StepsOn d t r y z → StepsOn d t r x z
  one_more r so_far step =
      let same = so_far.no_failure in
      record {
        image_faith = both_ways step.image_faith so_far.image_faith;
        journal_faith = both_ways step.journal_faith so_far.journal_faith;
        redo_faith = both_ways step.redo_faith so_far.redo_faith;
        no_failure = on_ok_weaker r (λ h. (h.0 ∙ same.0, h.1 ∙ same.1, h.2 ∙ same.2)) step.no_failure;
        failure = on_err_weaker r (λ h. (omega (arith, h.0, same.0), omega (arith, h.1, same.1), omega (arith, h.2, same.2), omega (arith, h.3, same.0, same.1, same.2))) step.failure;
      }

  gone : {R E : Type 0} {v : R} {x y : Devices D T} → StepsOn {E = E} d t (Ok v) x y → HaveGoneOn d t x y
  gone step = record {
    image_faith = step.image_faith;
    journal_faith = step.journal_faith;
    redo_faith = step.redo_faith;
    no_failure = step.no_failure;
    failure = tt;
  }

  -- a step of the image's device alone
  filled : {x : Devices D T} {device : D} → GoesOn d.faithful d.room d.failures false x.image device → HaveGoneOn d t x (with_device x device)
  filled on = record {
    image_faith = on.faith;
    journal_faith = ((λ h. h), λ h. h);
    redo_faith = ((λ h. h), λ h. h);
    no_failure = (on.counted, refl, refl);
    failure = tt;
  }

  unfilled : {x : Devices D T} {device : D} → GoesOn d.faithful d.room d.failures true x.image device → StepsOn {R = Unit {0}} {E = Unit {0}} d t (Err tt) x (with_device x device)
  unfilled {x = x} {device = device} on =
      let more : d.failures device ≡ d.failures x.image + 1 = on.counted in
      record {
        image_faith = on.faith;
        journal_faith = ((λ h. h), λ h. h);
        redo_faith = ((λ h. h), λ h. h);
        no_failure = tt;
        failure = (omega (arith, more), omega arith, omega arith, omega (arith, more));
      }

  failed : {R E V F : Type 0} {e : E} {f : F} {x y : Devices D T} (q : Result V F) → q ≡ Err f → StepsOn {R = R} d t (Err e) x y → StepsOn d t q x y
  failed {f = f} q is step = record {
    image_faith = step.image_faith;
    journal_faith = step.journal_faith;
    redo_faith = step.redo_faith;
    no_failure = none_ok _ q f is;
    failure = always_err q step.failure;
  }

  -- a step more and one of the image's device
  pub goes_further : {R E : Type 0} {v : R} {x y z : Devices D T} {device : D} → HaveGoneOn d t x y
      → StepsOn {E = E} d t (Ok v) y z → GoesOn d.faithful d.room d.failures false z.image device → HaveGoneOn d t x (with_device z device)
  goes_further so_far step on = one_more (Ok tt) (gone (one_more _ so_far step)) (filled on)

  -- the step failed
  pub step_fails : {R E V F : Type 0} {e : E} {f : F} {x y z : Devices D T} (q : Result V F) → q ≡ Err f → HaveGoneOn d t x y
      → StepsOn {R = R} d t (Err e) y z → StepsOn d t q x z
  step_fails q is so_far step = failed q is (one_more _ so_far step)

  -- the step was made, and the one of the image's device failed
  pub filling_fails : {R E V F : Type 0} {v : R} {f : F} {x y z : Devices D T} {device : D} (q : Result V F) → q ≡ Err f → HaveGoneOn d t x y
      → StepsOn {E = E} d t (Ok v) y z → GoesOn d.faithful d.room d.failures true z.image device → StepsOn d t q x (with_device z device)
  filling_fails q is so_far step on = failed q is (one_more (Err tt) (gone (one_more _ so_far step)) (unfilled on))
