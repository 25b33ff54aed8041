-- Calls that only read a text, one behind another.
use Rattle.std.proofs.Common.{◌≡◌, ◌∙◌, inr, ℕ, Bool, true, false, List, Ok, Err, take, drop, ap, refl, arith}
use Rattle.bx_image.specs.Device.{GoesOn}
use Rattle.bx_image.specs.Power.{NoMore}
use Rattle.bx_image.proofs.Devices.{GoesOn_refl, GoesOn_then}
use Rattle.bx_image.proofs.Survivors.{NoMore_then}
use Rattle.bx_journal_store.specs.declared.store.TextStore.{Ghosts as StoreViews}
use Rattle.bx_journal_model.specs.declared.fault.SessionFault.TheVariants.{DeviceFailed}
use Rattle.bx_journal_model.specs.Looking.{LooksThrough, OnlyReadsText}

module _ {T : Type 0} (t : StoreViews T) where
  -- no call yet
  pub read_none : (now : T) → OnlyReadsText t false now now
  read_none now = record { text = λ h. refl; survives = λ h y there. there; goes_on = GoesOn_refl _ _ _ _ }

  -- one call more
  pub read_then : {failed : Bool} {old now new : T} → OnlyReadsText t false old now → (t.faithful now → t.text new ≡ t.text now) → (t.faithful now → NoMore (t.survives now) (t.survives new))
      → GoesOn t.faithful t.room t.failures failed now new → OnlyReadsText t failed old new
  read_then first text survives goes_on = record {
    text = λ h. text (first.goes_on.faith.1 h) ∙ first.text h;
    survives = λ h. NoMore_then _ _ _ (first.survives h) (survives (first.goes_on.faith.1 h));
    goes_on = GoesOn_then _ _ _ _ _ _ _ first.goes_on goes_on;
  }

  -- calls that only read a text, behind others
  pub read_behind : {failed : Bool} {old now new : T} → OnlyReadsText t false old now → OnlyReadsText t failed now new → OnlyReadsText t failed old new
  read_behind first more = read_then first more.text more.survives more.goes_on

  -- what took memory and read a text, and answers
  pub read_through : {R : Type 0} {old new : T} → (v : R) → OnlyReadsText t false old new → LooksThrough t (Ok v) old new
  read_through v reads = record {
    fault = tt;
    looks = record { same = reads.text; faith = reads.goes_on.faith; no_failure = reads.goes_on.counted; counts = tt };
    survives = reads.survives;
  }

  -- or fails
  pub failed_through : {R : Type 0} {old new : T} → OnlyReadsText t true old new → LooksThrough {R = R} t (Err DeviceFailed) old new
  failed_through reads = record {
    fault = inr refl;
    looks = record {
      same = reads.text;
      faith = reads.goes_on.faith;
      no_failure = tt;
      counts = (omega (arith, reads.goes_on.counted), omega arith, omega (arith, reads.goes_on.counted));
    };
    survives = reads.survives;
  }

  -- the bytes that it reads are those of the text before them all
  pub read_bytes : {old now : T} → OnlyReadsText t false old now → (bytes : List ℕ) (at m n : ℕ) → m ≡ n → (t.faithful now → bytes ≡ take m (drop at (t.text now)))
      → t.faithful old → bytes ≡ take n (drop at (t.text old))
  read_bytes {now = now} first bytes at m n is read h =
      read (first.goes_on.faith.1 h) ∙ ap (λ k. take k (drop at (t.text now))) is ∙ ap (λ y. take n (drop at y)) (first.text h)
