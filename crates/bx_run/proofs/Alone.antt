-- Files one of whose texts may be missing, once they are open, and once they are lent.
use Rattle.std.proofs.Common.{◌≡◌, ◌∙◌, ◌<◌, ℕ, Bool, true, false, List, Option, Some, None, refl, sym}
use Rattle.bx_image.specs.Power.{NoMore}
use Rattle.bx_image.specs.declared.device.Device.{Ghosts as DeviceViews}
use Rattle.bx_journal_store.specs.declared.store.TextStore.{Ghosts as StoreViews}
use Rattle.bx_journal.specs.Devices.{Devices}
use Rattle.bx_journal.specs.ThreeDevices.{AreBelow}
use Rattle.bx_world.specs.World.{AreOwnFiles, NothingNewFound, ReadFiles, SystemState, stat_named}
use Rattle.bx_world.specs.declared.stat.Stat.{Stat}
use Rattle.bx_world.specs.declared.world.Refusal.{Refusal}
use Rattle.bx_world.specs.declared.world.Refusal.TheVariants.{Locked, Missing, Moved, Other, Taken}
use Rattle.bx_world.specs.files.Reading.{AreOpenAlone, AreOpenToRead, MayRefuseForgetting, MayRefuseReading, MayRefuseToForget, MayRefuseToRead}
use Rattle.bx_world.specs.files.Reasons.{IsReason, IsRefusedFor, NoneUnfit}
use Rattle.bx_world.specs.declared.files.names.Names.{Names}
use Rattle.bx_world.specs.declared.files.unopened.OpenError.{OpenError}
use Rattle.bx_world.specs.declared.files.unopened.FileRole.{FileRole}
use Rattle.bx_world.specs.declared.files.unopened.FileRole.TheVariants.{Image, Journal, Redo}
use Rattle.bx_world.specs.declared.files.unopened.OpenFailure.{OpenFailure}
use Rattle.bx_world.specs.declared.files.unopened.OpenFailure.TheVariants.{System, Unfit as NotFit, Alias, Another}
use Rattle.bx_world.proofs.Readable.{unlent}
use Rattle.bx_run_report.specs.report.Devices.{HoldNumbered}
use Rattle.bx_run.specs.forget.Forgetting.{AreOpenTexts, LendsTexts, in_places}
use Rattle.bx_run.proofs.Apart.{apart, is_alone}
use Rattle.bx_run.proofs.Placed.{holds_placed}

-- each of an image and a redo text that stands in the place of the journal is there, and a file of its own
pub apart_alone : (names : Names) (f : ReadFiles) (w : SystemState) → AreOpenAlone names f w
    → ((name : List ℕ) (n : ℕ) → w.named name ≡ Some n → n < w.there) → AreOwnFiles w.there f
apart_alone names f w opens within = record {
  image_there = within names.image f.image opens.named.image;
  journal_there = within names.redo f.journal opens.named.redo;
  redo_there = λ n is. absurd (let wrong : None ≡ Some n = sym opens.named.alone ∙ is in cc);
  journal_apart = opens.apart;
  redo_apart = λ n is. absurd (let wrong : None ≡ Some n = sym opens.named.alone ∙ is in cc);
}

-- files that are open are files whose texts are emptied
pub opens_own : (names : Names) (f : ReadFiles) (w : SystemState) → AreOpenToRead names f w
    → ((name : List ℕ) (n : ℕ) → w.named name ≡ Some n → n < w.there) → AreOpenTexts names false f w
opens_own names f w opens within = record {
  named = record { image = opens.named.image; journal = opens.named.journal; redo = opens.named.redo };
  own = apart names f w opens within;
  fit = opens.fit;
}

pub opens_alone : (names : Names) (f : ReadFiles) (w : SystemState) → AreOpenAlone names f w → w.named names.journal ≡ None
    → ((name : List ℕ) (n : ℕ) → w.named name ≡ Some n → n < w.there) → AreOpenTexts names true f w
opens_alone names f w opens missing within = record {
  named = record { image = opens.named.image; journal = missing ∙ sym opens.named.alone; redo = opens.named.redo };
  own = apart_alone names f w opens within;
  fit = opens.fit;
}

-- Of files that are open, and their devices, which are put in their own places.
module _ {D T : Type 0} (d : DeviceViews D) (t : StoreViews T) (exchanged : Bool) (x : Devices D T) where
  pub below_placed : (limit : ℕ) → AreBelow d t limit x → AreBelow d t limit (in_places exchanged x)
  below_placed limit below = by exchanged
    where
      by : (e : Bool) → AreBelow d t limit (in_places e x)
      by false = below
      by true = (below.0, below.2, below.1)

  pub lends_placed : (names : Names) (f : ReadFiles) (beside : Option ReadFiles) (found mid : ℕ → List ℕ → Type 0) (w : SystemState)
      → beside ≡ Some f → AreOpenTexts names exchanged f w → HoldNumbered d t f w x → NothingNewFound found mid
      → NoMore (mid f.image) (d.survives x.image)
      → LendsTexts d t names (record { devices = in_places exchanged x; exchanged = exchanged }) beside found w
  lends_placed names f beside found mid w lent opened holds nothing_new more = record {
    files = f;
    lent = lent;
    opened = opened;
    alone = is_alone w.there f opened.own;
    held = rw (opened.named.image, opened.named.journal, opened.named.redo) (holds_placed exchanged f (in_places exchanged x) x.image x.journal x.redo refl
        d t w holds.image_faithful holds.image_is (holds.journal_faithful, holds.journal_is) (holds.redo_faithful, holds.redo_is));
    found_before = λ c there. nothing_new f.image c (more c there);
  }

-- the system tells of a file that a name leads to, and of none where it leads to none
pub told_missing : (w : SystemState) (name : List ℕ) (found : Option Stat) → found ≡ stat_named w name → found ≡ None → w.named name ≡ None
told_missing w name found told none = at (w.named name) refl
  where
    at : (o : Option ℕ) → w.named name ≡ o → w.named name ≡ None
    at None is = is
    at (Some n) is = absurd (let wrong : None ≡ Some (w.stat n) = rw is at (sym none ∙ told) in cc)

pub told_there : (w : SystemState) (name : List ℕ) (found : Option Stat) → found ≡ stat_named w name → w.named name ≡ None → found ≡ None
told_there w name found told none = rw none at told

-- Why files whose history is to be dropped are not opened.
module _ (names : Names) (counted : Type 0) (w : SystemState) where
  pub refused_there : (w.named names.journal ≡ None → ⊥) → (u : OpenError) → MayRefuseReading names counted w u → MayRefuseForgetting names counted w u
  refused_there there u is = by u.which u.why is
    where
      by : (which : FileRole) (why : OpenFailure) → MayRefuseToRead names counted w which why → MayRefuseToForget names counted w which why
      by Image why is = is
      by Redo why is = is
      by Journal (System Missing) is = absurd (there is)
      by Journal (System Taken) is = is
      by Journal (System Locked) is = is
      by Journal (System Moved) is = is
      by Journal (System (Other n)) is = is
      by Journal (NotFit unfit) is = is
      by Journal Alias is = is
      by Journal Another is = is

  -- a call that the system refused for no file that is missing
  never_missing : (e : Refusal) → IsRefusedFor ⊥ counted e → MayRefuseToForget names counted w Journal (System e)
  never_missing Missing is = absurd is
  never_missing Taken is = is
  never_missing Locked is = is
  never_missing Moved is = is
  never_missing (Other n) is = is

  pub refused_look : (e : Refusal) → IsRefusedFor ⊥ counted e → MayRefuseForgetting names counted w (record { which = Journal; why = System e })
  refused_look e is = never_missing e is

  pub refused_lending : (u : OpenError) → IsReason ⊥ NoneUnfit ⊥ counted u.why → MayRefuseForgetting names counted w u
  refused_lending u is = by u.which u.why is (unlent names counted w u is)
    where
      by : (which : FileRole) (why : OpenFailure) → IsReason ⊥ NoneUnfit ⊥ counted why → MayRefuseToRead names counted w which why
          → MayRefuseToForget names counted w which why
      by Image why is may = may
      by Redo why is may = may
      by Journal (System e) is may = never_missing e is
      by Journal (NotFit unfit) is may = may
      by Journal Alias is may = may
      by Journal Another is may = may
