-- Files that are opened to be read, and why they are not.
use Rattle.std.proofs.Common.{◌≡◌, ◌⊎◌, ◌∙◌, ℕ, Bool, true, false, Option, Some, None, List, sym, subst, inl, inr}
use Rattle.std.specs.Prelude.{IfSome}
use Rattle.bx_world.specs.Rule.{text_unfit}
use Rattle.bx_world.specs.World.{MayBeText, ReadFiles, SystemState, stat_named}
use Rattle.bx_world.specs.declared.rule.Unfit.{Unfit}
use Rattle.bx_world.specs.declared.rule.Unfit.TheVariants.{Link}
use Rattle.bx_world.specs.declared.stat.Stat.{Stat}
use Rattle.bx_world.specs.declared.world.Refusal.{Refusal}
use Rattle.bx_world.specs.declared.world.Refusal.TheVariants.{Locked, Missing, Moved, Other, Taken}
use Rattle.bx_world.specs.files.Reading.{AreFitToRead, AreReadable, IsAnother, IsPair, IsReadable, IsUnfitToRead, LeadToOneFile, LeadToRead, MayRefuseForgetting, MayRefuseReading, MayRefuseToRead, StaysSeen, as_redo}
use Rattle.bx_world.specs.files.Reasons.{IsReason, IsRefusedFile, IsRefusedFor, IsUnfitBeside, NoneUnfit}
use Rattle.bx_world.specs.declared.files.names.Names.{Names}
use Rattle.bx_world.specs.declared.files.unopened.OpenError.{OpenError}
use Rattle.bx_world.specs.declared.files.unopened.FileRole.{FileRole}
use Rattle.bx_world.specs.declared.files.unopened.FileRole.TheVariants.{Image, Journal, Redo}
use Rattle.bx_world.specs.declared.files.unopened.OpenFailure.{OpenFailure}
use Rattle.bx_world.specs.declared.files.unopened.OpenFailure.TheVariants.{System, Unfit as NotFit, Alias, Another}

-- a look behind another one
pub seen_then : {W : Type 0} → (state : W → SystemState) (survives : W → ℕ → List ℕ → Type 0) (a b c : W)
    → StaysSeen state survives a b → StaysSeen state survives b c → StaysSeen state survives a c
seen_then state survives a b c first second = record {
  same = second.same ∙ first.same;
  nothing_new = λ n x found. first.nothing_new n x (second.nothing_new n x found);
}

refused_map : (P Q counted : Type 0) (e : Refusal) → (P → Q) → IsRefusedFor P counted e → IsRefusedFor Q counted e
refused_map P Q counted Missing step is = step is
refused_map P Q counted Taken step is = is
refused_map P Q counted Locked step is = is
refused_map P Q counted Moved step is = is
refused_map P Q counted (Other n) step is = is

-- reasons that give others
reason_map : (P Q A B counted : Type 0) (U V : Unfit → Type 0) (why : OpenFailure) → (P → Q) → ((u : Unfit) → U u → V u) → (A → B)
    → IsReason P U A counted why → IsReason Q V B counted why
reason_map P Q A B counted U V (System e) missing unfit alias is = refused_map P Q counted e missing is
reason_map P Q A B counted U V (NotFit u) missing unfit alias is = unfit u is
reason_map P Q A B counted U V Alias missing unfit alias is = alias is
reason_map P Q A B counted U V Another missing unfit alias is = is

none : (P : Type 0) → ⊥ → P
none P wrong = absurd wrong

-- the system says of the file that a name leads to what it says of the name
told : (w : SystemState) (name : List ℕ) (image : Stat) (n : ℕ) → stat_named w name ≡ Some image → w.named name ≡ Some n → w.stat n ≡ image
told w name image n found named = let same : Some (w.stat n) ≡ Some image = rw named at found in cc

-- what stands under the three names may be read, where it was looked at
pub readable : (names : Names) (image : Stat) (w : SystemState) → IsReadable names.image image w
    → ((n : ℕ) → w.stat n ≡ image → MayBeText n w names.journal) → ((n : ℕ) → w.stat n ≡ image → MayBeText n w names.redo) → AreReadable names w
readable names image w is journal redo = record {
  image = λ n named. rw (told w names.image image n is.found named) is.fit;
  journal = λ n named. journal n (told w names.image image n is.found named);
  redo = λ n named. redo n (told w names.image image n is.found named);
}

-- a text that may be opened by its name may be so by its number
unlinked : (caller : ℕ) (image : Stat) (is_link : Bool) (text : Stat) → text_unfit caller image is_link text ≡ None
    → text_unfit caller image false text ≡ None
unlinked caller image true text e = absurd (let wrong : Some Link ≡ None = e in cc)
unlinked caller image false text e = e

-- what may be read by its names may be so once it is open
pub fit_open : (names : Names) (f : ReadFiles) (w : SystemState) → AreReadable names w → LeadToRead names f w → AreFitToRead f w
fit_open names f w fit named = record {
  image = fit.image f.image named.image;
  journal = unlinked w.caller (w.stat f.image) (w.is_link names.journal) (w.stat f.journal) (fit.journal f.image named.image f.journal named.journal);
  redo = redo f.redo named.redo;
}
  where
    redo : (o : Option ℕ) → w.named names.redo ≡ o → IfSome o (λ n. text_unfit w.caller (w.stat f.image) false (w.stat n) ≡ None)
    redo None e = tt
    redo (Some n) e = unlinked w.caller (w.stat f.image) (w.is_link names.redo) (w.stat n) (fit.redo f.image named.image n e)

-- the same where the redo text stands in the place of the journal
pub pair_open : (names : Names) (f : ReadFiles) (w : SystemState) → AreReadable names w → IsPair names f w → AreFitToRead f w
pair_open names f w fit pair = record {
  image = fit.image f.image pair.image;
  journal = unlinked w.caller (w.stat f.image) (w.is_link names.redo) (w.stat f.journal) (fit.redo f.image pair.image f.journal pair.redo);
  redo = rw pair.alone tt;
}

module _ (names : Names) (counted : Type 0) (w : SystemState) where
  by_which : (which : FileRole) (u : OpenError) → u.which ≡ which → MayRefuseToRead names counted w which u.why → MayRefuseReading names counted w u
  by_which which u same is = subst (λ (x : FileRole). MayRefuseToRead names counted w x u.why) (sym same) is

  pub image_unseen : (u : OpenError) → IsRefusedFile Image (w.named names.image ≡ None) (IsUnfitToRead w names.image) ⊥ counted u
      → MayRefuseReading names counted w u
  image_unseen u is = by_which Image u is.0 is.1

  pub image_unread : (u : OpenError) → IsRefusedFile Image (w.named names.image ≡ None) NoneUnfit ⊥ counted u → MayRefuseReading names counted w u
  image_unread u is = by_which Image u is.0 (reason_map _ _ _ _ counted _ _ u.why (λ m. m) (λ _. none _) (none _) is.1)

  lent_which : (which : FileRole) (why : OpenFailure) → IsReason ⊥ NoneUnfit ⊥ counted why → MayRefuseToRead names counted w which why
  lent_which Image why is = reason_map _ _ _ _ counted _ _ why (none _) (λ _. none _) (none _) is
  lent_which Journal why is = reason_map _ _ _ _ counted _ _ why (none _) (λ _. none _) (none _) is
  lent_which Redo why is = reason_map _ _ _ _ counted _ _ why (none _) (λ _. none _) (none _) is

  -- the system refused a call, for no file that is missing
  pub unlent : (u : OpenError) → IsReason ⊥ NoneUnfit ⊥ counted u.why → MayRefuseReading names counted w u
  unlent u is = lent_which u.which u.why is

  pub journal_unread : (u : OpenError) → IsRefusedFile Journal (w.named names.journal ≡ None) NoneUnfit ⊥ counted u → MayRefuseReading names counted w u
  journal_unread u is = by_which Journal u is.0 (reason_map _ _ _ _ counted _ _ u.why (λ m. m) (λ _. none _) (none _) is.1)

  pub redo_unread : (u : OpenError) → IsRefusedFile Redo ⊥ NoneUnfit ⊥ counted u → MayRefuseReading names counted w u
  redo_unread u is = by_which Redo u is.0 (reason_map _ _ _ _ counted _ _ u.why (none _) (λ _. none _) (none _) is.1)

  module _ (image : Stat) (found : stat_named w names.image ≡ Some image) where
    pub journal_unseen : (u : OpenError) → IsRefusedFile Journal (w.named names.journal ≡ None) (IsUnfitBeside (Some image) w names.journal) ⊥ counted u
        → MayRefuseReading names counted w u
    journal_unseen u is = by_which Journal u is.0 (reason_map _ _ _ _ counted _ _ u.why (λ m. m) (λ _ unfit. (image, found, unfit)) (none _) is.1)

    pub redo_unseen : (u : OpenError) → IsRefusedFile Redo ⊥ (IsUnfitBeside (Some image) w names.redo) ⊥ counted u → MayRefuseReading names counted w u
    redo_unseen u is = by_which Redo u is.0 (reason_map _ _ _ _ counted _ _ u.why (none _) (λ _ unfit. (image, found, unfit)) (none _) is.1)

  module _ (f : ReadFiles) (named : LeadToRead names f w) where
    one_file : IsAnother f Redo → LeadToOneFile w names.redo names.image ⊎ LeadToOneFile w names.redo names.journal
    one_file is = let redo = named.redo in elim is [
      | inl same ↦ inl (f.image, redo ∙ same, named.image)
      | inr same ↦ inr (f.journal, redo ∙ same, named.journal)
    ]

    another : (which : FileRole) (why : OpenFailure) → IsReason ⊥ NoneUnfit (IsAnother f which) counted why → MayRefuseToRead names counted w which why
    another Image why is = reason_map _ _ _ _ counted _ _ why (none _) (λ _. none _) (none _) is
    another Journal why is = reason_map _ _ _ _ counted _ _ why (none _) (λ _. none _)
        (λ same. (f.image, rw (← same) named.journal, named.image)) is
    another Redo why is = reason_map _ _ _ _ counted _ _ why (none _) (λ _. none _) one_file is

    pub unready : (u : OpenError) → IsReason ⊥ NoneUnfit (IsAnother f u.which) counted u.why → MayRefuseReading names counted w u
    unready u is = another u.which u.why is

  module _ (f : ReadFiles) (pair : IsPair names f w) where
    no_second : IsAnother f Redo → ⊥
    no_second is = elim is [
      | inl same ↦ (let wrong : None ≡ Some f.image = sym pair.alone ∙ same in cc)
      | inr same ↦ (let wrong : None ≡ Some f.journal = sym pair.alone ∙ same in cc)
    ]

    pub pair_unready : (u : OpenError) → IsReason ⊥ NoneUnfit (IsAnother f u.which) counted u.why → MayRefuseForgetting names counted w (as_redo u)
    pair_unready u is = by u.which u.why is
      where
        by : (which : FileRole) (why : OpenFailure) → IsReason ⊥ NoneUnfit (IsAnother f which) counted why
            → MayRefuseForgetting names counted w (as_redo (record { which = which; why = why }))
        by Image why is = reason_map _ _ _ _ counted _ _ why (none _) (λ _. none _) (none _) is
        by Journal why is = reason_map _ _ _ _ counted _ _ why (none _) (λ _. none _) (λ same. inl (f.image, rw (← same) pair.redo, pair.image)) is
        by Redo why is = reason_map _ _ _ _ counted _ _ why (none _) (λ _. none _) (λ one. absurd (no_second one)) is

-- an open file that may be read is refused for no unfitness
pub never_unfit : (P A B counted : Type 0) (U : Unfit → Type 0) (why : OpenFailure) → ((u : Unfit) → U u → ⊥) → (A → B) → IsReason P U A counted why
    → IsReason P NoneUnfit B counted why
never_unfit P A B counted U why fit alias is = reason_map P P A B counted U NoneUnfit why (λ m. m) fit alias is
