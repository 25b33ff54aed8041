-- Why files are not opened.
use Rattle.std.proofs.Common.{Result, Ok, Err, ◌≡◌, ◌⊎◌, ◌∙◌, ◌<◌, ◌≤◌, ℕ, Bool, true, false, cond, Option, Some, None, List, refl, sym, ap, subst, inl, inr, arith}
use Rattle.std.specs.Option.{option_map_or, unwrap_or}
use Rattle.bx_world.specs.Rule.{image_unfit}
use Rattle.bx_world.specs.World.{CountsRefusal, IsAlwaysFit, Makes, SystemState}
use Rattle.bx_world.specs.declared.rule.Unfit.{Unfit}
use Rattle.bx_world.specs.declared.stat.Stat.{Stat}
use Rattle.bx_world.specs.declared.world.Refusal.{Refusal}
use Rattle.bx_world.specs.declared.world.Refusal.TheVariants.{Locked, Missing, Moved, Other, Taken}
use Rattle.bx_world.specs.files.Files.{AreAllThere, HasMade, IsImageOpened, IsMadeFile, IsTextOpened}
use Rattle.bx_world.specs.files.Fit.{IsFitImage, found_unfit}
use Rattle.bx_world.specs.files.Reasons.{IsReason, IsReasonBeside, IsRefusedFile, IsRefusedFor, IsUnfitBeside, IsUnfitImage, IsUnfitOrRefused, IsUnfitText, IsUnmade, LeadsToOther, MayLeadToOne, MayRefuseOpening, MayRefuseWhich, NoneUnfit}
use Rattle.bx_world.specs.declared.files.names.Names.{Names}
use Rattle.bx_world.specs.declared.files.unopened.OpenError.{OpenError}
use Rattle.bx_world.specs.declared.files.unopened.FileRole.{FileRole}
use Rattle.bx_world.specs.declared.files.unopened.FileRole.TheVariants.{Image, Journal, Redo}
use Rattle.bx_world.specs.declared.files.unopened.OpenFailure.{OpenFailure}
use Rattle.bx_world.specs.declared.files.unopened.OpenFailure.TheVariants.{System, Unfit as NotFit, Alias, Another}
use Rattle.bx_world.proofs.Making.{made_still, made_then, none_some, opened_made, some_one}

pub refused_weaker : (P Q C D : Type 0) (e : Refusal) → (P → Q) → (C → D) → IsRefusedFor P C e → IsRefusedFor Q D e
refused_weaker P Q C D Missing step more is = step is
refused_weaker P Q C D Taken step more is = more is
refused_weaker P Q C D Locked step more is = more is
refused_weaker P Q C D Moved step more is = more is
refused_weaker P Q C D (Other n) step more is = more is

-- a call that was refused
abbrev pub as_err : {V : Type 0} → Refusal → Result V Refusal
as_err e = Err e

-- a call that was refused is counted, since it was for no file that is missing
pub counted_refusal : {V : Type 0} (r : Result V Refusal) (e : Refusal) (old new least : ℕ) → r ≡ as_err e → CountsRefusal r old new
    → (r ≡ as_err Missing → ⊥) → least ≤ old → IsRefusedFor ⊥ (least < new) e
counted_refusal {V} r e old new least is counted there below =
    by e (subst (λ (o : Result V Refusal). CountsRefusal o old new) is counted) (λ wrong. there (is ∙ ap (λ (k : Refusal). as_err {V = V} k) wrong))
  where
    by : (k : Refusal) → CountsRefusal (as_err {V = V} k) old new → (k ≡ Missing → ⊥) → IsRefusedFor ⊥ (least < new) k
    by Missing more wrong = absurd (wrong refl)
    by Taken more wrong = omega (arith, more, below)
    by Locked more wrong = omega (arith, more, below)
    by Moved more wrong = omega (arith, more, below)
    by (Other n) more wrong = omega (arith, more, below)

pub counted_least : {V : Type 0} (r : Result V Refusal) (old new : ℕ) → CountsRefusal r old new → old ≤ new
counted_least (Ok v) old new counted = omega (arith, counted)
counted_least (Err Missing) old new counted = omega (arith, counted)
counted_least (Err Taken) old new counted = omega (arith, counted)
counted_least (Err Locked) old new counted = omega (arith, counted)
counted_least (Err Moved) old new counted = omega (arith, counted)
counted_least (Err (Other n)) old new counted = omega (arith, counted)

-- a file refused for fewer reasons
pub reason_weaker : (P Q A B C D : Type 0) (U V : Unfit → Type 0) (why : OpenFailure) → (P → Q) → ((u : Unfit) → U u → V u) → (A → B) → (C → D)
    → IsReason P U A C why → IsReason Q V B D why
reason_weaker P Q A B C D U V (System e) missing unfit alias more is = refused_weaker P Q C D e missing more is
reason_weaker P Q A B C D U V (NotFit u) missing unfit alias more is = unfit u is
reason_weaker P Q A B C D U V Alias missing unfit alias more is = alias is
reason_weaker P Q A B C D U V Another missing unfit alias more is = is

pub never : (P : Type 0) → ⊥ → P
never P wrong = absurd wrong

-- a file that isn't missing is refused
pub refused_missing : (Q C : Type 0) (e : Refusal) → IsRefusedFor ⊥ C e → IsRefusedFor Q C e
refused_missing Q C e is = refused_weaker ⊥ Q C C e (never Q) (λ more. more) is

-- a file that may be opened is refused for another reason
pub fit_reason : (which : FileRole) (C : Type 0) (o : Option Unfit) (u : OpenError) → o ≡ None
    → IsRefusedFile which ⊥ (λ unfit. o ≡ Some unfit) ⊥ C u → IsReason ⊥ NoneUnfit ⊥ C u.why
fit_reason which C o u fit is =
    reason_weaker ⊥ ⊥ ⊥ ⊥ C C (λ unfit. o ≡ Some unfit) NoneUnfit u.why (λ wrong. wrong)
    (λ unfit some. let wrong : None ≡ Some unfit = sym fit ∙ some in cc) (λ wrong. wrong) (λ more. more) is.1

-- a file that is no other one is refused for another reason
pub other_reason : (A C : Type 0) (why : OpenFailure) → IsReason ⊥ NoneUnfit ⊥ C why → IsReason ⊥ NoneUnfit A C why
other_reason A C why is = reason_weaker ⊥ ⊥ ⊥ A C C NoneUnfit NoneUnfit why (λ wrong. wrong) (λ unfit wrong. wrong) (never A) (λ more. more) is

-- a redo text that is made where it is missing is refused for another reason
pub redo_refused : (A C M : Type 0) (u : OpenError) → IsRefusedFile Redo M NoneUnfit ⊥ C u → (M → ⊥) → IsReason ⊥ NoneUnfit A C u.why
redo_refused A C M u is none =
    reason_weaker M ⊥ ⊥ A C C NoneUnfit NoneUnfit u.why none (λ unfit wrong. wrong) (never A) (λ more. more) is.1

module _ (names : Names) (image : Stat) (C : Type 0) (w : SystemState) (u : OpenError) where
  pub image_beside : IsRefusedFile Image ⊥ NoneUnfit ⊥ C u → IsUnfitOrRefused names image C w u
  image_beside is = subst (λ (which : FileRole). IsReasonBeside names image C w which u.why) (sym is.0) is.1

  pub journal_beside : IsRefusedFile Journal ⊥ (IsUnfitBeside (Some image) w names.journal) ⊥ C u → IsUnfitOrRefused names image C w u
  journal_beside is = subst (λ (which : FileRole). IsReasonBeside names image C w which u.why) (sym is.0) is.1

  pub redo_beside : IsRefusedFile Redo ⊥ (IsUnfitBeside (Some image) w names.redo) ⊥ C u → IsUnfitOrRefused names image C w u
  redo_beside is = subst (λ (which : FileRole). IsReasonBeside names image C w which u.why) (sym is.0) is.1

pub none_is_fit : (V : Unfit → Type 0) (u : Unfit) → NoneUnfit u → V u
none_is_fit V u wrong = absurd wrong

none_found : (w : SystemState) (led : Option ℕ) → option_map_or (λ n. Some (w.stat n)) led None ≡ None → led ≡ None
none_found w None is = refl
none_found w (Some n) is = absurd (let wrong : Some (w.stat n) ≡ None = is in cc)

module _ (names : Names) (mounted makes : Bool) (C : Type 0) (w : SystemState) where
  pub image_may : (U : Unfit → Type 0) (D : Type 0) (u : OpenError) → ((unfit : Unfit) → U unfit → IsUnfitImage mounted w names.image unfit) → (D → C)
      → IsRefusedFile Image (IsUnmade makes w names.image) U ⊥ D u → MayRefuseOpening names mounted makes C w u
  image_may U D u unfit more is = subst (λ (which : FileRole). MayRefuseWhich names mounted makes C w which u.why) (sym is.0)
      (reason_weaker _ _ _ _ _ _ _ _ u.why (λ missing. missing) unfit (never _) more is.1)

  unfit_looked : (name : List ℕ) (image : Option Stat) → IsFitImage names.image mounted makes image w → (unfit : Unfit) → IsUnfitBeside image w name unfit
      → IsUnfitText makes names.image w name unfit
  unfit_looked name (Some image) fit unfit is = inl (image, fit.found, is)
  unfit_looked name None fit unfit is = inr (fit.asked refl, none_found w (w.named names.image) fit.found, inl is)

  pub journal_looked : (image : Option Stat) (D : Type 0) (u : OpenError) → IsFitImage names.image mounted makes image w → (D → C)
      → IsRefusedFile Journal ⊥ (IsUnfitBeside image w names.journal) ⊥ D u → MayRefuseOpening names mounted makes C w u
  journal_looked image D u fit more is = subst (λ (which : FileRole). MayRefuseWhich names mounted makes C w which u.why) (sym is.0)
      (reason_weaker _ _ _ _ _ _ _ _ u.why (never _) (unfit_looked names.journal image fit) (never _) more is.1)

  pub redo_looked : (image : Option Stat) (D : Type 0) (u : OpenError) → IsFitImage names.image mounted makes image w → (D → C)
      → IsRefusedFile Redo ⊥ (IsUnfitBeside image w names.redo) ⊥ D u → MayRefuseOpening names mounted makes C w u
  redo_looked image D u fit more is = subst (λ (which : FileRole). MayRefuseWhich names mounted makes C w which u.why) (sym is.0)
      (reason_weaker _ _ _ _ _ _ _ _ u.why (never _) (unfit_looked names.redo image fit) (never _) more is.1)

  -- where more calls are counted
  pub opening_more : (D : Type 0) (u : OpenError) → (D → C) → MayRefuseOpening names mounted makes D w u → MayRefuseOpening names mounted makes C w u
  opening_more D u more = by u.which u.why
    where
      by : (which : FileRole) (why : OpenFailure) → MayRefuseWhich names mounted makes D w which why → MayRefuseWhich names mounted makes C w which why
      by Image why is = reason_weaker _ _ _ _ _ _ _ _ why (λ missing. missing) (λ unfit same. same) (λ same. same) more is
      by Journal why is = reason_weaker _ _ _ _ _ _ _ _ why (λ missing. missing) (λ unfit same. same) (λ same. same) more is
      by Redo why is = reason_weaker _ _ _ _ _ _ _ _ why (λ missing. missing) (λ unfit same. same) (λ same. same) more is

  pub missing_may : makes ≡ false → w.named names.journal ≡ None → (u : OpenError) → u ≡ record { which = Journal; why = System Missing }
      → MayRefuseOpening names mounted makes C w u
  missing_may unasked missing u is = subst (MayRefuseOpening names mounted makes C w) (sym is) (unasked, missing)

  module _ (made : Bool) (image : ℕ) (mid : SystemState) (within : AreAllThere w) (opened : IsImageOpened names.image mounted makes made image w mid) where
    beside_before : (name : List ℕ) (unfit : Unfit) → made ≡ true
        → IsUnfitBeside (Some (mid.stat image)) mid name unfit → IsUnfitText makes names.image w name unfit
    beside_before name unfit is_made is =
        let has = opened.file.files in
        let was : w.named names.image ≡ None = subst (λ (b : Bool). w.named names.image ≡ cond b None (Some image)) is_made opened.file.under.was in
        let Led : Option ℕ → Type 0 = λ led. found_unfit mid.caller (Some (mid.stat image)) (mid.is_link name)
        (option_map_or (λ k. Some (mid.stat k)) led None) ≡ Some unfit in
        inr (
          opened.file.asked is_made,
          was,
          inr (
            mid.stat image,
            opened.always is_made,
            elim (has.named name) [
              | inl same ↦ inl (rw (← has.streams.caller, ← has.streams.is_link name) (led_before (w.named name) refl (subst Led same is)))
              | inr is_new ↦
                  let at : Led (Some image) = subst Led (is_new.3 ∙ ap Some is_new.2.1) is in
                  inr (is_new.1, rw (← has.streams.caller, ← has.streams.is_link name) at)
            ],
          ),
        )
      where
        led_before : (led : Option ℕ) → w.named name ≡ led
            → found_unfit mid.caller (Some (mid.stat image)) (mid.is_link name) (option_map_or (λ k. Some (mid.stat k)) led None) ≡ Some unfit
            → found_unfit mid.caller (Some (mid.stat image)) (mid.is_link name) (option_map_or (λ k. Some (w.stat k)) led None) ≡ Some unfit
        led_before None named e = e
        led_before (Some k) named e = rw (← opened.file.files.stat k (within name k named)) e

    unmade_before : (name : List ℕ) → IsUnmade makes mid name → IsUnmade makes w name
    unmade_before name is = (is.0, led_none (w.named name) refl)
      where
        led_none : (led : Option ℕ) → w.named name ≡ led → w.named name ≡ None
        led_none None named = named
        led_none (Some k) named = absurd (none_some k (sym is.1 ∙ made_still _ w mid name k opened.file.files named))

    pub beside_may : (D : Type 0) (u : OpenError) → made ≡ true → (D → C)
        → IsUnfitOrRefused names (mid.stat image) D mid u → MayRefuseOpening names mounted makes C w u
    beside_may D u is_made more = by u.which u.why
      where
        by : (which : FileRole) (why : OpenFailure) → IsReasonBeside names (mid.stat image) D mid which why → MayRefuseWhich names mounted makes C w which why
        by Image why is = reason_weaker _ _ _ _ _ _ _ _ why (never _) (none_is_fit _) (λ wrong. wrong) more is
        by Journal why is = reason_weaker _ _ _ _ _ _ _ _ why (never _) (λ unfit. beside_before names.journal unfit is_made) (never _) more is
        by Redo why is = reason_weaker _ _ _ _ _ _ _ _ why (never _) (λ unfit. beside_before names.redo unfit is_made) (never _) more is

    pub journal_may : (D : Type 0) (u : OpenError) → (D → C) → IsRefusedFile Journal (IsUnmade makes mid names.journal) NoneUnfit ⊥ D u
        → MayRefuseOpening names mounted makes C w u
    journal_may D u more is = subst (λ (which : FileRole). MayRefuseWhich names mounted makes C w which u.why) (sym is.0)
        (reason_weaker _ _ _ _ _ _ _ _ u.why (unmade_before names.journal) (none_is_fit _) (never _) more is.1)

    one_place : (P : ℕ → Type 0) (new : SystemState) (a b : List ℕ) (n : ℕ) → HasMade P w new → ((k : ℕ) → P k → makes ≡ true) → new.named a ≡ Some n
        → new.named b ≡ Some n → MayLeadToOne makes w a b
    one_place P new a b n has asked led_a led_b = elim (has.named a) [
      | inl same ↦ elim (has.named b) [
        | inl as_well ↦ inl (n, sym same ∙ led_a, sym as_well ∙ led_b)
        | inr is_new ↦
            let below = within a n (sym same ∙ led_a) in
            let fresh = (has.fresh is_new.0 is_new.2).0 in
            let is : is_new.0 ≡ n = some_one (sym is_new.3 ∙ led_b) in
            absurd (omega (arith, below, fresh, is))
      ]
      | inr is_new ↦ elim (has.named b) [
        | inl same ↦
            let below = within b n (sym same ∙ led_b) in
            let fresh = (has.fresh is_new.0 is_new.2).0 in
            let is : is_new.0 ≡ n = some_one (sym is_new.3 ∙ led_a) in
            absurd (omega (arith, below, fresh, is))
        | inr as_well ↦ inr (asked is_new.0 is_new.2, is_new.1, as_well.1)
      ]
    ]

    image_before : (unfit : Unfit) → IsUnfitImage mounted mid names.image unfit → ⊥
    image_before unfit is =
        let found : Some (mid.stat image) ≡ Some is.0 =
        subst (λ (led : Option ℕ). option_map_or (λ k. Some (mid.stat k)) led None ≡ Some is.0) opened.file.under.named is.1 in
        let same : mid.stat image ≡ is.0 = ap (λ o. unwrap_or o (mid.stat image)) found in
        let wrong : None ≡ Some unfit = sym opened.fit ∙ subst (λ (stat : Stat). image_unfit mounted stat ≡ Some unfit) (sym same) is.2 in
        cc

    unfit_before : (name : List ℕ) (unfit : Unfit) → made ≡ true → IsUnfitText makes names.image mid name unfit → IsUnfitText makes names.image w name unfit
    unfit_before name unfit is_made is = elim is [
      | inl there ↦
          let found : Some (mid.stat image) ≡ Some there.0 =
          subst (λ (led : Option ℕ). option_map_or (λ k. Some (mid.stat k)) led None ≡ Some there.0) opened.file.under.named there.1 in
          let same : mid.stat image ≡ there.0 = ap (λ o. unwrap_or o (mid.stat image)) found in
          beside_before name unfit is_made (subst (λ (stat : Stat). IsUnfitBeside (Some stat) mid name unfit) (sym same) there.2)
      | inr none ↦ absurd (none_some image (sym none.1 ∙ opened.file.under.named))
    ]

    one_before : (a b : List ℕ) → MayLeadToOne makes mid a b → MayLeadToOne makes w a b
    one_before a b is = elim is [
      | inl one ↦ one_place (IsMadeFile made image) mid a b one.0 opened.file.files (λ k p. opened.file.asked p.0) one.1 one.2
      | inr none ↦ inr (none.0, (unmade_led a none.1), (unmade_led b none.2))
    ]
      where
        unmade_led : (name : List ℕ) → mid.named name ≡ None → w.named name ≡ None
        unmade_led name none = led_none (w.named name) refl
          where
            led_none : (led : Option ℕ) → w.named name ≡ led → w.named name ≡ None
            led_none None named = named
            led_none (Some k) named = absurd (none_some k (sym none ∙ made_still _ w mid name k opened.file.files named))

    -- whatever the opening may be refused for behind the making of the image, it might have been refused for before
    pub opening_before : (u : OpenError) → made ≡ true → MayRefuseOpening names mounted makes C mid u → MayRefuseOpening names mounted makes C w u
    opening_before u is_made = by u.which u.why
      where
        by : (which : FileRole) (why : OpenFailure) → MayRefuseWhich names mounted makes C mid which why → MayRefuseWhich names mounted makes C w which why
        by Image why is = reason_weaker _ _ _ _ _ _ _ _ why (unmade_before names.image) (λ unfit wrong. absurd (image_before unfit wrong)) (λ wrong. wrong)
            (λ more. more) is
        by Journal why is = reason_weaker _ _ _ _ _ _ _ _ why (unmade_before names.journal) (λ unfit. unfit_before names.journal unfit is_made)
            (one_before names.journal names.image) (λ more. more) is
        by Redo why is = reason_weaker _ _ _ _ _ _ _ _ why (λ wrong. wrong) (λ unfit. unfit_before names.redo unfit is_made)
            (λ one. elim one [
              | inl image ↦ inl (one_before names.redo names.image image)
              | inr journal ↦ inr (one_before names.redo names.journal journal)
            ])
            (λ more. more) is

    module _ (journal : ℕ) (journal_made : Bool) (new : SystemState) (text : IsTextOpened names.journal image journal makes journal_made mid new) where
      both : HasMade (λ n. IsMadeFile made image n ⊎ IsMadeFile journal_made journal n) w new
      both = made_then _ _ w mid new opened.file.files text.file.files

      asked : (k : ℕ) → IsMadeFile made image k ⊎ IsMadeFile journal_made journal k → makes ≡ true
      asked k is = elim is [ inl one ↦ opened.file.asked one.0 | inr one ↦ text.file.asked one.0 ]

      image_named : new.named names.image ≡ Some image
      image_named = made_still _ mid new names.image image text.file.files opened.file.under.named

      pub redo_may : (D : Type 0) (u : OpenError) → (D → C) → IsReason ⊥ NoneUnfit (LeadsToOther names image journal new u.which) D u.why
          → MayRefuseOpening names mounted makes C w u
      redo_may D u more = by u.which u.why
        where
          by : (which : FileRole) (why : OpenFailure) → IsReason ⊥ NoneUnfit (LeadsToOther names image journal new which) D why
              → MayRefuseWhich names mounted makes C w which why
          by Image why is = reason_weaker _ _ _ _ _ _ _ _ why (never _) (none_is_fit _) (λ wrong. wrong) more is
          by Journal why is = reason_weaker _ _ _ _ _ _ _ _ why (never _) (none_is_fit _)
              (λ same. one_place _ new names.journal names.image image both asked (text.file.under.named ∙ ap Some same) image_named) more is
          by Redo why is = reason_weaker _ _ _ _ _ _ _ _ why (never _) (none_is_fit _) (λ one. elim one [
            | inl led ↦ inl (one_place _ new names.redo names.image image both asked led image_named)
            | inr led ↦ inr (one_place _ new names.redo names.journal journal both asked led text.file.under.named)
          ]) more is

-- the same of an image that was made alone
pub made_before : (names : Names) (mounted : Bool) (C D : Type 0) (old new : SystemState) (n : ℕ) → AreAllThere old → Makes old new names.image n
    → IsAlwaysFit new n → (u : OpenError) → (D → C) → MayRefuseOpening names mounted true D new u → MayRefuseOpening names mounted true C old u
made_before names mounted C D old new n within made fit u more is =
    opening_more names mounted true C old D u more
    (opening_before names mounted true D old true n new within
    (record { file = opened_made old new names.image n made; fit = fit mounted; always = λ _. fit }) u refl is)

-- and where none was made
pub opened_before : (names : Names) (mounted : Bool) (before least most last : ℕ) (w : SystemState) (u : OpenError) → before ≤ least → most ≤ last
    → MayRefuseOpening names mounted true (least < most) w u → MayRefuseOpening names mounted true (before < last) w u
opened_before names mounted before least most last w u below above is =
    opening_more names mounted true (before < last) w (least < most) u (λ less. omega (arith, less, below, above)) is

-- an image that is made where it is missing is refused as the system refuses a call
pub image_refused : (names : Names) (mounted : Bool) (C : Type 0) (w : SystemState) (e : Refusal) → IsRefusedFor ⊥ C e
    → MayRefuseOpening names mounted true C w (record { which = Image; why = System e })
image_refused names mounted C w e is = refused_missing (IsUnmade true w names.image) C e is
