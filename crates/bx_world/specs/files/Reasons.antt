-- Why the files of a session are not opened.
use Rattle.std.specs.Prelude.{◌≡◌, ◌⊎◌, ◌<◌, ◌≤◌, ℕ, Bool, true, false, List, Option, None, Some}
use Rattle.bx_world.specs.Rule.{image_unfit, text_unfit}
use Rattle.bx_world.specs.World.{SystemState, Trio, stat_named}
use Rattle.bx_world.specs.declared.rule.Unfit.{Unfit}
use Rattle.bx_world.specs.declared.stat.Stat.{Stat}
use Rattle.bx_world.specs.declared.world.Refusal.{Refusal}
use Rattle.bx_world.specs.declared.world.Refusal.TheVariants.{Missing}
use Rattle.bx_world.specs.files.Fit.{unfit_beside}
use Rattle.bx_world.specs.declared.files.names.Names.{Names}
use Rattle.bx_world.specs.declared.files.unopened.OpenError.{OpenError}
use Rattle.bx_world.specs.declared.files.unopened.FileRole.{FileRole}
use Rattle.bx_world.specs.declared.files.unopened.FileRole.TheVariants.{Image, Journal, Redo}
use Rattle.bx_world.specs.declared.files.unopened.OpenFailure.{OpenFailure}
use Rattle.bx_world.specs.declared.files.unopened.OpenFailure.TheVariants.{System, Unfit as NotFit, Alias, Another}

-- the system refused a call: for a file that is missing, or it counted so
abbrev pub IsRefusedFor : Type 0 → Type 0 → Refusal → Type 0
IsRefusedFor missing counted Missing = missing
IsRefusedFor missing counted refusal = counted

-- why a file may be refused: it is missing, the system counted a call that it refused, it is unfit, or it is another one of the three. None is
-- refused for what it holds.
abbrev pub IsReason : Type 0 → (Unfit → Type 0) → Type 0 → Type 0 → OpenFailure → Type 0
IsReason missing unfit alias counted (System refusal) = IsRefusedFor missing counted refusal
IsReason missing unfit alias counted (NotFit why) = unfit why
IsReason missing unfit alias counted Alias = alias
IsReason missing unfit alias counted Another = ⊥

-- one of the three is refused for such a reason
abbrev pub IsRefusedFile : FileRole → Type 0 → (Unfit → Type 0) → Type 0 → Type 0 → OpenError → Type 0
IsRefusedFile which missing unfit alias counted u = (u.which ≡ which) × IsReason missing unfit alias counted u.why

-- no file is unfit
abbrev pub NoneUnfit : Unfit → Type 0
NoneUnfit unfit = ⊥

-- a name is missing, and its file isn't to be made
abbrev pub IsUnmade : Bool → SystemState → List ℕ → Type 0
IsUnmade makes w name = (makes ≡ false) × (w.named name ≡ None)

-- the file of a name can't be an image that is changed
abbrev pub IsUnfitImage : Bool → SystemState → List ℕ → Unfit → Type 0
IsUnfitImage mounted w name unfit = (image : Stat) × (stat_named w name ≡ Some image) × (image_unfit mounted image ≡ Some unfit)

-- what stands under a name can't be a text of this image; where none is given, of an image that is missing
abbrev pub IsUnfitBeside : Option Stat → SystemState → List ℕ → Unfit → Type 0
IsUnfitBeside image w name unfit = unfit_beside image w name ≡ Some unfit

-- an image that is made has this stat: whether mounted devices may be changed or not, it may be
abbrev pub IsOfMadeImage : Stat → Type 0
IsOfMadeImage image = (mounted : Bool) → image_unfit mounted image ≡ None

-- what stands under a name can't be a text of an image that was made, which is what the name may lead to by then
abbrev pub IsUnfitOfMade : Stat → SystemState → List ℕ → Unfit → Type 0
IsUnfitOfMade image w name unfit =
    IsUnfitBeside (Some image) w name unfit
    ⊎ ((w.named name ≡ None) × (text_unfit w.caller image (w.is_link name) image ≡ Some unfit))

-- what stands under a name can't be a text of an image that was missing and is made: it is judged alone before, and then beside the image
abbrev pub IsUnfitBesideMade : Bool → List ℕ → SystemState → List ℕ → Unfit → Type 0
IsUnfitBesideMade makes image_name w name unfit =
    (makes ≡ true) × (w.named image_name ≡ None)
    × (IsUnfitBeside None w name unfit ⊎ ((image : Stat) × IsOfMadeImage image × IsUnfitOfMade image w name unfit))

-- what stands under a name can't be a text of the image of another
abbrev pub IsUnfitText : Bool → List ℕ → SystemState → List ℕ → Unfit → Type 0
IsUnfitText makes image_name w name unfit =
    ((image : Stat) × (stat_named w image_name ≡ Some image) × IsUnfitBeside (Some image) w name unfit)
    ⊎ IsUnfitBesideMade makes image_name w name unfit

-- two names lead to one file, or are missing and may do so once one is made
abbrev pub MayLeadToOne : Bool → SystemState → List ℕ → List ℕ → Type 0
MayLeadToOne makes w a b =
    ((n : ℕ) × (w.named a ≡ Some n) × (w.named b ≡ Some n)) ⊎ ((makes ≡ true) × (w.named a ≡ None) × (w.named b ≡ None))

-- why one of three files may not be opened to be changed
abbrev pub MayRefuseWhich : Names → Bool → Bool → Type 0 → SystemState → FileRole → OpenFailure → Type 0
MayRefuseWhich names mounted makes counted w Image why =
    IsReason (IsUnmade makes w names.image) (IsUnfitImage mounted w names.image) ⊥ counted why
MayRefuseWhich names mounted makes counted w Journal why =
    IsReason (IsUnmade makes w names.journal) (IsUnfitText makes names.image w names.journal) (MayLeadToOne makes w names.journal names.image) counted why
MayRefuseWhich names mounted makes counted w Redo why =
    IsReason ⊥ (IsUnfitText makes names.image w names.redo)
    (MayLeadToOne makes w names.redo names.image ⊎ MayLeadToOne makes w names.redo names.journal) counted why

-- Why the opening of three files may be refused: image or journal is missing and isn't to be made, the system counted a call that it refused,
-- what stands under a name is unfit by the rule, or two of the names lead to one file
abbrev pub MayRefuseOpening : Names → Bool → Bool → Type 0 → SystemState → OpenError → Type 0
MayRefuseOpening names mounted makes counted w u = MayRefuseWhich names mounted makes counted w u.which u.why

-- a text, by its number, may be one of the image
abbrev pub IsFitText : Trio → SystemState → ℕ → Type 0
IsFitText t w n = text_unfit w.caller (w.stat t.image) false (w.stat n) ≡ None

-- the three files, by their numbers, may be an image that is changed and its texts
pub record AreFitFiles (mounted : Bool) (t : Trio) (w : SystemState) : Type 0 where
  pub image : image_unfit mounted (w.stat t.image) ≡ None
  pub journal : IsFitText t w t.journal
  pub redo : IsFitText t w t.redo

-- one of three files is another one
abbrev pub IsOneOf : Trio → FileRole → Type 0
IsOneOf t Image = ⊥
IsOneOf t Journal = t.journal ≡ t.image
IsOneOf t Redo = (t.redo ≡ t.image) ⊎ (t.redo ≡ t.journal)

-- one of the texts leads to the image, or the redo text to the journal
abbrev pub LeadsToOther : Names → ℕ → ℕ → SystemState → FileRole → Type 0
LeadsToOther names image journal w Image = ⊥
LeadsToOther names image journal w Journal = journal ≡ image
LeadsToOther names image journal w Redo = (w.named names.redo ≡ Some image) ⊎ (w.named names.redo ≡ Some journal)

abbrev pub IsReasonBeside : Names → Stat → Type 0 → SystemState → FileRole → OpenFailure → Type 0
IsReasonBeside names image counted w Image why = IsReason ⊥ NoneUnfit ⊥ counted why
IsReasonBeside names image counted w Journal why = IsReason ⊥ (IsUnfitBeside (Some image) w names.journal) ⊥ counted why
IsReasonBeside names image counted w Redo why = IsReason ⊥ (IsUnfitBeside (Some image) w names.redo) ⊥ counted why

-- what stands under the name of a text can't be one of this image, or the system counted a call that it refused
abbrev pub IsUnfitOrRefused : Names → Stat → Type 0 → SystemState → OpenError → Type 0
IsUnfitOrRefused names image counted w u = IsReasonBeside names image counted w u.which u.why

-- whatever the opening of files that are made where they are missing is refused for now, it might have been refused for before, when no more calls
-- had been refused, and behind more that are
abbrev pub RefusesAsBefore : Names → SystemState → SystemState → Type 0
RefusesAsBefore names old new = (mounted : Bool) (before least most last : ℕ) (u : OpenError) → before ≤ least → most ≤ last
    → MayRefuseOpening names mounted true (least < most) new u → MayRefuseOpening names mounted true (before < last) old u
