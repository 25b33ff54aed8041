-- Whether what stands under the three names may be opened.
use Rattle.std.specs.Prelude.{◌≡◌, ℕ, Bool, true, List, Option, None, Some, if◌then◌else◌}
use Rattle.std.specs.Option.{unwrap_or}
use Rattle.bx_world.specs.Rule.{text_unfit}
use Rattle.bx_world.specs.World.{MayBeImage, SystemState, stat_named}
use Rattle.bx_world.specs.declared.rule.Unfit.{Unfit}
use Rattle.bx_world.specs.declared.rule.Unfit.TheVariants.{Link}
use Rattle.bx_world.specs.declared.stat.Look.{Look}
use Rattle.bx_world.specs.declared.stat.Stat.{Stat}
use Rattle.bx_world.specs.declared.files.names.Names.{Names}

-- why what stands under a name can't be a text of an image, and none where it can, or where nothing stands there; whose text it may be of an
-- image that is missing isn't known, so it is judged as its own image's
abbrev pub found_unfit : ℕ → Option Stat → Bool → Option Stat → Option Unfit
found_unfit caller image is_link None = if is_link then Some Link else None
found_unfit caller image is_link (Some text) = text_unfit caller (unwrap_or image text) is_link text

-- the same of what the system tells of the name
abbrev pub look_unfit : ℕ → Option Stat → Look → Option Unfit
look_unfit caller image look = found_unfit caller image look.is_link look.found

-- the same of the name
abbrev pub unfit_beside : Option Stat → SystemState → List ℕ → Option Unfit
unfit_beside image w name = found_unfit w.caller image (w.is_link name) (stat_named w name)

-- the system says this of the file that the name leads to, and it may be an image that is changed; or the name leads to none, and an image is
-- to be made
pub record IsFitImage (name : List ℕ) (mounted makes : Bool) (image : Option Stat) (w : SystemState) : Type 0 where
  pub found : stat_named w name ≡ image
  pub fit : MayBeImage mounted w name
  pub asked : image ≡ None → makes ≡ true

-- what stands under the names of the texts may be texts of this image
pub record AreFitBeside (names : Names) (image : Stat) (w : SystemState) : Type 0 where
  pub journal : unfit_beside (Some image) w names.journal ≡ None
  pub redo : unfit_beside (Some image) w names.redo ≡ None

-- what stands under the three names may be an image that is changed, and its texts
pub record AreFit (names : Names) (mounted : Bool) (w : SystemState) : Type 0 where
  pub image : MayBeImage mounted w names.image
  pub texts : (n : ℕ) → w.named names.image ≡ Some n → AreFitBeside names (w.stat n) w
