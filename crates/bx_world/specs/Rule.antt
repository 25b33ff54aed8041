-- Which files a run may open to change them.
use Rattle.std.specs.Prelude.{ℕ, Bool, true, false, not, cond, ◌==◌, ◌&&◌, ◌||◌, if◌then◌else◌, Option, None, Some}
use Rattle.bx_world.specs.declared.rule.Unfit.{Unfit}
use Rattle.bx_world.specs.declared.rule.Unfit.TheVariants.{Link, Kind as WrongKind, Names, Owner, Readers, Writers, Mounted, ReadOnly}
use Rattle.bx_world.specs.declared.stat.Classes.{Classes}
use Rattle.bx_world.specs.declared.stat.Kind.{Kind}
use Rattle.bx_world.specs.declared.stat.Kind.TheVariants.{Regular, Block, Other}
use Rattle.bx_world.specs.declared.stat.Stat.{Stat}

-- whether a file is a regular one
abbrev pub is_regular : Kind → Bool
is_regular Regular = true
is_regular Block = false
is_regular Other = false

-- the text has the image's group, which may read and write the image, and which nobody else gave it
abbrev pub is_member : Stat → Stat → Bool
is_member image text = image.reads.group && image.writes.group && (text.group == image.group) && not text.is_group_given

-- the text belongs to the caller, to root, to the image's owner, or to somebody of its group
abbrev pub is_writer : ℕ → Stat → Stat → Bool
is_writer caller image text = (text.owner == caller) || (text.owner == 0) || (text.owner == image.owner) || is_member image text

-- nobody has a permission of the text who hasn't that of the image. A member of another group than the image's is a member of the image's, or
-- one of its others.
abbrev pub is_no_wider : Bool → Classes → Classes → Bool
is_no_wider is_one_group text image =
    (not text.group || cond is_one_group image.group (image.group && image.others))
    && (not text.others || cond is_one_group image.others (image.group && image.others))

-- Why a file can't be a text of an image; none where it can
abbrev pub text_unfit : ℕ → Stat → Bool → Stat → Option Unfit
text_unfit caller image is_link text =
    if is_link then Some Link else
    if not (is_regular text.kind) then Some WrongKind else
    if not (text.links == 1) then Some Names else
    if not (is_writer caller image text) then Some Owner else
    if not (is_no_wider (text.group == image.group) text.reads image.reads) then Some Readers else
    if not (is_no_wider (text.group == image.group) text.writes image.writes) then Some Writers else
    None

-- Why a device can't be an image that is changed
abbrev pub device_unfit : Bool → Stat → Option Unfit
device_unfit mounted image =
    if image.is_read_only then Some ReadOnly else
    if image.is_mounted && not mounted then Some Mounted else
    None

-- why a file of this kind can't be an image that is changed
abbrev pub unfit_by_kind : Kind → Bool → Stat → Option Unfit
unfit_by_kind Regular mounted image = None
unfit_by_kind Block mounted image = device_unfit mounted image
unfit_by_kind Other mounted image = Some WrongKind

-- Why a file can't be an image that is changed; none where it can
abbrev pub image_unfit : Bool → Stat → Option Unfit
image_unfit mounted image = unfit_by_kind image.kind mounted image

-- why a file of this kind can't be an image that is read
abbrev pub read_unfit_by : Kind → Option Unfit
read_unfit_by Regular = None
read_unfit_by Block = None
read_unfit_by Other = Some WrongKind

-- Why a file can't be an image that is read; none where it can
abbrev pub read_unfit : Stat → Option Unfit
read_unfit image = read_unfit_by image.kind
