-- The files of an image that are only read.
use Rattle.std.specs.Prelude.{◌≡◌, ◌⊎◌, ℕ, Bool, true, false, List, None, Some, IfSome}
use Rattle.bx_world.specs.Rule.{read_unfit, text_unfit}
use Rattle.bx_world.specs.World.{MayBeRead, MayBeText, NothingNewFound, ReadFiles, SystemState, number_if, stat_named}
use Rattle.bx_world.specs.declared.rule.Unfit.{Unfit}
use Rattle.bx_world.specs.declared.stat.Stat.{Stat}
use Rattle.bx_world.specs.declared.world.Refusal.TheVariants.{Missing}
use Rattle.bx_world.specs.files.Reasons.{IsReason, IsUnfitBeside}
use Rattle.bx_world.specs.declared.files.names.Names.{Names}
use Rattle.bx_world.specs.declared.files.reading.Looked.{Looked}
use Rattle.bx_world.specs.declared.files.unopened.OpenError.{OpenError}
use Rattle.bx_world.specs.declared.files.unopened.FileRole.{FileRole}
use Rattle.bx_world.specs.declared.files.unopened.FileRole.TheVariants.{Image, Journal, Redo}
use Rattle.bx_world.specs.declared.files.unopened.OpenFailure.{OpenFailure}
use Rattle.bx_world.specs.declared.files.unopened.OpenFailure.TheVariants.{System}

-- the numbers of files that are open to be read
abbrev pub numbers_read : {F : Type 0} → (F → ℕ) → Looked F → ReadFiles
numbers_read number l = record { image = number l.image; journal = number l.journal; redo = number_if number l.redo }

-- a text that is open to be changed is locked, one that is open to be read is locked beside others that read it
abbrev pub IsLockedAs : Bool → Type 0 → Type 0 → Type 0
IsLockedAs true locked shared = locked
IsLockedAs false locked shared = shared

-- an image that is open to be read is locked beside others that read it, and so are its texts, or locked where they are open to be changed
pub record AreLockedAs {F : Type 0} (changes : Bool) (locked shared : F → Type 0) (l : Looked F) : Type 0 where
  pub image : shared l.image
  pub journal : IsLockedAs changes (locked l.journal) (shared l.journal)
  pub redo : IfSome l.redo (λ f. IsLockedAs changes (locked f) (shared f))

-- whoever looked at a world left it as it was, and nothing is found behind a loss of power that wasn't found before
pub record StaysSeen {W : Type 0} (state : W → SystemState) (survives : W → ℕ → List ℕ → Type 0) (old new : W) : Type 0 where
  pub same : state new ≡ state old
  pub nothing_new : NothingNewFound (survives old) (survives new)

-- the system says this of the file that the name leads to, and it may be an image that is read
pub record IsReadable (name : List ℕ) (image : Stat) (w : SystemState) : Type 0 where
  pub found : stat_named w name ≡ Some image
  pub fit : read_unfit image ≡ None

-- The name leads to a file that may be read, and these are its bytes
pub record AreBytesOf (name : List ℕ) (w : SystemState) (bytes : List ℕ) : Type 0 where
  pub number : ℕ
  pub named : w.named name ≡ Some number
  pub fit : read_unfit (w.stat number) ≡ None
  pub bytes_are : bytes ≡ w.bytes number

-- what stands under the three names may be an image that is read, and its texts
pub record AreReadable (names : Names) (w : SystemState) : Type 0 where
  pub image : MayBeRead w names.image
  pub journal : (n : ℕ) → w.named names.image ≡ Some n → MayBeText n w names.journal
  pub redo : (n : ℕ) → w.named names.image ≡ Some n → MayBeText n w names.redo

-- the names lead to these files
pub record LeadToRead (names : Names) (f : ReadFiles) (w : SystemState) : Type 0 where
  pub image : w.named names.image ≡ Some f.image
  pub journal : w.named names.journal ≡ Some f.journal
  pub redo : w.named names.redo ≡ f.redo

-- a redo text is neither the image nor the journal
abbrev pub IsThird : ReadFiles → Type 0
IsThird f = IfSome f.redo (λ n. (n ≡ f.image → ⊥) × (n ≡ f.journal → ⊥))

-- The files of an image are open to be read: the names lead to them, each is a file of its own, and all may be read
pub record AreOpenToRead (names : Names) (f : ReadFiles) (w : SystemState) : Type 0 where
  pub named : LeadToRead names f w
  pub journal_apart : f.journal ≡ f.image → ⊥
  pub redo_apart : IsThird f
  pub fit : AreReadable names w

-- the file of a name can't be an image that is read
abbrev pub IsUnfitToRead : SystemState → List ℕ → Unfit → Type 0
IsUnfitToRead w name unfit = (image : Stat) × (stat_named w name ≡ Some image) × (read_unfit image ≡ Some unfit)

-- why a file is not opened to be read: it is missing, it may not be read by the rule, or the system counted a call that it refused
abbrev pub MayNotRead : List ℕ → Type 0 → SystemState → OpenFailure → Type 0
MayNotRead name counted w why = IsReason (w.named name ≡ None) (IsUnfitToRead w name) ⊥ counted why

-- what stands under a name can't be a text of the image of another
abbrev pub IsUnfitTextOf : List ℕ → SystemState → List ℕ → Unfit → Type 0
IsUnfitTextOf image_name w name unfit = (image : Stat) × (stat_named w image_name ≡ Some image) × IsUnfitBeside (Some image) w name unfit

-- two names lead to one file
abbrev pub LeadToOneFile : SystemState → List ℕ → List ℕ → Type 0
LeadToOneFile w a b = (n : ℕ) × (w.named a ≡ Some n) × (w.named b ≡ Some n)

-- why one of the files of an image may not be opened to be read
abbrev pub MayRefuseToRead : Names → Type 0 → SystemState → FileRole → OpenFailure → Type 0
MayRefuseToRead names counted w Image why = IsReason (w.named names.image ≡ None) (IsUnfitToRead w names.image) ⊥ counted why
MayRefuseToRead names counted w Journal why =
    IsReason (w.named names.journal ≡ None) (IsUnfitTextOf names.image w names.journal) (LeadToOneFile w names.journal names.image) counted why
MayRefuseToRead names counted w Redo why =
    IsReason ⊥ (IsUnfitTextOf names.image w names.redo) (LeadToOneFile w names.redo names.image ⊎ LeadToOneFile w names.redo names.journal) counted why

-- Why the files of an image may not be opened to be read: image or journal is missing, the system counted a call that it refused, what stands
-- under a name is unfit by the rule, or two of the names lead to one file
abbrev pub MayRefuseReading : Names → Type 0 → SystemState → OpenError → Type 0
MayRefuseReading names counted w u = MayRefuseToRead names counted w u.which u.why

-- why one of the files of an image may not be opened whose history is dropped: of a missing journal only where the redo text is missing too
abbrev pub MayRefuseToForget : Names → Type 0 → SystemState → FileRole → OpenFailure → Type 0
MayRefuseToForget names counted w Journal (System Missing) = (w.named names.journal ≡ None) × (w.named names.redo ≡ None)
MayRefuseToForget names counted w which why = MayRefuseToRead names counted w which why

-- Why the files of an image may not be opened so that its history is dropped: as of reading them, but that a journal may be missing beside a redo text
abbrev pub MayRefuseForgetting : Names → Type 0 → SystemState → OpenError → Type 0
MayRefuseForgetting names counted w u = MayRefuseToForget names counted w u.which u.why

-- the names lead to an image and to its redo text, which stands in the place of the journal
pub record IsPair (names : Names) (f : ReadFiles) (w : SystemState) : Type 0 where
  pub image : w.named names.image ≡ Some f.image
  pub redo : w.named names.redo ≡ Some f.journal
  pub alone : f.redo ≡ None

-- An image and its redo text are open, which stands in the place of the journal: the names lead to them, they are two files, and may be read
pub record AreOpenAlone (names : Names) (f : ReadFiles) (w : SystemState) : Type 0 where
  pub named : IsPair names f w
  pub apart : f.journal ≡ f.image → ⊥
  pub fit : AreReadable names w

-- a file that is not opened, where the redo text stands in the place of the journal
abbrev pub as_redo : OpenError → OpenError
as_redo u = record { which = in_place u.which; why = u.why }
  where
    in_place : FileRole → FileRole
    in_place Image = Image
    in_place which = Redo

-- one of the texts is another file of the three
abbrev pub IsAnother : ReadFiles → FileRole → Type 0
IsAnother f Image = ⊥
IsAnother f Journal = f.journal ≡ f.image
IsAnother f Redo = (f.redo ≡ Some f.image) ⊎ (f.redo ≡ Some f.journal)

-- the redo text, by its number, may be one of an image that the system says this of
abbrev pub IsRedoFit : ReadFiles → Stat → SystemState → Type 0
IsRedoFit f image w = IfSome f.redo (λ n. text_unfit w.caller image false (w.stat n) ≡ None)

-- the files, by their numbers, may be an image that is read, and its texts
pub record AreFitToRead (f : ReadFiles) (w : SystemState) : Type 0 where
  pub image : read_unfit (w.stat f.image) ≡ None
  pub journal : text_unfit w.caller (w.stat f.image) false (w.stat f.journal) ≡ None
  pub redo : IsRedoFit f (w.stat f.image) w
