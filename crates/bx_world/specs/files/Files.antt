-- What a run makes of files and their names.
use Rattle.std.specs.Prelude.{◌≡◌, ◌⊎◌, ◌<◌, ◌≤◌, ℕ, Bool, true, cond, List, [], Option, None, Some}
use Rattle.bx_world.specs.World.{AreThreeFiles, IsAlwaysFit, KeepsStreams, Makes, SystemState, TakesAtMost, Trio}
use Rattle.bx_world.specs.Rule.{image_unfit, text_unfit}
use Rattle.bx_world.specs.files.Fit.{AreFit}
use Rattle.bx_world.specs.declared.files.made.Made.{Made}
use Rattle.bx_world.specs.declared.files.names.Names.{Names}

-- the file is this one, which this run made
abbrev pub IsMadeFile : Bool → ℕ → ℕ → Type 0
IsMadeFile made n m = (made ≡ true) × (m ≡ n)

-- the file is the journal or the redo text, which this run made
abbrev pub IsOneOfMadeTexts : Made → Trio → ℕ → Type 0
IsOneOfMadeTexts made t n = IsMadeFile made.journal t.journal n ⊎ IsMadeFile made.redo t.redo n

-- the file is one of the three, which this run made
abbrev pub IsOneOfMade : Made → Trio → ℕ → Type 0
IsOneOfMade made t n = IsMadeFile made.image t.image n ⊎ IsOneOfMadeTexts made t n

-- a name leads to what it led to, or led to nothing and leads to a file that was made
abbrev pub LeadsToMade : (ℕ → Type 0) → Option ℕ → Option ℕ → Type 0
LeadsToMade made old new = (new ≡ old) ⊎ ((n : ℕ) × (old ≡ None) × made n × (new ≡ Some n))

-- These files were made, which are still empty, and names lead to them that were missing; nothing else happened to files and names
pub record HasMade (made : ℕ → Type 0) (old new : SystemState) : Type 0 where
  pub named : (m : List ℕ) → LeadsToMade made (old.named m) (new.named m)
  pub bytes : (i : ℕ) → i < old.there → new.bytes i ≡ old.bytes i
  pub stat : (i : ℕ) → i < old.there → new.stat i ≡ old.stat i
  pub fresh : (n : ℕ) → made n → (old.there ≤ n) × (n < new.there) × (new.bytes n ≡ [])
  pub there : old.there ≤ new.there
  pub stuck : new.stuck ≡ old.stuck
  pub streams : KeepsStreams old new

-- Files are as they were; names too, unless the system refused to take a file away
pub record LeavesFiles (old new : SystemState) : Type 0 where
  pub bytes : (i : ℕ) → i < old.there → new.bytes i ≡ old.bytes i
  pub stat : (i : ℕ) → i < old.there → new.stat i ≡ old.stat i
  pub named : new.stuck ≡ old.stuck → (m : List ℕ) → new.named m ≡ old.named m
  pub still : (m : List ℕ) (n : ℕ) → old.named m ≡ Some n → new.named m ≡ Some n
  pub stuck : old.stuck ≤ new.stuck
  pub streams : KeepsStreams old new

-- Files are as they were, but that these were made, which are still empty; names too, but that some lead to them that were missing, unless the
-- system refused to take a file away
pub record LeavesMade (made : ℕ → Type 0) (old new : SystemState) : Type 0 where
  pub bytes : (i : ℕ) → i < old.there → new.bytes i ≡ old.bytes i
  pub stat : (i : ℕ) → i < old.there → new.stat i ≡ old.stat i
  pub named : new.stuck ≡ old.stuck → (m : List ℕ) → LeadsToMade made (old.named m) (new.named m)
  pub still : (m : List ℕ) (n : ℕ) → old.named m ≡ Some n → new.named m ≡ Some n
  pub fresh : (n : ℕ) → made n → (old.there ≤ n) × (new.bytes n ≡ [])
  pub stuck : old.stuck ≤ new.stuck
  pub streams : KeepsStreams old new

-- a name leads to what it led to, or led to one of these files, which was empty, and is gone
abbrev pub LeadsToNoneOf : (ℕ → Type 0) → (ℕ → List ℕ) → Option ℕ → Option ℕ → Type 0
LeadsToNoneOf files bytes old new = (new ≡ old) ⊎ ((n : ℕ) × files n × (old ≡ Some n) × (bytes n ≡ []) × (new ≡ None))

-- All bytes are as they were, and no name leads elsewhere but that those of these files may be gone where they are empty
pub record TakesOnly (files : ℕ → Type 0) (old new : SystemState) : Type 0 where
  pub named : (m : List ℕ) → LeadsToNoneOf files old.bytes (old.named m) (new.named m)
  pub bytes : (i : ℕ) → new.bytes i ≡ old.bytes i
  pub stat : (i : ℕ) → (files i → ⊥) → new.stat i ≡ old.stat i
  pub there : new.there ≡ old.there
  pub streams : KeepsStreams old new

-- Of these files those were taken away that were empty, unless the system refused that, which is counted; nothing else happened to files and names
pub record TakesMade (files : ℕ → Type 0) (old new : SystemState) : Type 0 where
  pub takes : TakesOnly files old new
  pub gone : new.stuck ≡ old.stuck → (n : ℕ) → files n → old.bytes n ≡ [] → (m : List ℕ) → old.named m ≡ Some n → new.named m ≡ None
  pub stuck : old.stuck ≤ new.stuck

-- An image that was missing was made, which is empty and may be changed; where none was made all is as it was
abbrev pub MakesImage : List ℕ → Option ℕ → SystemState → SystemState → Type 0
MakesImage name None old new = new ≡ old
MakesImage name (Some n) old new = Makes old new name n × IsAlwaysFit new n

-- A file was taken away if it was empty, unless the system refused that, which is counted; nothing else happened to files and names
pub record Unmakes (n : ℕ) (old new : SystemState) : Type 0 where
  pub most : TakesAtMost old new n
  pub gone : new.stuck ≡ old.stuck → old.bytes n ≡ [] → (m : List ℕ) → old.named m ≡ Some n → new.named m ≡ None

-- A name leads to a file, and did so before; or it was missing and the file was made, which is still empty
pub record IsOpenUnder (name : List ℕ) (made : Bool) (n : ℕ) (old new : SystemState) : Type 0 where
  pub was : old.named name ≡ cond made None (Some n)
  pub named : new.named name ≡ Some n
  pub empty : made ≡ true → new.bytes n ≡ []

-- A file was opened that was there, or made and opened where that is asked for
pub record IsFileOpened (name : List ℕ) (makes made : Bool) (n : ℕ) (old new : SystemState) : Type 0 where
  pub files : HasMade (IsMadeFile made n) old new
  pub under : IsOpenUnder name made n old new
  pub there : n < new.there
  pub asked : made ≡ true → makes ≡ true

-- a name leads to a file, which is there
pub record IsThere (name : List ℕ) (n : ℕ) (w : SystemState) : Type 0 where
  pub named : w.named name ≡ Some n
  pub there : n < w.there

-- a file of a name may hold a text of an image
abbrev pub IsOwn : List ℕ → ℕ → ℕ → SystemState → Type 0
IsOwn name image n w = text_unfit w.caller (w.stat image) (w.is_link name) (w.stat n) ≡ None

-- An image was opened, or made and opened, which may be changed
pub record IsImageOpened (name : List ℕ) (mounted makes made : Bool) (n : ℕ) (old new : SystemState) : Type 0 where
  pub file : IsFileOpened name makes made n old new
  pub fit : image_unfit mounted (new.stat n) ≡ None
  pub always : made ≡ true → IsAlwaysFit new n

-- A text of an image was opened, or made and opened
pub record IsTextOpened (name : List ℕ) (image n : ℕ) (makes made : Bool) (old new : SystemState) : Type 0 where
  pub file : IsFileOpened name makes made n old new
  pub own : IsOwn name image n new

-- a name of each file to which one of these two names leads is on the disk: the image's, and its journal's
abbrev pub AreNamesKept : Names → SystemState → (ℕ → Type 0) → Type 0
AreNamesKept names w kept = ((n : ℕ) → w.named names.image ≡ Some n → kept n) × ((n : ℕ) → w.named names.journal ≡ Some n → kept n)

-- each name leads to a file that is there
abbrev pub AreAllThere : SystemState → Type 0
AreAllThere w = (name : List ℕ) (n : ℕ) → w.named name ≡ Some n → n < w.there

-- The texts of an image are open, beside it: they were there or were made, and each of the three is a file of its own
pub record AreTextsOpened (names : Names) (makes : Bool) (t : Trio) (made : Made) (old new : SystemState) : Type 0 where
  pub files : HasMade (IsOneOfMadeTexts made t) old new
  pub journal : IsOpenUnder names.journal made.journal t.journal old new
  pub redo : IsOpenUnder names.redo made.redo t.redo old new
  pub asked : made.journal ≡ true → makes ≡ true
  pub apart : AreThreeFiles new.there t
  pub journal_own : IsOwn names.journal t.image t.journal new
  pub redo_own : IsOwn names.redo t.image t.redo new

-- The three files of a session are open: they were there, and are led to as before, or were made; an image and a journal only where that is
-- asked for. All that was there may be opened, and the texts are the image's own.
pub record AreOpened (names : Names) (mounted makes : Bool) (t : Trio) (made : Made) (old new : SystemState) : Type 0 where
  pub files : HasMade (IsOneOfMade made t) old new
  pub image : IsOpenUnder names.image made.image t.image old new
  pub journal : IsOpenUnder names.journal made.journal t.journal old new
  pub redo : IsOpenUnder names.redo made.redo t.redo old new
  pub image_asked : made.image ≡ true → makes ≡ true
  pub journal_asked : made.journal ≡ true → makes ≡ true
  pub apart : AreThreeFiles new.there t
  pub fit : AreFit names mounted old
  pub image_fit : image_unfit mounted (new.stat t.image) ≡ None
  pub journal_own : IsOwn names.journal t.image t.journal new
  pub redo_own : IsOwn names.redo t.image t.redo new
