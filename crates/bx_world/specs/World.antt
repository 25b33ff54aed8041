-- The world of a program: files under names, and the standard streams.
use Rattle.std.specs.Prelude.{◌≡◌, ◌⊎◌, ◌<◌, ◌≤◌, ◌+◌, ◌-◌, ◌^◌, ◌++◌, ℕ, min, take, Bool, false, List, [], length, Option, None, Some, Result, Ok, Err}
use Rattle.std.specs.Option.{option_map_or}
use Rattle.bx_image.specs.Power.{NoMore}
use Rattle.bx_world.specs.Rule.{image_unfit, read_unfit, text_unfit}
use Rattle.bx_world.specs.declared.stat.Kind.TheVariants.{Other}
use Rattle.bx_world.specs.declared.stat.Stat.{Stat}
use Rattle.bx_world.specs.declared.world.Noted.{Noted}
use Rattle.bx_world.specs.declared.world.Noted.TheVariants.{Put, Without, Stands}
use Rattle.bx_world.specs.declared.world.Refusal.{Refusal}
use Rattle.bx_world.specs.declared.world.Refusal.TheVariants.{Missing}

-- what the system says of a file that isn't there
abbrev pub no_stat : Stat
no_stat = record {
  kind = Other;
  owner = 0;
  group = 0;
  is_group_given = false;
  reads = record { group = false; others = false };
  writes = record { group = false; others = false };
  links = 0;
  is_mounted = false;
  is_read_only = false;
}

-- The three files of a session, by their numbers
pub record Trio : Type 0 where
  pub image : ℕ
  pub journal : ℕ
  pub redo : ℕ

-- What a person can see: which file a name leads to, links followed, and whether the name is a link; the bytes of each file, by its number,
-- and what the system tells of it; who runs the program; and what was written. Numbers are given in order: `there` files are there, and
-- `before` were when the run began. `stuck` counts the files that the system refused to take away.
pub record SystemState : Type 0 where
  pub named : List ℕ → Option ℕ
  pub is_link : List ℕ → Bool
  pub bytes : ℕ → List ℕ
  pub stat : ℕ → Stat
  pub caller : ℕ
  pub there : ℕ
  pub before : ℕ
  pub lent : Option Trio
  pub output : List ℕ
  pub errors : List ℕ
  pub stuck : ℕ

-- the file is none of the three
abbrev pub IsNoneOf : Trio → ℕ → Type 0
IsNoneOf t n = (n ≡ t.image → ⊥) × (n ≡ t.journal → ⊥) × (n ≡ t.redo → ⊥)

-- the three are three files, each of them there
pub record AreThreeFiles (there : ℕ) (t : Trio) : Type 0 where
  pub image_there : t.image < there
  pub journal_there : t.journal < there
  pub redo_there : t.redo < there
  pub journal_apart : t.journal ≡ t.image → ⊥
  pub redo_of_image : t.redo ≡ t.image → ⊥
  pub redo_of_journal : t.redo ≡ t.journal → ⊥

-- which names are links and who runs the program is as it was, nothing was written, and no file is lent that wasn't
pub record KeepsStreams (old new : SystemState) : Type 0 where
  pub is_link : (m : List ℕ) → new.is_link m ≡ old.is_link m
  pub caller : new.caller ≡ old.caller
  pub output : new.output ≡ old.output
  pub errors : new.errors ≡ old.errors
  pub before : new.before ≡ old.before
  pub lent : new.lent ≡ old.lent

-- the file may hold a text of an image
abbrev pub IsOwnText : SystemState → ℕ → ℕ → Type 0
IsOwnText w image n = text_unfit w.caller (w.stat image) false (w.stat n) ≡ None

-- the file may be an image that is changed, whether mounted devices may be or not
abbrev pub IsAlwaysFit : SystemState → ℕ → Type 0
IsAlwaysFit w n = (mounted : Bool) → image_unfit mounted (w.stat n) ≡ None

-- An empty file was made: the name leads to it, and so may names that were links to a missing file
pub record Makes (old new : SystemState) (name : List ℕ) (n : ℕ) : Type 0 where
  pub missing : old.named name ≡ None
  pub named : new.named name ≡ Some n
  pub others : (m : List ℕ) → (new.named m ≡ old.named m) ⊎ ((old.named m ≡ None) × (new.named m ≡ Some n))
  pub number : n ≡ old.there
  pub there : new.there ≡ old.there + 1
  pub empty : new.bytes n ≡ []
  pub bytes : (i : ℕ) → i < old.there → new.bytes i ≡ old.bytes i
  pub stat : (i : ℕ) → i < old.there → new.stat i ≡ old.stat i
  pub stuck : new.stuck ≡ old.stuck
  pub streams : KeepsStreams old new

-- A file was taken away: no name leads to it any more
pub record TakesAway (old new : SystemState) (n : ℕ) : Type 0 where
  pub gone : (m : List ℕ) → old.named m ≡ Some n → new.named m ≡ None
  pub others : (m : List ℕ) → (old.named m ≡ Some n → ⊥) → new.named m ≡ old.named m
  pub bytes : (i : ℕ) → new.bytes i ≡ old.bytes i
  pub stat : (i : ℕ) → (i ≡ n → ⊥) → new.stat i ≡ old.stat i
  pub there : new.there ≡ old.there
  pub stuck : new.stuck ≡ old.stuck
  pub streams : KeepsStreams old new

-- All bytes are as they were, and no name leads elsewhere but that those of one empty file may be gone; a file that the system refused to take away
-- may be counted
pub record TakesAtMost (old new : SystemState) (n : ℕ) : Type 0 where
  pub named : (m : List ℕ) → (new.named m ≡ old.named m) ⊎ ((old.named m ≡ Some n) × (old.bytes n ≡ []) × (new.named m ≡ None))
  pub bytes : (i : ℕ) → new.bytes i ≡ old.bytes i
  pub stat : (i : ℕ) → (i ≡ n → ⊥) → new.stat i ≡ old.stat i
  pub there : new.there ≡ old.there
  pub stuck : old.stuck ≤ new.stuck
  pub streams : KeepsStreams old new

-- the file is empty, and the name leads to it
abbrev pub IsEmptyUnder : SystemState → List ℕ → ℕ → Type 0
IsEmptyUnder w name n = (w.bytes n ≡ []) × (w.named name ≡ Some n)

-- The system refused to take a file away, and nothing changed
pub record IsStuck (old new : SystemState) : Type 0 where
  pub named : (m : List ℕ) → new.named m ≡ old.named m
  pub bytes : (i : ℕ) → new.bytes i ≡ old.bytes i
  pub stat : (i : ℕ) → new.stat i ≡ old.stat i
  pub there : new.there ≡ old.there
  pub stuck : new.stuck ≡ old.stuck + 1
  pub streams : KeepsStreams old new

-- Of all files only these three may hold other bytes; names, counts and streams are as they were
pub record ChangesOnly (t : Trio) (old new : SystemState) : Type 0 where
  pub named : (m : List ℕ) → new.named m ≡ old.named m
  pub is_link : (m : List ℕ) → new.is_link m ≡ old.is_link m
  pub bytes : (i : ℕ) → IsNoneOf t i → new.bytes i ≡ old.bytes i
  pub stat : (i : ℕ) → new.stat i ≡ old.stat i
  pub caller : new.caller ≡ old.caller
  pub there : new.there ≡ old.there
  pub before : new.before ≡ old.before
  pub stuck : new.stuck ≡ old.stuck
  pub output : new.output ≡ old.output
  pub errors : new.errors ≡ old.errors

-- three files are lent
pub record Lends (t : Trio) (old new : SystemState) : Type 0 where
  pub only : ChangesOnly t old new
  pub lent : new.lent ≡ Some t

-- the three files that were lent hold these bytes, and are lent no more
pub record GivesBack (t : Trio) (image journal redo : List ℕ) (old new : SystemState) : Type 0 where
  pub only : ChangesOnly t old new
  pub lent : new.lent ≡ None
  pub image_bytes : new.bytes t.image ≡ image
  pub journal_bytes : new.bytes t.journal ≡ journal
  pub redo_bytes : new.bytes t.redo ≡ redo

-- Files and names are as they were
pub record KeepsFiles (old new : SystemState) : Type 0 where
  pub named : (m : List ℕ) → new.named m ≡ old.named m
  pub is_link : (m : List ℕ) → new.is_link m ≡ old.is_link m
  pub bytes : (i : ℕ) → new.bytes i ≡ old.bytes i
  pub stat : (i : ℕ) → new.stat i ≡ old.stat i
  pub caller : new.caller ≡ old.caller
  pub there : new.there ≡ old.there
  pub before : new.before ≡ old.before
  pub lent : new.lent ≡ old.lent
  pub stuck : new.stuck ≡ old.stuck

-- a front of the bytes is behind what was written, and has at least `count` of them
pub record AddsFront (count : ℕ) (old new bytes : List ℕ) : Type 0 where
  pub front : List ℕ
  pub rest : List ℕ
  pub whole : bytes ≡ front ++ rest
  pub least : count ≤ length front
  pub output : new ≡ old ++ front

-- what the system tells of a name's file; none where it leads to none
abbrev pub stat_named : SystemState → List ℕ → Option Stat
stat_named w name = option_map_or (λ n. Some (w.stat n)) (w.named name) None

-- a name that leads to a file leads to one that may be an image that is changed
abbrev pub MayBeImage : Bool → SystemState → List ℕ → Type 0
MayBeImage mounted w name = (n : ℕ) → w.named name ≡ Some n → image_unfit mounted (w.stat n) ≡ None

-- a name that leads to a file leads to one that may be an image that is read
abbrev pub MayBeRead : SystemState → List ℕ → Type 0
MayBeRead w name = (n : ℕ) → w.named name ≡ Some n → read_unfit (w.stat n) ≡ None

-- a name that leads to a file is no link, and leads to one that may hold a text of the image
abbrev pub MayBeText : ℕ → SystemState → List ℕ → Type 0
MayBeText image w name = (n : ℕ) → w.named name ≡ Some n → text_unfit w.caller (w.stat image) (w.is_link name) (w.stat n) ≡ None

-- a call that the system refused is counted; that a file is missing is no refusal
abbrev pub CountsRefusal : {V : Type 0} → Result V Refusal → ℕ → ℕ → Type 0
CountsRefusal (Ok v) old new = new ≡ old
CountsRefusal (Err Missing) old new = new ≡ old
CountsRefusal (Err e) old new = new ≡ old + 1

-- a note that stands as it was is a call that the system refused
abbrev pub CountsNoted : Noted → ℕ → ℕ → Type 0
CountsNoted Stands old new = new ≡ old + 1
CountsNoted noted old new = new ≡ old

-- how many calls failed of an image, its journal and its redo text that may be changed: failures count from 0, those of the redo text from 2 ^ 32
abbrev pub failed_calls : ℕ → ℕ → ℕ → ℕ
failed_calls image journal redo = image + journal + (redo - 2 ^ 32)

-- what a file holds that may be missing; one that is holds nothing
abbrev pub bytes_if : SystemState → Option ℕ → List ℕ
bytes_if w n = option_map_or w.bytes n []

-- the number of a file that may be missing
abbrev pub number_if : {F : Type 0} → (F → ℕ) → Option F → Option ℕ
number_if number file = option_map_or (λ f. Some (number f)) file None

-- what a name's file holds; a file that is missing holds nothing
abbrev pub held : SystemState → List ℕ → List ℕ
held w name = option_map_or w.bytes (w.named name) []

-- whatever is found of any file was found before
abbrev pub NothingNewFound : (ℕ → List ℕ → Type 0) → (ℕ → List ℕ → Type 0) → Type 0
NothingNewFound old new = (n : ℕ) → NoMore (old n) (new n)

-- whatever is found of a file that was there was found before
abbrev pub NothingNewBelow : ℕ → (ℕ → List ℕ → Type 0) → (ℕ → List ℕ → Type 0) → Type 0
NothingNewBelow there old new = (n : ℕ) → n < there → NoMore (old n) (new n)

-- whatever is found of a file that is none of the three was found before
abbrev pub NothingNewOf : Trio → (ℕ → List ℕ → Type 0) → (ℕ → List ℕ → Type 0) → Type 0
NothingNewOf t old new = (n : ℕ) → IsNoneOf t n → NoMore (old n) (new n)

-- whatever is found of the three files is found of the three devices
pub record LeavesTrio (t : Trio) (image journal redo : List ℕ → Type 0) (new : ℕ → List ℕ → Type 0) : Type 0 where
  pub image_found : NoMore image (new t.image)
  pub journal_found : NoMore journal (new t.journal)
  pub redo_found : NoMore redo (new t.redo)

-- The files of an image that is only read, by their numbers; the redo text may be missing
pub record ReadFiles : Type 0 where
  pub image : ℕ
  pub journal : ℕ
  pub redo : Option ℕ

-- The image and its texts are files of their own, each of them there
pub record AreOwnFiles (there : ℕ) (f : ReadFiles) : Type 0 where
  pub image_there : f.image < there
  pub journal_there : f.journal < there
  pub redo_there : (n : ℕ) → f.redo ≡ Some n → n < there
  pub journal_apart : f.journal ≡ f.image → ⊥
  pub redo_apart : (n : ℕ) → f.redo ≡ Some n → (n ≡ f.image → ⊥) × (n ≡ f.journal → ⊥)

-- the file is neither of the texts
abbrev pub IsNoText : ReadFiles → ℕ → Type 0
IsNoText f n = (n ≡ f.journal → ⊥) × (f.redo ≡ Some n → ⊥)

-- the file is none of the image and its texts
abbrev pub IsNoneRead : ReadFiles → ℕ → Type 0
IsNoneRead f n = (n ≡ f.image → ⊥) × IsNoText f n

-- Of all files only those that are not spared may hold other bytes; names, counts and streams are as they were
pub record Spares (spared : ℕ → Type 0) (old new : SystemState) : Type 0 where
  pub named : (m : List ℕ) → new.named m ≡ old.named m
  pub is_link : (m : List ℕ) → new.is_link m ≡ old.is_link m
  pub bytes : (i : ℕ) → spared i → new.bytes i ≡ old.bytes i
  pub stat : (i : ℕ) → new.stat i ≡ old.stat i
  pub caller : new.caller ≡ old.caller
  pub there : new.there ≡ old.there
  pub before : new.before ≡ old.before
  pub lent : new.lent ≡ old.lent
  pub stuck : new.stuck ≡ old.stuck
  pub output : new.output ≡ old.output
  pub errors : new.errors ≡ old.errors

-- The texts beside an image hold these bytes, and all else is as it was
pub record ClosesTexts (f : ReadFiles) (journal redo : List ℕ) (old new : SystemState) : Type 0 where
  pub only : Spares (IsNoText f) old new
  pub journal_bytes : new.bytes f.journal ≡ journal
  pub redo_bytes : (n : ℕ) → f.redo ≡ Some n → new.bytes n ≡ redo

-- whatever is found of a file that is spared was found before
abbrev pub NothingNewSpared : (ℕ → Type 0) → (ℕ → List ℕ → Type 0) → (ℕ → List ℕ → Type 0) → Type 0
NothingNewSpared spared old new = (n : ℕ) → spared n → NoMore (old n) (new n)

-- Whatever is found of the texts is found of their devices
pub record TextsLeft (f : ReadFiles) (journal redo : List ℕ → Type 0) (new : ℕ → List ℕ → Type 0) : Type 0 where
  pub journal_found : NoMore journal (new f.journal)
  pub redo_found : (n : ℕ) → f.redo ≡ Some n → NoMore redo (new n)

-- of a note with these bytes the first n stand in a buffer of `room` bytes: all, or as many as the buffer has
pub record IsFrontRead (n room : ℕ) (buf bytes : List ℕ) : Type 0 where
  pub within : n ≤ room
  pub all : n ≡ min room (length bytes)
  pub front : take n buf ≡ take n bytes

-- what a note has that had `old`, where `bytes` were to be put in its place
abbrev pub noted : Noted → List ℕ → List ℕ → List ℕ
noted Put bytes old = bytes
noted Without bytes old = []
noted Stands bytes old = old
