-- What a world in memory has.
use Rattle.std.specs.Prelude.{◌≡◌, ◌⊎◌, ◌+◌, ◌<◌, ℕ, Bool, true, false, cond, List, [], ◌∷◌, ◌++◌, length}
use Rattle.std.specs.Option.{unwrap_or}
use Rattle.bx_world.specs.World.{CountsNoted, SystemState, no_stat, noted}
use Rattle.test_world.specs.MemoryFiles.{bytes_at, file_named, is_gone_at, is_link_of, lent_trio, stat_of, synced_at}
use Rattle.test_world.specs.declared.memory.MemoryWorld.{MemoryWorld}
use Rattle.test_world.specs.declared.memory.Run.{Run}
use Rattle.test_world.specs.declared.memory.files.Contents.{Contents}
use Rattle.test_world.specs.declared.memory.files.Entry.{Entry}
use Rattle.test_world.specs.declared.memory.files.Leads.TheVariants.{File}
use Rattle.test_world.specs.declared.memory.files.Stored.{Stored}
use Rattle.bx_world.specs.declared.stat.Kind.TheVariants.{Regular}
use Rattle.bx_world.specs.declared.stat.Stat.{Stat}
use Rattle.bx_world.specs.declared.world.Noted.{Noted}

-- what the system says of a text that this user makes beside an image: the image's group and its classes, and the user owns it
abbrev pub stat_beside : ℕ → Stat → Stat
stat_beside caller image = record {
  kind = Regular;
  owner = caller;
  group = image.group;
  is_group_given = image.is_group_given;
  reads = image.reads;
  writes = image.writes;
  links = 1;
  is_mounted = image.is_mounted;
  is_read_only = image.is_read_only;
}

-- what a person can see of files with their names, beside a run
abbrev pub state_in : List Stored → List Entry → Run → SystemState
state_in files entries run = record {
  named = file_named files entries;
  is_link = is_link_of entries;
  bytes = bytes_at files;
  stat = λ n. unwrap_or (stat_of files n) no_stat;
  caller = run.caller;
  there = length files;
  before = run.before;
  lent = lent_trio run.lent;
  output = run.output.items;
  errors = run.errors.items;
  stuck = run.stuck;
}

-- what a person can see of a world in memory
abbrev pub state_of : MemoryWorld → SystemState
state_of w = state_in w.files.items w.entries.items w.run

-- how many of its calls were refused, with those that failed of devices
abbrev pub refusals_of : MemoryWorld → ℕ
refusals_of w = w.run.refusals.count.number

-- what may be found of a file after a loss of power: what it has, or what was on its disk
abbrev pub found_of : MemoryWorld → ℕ → List ℕ → Type 0
found_of w n c = (c ≡ bytes_at w.files.items n) ⊎ (c ≡ synced_at w.files.items n)

-- what the note has
abbrev pub note_of : MemoryWorld → List ℕ
note_of w = w.run.note.bytes.items

-- what may be found of the note after a loss of power: what it has, or what was on its disk
abbrev pub note_found_of : MemoryWorld → List ℕ → Type 0
note_found_of w c = (c ≡ w.run.note.bytes.items) ⊎ (c ≡ w.run.note.synced.items)

-- a call was noted as refused, or passed; files and all else are as they were
pub record IsNoted (refused : Bool) (old new : MemoryWorld) : Type 0 where
  pub files : new.files ≡ old.files
  pub entries : new.entries ≡ old.entries
  pub caller : new.run.caller ≡ old.run.caller
  pub before : new.run.before ≡ old.run.before
  pub lent : new.run.lent ≡ old.run.lent
  pub beside : new.run.beside ≡ old.run.beside
  pub output : new.run.output ≡ old.run.output
  pub errors : new.run.errors ≡ old.run.errors
  pub stuck : new.run.stuck ≡ old.run.stuck
  pub note : new.run.note ≡ old.run.note
  pub refusals : refusals_of new ≡ cond refused (refusals_of old + 1) (refusals_of old)

-- all but the bytes of one file is as it was
pub record HasOtherBytes (n : ℕ) (old new : MemoryWorld) : Type 0 where
  pub others : (i : ℕ) → (i ≡ n → ⊥) → bytes_at new.files.items i ≡ bytes_at old.files.items i
  pub synced : (i : ℕ) → (i ≡ n → ⊥) → synced_at new.files.items i ≡ synced_at old.files.items i
  pub gone : (i : ℕ) → is_gone_at new.files.items i ≡ is_gone_at old.files.items i
  pub stat : (i : ℕ) → stat_of new.files.items i ≡ stat_of old.files.items i
  pub there : length new.files.items ≡ length old.files.items
  pub entries : new.entries.items ≡ old.entries.items
  pub run : new.run ≡ old.run

-- the contents were taken out of a file
pub record LendsContents (n : ℕ) (contents : Contents) (old new : MemoryWorld) : Type 0 where
  pub bytes : n < length old.files.items → contents.bytes.items ≡ bytes_at old.files.items n
  pub disk : n < length old.files.items → contents.synced.items ≡ synced_at old.files.items n
  pub rest : HasOtherBytes n old new

-- these contents were put into a file
pub record TakesContents (n : ℕ) (contents : Contents) (old new : MemoryWorld) : Type 0 where
  pub bytes : n < length old.files.items → bytes_at new.files.items n ≡ contents.bytes.items
  pub disk : n < length old.files.items → synced_at new.files.items n ≡ contents.synced.items
  pub rest : HasOtherBytes n old new

-- a name was given to a file, and all else is as it was
pub record NamesFile (old new : MemoryWorld) (name : List ℕ) (n : ℕ) : Type 0 where
  pub entries : new.entries.items ≡ record { name = name; leads = File n } ∷ old.entries.items
  pub files : new.files ≡ old.files
  pub run : new.run ≡ old.run

-- an empty file was added, and a name for it, and all else is as it was
pub record AddsFile (name : List ℕ) (stat : Stat) (old new : MemoryWorld) : Type 0 where
  pub added : Stored
  pub told : added.stat ≡ stat
  pub there : added.is_gone ≡ false
  pub empty : added.contents.bytes.items ≡ []
  pub files : new.files.items ≡ old.files.items ++ added ∷ []
  pub entries : new.entries.items ≡ record { name = name; leads = File (length old.files.items) } ∷ old.entries.items
  pub run : new.run ≡ old.run

-- no name was given, and all else is as it was
pub record NamesNothing (old new : MemoryWorld) : Type 0 where
  pub entries : new.entries.items ≡ old.entries.items
  pub files : new.files ≡ old.files
  pub run : new.run ≡ old.run

-- a file was taken away if it was empty, and all else is as it was
pub record BuriesEmpty (n : ℕ) (old new : MemoryWorld) : Type 0 where
  pub buried : bytes_at old.files.items n ≡ [] → is_gone_at new.files.items n ≡ true
  pub stays : (bytes_at old.files.items n ≡ [] → ⊥) → new.files ≡ old.files
  pub others : (i : ℕ) → (i ≡ n → ⊥) → is_gone_at new.files.items i ≡ is_gone_at old.files.items i
  pub bytes : (i : ℕ) → bytes_at new.files.items i ≡ bytes_at old.files.items i
  pub synced : (i : ℕ) → synced_at new.files.items i ≡ synced_at old.files.items i
  pub stat : (i : ℕ) → stat_of new.files.items i ≡ stat_of old.files.items i
  pub there : length new.files.items ≡ length old.files.items
  pub entries : new.entries.items ≡ old.entries.items
  pub run : new.run ≡ old.run

-- a file was not taken away, which is counted, and all else is as it was
pub record Sticks (old new : MemoryWorld) : Type 0 where
  pub files : new.files ≡ old.files
  pub entries : new.entries ≡ old.entries
  pub caller : new.run.caller ≡ old.run.caller
  pub before : new.run.before ≡ old.run.before
  pub lent : new.run.lent ≡ old.run.lent
  pub output : new.run.output ≡ old.run.output
  pub errors : new.run.errors ≡ old.run.errors
  pub stuck : new.run.stuck ≡ old.run.stuck + 1
  pub note : new.run.note ≡ old.run.note
  pub refusals : refusals_of new ≡ refusals_of old

abbrev pub BuriesOrSticks : ℕ → MemoryWorld → MemoryWorld → Type 0
BuriesOrSticks n old new = BuriesEmpty n old new ⊎ Sticks old new

-- the note has what a call left that was to put these bytes in its place, and all else is as it was
pub record PutsNote (answer : Noted) (bytes : List ℕ) (old new : MemoryWorld) : Type 0 where
  pub note : note_of new ≡ noted answer bytes (note_of old)
  pub files : new.files ≡ old.files
  pub entries : new.entries ≡ old.entries
  pub caller : new.run.caller ≡ old.run.caller
  pub before : new.run.before ≡ old.run.before
  pub lent : new.run.lent ≡ old.run.lent
  pub beside : new.run.beside ≡ old.run.beside
  pub output : new.run.output ≡ old.run.output
  pub errors : new.run.errors ≡ old.run.errors
  pub stuck : new.run.stuck ≡ old.run.stuck
  pub refusals : CountsNoted answer (refusals_of old) (refusals_of new)
