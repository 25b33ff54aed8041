-- The files of a world in memory, and their names.
use Rattle.std.proofs.Common.{refl, arith}
use Rattle.std.specs.Prelude.{◌≡◌, ◌<◌, ◌≤◌, ℕ, zero, suc, Bool, true, false, not, cond, List, [], ◌∷◌, Option, None, Some, slice_get, length}
use Rattle.std.specs.Option.{option_map_or}
use Rattle.std.specs.Str.{bytes_eq}
use Rattle.bx_world.specs.World.{AreOwnFiles, AreThreeFiles, ReadFiles, Trio}
use Rattle.test_world.specs.declared.memory.files.Entry.{Entry}
use Rattle.test_world.specs.declared.memory.files.Leads.{Leads}
use Rattle.test_world.specs.declared.memory.files.Leads.TheVariants.{File, Link}
use Rattle.test_world.specs.declared.memory.files.Stored.{Stored}
use Rattle.test_world.specs.declared.memory.files.LentBeside.{LentBeside}
use Rattle.test_world.specs.declared.memory.files.LentFiles.{LentFiles}
use Rattle.bx_world.specs.declared.stat.Stat.{Stat}

-- what the first entry of a name leads to
abbrev pub entry_named : List Entry → List ℕ → Option Leads
entry_named [] name = None
entry_named (e ∷ entries) name = cond (bytes_eq e.name name) (Some e.leads) (entry_named entries name)

-- what the entry at a place leads to
abbrev pub leads_at : List Entry → ℕ → Option Leads
leads_at entries i = option_map_or (λ (e : Entry). Some e.leads) (slice_get entries i) None

-- the file that is led to, where `onward` goes on from a link
abbrev pub led : (List ℕ → Option ℕ) → Option Leads → Option ℕ
led onward None = None
led onward (Some (File n)) = Some n
led onward (Some (Link target)) = onward target

-- the file that a name leads to by at most `steps` steps
unfoldable pub follow : List Entry → ℕ → List ℕ → Option ℕ
follow entries zero name = None
follow entries (suc steps) name = led (λ target. follow entries steps target) (entry_named entries name)

-- whether a file was taken away, or was never there
abbrev pub is_gone_at : List Stored → ℕ → Bool
is_gone_at files n = option_map_or (λ (s : Stored). s.is_gone) (slice_get files n) true

-- the name itself, where neither a file nor a link has it, or where `onward` goes on from a link
abbrev pub end_led : List Stored → (List ℕ → Option (List ℕ)) → List ℕ → Option Leads → Option (List ℕ)
end_led files onward name None = Some name
end_led files onward name (Some (File n)) = cond (is_gone_at files n) (Some name) None
end_led files onward name (Some (Link target)) = onward target

-- the name that a name leads to by fewer than `steps` links, where neither a file nor a link has it
unfoldable pub free_end : List Stored → List Entry → ℕ → List ℕ → Option (List ℕ)
free_end files entries zero name = None
free_end files entries (suc steps) name = end_led files (λ target. free_end files entries steps target) name (entry_named entries name)

abbrev pub is_link_to : Option Leads → Bool
is_link_to None = false
is_link_to (Some (File n)) = false
is_link_to (Some (Link target)) = true

-- whether a name is a symbolic link
abbrev pub is_link_of : List Entry → List ℕ → Bool
is_link_of entries name = is_link_to (entry_named entries name)

-- the bytes of a file; of one that isn't there none
abbrev pub bytes_at : List Stored → ℕ → List ℕ
bytes_at files n = option_map_or (λ (s : Stored). s.contents.bytes.items) (slice_get files n) []

-- what is on the disk of a file; of one that isn't there nothing
abbrev pub synced_at : List Stored → ℕ → List ℕ
synced_at files n = option_map_or (λ (s : Stored). s.contents.synced.items) (slice_get files n) []

-- the file, unless it was taken away
abbrev pub unless_gone : List Stored → Option ℕ → Option ℕ
unless_gone files None = None
unless_gone files (Some n) = cond (is_gone_at files n) None (Some n)

-- the file that a name leads to, links followed
abbrev pub file_named : List Stored → List Entry → List ℕ → Option ℕ
file_named files entries name = unless_gone files (follow entries 40 name)

abbrev pub is_taken_by : List Stored → Option Leads → Bool
is_taken_by files None = false
is_taken_by files (Some (File n)) = not (is_gone_at files n)
is_taken_by files (Some (Link target)) = true

-- whether a name is one of a file that is there, or a link
abbrev pub is_taken : List Stored → List Entry → List ℕ → Bool
is_taken files entries name = is_taken_by files (entry_named entries name)

-- what the system tells of a file; none where it isn't there
abbrev pub stat_of : List Stored → ℕ → Option Stat
stat_of files n = option_map_or (λ (s : Stored). Some s.stat) (slice_get files n) None

-- the numbers of lent files
abbrev pub trio_of : LentFiles → Trio
trio_of l = record { image = l.image; journal = l.journal; redo = l.redo }

-- the numbers of the files that are lent
abbrev pub lent_trio : Option LentFiles → Option Trio
lent_trio None = None
lent_trio (Some l) = Some (trio_of l)

-- the numbers of files that are lent beside one another
abbrev pub read_files : LentBeside → ReadFiles
read_files l = record { image = l.image; journal = l.journal; redo = l.redo }

-- the numbers of the files that are lent so
abbrev pub lent_beside : Option LentBeside → Option ReadFiles
lent_beside None = None
lent_beside (Some l) = Some (read_files l)

-- no fewer files are there than were when the run began, and the lent ones are there, each a file of its own
pub record IsConsistent (before there : ℕ) (lent : Option LentFiles) (beside : Option LentBeside) : Type 0 where
  pub before_there : before ≤ there
  pub apart : (l : LentFiles) → lent ≡ Some l → AreThreeFiles there (trio_of l)
  pub beside_apart : (l : LentBeside) → beside ≡ Some l → AreOwnFiles there (read_files l)

-- a file that isn't gone is there
pub there_unless_gone : (files : List Stored) (n : ℕ) → is_gone_at files n ≡ false → n < length files
there_unless_gone [] n e = absurd (let wrong : true ≡ false = e in cc)
there_unless_gone (s ∷ files) zero e = omega arith
there_unless_gone (s ∷ files) (suc n) e = let p = there_unless_gone files n e in omega (arith, p)

kept_at : (files : List Stored) (m n : ℕ) (b : Bool) → is_gone_at files m ≡ b → cond b None (Some m) ≡ Some n → n < length files
kept_at files m n true g e = absurd (let wrong : None ≡ Some n = e in cc)
kept_at files m n false g e = let p : m < length files = there_unless_gone files m g in let q : Some m ≡ Some n = e in grind (arith, p, q)

kept : (files : List Stored) (o : Option ℕ) (n : ℕ) → unless_gone files o ≡ Some n → n < length files
kept files None n e = absurd (let wrong : None ≡ Some n = e in cc)
kept files (Some m) n e = kept_at files m n (is_gone_at files m) refl e

-- a name leads to a file that is there
pub file_within : (files : List Stored) (entries : List Entry) (name : List ℕ) (n : ℕ) → file_named files entries name ≡ Some n → n < length files
file_within files entries name n e = kept files (follow entries 40 name) n e
