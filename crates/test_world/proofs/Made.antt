-- A file that was made in a world in memory.
use Rattle.std.proofs.Common.{◌≡◌, ◌⊎◌, ◌<◌, ℕ, zero, suc, Bool, true, false, not, cond, ◌&&◌, ◌||◌, Option, Some, None, List, [], ◌∷◌, ◌++◌, length, refl, sym, ap, subst, inl, inr, arith, length-append}
use Rattle.std.specs.Prelude.{◌==◌, slice_get}
use Rattle.std.specs.Option.{unwrap_or}
use Rattle.std.specs.Str.{bytes_eq}
use Rattle.std.proofs.lemmas.Bool.Decides.{Decides-eqb}
use Rattle.std.proofs.lemmas.Slice.Eq.{bytes_eq-Decides}
use Rattle.test_world.specs.Memory.{AddsFile, IsNoted, state_of, stat_beside}
use Rattle.test_world.specs.MemoryFiles.{entry_named, file_named, follow, free_end, is_gone_at, is_link_of, is_link_to, is_taken, lent_trio, stat_of, synced_at, unless_gone}
use Rattle.bx_world.specs.Rule.{text_unfit}
use Rattle.bx_world.specs.World.{IsOwnText, Makes, no_stat}
use Rattle.test_world.specs.declared.memory.MemoryWorld.{MemoryWorld}
use Rattle.test_world.specs.declared.memory.Run.{Run}
use Rattle.test_world.specs.declared.memory.files.Leads.TheVariants.{File}
use Rattle.test_world.specs.declared.memory.files.Stored.{Stored}
use Rattle.bx_world.specs.declared.stat.Stat.{Stat}
use Rattle.test_world.proofs.Entries.{end_free, end_new, end_none, follow_free, follow_grows, follow_new, free_no_link}

-- the element at the end, and all before it
get_end : {X : Type 0} (xs : List X) (x : X) → slice_get (xs ++ x ∷ []) (length xs) ≡ Some x
get_end [] x = refl
get_end (y ∷ xs) x = get_end xs x

get_before : {X : Type 0} (xs : List X) (x : X) (i : ℕ) → i < length xs → slice_get (xs ++ x ∷ []) i ≡ slice_get xs i
get_before [] x i below = absurd (omega arith)
get_before (y ∷ xs) x zero below = refl
get_before (y ∷ xs) x (suc i) below = get_before xs x i (omega arith)

-- a file at the end is there, and no other is that wasn't
gone_grows : (files : List Stored) (s : Stored) → s.is_gone ≡ false → (i : ℕ)
    → (is_gone_at (files ++ s ∷ []) i ≡ is_gone_at files i) ⊎ ((is_gone_at files i ≡ true) × (is_gone_at (files ++ s ∷ []) i ≡ false) × (i ≡ length files))
gone_grows [] s there zero = inr (refl, there, refl)
gone_grows [] s there (suc i) = inl refl
gone_grows (f ∷ files) s there zero = inl refl
gone_grows (f ∷ files) s there (suc i) = elim (gone_grows files s there i) [
  | inl same ↦ inl same
  | inr new ↦ inr (new.0, new.1, ap suc new.2)
]

named_grows : (files : List Stored) (s : Stored) → s.is_gone ≡ false → (o : Option ℕ)
    → (unless_gone (files ++ s ∷ []) o ≡ unless_gone files o)
    ⊎ ((unless_gone files o ≡ None) × (unless_gone (files ++ s ∷ []) o ≡ Some (length files)))
named_grows files s there None = inl refl
named_grows files s there (Some i) = elim (gone_grows files s there i) [
  | inl same ↦ inl (rw same refl)
  | inr new ↦ inr (rw new.0 refl, rw (new.1, new.2) refl)
]

there_at_end : (files : List Stored) (s : Stored) → s.is_gone ≡ false → unless_gone (files ++ s ∷ []) (Some (length files)) ≡ Some (length files)
there_at_end files s there = let got = get_end files s in rw (got, there) refl

module _ (files : List Stored) (s : Stored) (there : s.is_gone ≡ false) where
  both_grow : (old new : Option ℕ) → (new ≡ old) ⊎ ((unless_gone files old ≡ None) × (new ≡ Some (length files)))
      → (unless_gone (files ++ s ∷ []) new ≡ unless_gone files old)
      ⊎ ((unless_gone files old ≡ None) × (unless_gone (files ++ s ∷ []) new ≡ Some (length files)))
  both_grow old new grows = elim grows [
    | inl same ↦ rw same (named_grows files s there old)
    | inr is_new ↦ inr (is_new.0, rw is_new.1 (there_at_end files s there))
  ]

wider_self : (g o : Bool) → ((not g || g) && (not o || o)) ≡ true
wider_self true true = refl
wider_self true false = refl
wider_self false true = refl
wider_self false false = refl

-- a text of the caller that has the image's group and classes is its own
pub own_beside : (caller : ℕ) (b : Stat) → text_unfit caller b false (stat_beside caller b) ≡ None
own_beside caller b =
    let mine : (caller == caller) ≡ true = (Decides-eqb caller caller).1 refl in
    let group : (b.group == b.group) ≡ true = (Decides-eqb b.group b.group).1 refl in
    rw (mine, group, wider_self b.reads.group b.reads.others, wider_self b.writes.group b.writes.others) refl

-- a file was added under a name that was free, and another name, or the same, led to that one: a file was made of that name
pub made_file : (old new : MemoryWorld) (place name : List ℕ) (stat : Stat) → AddsFile place stat old new → is_taken old.files.items old.entries.items place ≡ false
    → file_named old.files.items old.entries.items name ≡ None → follow new.entries.items 40 name ≡ Some (length old.files.items)
    → Makes (state_of old) (state_of new) name (length old.files.items)
made_file old new place name stat p free missing leads = record {
  missing = missing;
  named = rw (leads, p.files) (there_at_end old.files.items p.added p.there);
  others = λ m. rw (p.files, p.entries) (both_grow old.files.items p.added p.there _ _ (follow_grows old.files.items old.entries.items place (length old.files.items) free 40 m));
  number = refl;
  there = rw (p.files, length-append old.files.items (p.added ∷ [])) refl;
  empty = rw (p.files, get_end old.files.items p.added) p.empty;
  bytes = λ i below. rw (p.files, get_before old.files.items p.added i below) refl;
  stat = λ i below. rw (p.files, get_before old.files.items p.added i below) refl;
  stuck = ap (λ (r : Run). r.stuck) p.run;
  streams = record {
    is_link = λ m. link_same m;
    caller = ap (λ (r : Run). r.caller) p.run;
    output = ap (λ (r : Run). r.output.items) p.run;
    errors = ap (λ (r : Run). r.errors.items) p.run;
    before = ap (λ (r : Run). r.before) p.run;
    lent = ap (λ (r : Run). lent_trio r.lent) p.run;
  };
}
  where
    linked : (m : List ℕ) (b : Bool) → bytes_eq place m ≡ b → is_link_to (cond b (Some (File (length old.files.items))) (entry_named old.entries.items m)) ≡ is_link_of old.entries.items m
    linked m true eq =
        let is : place ≡ m = (bytes_eq-Decides place m).0 eq in
        sym (subst (λ x. is_link_of old.entries.items x ≡ false) is (free_no_link old.files.items old.entries.items place (length old.files.items) free))
    linked m false eq = refl

    link_same : (m : List ℕ) → is_link_of new.entries.items m ≡ is_link_of old.entries.items m
    link_same m = rw p.entries (linked m (bytes_eq place m) refl)

-- a file was made of the name that it was added under
pub made_text : (old new : MemoryWorld) (name : List ℕ) (stat : Stat) (n : ℕ) → n ≡ length old.files.items → AddsFile name stat old new
    → is_taken old.files.items old.entries.items name ≡ false → Makes (state_of old) (state_of new) name n
made_text old new name stat n is p free =
    let missing = follow_free old.files.items old.entries.items name (length old.files.items) free 40 in
    let leads : follow new.entries.items 40 name ≡ Some (length old.files.items) =
    rw p.entries (follow_new old.files.items old.entries.items name (length old.files.items) 39) in
    rw is (made_file old new name name stat p free missing leads)

-- a file was made of a name that leads to the one that it was added under
pub made_image : (old new : MemoryWorld) (place name : List ℕ) (stat : Stat) (n : ℕ) → n ≡ length old.files.items → AddsFile place stat old new
    → free_end old.files.items old.entries.items 40 name ≡ Some place → Makes (state_of old) (state_of new) name n
made_image old new place name stat n is p end =
    let free = end_free old.files.items old.entries.items place (length old.files.items) 40 name end in
    let missing = end_none old.files.items old.entries.items place (length old.files.items) 40 name end in
    let leads : follow new.entries.items 40 name ≡ Some (length old.files.items) =
    rw p.entries (end_new old.files.items old.entries.items place (length old.files.items) 40 name end) in
    rw is (made_file old new place name stat p free missing leads)

-- a call that was noted leaves all that is seen
pub state_passes : (refused : Bool) (old new : MemoryWorld) → IsNoted refused old new → state_of new ≡ state_of old
state_passes refused old new p = rw (p.files, p.entries, p.caller, p.before, p.lent, p.output, p.errors, p.stuck) refl

-- what the system says of a file that was added
pub told_added : (old new : MemoryWorld) (place : List ℕ) (stat : Stat) (n : ℕ) → n ≡ length old.files.items → AddsFile place stat old new
    → (state_of new).stat n ≡ stat
told_added old new place stat n is p = rw (is, p.files, get_end old.files.items p.added) p.told

-- a file with the image's group and classes that was added beside it is one of the image's own
pub own_made : (old new : MemoryWorld) (name : List ℕ) (image n : ℕ) (b : Stat) → n ≡ length old.files.items → image < length old.files.items
    → unwrap_or (stat_of old.files.items image) no_stat ≡ b → AddsFile name (stat_beside old.run.caller b) old new → IsOwnText (state_of new) image n
own_made old new name image n b is below of_image p =
    let told : (state_of new).stat n ≡ stat_beside old.run.caller b = told_added old new name (stat_beside old.run.caller b) n is p in
    let image_told : (state_of new).stat image ≡ b = rw (p.files, get_before old.files.items p.added image below) of_image in
    let caller : new.run.caller ≡ old.run.caller = ap (λ (r : Run). r.caller) p.run in
    rw (told, image_told, caller) (own_beside old.run.caller b)

-- what is on the disk of the files that were there
pub synced_before : (old new : MemoryWorld) (place : List ℕ) (stat : Stat) (n : ℕ) → AddsFile place stat old new → n < length old.files.items
    → synced_at new.files.items n ≡ synced_at old.files.items n
synced_before old new place stat n p below = rw (p.files, get_before old.files.items p.added n below) refl
