-- Files that are lent beside one another in a world in memory.
use Rattle.std.proofs.Common.{◌≡◌, ◌⊎◌, ◌∙◌, ◌<◌, ℕ, Bool, true, false, Option, Some, None, List, length, refl, sym, ap, subst, inl, inr, arith}
use Rattle.std.specs.Prelude.{IfSome, ◌==◌}
use Rattle.std.proofs.lemmas.Bool.Decides.{Decides-eqb}
use Rattle.bx_image.specs.Power.{NoMore}
use Rattle.test_world.specs.Memory.{HasOtherBytes, TakesContents, found_of, state_of}
use Rattle.test_world.specs.MemoryFiles.{IsConsistent, bytes_at, file_named, follow, is_gone_at, lent_beside, lent_trio, read_files, synced_at, unless_gone}
use Rattle.bx_world.specs.World.{AreOwnFiles, ClosesTexts, IsNoText, IsNoneRead, ReadFiles, SystemState, Spares, TextsLeft}
use Rattle.test_world.specs.declared.memory.MemoryWorld.{MemoryWorld}
use Rattle.test_world.specs.declared.memory.Run.{Run}
use Rattle.test_world.specs.declared.memory.files.Contents.{Contents}
use Rattle.test_world.specs.declared.memory.files.LentBeside.{LentBeside}
use Rattle.test_world.specs.declared.memory.files.LentFiles.{LentFiles}

some_same : {X : Type 0} {x y : X} → Some x ≡ Some y → x ≡ y
some_same e = grind (arith, e)

-- the files that are lent, where some are
pub known : (o : Option LentBeside) (l : LentBeside) (f : ReadFiles) → IfSome o (λ x. l ≡ x) → lent_beside o ≡ Some f → (o ≡ Some l) × (f ≡ read_files l)
known None l f same is = absurd (let wrong : None ≡ Some f = is in cc)
known (Some x) l f same is = (ap Some (sym same), sym (some_same is) ∙ ap read_files (sym same))

at_some : (P : ℕ → Type 0) (r : Option ℕ) (n : ℕ) → IfSome r P → r ≡ Some n → P n
at_some P None n holds is = absurd (let wrong : None ≡ Some n = is in cc)
at_some P (Some m) n holds is = subst P (some_same is) holds

named_same : (old new : MemoryWorld) → ((i : ℕ) → is_gone_at new.files.items i ≡ is_gone_at old.files.items i) → new.entries.items ≡ old.entries.items
    → (m : List ℕ) → file_named new.files.items new.entries.items m ≡ file_named old.files.items old.entries.items m
named_same old new gone same m = rw same (there (follow old.entries.items 40 m))
  where
    there : (o : Option ℕ) → unless_gone new.files.items o ≡ unless_gone old.files.items o
    there None = refl
    there (Some n) = rw (gone n) refl

spares_by : (P : ℕ → Type 0) (n : ℕ) (old new : MemoryWorld) → HasOtherBytes n old new
    → ((i : ℕ) → P i → bytes_at new.files.items i ≡ bytes_at old.files.items i) → Spares P (state_of old) (state_of new)
spares_by P n old new p bytes = record {
  named = named_same old new p.gone p.entries;
  is_link = λ m. rw p.entries refl;
  bytes = bytes;
  stat = λ i. rw (p.stat i) refl;
  caller = ap (λ (r : Run). r.caller) p.run;
  there = p.there;
  before = ap (λ (r : Run). r.before) p.run;
  lent = ap (λ (r : Run). lent_trio r.lent) p.run;
  stuck = ap (λ (r : Run). r.stuck) p.run;
  output = ap (λ (r : Run). r.output.items) p.run;
  errors = ap (λ (r : Run). r.errors.items) p.run;
}

spares_all : (P : ℕ → Type 0) (w : SystemState) → Spares P w w
spares_all P w = record {
  named = λ m. refl;
  is_link = λ m. refl;
  bytes = λ i p. refl;
  stat = λ i. refl;
  caller = refl;
  there = refl;
  before = refl;
  lent = refl;
  stuck = refl;
  output = refl;
  errors = refl;
}

spares_then : (P Q R : ℕ → Type 0) (a b c : SystemState) → ((i : ℕ) → R i → P i) → ((i : ℕ) → R i → Q i) → Spares P a b → Spares Q b c → Spares R a c
spares_then P Q R a b c first second p q = record {
  named = λ m. q.named m ∙ p.named m;
  is_link = λ m. q.is_link m ∙ p.is_link m;
  bytes = λ i r. q.bytes i (second i r) ∙ p.bytes i (first i r);
  stat = λ i. q.stat i ∙ p.stat i;
  caller = q.caller ∙ p.caller;
  there = q.there ∙ p.there;
  before = q.before ∙ p.before;
  lent = q.lent ∙ p.lent;
  stuck = q.stuck ∙ p.stuck;
  output = q.output ∙ p.output;
  errors = q.errors ∙ p.errors;
}

-- a step on a file that may be missing: then nothing is done
module _ (P : ℕ → Type 0) (r : Option ℕ) (old new : MemoryWorld) (step : (n : ℕ) → P n → HasOtherBytes n old new) where
  spares_if : IfSome r P → (r ≡ None → new ≡ old) → Spares (λ i. r ≡ Some i → ⊥) (state_of old) (state_of new)
  spares_if some none = at r refl some
    where
      at : (o : Option ℕ) → r ≡ o → IfSome o P → Spares (λ i. r ≡ Some i → ⊥) (state_of old) (state_of new)
      at None is holds = rw (none is) (spares_all _ (state_of old))
      at (Some n) is holds = spares_by _ n old new (step n holds) (λ i other. (step n holds).others i (λ same. other (is ∙ ap Some (sym same))))

  disk_if : IfSome r P → (r ≡ None → new ≡ old) → (i : ℕ) → (r ≡ Some i → ⊥) → synced_at new.files.items i ≡ synced_at old.files.items i
  disk_if some none i other = at r refl some
    where
      at : (o : Option ℕ) → r ≡ o → IfSome o P → synced_at new.files.items i ≡ synced_at old.files.items i
      at None is holds = rw (none is) refl
      at (Some n) is holds = (step n holds).synced i (λ same. other (is ∙ ap Some (sym same)))

-- the contents of both texts were taken out, or put there
pub spares_texts : (P : ℕ → Type 0) (l : LentBeside) (old mid new : MemoryWorld) → HasOtherBytes l.journal old mid
    → ((n : ℕ) → P n → HasOtherBytes n mid new) → IfSome l.redo P → (l.redo ≡ None → new ≡ mid)
    → Spares (IsNoText (read_files l)) (state_of old) (state_of new)
spares_texts P l old mid new first step some none =
    spares_then (λ i. i ≡ l.journal → ⊥) (λ i. l.redo ≡ Some i → ⊥) (IsNoText (read_files l)) _ _ _ (λ i p. p.0) (λ i p. p.1)
    (spares_by _ l.journal old mid first first.others) (spares_if P l.redo mid new step some none)

same_bytes : (n : ℕ) (old new : MemoryWorld) → HasOtherBytes n old new → bytes_at new.files.items n ≡ bytes_at old.files.items n
    → (i : ℕ) → bytes_at new.files.items i ≡ bytes_at old.files.items i
same_bytes n old new p same i = at (i == n) refl
  where
    at : (b : Bool) → (i == n) ≡ b → bytes_at new.files.items i ≡ bytes_at old.files.items i
    at true e = let is : i ≡ n = (Decides-eqb i n).0 e in subst (λ k. bytes_at new.files.items k ≡ bytes_at old.files.items k) (sym is) same
    at false e = p.others i (λ is. let t : (i == n) ≡ true = (Decides-eqb i n).1 is in let wrong : true ≡ false = sym t ∙ e in cc)

-- An image and its texts were taken back
module _ (l : LentBeside) (of_journal of_redo : Contents) (old a b new : MemoryWorld) (apart : AreOwnFiles (length old.files.items) (read_files l))
    (image : HasOtherBytes l.image old a) (journal : HasOtherBytes l.journal a b)
    (some : IfSome l.redo (λ n. TakesContents n of_redo b new)) (none : l.redo ≡ None → new ≡ b) where
  journal_below : l.journal < length a.files.items
  journal_below = subst (λ k. l.journal < k) (sym image.there) apart.journal_there

  redo_below : (n : ℕ) → l.redo ≡ Some n → n < length b.files.items
  redo_below n is = subst (λ k. n < k) (sym (journal.there ∙ image.there)) (apart.redo_there n is)

  other : l.redo ≡ Some l.journal → ⊥
  other is = (apart.redo_apart l.journal is).1 refl

  journal_bytes : (l.journal < length a.files.items → bytes_at b.files.items l.journal ≡ of_journal.bytes.items)
      → bytes_at new.files.items l.journal ≡ of_journal.bytes.items
  journal_bytes put = (spares_if _ l.redo b new (λ n p. p.rest) some none).bytes l.journal other ∙ put journal_below

  journal_disk : (l.journal < length a.files.items → synced_at b.files.items l.journal ≡ of_journal.synced.items)
      → synced_at new.files.items l.journal ≡ of_journal.synced.items
  journal_disk put = disk_if _ l.redo b new (λ n p. p.rest) some none l.journal other ∙ put journal_below

  pub closes : bytes_at a.files.items l.image ≡ bytes_at old.files.items l.image
      → (l.journal < length a.files.items → bytes_at b.files.items l.journal ≡ of_journal.bytes.items)
      → ClosesTexts (read_files l) of_journal.bytes.items of_redo.bytes.items (state_of old) (state_of new)
  closes same put = record {
    only = spares_then (λ i. Unit {0}) (IsNoText (read_files l)) (IsNoText (read_files l)) _ _ _ (λ i p. tt) (λ i p. p)
        (spares_by _ l.image old a image (λ i p. same_bytes l.image old a image same i))
        (spares_texts _ l a b new journal (λ n p. p.rest) some none);
    journal_bytes = journal_bytes put;
    redo_bytes = λ n is. (at_some _ l.redo n some is).bytes (redo_below n is);
  }

  pub left : (l.journal < length a.files.items → bytes_at b.files.items l.journal ≡ of_journal.bytes.items)
      → (l.journal < length a.files.items → synced_at b.files.items l.journal ≡ of_journal.synced.items)
      → TextsLeft (read_files l) (λ c. (c ≡ of_journal.bytes.items) ⊎ (c ≡ of_journal.synced.items))
      (λ c. (c ≡ of_redo.bytes.items) ⊎ (c ≡ of_redo.synced.items)) (found_of new)
  left put disk = record {
    journal_found = λ c found. elim found [
      | inl is ↦ inl (is ∙ journal_bytes put)
      | inr is ↦ inr (is ∙ journal_disk disk)
    ];
    redo_found = λ n is c found. elim found [
      | inl there ↦ inl (there ∙ (at_some _ l.redo n some is).bytes (redo_below n is))
      | inr there ↦ inr (there ∙ (at_some _ l.redo n some is).disk (redo_below n is))
    ];
  }

  -- the bytes of a file that is neither of the texts, and what is on its disk
  spared_bytes : (n : ℕ) → IsNoText (read_files l) n → bytes_at new.files.items n ≡ bytes_at a.files.items n
  spared_bytes n (no_journal, no_redo) = (spares_if _ l.redo b new (λ n p. p.rest) some none).bytes n no_redo ∙ journal.others n no_journal

  spared_disk : (n : ℕ) → IsNoText (read_files l) n → synced_at new.files.items n ≡ synced_at a.files.items n
  spared_disk n (no_journal, no_redo) = disk_if _ l.redo b new (λ n p. p.rest) some none n no_redo ∙ journal.synced n no_journal

  pub image_left : (bytes synced : List ℕ) → bytes_at a.files.items l.image ≡ bytes_at old.files.items l.image
      → (l.image < length old.files.items → synced_at a.files.items l.image ≡ synced) → bytes ≡ bytes_at old.files.items l.image
      → NoMore (λ c. (c ≡ bytes) ⊎ (c ≡ synced)) (found_of new l.image)
  image_left bytes synced same disk is c found = elim found [
    | inl there ↦ inl (there ∙ spared_bytes l.image text ∙ same ∙ sym is)
    | inr there ↦ inr (there ∙ spared_disk l.image text ∙ disk apart.image_there)
  ]
    where
      text : IsNoText (read_files l) l.image
      text = (λ e. apart.journal_apart (sym e), λ e. (apart.redo_apart l.image e).0 refl)

  pub others_left : (n : ℕ) → IsNoneRead (read_files l) n → NoMore (found_of old n) (found_of new n)
  others_left n (no_image, no_text) c found = elim found [
    | inl there ↦ inl (there ∙ spared_bytes n no_text ∙ image.others n no_image)
    | inr there ↦ inr (there ∙ spared_disk n no_text ∙ image.synced n no_image)
  ]

-- a redo text was lent beside the others
module _ (o r : Option LentBeside) (n : ℕ)
    (some : (l : LentBeside) → o ≡ Some l → r ≡ Some (record { image = l.image; journal = l.journal; redo = Some n })) where
  pub with_redo : (f : ReadFiles) → lent_beside o ≡ Some f → lent_beside r ≡ Some (record { image = f.image; journal = f.journal; redo = Some n })
  with_redo f is = at o refl
    where
      at : (x : Option LentBeside) → o ≡ x → lent_beside r ≡ Some (record { image = f.image; journal = f.journal; redo = Some n })
      at None none = absurd (let wrong : None ≡ Some f = sym (ap lent_beside none) ∙ is in cc)
      at (Some l) same =
          let files : read_files l ≡ f = some_same (sym (ap lent_beside same) ∙ is) in
          subst (λ (g : ReadFiles). lent_beside r ≡ Some (record { image = g.image; journal = g.journal; redo = Some n })) files
          (ap lent_beside (some l same))

  pub still_consistent : (before there : ℕ) (lent : Option LentFiles) → IsConsistent before there lent o → (o ≡ None → r ≡ None)
      → ((f : ReadFiles) → lent_beside o ≡ Some f → AreOwnFiles there (record { image = f.image; journal = f.journal; redo = Some n }))
      → IsConsistent before there lent r
  still_consistent before there lent kept none apart = record {
    before_there = kept.before_there;
    apart = kept.apart;
    beside_apart = λ l is. at o refl l is;
  }
    where
      at : (x : Option LentBeside) → o ≡ x → (l : LentBeside) → r ≡ Some l → AreOwnFiles there (read_files l)
      at None same l is = absurd (let wrong : None ≡ Some l = sym (none same) ∙ is in cc)
      at (Some m) same l is =
          let made = some_same (sym (some m same) ∙ is) in
          subst (λ x. AreOwnFiles there (read_files x)) made (apart (read_files m) (ap lent_beside same))
