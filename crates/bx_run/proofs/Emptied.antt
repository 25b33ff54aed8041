-- What emptying texts that are lent leaves of their files.
use Rattle.std.proofs.Common.{◌≡◌, ◌∙◌, ℕ, zero, suc, Bool, true, false, List, [], Option, Some, None, length, take, refl, sym, ap, subst, inl, inr, arith}
use Rattle.std.specs.Prelude.{Result, Ok, Err, IfErr, OnErr, OnOk, ◌<◌, ◌≤◌, ◌==◌}
use Rattle.std.proofs.lemmas.Bool.Decides.{Decides-eqb}
use Rattle.std.proofs.lemmas.Result.{IfErr-weaker}
use Rattle.bx_image.specs.Power.{AllFade, IsFaded, NoMore, Only}
use Rattle.bx_image.specs.declared.device.Device.{Ghosts as DeviceViews}
use Rattle.bx_journal_store.specs.Store.{IsCutInPart}
use Rattle.bx_journal_store.specs.declared.store.TextStore.{Ghosts as StoreViews}
use Rattle.bx_journal.specs.Calls.{AfterFault}
use Rattle.bx_journal.specs.Devices.{Devices}
use Rattle.bx_journal.specs.Forgotten.{AreAlone, FadesInOrder, ForgetDevicesFault, IsWhole, KeepImage, LeavesTexts, LoseOrKeep, OfSome, only}
use Rattle.bx_journal.specs.Images.{Images}
use Rattle.bx_journal.specs.Power.{Found, FoundBefore}
use Rattle.bx_journal.specs.SessionFault.{SessionFault}
use Rattle.bx_journal.specs.SessionFault.TheVariants.{NoMemory, TooLarge, DeviceFailed, Damaged, TooFew, JournalFull, Interrupted, Broken, LengthDiffers, NothingToRedo, RedoDamaged}
use Rattle.bx_journal.proofs.ForgottenLemmas.{found_in_part}
use Rattle.bx_world.specs.World.{NothingNewSpared, SystemState, Spares, bytes_if}
use Rattle.bx_run.specs.forget.Forgetting.{DropsNote, Empties, FindsDropped, ForgetsPart, HasForgotten, Held, LeavesNote, LosesAll, LosesPart, SurvivesEmptying, TextFiles, found_if, held_by_numbers}

-- what three devices hold
abbrev held_on : {D T : Type 0} → DeviceViews D → StoreViews T → Devices D T → Held
held_on d t x = record { image = d.image x.image; journal = t.text x.journal; redo = t.text x.redo }

take_none : (n : ℕ) → ◌≡◌ {A = List ℕ} (take n []) []
take_none zero = refl
take_none (suc n) = refl

pub spares_then : (P Q R : ℕ → Type 0) (a b c : SystemState) → ((i : ℕ) → R i → P i) → ((i : ℕ) → R i → Q i) → Spares P a b → Spares Q b c → Spares R a c
spares_then P Q R a b c first second p q = record {
  named = λ m. q.named m ∙ p.named m;
  is_link = λ m. q.is_link m ∙ p.is_link m;
  bytes = λ i r. q.bytes i (second i r) ∙ p.bytes i (first i r);
  stat = λ i. q.stat i ∙ p.stat i;
  caller = q.caller ∙ p.caller;
  there = q.there ∙ p.there;
  before = q.before ∙ p.before;
  lent = q.lent ∙ p.lent;
  stuck = q.stuck ∙ p.stuck;
  output = q.output ∙ p.output;
  errors = q.errors ∙ p.errors;
}

pub spares_bytes : (P Q : ℕ → Type 0) (old new : SystemState) → Spares P old new → ((i : ℕ) → Q i → new.bytes i ≡ old.bytes i) → Spares Q old new
spares_bytes P Q old new p bytes = record {
  named = p.named;
  is_link = p.is_link;
  bytes = bytes;
  stat = p.stat;
  caller = p.caller;
  there = p.there;
  before = p.before;
  lent = p.lent;
  stuck = p.stuck;
  output = p.output;
  errors = p.errors;
}

-- a number is another one, or the same
pub by_number : {X : Type 0} (a b : ℕ) → ((a ≡ b) → X) → ((a ≡ b → ⊥) → X) → X
by_number {X = X} a b same other = at (a == b) refl
  where
    at : (c : Bool) → (a == b) ≡ c → X
    at true e = same ((Decides-eqb a b).0 e)
    at false e = other (λ is. let t : (a == b) ≡ true = (Decides-eqb a b).1 is in let wrong : true ≡ false = sym t ∙ e in cc)

some_number : (n i : ℕ) → Some n ≡ Some i → i ≡ n
some_number n i e = grind (arith, e)

-- a file is this text, or isn't
pub by_text : {X : Type 0} (o : Option ℕ) (i : ℕ) → (o ≡ Some i → X) → ((o ≡ Some i → ⊥) → X) → X
by_text None i same other = other (λ e. (let wrong : None ≡ Some i = e in cc))
by_text (Some n) i same other = by_number i n (λ is. same (ap Some (sym is))) (λ apart. other (λ e. apart (some_number n i e)))

-- the file is neither of the texts
abbrev pub IsNeither : TextFiles → ℕ → Type 0
IsNeither f n = (f.journal ≡ Some n → ⊥) × (f.redo ≡ Some n → ⊥)

-- Of files that are lent, whose devices `a` were emptied, and are then `b`.
module _ {D T : Type 0} (d : DeviceViews D) (t : StoreViews T) (f : TextFiles) (old new : SystemState) (a b : Devices D T)
    (texts_only : Spares (IsNeither f) old new) (journal_closes : (n : ℕ) → f.journal ≡ Some n → new.bytes n ≡ t.text b.journal)
    (redo_closes : (n : ℕ) → f.redo ≡ Some n → new.bytes n ≡ t.text b.redo)
    (image_is : d.image a.image ≡ old.bytes f.image) (journal_is : t.text a.journal ≡ bytes_if old f.journal)
    (redo_is : t.text a.redo ≡ bytes_if old f.redo) (alone : IsNeither f f.image) (image_same : d.image b.image ≡ d.image a.image) where
  -- a text that is missing was cut to nothing, as it was
  text_new : (o : Option ℕ) (x y : T) → t.text x ≡ bytes_if old o → ((n : ℕ) → o ≡ Some n → new.bytes n ≡ t.text y)
      → IsCutInPart 0 (t.text x) (t.text y) → t.text y ≡ bytes_if new o
  text_new None x y is closes part = part.front ∙ ap (take (length (t.text y))) is ∙ take_none (length (t.text y))
  text_new (Some n) x y is closes part = sym (closes n refl)

  held_old : held_on d t a ≡ held_by_numbers f old
  held_old = rw (image_is, journal_is, redo_is) refl

  held_new : IsCutInPart 0 (t.text a.journal) (t.text b.journal) → IsCutInPart 0 (t.text a.redo) (t.text b.redo)
      → held_on d t b ≡ held_by_numbers f new
  held_new journal_part redo_part =
      let image : d.image b.image ≡ new.bytes f.image = image_same ∙ image_is ∙ sym (texts_only.bytes f.image alone) in
      rw (image, text_new f.journal a.journal b.journal journal_is journal_closes journal_part, text_new f.redo a.redo b.redo redo_is redo_closes redo_part) refl

  as_files : (P : Held → Held → Type 0) → IsCutInPart 0 (t.text a.journal) (t.text b.journal) → IsCutInPart 0 (t.text a.redo) (t.text b.redo)
      → P (held_on d t a) (held_on d t b) → P (held_by_numbers f old) (held_by_numbers f new)
  as_files P journal_part redo_part p =
      subst (λ h. P h (held_by_numbers f new)) held_old (subst (P (held_on d t a)) (held_new journal_part redo_part) p)

  cut_whole : (x y : T) → t.text y ≡ [] → IsCutInPart 0 (t.text x) (t.text y)
  cut_whole x y none = record { no_shorter = omega arith; front = rw none refl }

  pub emptied_all : AreAlone d t (d.image a.image) b → Empties f (Ok tt) old new
  emptied_all done = as_files HasForgotten (cut_whole a.journal b.journal done.journal) (cut_whole a.redo b.redo done.redo)
      (record { image = image_same; journal = done.journal; redo = done.redo; rest = done.rest; undone = done.undone })

  pub emptied_part : LeavesTexts (t.text a.journal) (t.text a.redo) (t.text b.journal) (t.text b.redo) → FindsDropped (held_on d t a) (held_on d t b)
      → Empties f (Err Interrupted) old new
  emptied_part texts finds = as_files ForgetsPart texts.journal_part texts.redo_part (record { image = image_same; texts = texts; finds = finds })

  -- a text whose device has what it had
  text_same : (o : Option ℕ) (x y : T) → t.text x ≡ bytes_if old o → ((n : ℕ) → o ≡ Some n → new.bytes n ≡ t.text y) → t.text y ≡ t.text x
      → (i : ℕ) → o ≡ Some i → new.bytes i ≡ old.bytes i
  text_same o x y is closes same i e = let whole : bytes_if old o ≡ old.bytes i = rw e refl in closes i e ∙ same ∙ is ∙ whole

  bytes_none : t.text b.journal ≡ t.text a.journal → t.text b.redo ≡ t.text a.redo → (i : ℕ) → new.bytes i ≡ old.bytes i
  bytes_none journal redo i = by_text f.journal i (text_same f.journal a.journal b.journal journal_is journal_closes journal i)
      (λ no_journal. by_text f.redo i (text_same f.redo a.redo b.redo redo_is redo_closes redo i)
      (λ no_redo. texts_only.bytes i (no_journal, no_redo)))

  pub emptied_none : t.text b.journal ≡ t.text a.journal → t.text b.redo ≡ t.text a.redo → Empties f (Err DeviceFailed) old new
  emptied_none journal redo = spares_bytes (IsNeither f) (λ n. Unit {0}) old new texts_only (λ i p. bytes_none journal redo i)

  -- whatever forgetting answers
  pub emptied : (r : Result (Unit {0}) SessionFault) → OnOk r (AreAlone d t (d.image a.image) b) → IfErr r ForgetDevicesFault → LoseOrKeep t a b r
      → ((s : Images) → Found (t.text a.journal) (d.image a.image) (t.text a.redo) s → IfErr r (λ e. AfterFault e
      (IsWhole (t.text a.journal) (t.text b.journal) → IsWhole (t.text a.redo) (t.text b.redo)
      → OfSome s (only (d.image a.image)) (Found (t.text b.journal) (d.image b.image) (t.text b.redo))) (Unit {0})))
      → Empties f r old new
  emptied (Ok done) all kind left finds = emptied_all all
  emptied (Err NoMemory) all kind left finds = kind
  emptied (Err TooLarge) all kind left finds = kind
  emptied (Err DeviceFailed) all kind left finds = emptied_none left.0 left.1
  emptied (Err (Damaged line)) all kind left finds = kind
  emptied (Err (TooFew have)) all kind left finds = kind
  emptied (Err JournalFull) all kind left finds = kind
  emptied (Err Interrupted) all kind left finds = emptied_part left finds
  emptied (Err Broken) all kind left finds = kind
  emptied (Err (LengthDiffers expected)) all kind left finds = kind
  emptied (Err (NothingToRedo have)) all kind left finds = kind
  emptied (Err (RedoDamaged line)) all kind left finds = kind

none_fades : (c : List ℕ) → c ≡ [] → IsFaded 0 [] c
none_fades c is = rw is (record {
  kept = omega arith;
  no_longer = omega arith;
  front = λ i below. absurd (omega (arith, below));
  bytes = λ i below. absurd (omega (arith, below));
})

-- Of what is found after a loss of power: no more of the image and of the texts than of their devices.
module _ {D T : Type 0} (d : DeviceViews D) (t : StoreViews T) (f : TextFiles) (old : SystemState) (a b : Devices D T) (found left : ℕ → List ℕ → Type 0)
    (image_is : d.image a.image ≡ old.bytes f.image) (journal_is : t.text a.journal ≡ bytes_if old f.journal)
    (redo_is : t.text a.redo ≡ bytes_if old f.redo) (image_left : NoMore (d.survives b.image) (left f.image))
    (journal_left : (n : ℕ) → f.journal ≡ Some n → NoMore (t.survives b.journal) (left n))
    (redo_left : (n : ℕ) → f.redo ≡ Some n → NoMore (t.survives b.redo) (left n)) where
  text_case : (o : Option ℕ) (P : Option ℕ → Type 0) → (o ≡ None → P None) → ((n : ℕ) → o ≡ Some n → P (Some n)) → P o
  text_case None P none some = none refl
  text_case (Some n) P none some = some n refl

  only_empty : (o : Option ℕ) (y : T) → ((n : ℕ) → o ≡ Some n → NoMore (t.survives y) (left n)) → Only [] (t.survives y) → Only [] (found_if left o)
  only_empty o y more empty = text_case o (λ o. Only [] (found_if left o)) (λ is c none. none) (λ n is c there. empty c (more n is c there))

  pub survives_all : Only (d.image a.image) (d.survives b.image) → Only [] (t.survives b.journal) → Only [] (t.survives b.redo)
      → LosesAll (held_by_numbers f old) (left f.image) (found_if left f.journal) (found_if left f.redo)
  survives_all image journal redo = record {
    image_found = λ c there. image c (image_left c there) ∙ image_is;
    journal_found = only_empty f.journal b.journal journal_left journal;
    redo_found = only_empty f.redo b.redo redo_left redo;
  }

  part_fades : (o : Option ℕ) (x y : T) → t.text x ≡ bytes_if old o → ((n : ℕ) → o ≡ Some n → NoMore (t.survives y) (left n))
      → AllFade 0 (t.text x) (t.survives y) → AllFade 0 (bytes_if old o) (found_if left o)
  part_fades o x y is more part = text_case o (λ o. AllFade 0 (bytes_if old o) (found_if left o)) (λ none c empty. none_fades c empty)
      (λ n some c there. subst (λ r. IsFaded 0 r c) (is ∙ rw some refl) (part c (more n some c there)))

  whole_left : (o : Option ℕ) (x y : T) → t.text x ≡ bytes_if old o → ((n : ℕ) → o ≡ Some n → NoMore (t.survives y) (left n))
      → Only (t.text x) (t.survives y) → Only (bytes_if old o) (found_if left o)
  whole_left o x y is more whole = text_case o (λ o. Only (bytes_if old o) (found_if left o)) (λ none c empty. empty)
      (λ n some c there. whole c (more n some c there) ∙ is ∙ rw some refl)

  fades : FadesInOrder (t.text a.journal) (t.text a.redo) (t.survives b.journal) (t.survives b.redo)
      → FadesInOrder (bytes_if old f.journal) (bytes_if old f.redo) (found_if left f.journal) (found_if left f.redo)
  fades p = record {
    journal_part = part_fades f.journal a.journal b.journal journal_is journal_left p.journal_part;
    redo_part = part_fades f.redo a.redo b.redo redo_is redo_left p.redo_part;
    redo_first = elim p.redo_first [
      | inl journal ↦ inl (whole_left f.journal a.journal b.journal journal_is journal_left journal)
      | inr redo ↦ inr (only_empty f.redo b.redo redo_left redo)
    ];
  }

  pub survives_part : KeepImage d t a b → LosesPart (held_by_numbers f old) (left f.image) (found_if left f.journal) (found_if left f.redo)
  survives_part p = record {
    image_found = λ c there. p.image c (image_left c there) ∙ image_is;
    texts = fades p.texts;
    finds = λ x text redo_text image journal redo s first whole redo_whole.
        found_in_part (bytes_if old f.journal) (old.bytes f.image) (bytes_if old f.redo) text x redo_text s first
        (elim (fades p.texts).redo_first [
          | inl all ↦ inl (all text journal)
          | inr none ↦ inr (none redo_text redo)
        ])
        (p.image x (image_left x image) ∙ image_is) whole redo_whole;
  }

  pub survives_none : (mid : ℕ → List ℕ → Type 0) → NoMore (d.survives a.image) (d.survives b.image)
      → NoMore (t.survives a.journal) (t.survives b.journal) → NoMore (t.survives a.redo) (t.survives b.redo)
      → ((n : ℕ) → f.journal ≡ Some n → NoMore (found n) (t.survives a.journal)) → ((n : ℕ) → f.redo ≡ Some n → NoMore (found n) (t.survives a.redo))
      → NothingNewSpared (IsNeither f) found mid → NothingNewSpared (λ n. (n ≡ f.image → ⊥) × IsNeither f n) mid left
      → NoMore (d.survives a.image) (left f.image) × ((n : ℕ) → (n ≡ f.image → ⊥) → NoMore (found n) (left n))
  survives_none mid image journal redo first first_redo lets others = (
    (λ c there. image c (image_left c there)),
    (λ n other c there. by_text f.journal n (λ is. first n is c (journal c (journal_left n is c there)))
        (λ no_journal. by_text f.redo n (λ is. first_redo n is c (redo c (redo_left n is c there)))
        (λ no_redo. lets n (no_journal, no_redo) c (others n (other, (no_journal, no_redo)) c there)))),
  )

  -- whatever forgetting answers
  pub survived : (mid : ℕ → List ℕ → Type 0) (r : Result (Unit {0}) SessionFault) → d.faithful a.image → t.faithful a.journal → t.faithful a.redo
      → d.image b.image ≡ d.image a.image → OnOk r (AreAlone d t (d.image a.image) b) → IfErr r (λ e. AfterFault e (KeepImage d t a b) (Unit {0}))
      → IfErr r (λ e. AfterFault e (Unit {0}) (FoundBefore d t a b))
      → ((n : ℕ) → f.journal ≡ Some n → NoMore (found n) (t.survives a.journal)) → ((n : ℕ) → f.redo ≡ Some n → NoMore (found n) (t.survives a.redo))
      → NothingNewSpared (IsNeither f) found mid → NothingNewSpared (λ n. (n ≡ f.image → ⊥) × IsNeither f n) mid left
      → SurvivesEmptying f r old (d.survives a.image) found left
  survived mid (Ok done) dh th rh same all keeps before first first_redo lets others =
      survives_all (λ c there. all.settled.image c there ∙ same) (λ c there. all.settled.journal c there ∙ all.journal)
      (λ c there. all.settled.redo c there ∙ all.redo)
  survived mid (Err Interrupted) dh th rh same all keeps before first first_redo lets others = survives_part keeps
  survived mid (Err e) dh th rh same all keeps before first first_redo lets others =
      survives_none mid (before.image_before dh) (before.journal_before th) (before.redo_before rh) first first_redo lets others

after_first : (e : SessionFault) (A B : Type 0) → AfterFault e (A × B) (Unit {0}) → AfterFault e A (Unit {0})
after_first Interrupted A B both = both.0
after_first e A B none = none

-- what is found where it was stopped
pub finds_first : (r : Result (Unit {0}) SessionFault) (A B : Type 0) → IfErr r (λ e. AfterFault e (A × B) (Unit {0}))
    → IfErr r (λ e. AfterFault e A (Unit {0}))
finds_first r A B both = IfErr-weaker r _ _ (λ e p. after_first e A B p) both

-- what the note has behind an emptying, by whether it goes
pub left_note : (goes dropped : Bool) (r : Result (Unit {0}) SessionFault) (refused : Type 0) (old new : List ℕ) → OnOk r (dropped ≡ goes)
    → OnErr r (dropped ≡ false) → (dropped ≡ true → DropsNote refused old new) → (dropped ≡ false → new ≡ old) → LeavesNote r goes refused old new
left_note true dropped (Ok done) refused old new ok err goes stays = goes ok
left_note false dropped (Ok done) refused old new ok err goes stays = stays ok
left_note goes dropped (Err e) refused old new ok err away stays = stays err

-- a note that was dropped before files were closed
pub dropped_before : (before after last : ℕ) (old mid new : List ℕ) → after ≤ last → new ≡ mid → DropsNote (before < after) old mid
    → DropsNote (0 < last) old new
dropped_before before after last old mid new same is drops = elim drops [
  | inl gone ↦ inl (is ∙ gone)
  | inr stays ↦ inr (let less = stays.0 in omega (arith, less, same), is ∙ stays.1)
]
