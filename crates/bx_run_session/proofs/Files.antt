-- What becomes of the files of these names, from the names to their bytes and back.
use Rattle.std.proofs.Common.{◌≡◌, ◌∙◌, ◌<◌, ◌≤◌, ℕ, Bool, true, false, cond, Option, Some, None, List, [], refl, sym, ap, subst, inl, inr, arith, ◌⊎◌}
use Rattle.std.specs.Option.{unwrap_or}
use Rattle.std.proofs.lemmas.Bool.{cases_eq}
use Rattle.bx_image.specs.Power.{NoMore}
use Rattle.bx_world.specs.World.{ChangesOnly, NothingNewBelow, NothingNewFound, NothingNewOf, SystemState, Trio, held}
use Rattle.bx_world.specs.files.Files.{AreAllThere, AreOpened, HasMade, IsOneOfMade, IsOpenUnder, IsOneOfMadeTexts, LeadsToMade, LeadsToNoneOf, LeavesFiles, TakesMade, TakesOnly}
use Rattle.bx_world.specs.declared.files.made.Made.{Made}
use Rattle.bx_world.specs.declared.files.names.Names.{Names}
use Rattle.bx_run_session.specs.session.Named.{AreNotLeft, IsNamedBy, LeadTo, KeepsOthers, bytes_of_files, contents_of}

pub some_injective : {m n : ℕ} → Some m ≡ Some n → m ≡ n
some_injective {m} {n} is = ap (λ o. unwrap_or o m) is

none_is_not_some : (n : ℕ) → None ≡ Some n → ⊥
none_is_not_some n wrong = cc

-- a name that leads to a file leads to it still, when files were made
still : (made : ℕ → Type 0) (old new : SystemState) (m : List ℕ) (n : ℕ) → HasMade made old new → old.named m ≡ Some n → new.named m ≡ Some n
still made old new m n has named = elim (has.named m) [
  | inl same ↦ same ∙ named
  | inr is_new ↦ absurd (none_is_not_some n (sym is_new.1 ∙ named))
]

-- what a file held under its name, before it was opened: nothing, where it was made
held_before : (files : ℕ → Type 0) (old new : SystemState) (name : List ℕ) (made : Bool) (n : ℕ) → AreAllThere old → HasMade files old new
    → IsOpenUnder name made n old new → new.bytes n ≡ held old name
held_before files old new name true n within has under = let was : old.named name ≡ None = under.was in rw was (under.empty refl)
held_before files old new name false n within has under =
    let was : old.named name ≡ Some n = under.was in rw was (has.bytes n (within name n was))

module _ (names : Names) (mounted makes : Bool) (t : Trio) (made : Made) (old mid : SystemState) (within : AreAllThere old)
    (opened : AreOpened names mounted makes t made old mid) where
  -- the three hold when they are open what they held under their names
  pub contents_before : bytes_of_files t mid ≡ contents_of names old
  contents_before =
      rw (
        held_before _ old mid names.image made.image t.image within opened.files opened.image,
        held_before _ old mid names.journal made.journal t.journal within opened.files opened.journal,
        held_before _ old mid names.redo made.redo t.redo within opened.files opened.redo,
      ) refl

  -- the names lead to the three while they are open, and behind the task
  pub named_behind : (new : SystemState) → ChangesOnly t mid new → LeadTo names t new
  named_behind new only = record {
    image = only.named names.image ∙ opened.image.named;
    journal = only.named names.journal ∙ opened.journal.named;
    redo = only.named names.redo ∙ opened.redo.named;
  }

one_file : (name : List ℕ) (m n : ℕ) (v w : SystemState) → v.named name ≡ Some m → w.named name ≡ Some n → v ≡ w → m ≡ n
one_file name m n v w one other same = some_injective (sym one ∙ subst (λ (u : SystemState). u.named name ≡ Some n) (sym same) other)

-- names lead to one trio
pub same_trio : (names : Names) (a b : Trio) (v w : SystemState) → LeadTo names a v → LeadTo names b w → v ≡ w
    → (a.image ≡ b.image) × (a.journal ≡ b.journal) × (a.redo ≡ b.redo)
same_trio names a b v w one other same = (
  one_file names.image _ _ v w one.image other.image same,
  one_file names.journal _ _ v w one.journal other.journal same,
  one_file names.redo _ _ v w one.redo other.redo same,
)

one_kept : (files : ℕ → Type 0) (name : List ℕ) (m n : ℕ) (last new : SystemState) → last.named name ≡ Some n
    → LeadsToNoneOf files last.bytes (last.named name) (new.named name) → new.named name ≡ Some m → m ≡ n
one_kept files name m n last new led leads is = elim leads [
  | inl same ↦ some_injective (sym is ∙ same ∙ led)
  | inr gone ↦ absurd (none_is_not_some m (sym gone.4 ∙ is))
]

-- names lead to one trio, where empty files were taken away
pub trio_cleared : (files : ℕ → Type 0) (names : Names) (a b : Trio) (last new : SystemState) → LeadTo names b last → TakesOnly files last new
    → LeadTo names a new → (a.image ≡ b.image) × (a.journal ≡ b.journal) × (a.redo ≡ b.redo)
trio_cleared files names a b last new led takes is = (
  one_kept files names.image _ _ last new led.image (takes.named names.image) is.image,
  one_kept files names.journal _ _ last new led.journal (takes.named names.journal) is.journal,
  one_kept files names.redo _ _ last new led.redo (takes.named names.redo) is.redo,
)

-- texts aren't left of files that are as they were
pub none_left : (names : Names) (old new : SystemState) → LeavesFiles old new → AreNotLeft names old new new
none_left names old new left = record {
  journal = λ missing stuck empty. left.named stuck names.journal ∙ missing;
  redo = λ missing stuck empty. left.named stuck names.redo ∙ missing;
}

-- what is known where a flag is set, and where not
pub by_flag : {P Q : Type 0} (flag : Bool) → (flag ≡ false → P) → (flag ≡ true → Q) → P ⊎ Q
by_flag true unset set = inr (set refl)
by_flag false unset set = inl (unset refl)

made_where : (o : Option ℕ) (made : Bool) (n : ℕ) → o ≡ cond made None (Some n) → o ≡ None → made ≡ true
made_where o true n was missing = refl
made_where o false n was missing = absurd (none_is_not_some n (sym missing ∙ was))

-- what is held under the names is what the files have
pub contents_named : (names : Names) (t : Trio) (w : SystemState) → LeadTo names t w → contents_of names w ≡ bytes_of_files t w
contents_named names t w named = rw (named.image, named.journal, named.redo) refl

held_cleared : (files : ℕ → Type 0) (last new : SystemState) (name : List ℕ) (n : ℕ) → last.named name ≡ Some n → TakesOnly files last new
    → held new name ≡ last.bytes n
held_cleared files last new name n named most = elim (most.named name) [
  | inl same ↦ rw (same ∙ named) (most.bytes n)
  | inr gone ↦
      let is : n ≡ gone.0 = some_injective (sym named ∙ gone.2) in
      rw gone.4 (subst (λ k. [] ≡ last.bytes k) (sym is) (sym gone.3))
]

-- what is held under the names is what the files had, also where empty ones were taken away
pub contents_cleared : (files : ℕ → Type 0) (names : Names) (t : Trio) (last new : SystemState) → LeadTo names t last → TakesOnly files last new
    → contents_of names new ≡ bytes_of_files t last
contents_cleared files names t last new named most =
    rw (
      held_cleared files last new names.image t.image named.image most,
      held_cleared files last new names.journal t.journal named.journal most,
      held_cleared files last new names.redo t.redo named.redo most,
    ) refl

-- where the three hold what they held, so do all files
same_bytes : (t : Trio) (mid new : SystemState) → ChangesOnly t mid new → bytes_of_files t new ≡ bytes_of_files t mid → (i : ℕ) → new.bytes i ≡ mid.bytes i
same_bytes t mid new only same i =
    let image : new.bytes t.image ≡ mid.bytes t.image = ap (λ c. c.image) same in
    let journal : new.bytes t.journal ≡ mid.bytes t.journal = ap (λ c. c.journal) same in
    let redo : new.bytes t.redo ≡ mid.bytes t.redo = ap (λ c. c.redo) same in
    let Same : ℕ → Type 0 = λ n. new.bytes n ≡ mid.bytes n in
    elim (cases_eq i t.image) [
      | inl is ↦ subst Same (sym is) image
      | inr no_image ↦ elim (cases_eq i t.journal) [
        | inl is ↦ subst Same (sym is) journal
        | inr no_journal ↦ elim (cases_eq i t.redo) [
          | inl is ↦ subst Same (sym is) redo
          | inr no_redo ↦ only.bytes i (no_image, no_journal, no_redo)
        ]
      ]
    ]

-- where no more is found of the three, and of all others, none is found of any
pub nothing_new : (t : Trio) (found left : ℕ → List ℕ → Type 0) → NothingNewOf t found left → NoMore (found t.image) (left t.image)
    → NoMore (found t.journal) (left t.journal) → NoMore (found t.redo) (left t.redo) → NothingNewFound found left
nothing_new t found left others image journal redo n =
    let Less : ℕ → Type 0 = λ i. NoMore (found i) (left i) in
    elim (cases_eq n t.image) [
      | inl is ↦ subst Less (sym is) image
      | inr no_image ↦ elim (cases_eq n t.journal) [
        | inl is ↦ subst Less (sym is) journal
        | inr no_journal ↦ elim (cases_eq n t.redo) [
          | inl is ↦ subst Less (sym is) redo
          | inr no_redo ↦ others n (no_image, no_journal, no_redo)
        ]
      ]
    ]

-- what is found behind three steps, of files that were there before the first
pub before_all : (there : ℕ) (first second third last : ℕ → List ℕ → Type 0) → NothingNewBelow there first second
    → NothingNewFound second third → NothingNewFound third last → NothingNewBelow there first last
before_all there first second third last a b c n below x is = a n below x (b n x (c n x is))

-- a file that was made is none of those that were there
made_apart : (files : ℕ → Type 0) (n : ℕ) (old new : SystemState) → HasMade files old new → n < old.there → files n → ⊥
made_apart files n old new has below is = let fresh = (has.fresh n is).0 in omega (arith, fresh, below)

-- nor is one that no name of the three led to
no_other : (files : ℕ → Type 0) (name : List ℕ) (made : Bool) (n i : ℕ) (old mid : SystemState) → HasMade files old mid → IsOpenUnder name made n old mid
    → (made ≡ true → files n) → i < old.there → (old.named name ≡ Some i → ⊥) → i ≡ n → ⊥
no_other files name true n i old mid has under is_made below unnamed is =
    let fresh = (has.fresh n (is_made refl)).0 in omega (arith, fresh, below, is)
no_other files name false n i old mid has under is_made below unnamed is =
    let was : old.named name ≡ Some n = under.was in unnamed (was ∙ ap Some (sym is))

module _ (names : Names) (mounted makes : Bool) (t : Trio) (made : Made) (old mid last : SystemState) (within : AreAllThere old)
    (opened : AreOpened names mounted makes t made old mid) (only : ChangesOnly t mid last) where
  abbrev IsMade : ℕ → Type 0
  IsMade n = IsOneOfMade made t n

  -- where the three hold what they held, no more was made than was opened
  pub made_behind : old.lent ≡ None → last.lent ≡ None → bytes_of_files t last ≡ bytes_of_files t mid → HasMade (IsOneOfMade made t) old last
  made_behind free lent same =
      let files = opened.files in
      let there = only.there in
      let least = files.there in
      record {
        named = λ m. elim (files.named m) [
          | inl as_before ↦ inl (only.named m ∙ as_before)
          | inr is_new ↦ inr (is_new.0, is_new.1, is_new.2, only.named m ∙ is_new.3)
        ];
        bytes = λ i below. same_bytes t mid last only same i ∙ files.bytes i below;
        stat = λ i below. only.stat i ∙ files.stat i below;
        fresh = λ n is. let fresh = files.fresh n is in (fresh.0, rw there fresh.1, same_bytes t mid last only same n ∙ fresh.2);
        there = rw there least;
        stuck = only.stuck ∙ files.stuck;
        streams = record {
          is_link = λ m. only.is_link m ∙ files.streams.is_link m;
          caller = only.caller ∙ files.streams.caller;
          output = only.output ∙ files.streams.output;
          errors = only.errors ∙ files.streams.errors;
          before = only.before ∙ files.streams.before;
          lent = lent ∙ sym free;
        };
      }

  -- what was made wasn't there when the run began
  pub made_by_run : old.before ≤ old.there → (n : ℕ) → IsOneOfMade made t n → last.before ≤ n
  made_by_run begun n is =
      let fresh = (opened.files.fresh n is).0 in
      let before = only.before ∙ opened.files.streams.before in
      omega (arith, fresh, before, begun)

  -- a name that was missing leads to one of the three, where it leads to a file
  led : (m : List ℕ) → LeadsToMade (IsNamedBy names last) (old.named m) (last.named m)
  led m = elim (opened.files.named m) [
    | inl as_before ↦ inl (only.named m ∙ as_before)
    | inr is_new ↦ inr (is_new.0, is_new.1, led_to is_new.0 is_new.2, only.named m ∙ is_new.3)
  ]
    where
      at : (name : List ℕ) (file n : ℕ) → mid.named name ≡ Some file → n ≡ file → last.named name ≡ Some n
      at name file n leads is = only.named name ∙ leads ∙ ap Some (sym is)

      led_to : (n : ℕ) → IsOneOfMade made t n → IsNamedBy names last n
      led_to n is = elim is [
        | inl image ↦ inl (at names.image t.image n opened.image.named image.1)
        | inr text ↦ elim text [
          | inl journal ↦ inr (inl (at names.journal t.journal n opened.journal.named journal.1))
          | inr redo ↦ inr (inr (at names.redo t.redo n opened.redo.named redo.1))
        ]
      ]

  -- texts that were made are not left where they were taken away
  pub texts_gone : (new : SystemState) → TakesMade (IsOneOfMadeTexts made t) last new → AreNotLeft names old new new
  texts_gone new takes = record {
    journal = λ missing stuck empty. gone names.journal made.journal t.journal opened.journal (λ is. inl (is, refl)) missing stuck empty;
    redo = λ missing stuck empty. gone names.redo made.redo t.redo opened.redo (λ is. inr (is, refl)) missing stuck empty;
  }
    where
      gone : (name : List ℕ) (is_made : Bool) (n : ℕ) → IsOpenUnder name is_made n old mid → (is_made ≡ true → IsOneOfMadeTexts made t n)
          → old.named name ≡ None → new.stuck ≡ old.stuck → held new name ≡ [] → new.named name ≡ None
      gone name is_made n under is missing stuck empty =
          let led_to : last.named name ≡ Some n = only.named name ∙ under.named in
          takes.gone (stuck ∙ sym opened.files.stuck ∙ sym only.stuck) n (is (made_where (old.named name) is_made n under.was missing))
          (sym (held_cleared _ last new name n led_to takes.takes) ∙ empty) name led_to

  -- a name that leads to one that was made leads to one of the three, where those were taken away that are empty
  taken_led : (new : SystemState) → TakesMade (IsOneOfMadeTexts made t) last new → new.stuck ≡ last.stuck → (m : List ℕ)
      → LeadsToMade (IsNamedBy names new) (old.named m) (new.named m)
  taken_led new takes stuck m = elim (takes.takes.named m) [
    | inl same ↦ elim (led m) [
      | inl is ↦ inl (same ∙ is)
      | inr is_new ↦ inr (is_new.0, is_new.1, still_named is_new.0 (same ∙ is_new.3) is_new.3 is_new.2, same ∙ is_new.3)
    ]
    | inr away ↦ elim (led m) [
      | inl is ↦ absurd (made_apart IsMade away.0 old mid opened.files (within m away.0 (sym is ∙ away.2)) (inr away.1))
      | inr is_new ↦ inl (away.4 ∙ sym is_new.1)
    ]
  ]
    where
      still_at : (k : ℕ) (x : List ℕ) → new.named m ≡ Some k → last.named m ≡ Some k → last.named x ≡ Some k → new.named x ≡ Some k
      still_at k x is was leads = elim (takes.takes.named x) [
        | inl same ↦ same ∙ leads
        | inr away ↦
            let same : k ≡ away.0 = some_injective (sym leads ∙ away.2) in
            absurd (none_is_not_some k (sym (takes.gone stuck away.0 away.1 away.3 m (was ∙ ap Some same)) ∙ is))
      ]

      still_named : (k : ℕ) → new.named m ≡ Some k → last.named m ≡ Some k → IsNamedBy names last k → IsNamedBy names new k
      still_named k is was by = elim by [
        | inl image ↦ inl (still_at k names.image is was image)
        | inr text ↦ elim text [
          | inl journal ↦ inr (inl (still_at k names.journal is was journal))
          | inr redo ↦ inr (inr (still_at k names.redo is was redo))
        ]
      ]

  pub others_of : (new : SystemState) → TakesOnly (IsOneOfMade made t) last new
      → LeavesFiles old new ⊎ (new ≡ last) ⊎ TakesMade (IsOneOfMadeTexts made t) last new → KeepsOthers names old new
  others_of new most left = record {
    bytes = λ n below no_image no_journal no_redo. most.bytes n ∙ only.bytes n (
      no_other IsMade names.image made.image t.image n old mid opened.files opened.image (λ is. inl (is, refl)) below no_image,
      no_other IsMade names.journal made.journal t.journal n old mid opened.files opened.journal (λ is. inr (inl (is, refl))) below no_journal,
      no_other IsMade names.redo made.redo t.redo n old mid opened.files opened.redo (λ is. inr (inr (is, refl))) below no_redo,
    ) ∙ opened.files.bytes n below;
    stat = λ n below. most.stat n (made_apart IsMade n old mid opened.files below) ∙ only.stat n ∙ opened.files.stat n below;
    named = λ m n named. still_behind new most m n named;
    made = λ stuck m. elim left [
      | inl leaves ↦ inl (leaves.named stuck m)
      | inr rest ↦ elim rest [
        | inl is ↦ subst (λ (w : SystemState). LeadsToMade (IsNamedBy names w) (old.named m) (w.named m)) (sym is) (led m)
        | inr takes ↦ taken_led new takes (stuck ∙ sym before_last) m
      ]
    ];
    stuck = elim left [
      | inl leaves ↦ leaves.stuck
      | inr rest ↦ elim rest [
        | inl is ↦ let same = before_last in subst (λ (w : SystemState). old.stuck ≤ w.stuck) (sym is) (omega (arith, same))
        | inr takes ↦ let same = before_last in let more = takes.stuck in omega (arith, same, more)
      ]
    ];
  }
    where
      before_last : last.stuck ≡ old.stuck
      before_last = only.stuck ∙ opened.files.stuck

      still_behind : (new : SystemState) → TakesOnly (IsOneOfMade made t) last new → (m : List ℕ) (n : ℕ) → old.named m ≡ Some n → new.named m ≡ Some n
      still_behind new most m n named =
          let stands : last.named m ≡ Some n = only.named m ∙ still IsMade old mid m n opened.files named in
          elim (most.named m) [
            | inl same ↦ same ∙ stands
            | inr gone ↦
                let is : n ≡ gone.0 = some_injective (sym stands ∙ gone.2) in
                absurd (made_apart IsMade n old mid opened.files (within m n named) (subst IsMade (sym is) gone.1))
          ]

-- of files that are as they were no other is changed
pub others_left : (names : Names) (old new : SystemState) → LeavesFiles old new → KeepsOthers names old new
others_left names old new left = record {
  bytes = λ n below _ _ _. left.bytes n below;
  stat = left.stat;
  named = left.still;
  made = λ stuck m. inl (left.named stuck m);
  stuck = left.stuck;
}
