-- An image that is made before a change with which a history begins anew, and taken away again where that is refused.
use Rattle.std.proofs.Common.{◌≡◌, ◌⊎◌, ◌∙◌, ◌<◌, ◌≤◌, ◌++◌, ℕ, Bool, true, false, List, [], Option, Some, None, take, refl, sym, ap, subst, inl, inr, arith}
use Rattle.std.specs.Prelude.{IfSome}
use Rattle.std.specs.Option.{option_map_or, unwrap_or}
use Rattle.bx_journal.specs.RecoveryOutcome.{RecoveryOutcome}
use Rattle.bx_cli_commands.specs.Refusal.{IsWholeRefusal}
use Rattle.bx_cli_commands.specs.declared.command.Reply.TheVariants.{Refused}
use Rattle.bx_cli_commands.specs.declared.fault.Fault.TheVariants.{OpenFailed}
use Rattle.bx_world.specs.World.{KeepsStreams, Makes, SystemState, TakesAtMost, held}
use Rattle.bx_world.specs.files.Files.{AreAllThere, LeadsToMade, LeavesFiles, MakesImage, Unmakes}
use Rattle.bx_world.specs.files.Fit.{AreFit}
use Rattle.bx_world.specs.files.Reasons.{MayRefuseOpening, RefusesAsBefore}
use Rattle.bx_world.specs.declared.files.guard.Guard.{Guard}
use Rattle.bx_world.specs.declared.files.names.Names.{Names}
use Rattle.bx_world.specs.declared.files.unopened.OpenError.{OpenError}
use Rattle.bx_run_session.specs.session.Changes.{SaysRecovered}
use Rattle.bx_run_session.specs.session.Contents.{Contents}
use Rattle.bx_run_session.specs.session.Moves.{recovered_line}
use Rattle.bx_run_session.specs.session.Named.{IsNamedBy, NothingDone, contents_of}
use Rattle.bx_run_session.specs.declared.session.named.Answer.{Answer}
use Rattle.bx_run_session.specs.declared.session.task.Task.{Task}
use Rattle.bx_run.specs.forget.Forgetting.{DropsNote}
use Rattle.bx_run.specs.renew.Renewal.{ClearsImage, DoesRenew, EndsNote, IsRefusedBehind, IsRefusedRenewal, KeepsNamed, LeavesKept, LeavesNoImage, NothingRenewed, TellsOpening}
use Rattle.bx_run_model.specs.RunState.{RunState}
use Rattle.bx_run.specs.declared.renew.Renewed.{Renewed}
use Rattle.bx_run.specs.declared.renew.Renewed.TheVariants.{Kept, Undropped, Changed}

-- files that weren't opened are a refusal
pub kept_refused : (answer : Answer) (old new : SystemState) → IfSome answer.unopened (λ _. NothingDone answer.reply answer.how old new)
    → IfSome answer.unopened (λ _. IsRefusedRenewal (Kept answer))
kept_refused answer old new nothing = at answer.unopened nothing
  where
    at : (u : Option OpenError) → IfSome u (λ _. NothingDone answer.reply answer.how old new) → IfSome u (λ _. IsRefusedRenewal (Kept answer))
    at None none = tt
    at (Some u) none = subst IsWholeRefusal (sym none.0) (λ wrong. cc)

pub some_one : {m n : ℕ} → Some m ≡ Some n → m ≡ n
some_one {m} {n} is = ap (λ o. unwrap_or o m) is

none_some : (n : ℕ) → None ≡ Some n → ⊥
none_some n wrong = cc

-- what a name leads to by a number holds this
abbrev pub bytes_led : (ℕ → List ℕ) → Option ℕ → List ℕ
bytes_led bytes led = option_map_or bytes led []

module _ (names : Names) (n : ℕ) (old begun : SystemState) (within : AreAllThere old) (made : Makes old begun names.image n) where
  pub still : (m : List ℕ) (k : ℕ) → old.named m ≡ Some k → begun.named m ≡ Some k
  still m k is = elim (made.others m) [
    | inl same ↦ same ∙ is
    | inr gone ↦ absurd (none_some k (sym gone.0 ∙ is))
  ]

  -- an empty file that was made changes no contents
  pub held_made : (m : List ℕ) → held begun m ≡ held old m
  held_made m = elim (made.others m) [
    | inl same ↦ ap (bytes_led begun.bytes) same ∙ led (old.named m) refl
    | inr is_new ↦ ap (bytes_led begun.bytes) is_new.1 ∙ made.empty ∙ sym (ap (bytes_led old.bytes) is_new.0)
  ]
    where
      led : (o : Option ℕ) → old.named m ≡ o → bytes_led begun.bytes o ≡ bytes_led old.bytes o
      led None is = refl
      led (Some k) is = made.bytes k (within m k is)

  pub contents_made : contents_of names begun ≡ contents_of names old
  contents_made = rw (held_made names.image, held_made names.journal, held_made names.redo) refl

  made_on : (ended : SystemState) (m : List ℕ) → KeepsNamed names begun ended → LeadsToMade (IsNamedBy names ended) (begun.named m) (ended.named m)
      → LeadsToMade (IsNamedBy names ended) (old.named m) (ended.named m)
  made_on ended m kept leads = elim (made.others m) [
    | inl same ↦ elim leads [
      | inl is ↦ inl (is ∙ same)
      | inr is_new ↦ inr (is_new.0, sym same ∙ is_new.1, is_new.2, is_new.3)
    ]
    | inr other ↦ elim leads [
      | inl is ↦ inr (n, other.0, inl (kept.named names.image n made.named), is ∙ other.1)
      | inr is_new ↦ absurd (none_some n (sym is_new.1 ∙ other.1))
    ]
  ]

  -- what is kept of the files behind the making is kept of those before it
  pub made_kept : (ended : SystemState) → KeepsNamed names begun ended → KeepsNamed names old ended
  made_kept ended kept =
      let stuck = made.stuck in
      let more = kept.stuck in
      record {
        bytes = λ m k is image journal redo. kept.bytes m k (still m k is) image journal redo ∙ made.bytes k (within m k is);
        stat = λ m k is. kept.stat m k (still m k is) ∙ made.stat k (within m k is);
        named = λ m k is. kept.named m k (still m k is);
        made = λ same m. made_on ended m kept (kept.made (same ∙ sym stuck) m);
        stuck = omega (arith, stuck, more);
      }

  -- and the image may be judged to be fit that is missing
  pub fit_made : (mounted : Bool) → AreFit names mounted old
  fit_made mounted = record {
    image = λ k is. absurd (none_some k (sym made.missing ∙ is));
    texts = λ k is. absurd (none_some k (sym made.missing ∙ is));
  }

module _ (n : ℕ) (ended new : SystemState) (gone : Unmakes n ended new) where
  -- an empty file that was taken away changes no contents
  pub held_cleared : (m : List ℕ) → held new m ≡ held ended m
  held_cleared m = elim (gone.most.named m) [
    | inl same ↦ ap (bytes_led new.bytes) same ∙ led (ended.named m)
    | inr taken ↦ ap (bytes_led new.bytes) taken.2 ∙ sym (ap (bytes_led ended.bytes) taken.0 ∙ taken.1)
  ]
    where
      led : (o : Option ℕ) → bytes_led new.bytes o ≡ bytes_led ended.bytes o
      led None = refl
      led (Some k) = gone.most.bytes k

  pub contents_cleared : (names : Names) → contents_of names new ≡ contents_of names ended
  contents_cleared names = rw (held_cleared names.image, held_cleared names.journal, held_cleared names.redo) refl

  -- a name leads where it led, but to the file that is gone
  pub led_on : (m : List ℕ) (k : ℕ) → (k ≡ n → ⊥) → ended.named m ≡ Some k → new.named m ≡ Some k
  led_on m k apart is = elim (gone.most.named m) [
    | inl same ↦ same ∙ is
    | inr taken ↦ absurd (apart (some_one (sym is ∙ taken.0)))
  ]

  module _ (names : Names) (old : SystemState) (within : AreAllThere old) (later : old.there ≤ n) (kept : KeepsNamed names old ended) where
    earlier : (m : List ℕ) (k : ℕ) → old.named m ≡ Some k → k ≡ n → ⊥
    earlier m k led is = let below = within m k led in omega (arith, below, later, is)

    -- another name of the same file is gone too
    led_with : new.stuck ≡ ended.stuck → (m x : List ℕ) (k : ℕ) → ended.named m ≡ Some k → new.named m ≡ Some k → ended.named x ≡ Some k
        → new.named x ≡ Some k
    led_with stuck m x k was is led = elim (gone.most.named x) [
      | inl same ↦ same ∙ led
      | inr taken ↦ absurd (none_some k (sym (gone.gone stuck taken.1 m (was ∙ sym led ∙ taken.0)) ∙ is))
    ]

    named_with : new.stuck ≡ ended.stuck → (m : List ℕ) (k : ℕ) → ended.named m ≡ Some k → new.named m ≡ Some k → IsNamedBy names ended k
        → IsNamedBy names new k
    named_with stuck m k was is by = elim by [
      | inl image ↦ inl (led_with stuck m names.image k was is image)
      | inr text ↦ elim text [
        | inl journal ↦ inr (inl (led_with stuck m names.journal k was is journal))
        | inr redo ↦ inr (inr (led_with stuck m names.redo k was is redo))
      ]
    ]

    made_off : new.stuck ≡ ended.stuck → (m : List ℕ) → LeadsToMade (IsNamedBy names ended) (old.named m) (ended.named m)
        → LeadsToMade (IsNamedBy names new) (old.named m) (new.named m)
    made_off stuck m leads = elim (gone.most.named m) [
      | inl same ↦ elim leads [
        | inl is ↦ inl (same ∙ is)
        | inr is_new ↦ inr (is_new.0, is_new.1, named_with stuck m is_new.0 is_new.3 (same ∙ is_new.3) is_new.2, same ∙ is_new.3)
      ]
      | inr taken ↦ elim leads [
        | inl is ↦ absurd (earlier m n (sym is ∙ taken.0) refl)
        | inr is_new ↦ inl (taken.2 ∙ sym is_new.1)
      ]
    ]

    -- what is kept of the files is kept where one that was made is taken away
    pub unmade_kept : KeepsNamed names old new
    unmade_kept =
        let less = kept.stuck in
        let more = gone.most.stuck in
        record {
          bytes = λ m k is image journal redo.
              gone.most.bytes k
              ∙ kept.bytes m k is (λ e. image (led_on names.image k (earlier m k is) e)) (λ e. journal (led_on names.journal k (earlier m k is) e))
              (λ e. redo (led_on names.redo k (earlier m k is) e));
          stat = λ m k is. gone.most.stat k (earlier m k is) ∙ kept.stat m k is;
          named = λ m k is. led_on m k (earlier m k is) (kept.named m k is);
          made = λ stuck m. made_off (omega (arith, less, more, stuck)) m (kept.made (omega (arith, less, more, stuck)) m);
          stuck = omega (arith, less, more);
        }

    -- nor is it there, where it was missing and is empty
    pub no_image : ended.named names.image ≡ Some n → LeavesNoImage names old new
    no_image led missing stuck empty = elim (gone.most.named names.image) [
      | inl same ↦
          let is : new.named names.image ≡ Some n = same ∙ led in
          let none : ended.bytes n ≡ [] = sym (gone.most.bytes n) ∙ sym (ap (bytes_led new.bytes) is) ∙ empty in
          let less = kept.stuck in
          let more = gone.most.stuck in
          gone.gone (omega (arith, less, more, stuck)) none names.image led
      | inr taken ↦ taken.2
    ]

-- nothing is written by the making
pub made_streams : (name : List ℕ) (o : Option ℕ) (old begun : SystemState) → MakesImage name o old begun → KeepsStreams old begun
made_streams name None old begun is =
    rw is (record { is_link = λ m. refl; caller = refl; before = refl; lent = refl; output = refl; errors = refl })
made_streams name (Some n) old begun is = is.0.streams

-- nor by the taking away
pub cleared_streams : (renewed : Renewed) (o : Option ℕ) (ended new : SystemState) → ClearsImage renewed o ended new → KeepsStreams ended new
cleared_streams renewed None ended new is =
    rw is (record { is_link = λ m. refl; caller = refl; before = refl; lent = refl; output = refl; errors = refl })
cleared_streams renewed (Some n) ended new is = elim is [
  | inl gone ↦ gone.1.most.streams
  | inr stays ↦ rw stays.1 (record { is_link = λ m. refl; caller = refl; before = refl; lent = refl; output = refl; errors = refl })
]

-- an image that was made has a later number
pub made_number : (name : List ℕ) (o : Option ℕ) (old begun ended : SystemState) → MakesImage name o old begun → old.before ≤ old.there
    → ended.before ≡ begun.before → IfSome o (λ n. ended.before ≤ n)
made_number name None old begun ended is first same = tt
made_number name (Some n) old begun ended is first same =
    let number = is.0.number in let before = is.0.streams.before in grind (arith, number, before, first, same)

-- and its name leads to it behind the steps
pub made_named : (names : Names) (o : Option ℕ) (old begun ended : SystemState) → MakesImage names.image o old begun → KeepsNamed names begun ended
    → IfSome o (λ n. ended.named names.image ≡ Some n)
made_named names None old begun ended is kept = tt
made_named names (Some n) old begun ended is kept = kept.named names.image n is.0.named

-- where the files were not to be changed they are as they were
pub kept_leaves : {R : Type 0} (remaining : R → Option (List ℕ)) (names : Names) (guard : Guard) (task : Task R) (renewed : Renewed) (begun ended : RunState)
    (old new : SystemState) → DoesRenew remaining names guard task renewed begun ended
    → (IsRefusedRenewal renewed → LeavesFiles begun.state ended.state → LeavesFiles old new) → LeavesKept renewed old new
kept_leaves remaining names guard task (Kept answer) begun ended old new does left = λ whole is. left whole ((does.1.refused whole).left.files is)
kept_leaves remaining names guard task (Undropped unseen) begun ended old new does left = tt
kept_leaves remaining names guard task (Changed answer) begun ended old new does left = tt

-- and so where one wasn't opened
pub nothing_cleared : (u : Option OpenError) (renewed : Renewed) (old begun ended new : SystemState) → IfSome u (NothingRenewed renewed begun ended)
    → IfSome u (λ _. IsRefusedRenewal renewed) → (IsRefusedRenewal renewed → LeavesFiles begun ended → LeavesFiles old new)
    → IfSome u (NothingRenewed renewed old new)
nothing_cleared None renewed old begun ended new nothing refused left = tt
nothing_cleared (Some u) renewed old begun ended new nothing refused left = (nothing.0, left refused nothing.1)

-- why one wasn't
pub may_before : (u : Option OpenError) (names : Names) (mounted : Bool) (before least most last : ℕ) (old begun : SystemState) → RefusesAsBefore names old begun
    → before ≤ least → most ≤ last → IfSome u (MayRefuseOpening names mounted true (least < most) begun)
    → IfSome u (MayRefuseOpening names mounted true (before < last) old)
may_before None names mounted before least most last old begun as_before below above why = tt
may_before (Some u) names mounted before least most last old begun as_before below above why =
    as_before mounted before least most last u below above why

module _ (made : Option ℕ) (renewed : Renewed) (names : Names) (old begun ended new : SystemState) (within : AreAllThere old)
    (makes : MakesImage names.image made old begun) (clears : ClearsImage renewed made ended new) where
  -- the making changes no contents
  pub same_contents : contents_of names begun ≡ contents_of names old
  same_contents = at made makes
    where
      at : (o : Option ℕ) → MakesImage names.image o old begun → contents_of names begun ≡ contents_of names old
      at None is = ap (contents_of names) is
      at (Some n) is = contents_made names n old begun within is.0

  -- nor does the taking away
  pub left_contents : contents_of names new ≡ contents_of names ended
  left_contents = at made clears
    where
      at : (o : Option ℕ) → ClearsImage renewed o ended new → contents_of names new ≡ contents_of names ended
      at None is = ap (contents_of names) is
      at (Some n) is = elim is [
        | inl gone ↦ contents_cleared n ended new gone.1 names
        | inr stays ↦ ap (contents_of names) stays.1
      ]

  -- no other file is changed
  pub cleared_kept : KeepsNamed names begun ended → KeepsNamed names old new
  cleared_kept kept = at made makes clears
    where
      at : (o : Option ℕ) → MakesImage names.image o old begun → ClearsImage renewed o ended new → KeepsNamed names old new
      at None is same = rw same (subst (λ (w : SystemState). KeepsNamed names w ended) is kept)
      at (Some n) is cleared =
          let before = made_kept names n old begun within is.0 ended kept in
          let number = is.0.number in
          elim cleared [
            | inl gone ↦ unmade_kept n ended new gone.1 names old within (omega (arith, number)) before
            | inr stays ↦ rw (stays.1) before
          ]

  -- an image that was missing is missing again
  pub cleared_image : KeepsNamed names begun ended → IsRefusedRenewal renewed → (made ≡ None → old.named names.image ≡ None → ⊥)
      → LeavesNoImage names old new
  cleared_image kept refused there missing = at made makes clears there
    where
      at : (o : Option ℕ) → MakesImage names.image o old begun → ClearsImage renewed o ended new → (o ≡ None → old.named names.image ≡ None → ⊥)
          → new.stuck ≡ old.stuck → held new names.image ≡ [] → new.named names.image ≡ None
      at None is same wrong stuck empty = absurd (wrong refl missing)
      at (Some n) is cleared wrong stuck empty =
          let before = made_kept names n old begun within is.0 ended kept in
          let number = is.0.number in
          elim cleared [
            | inl gone ↦
                no_image n ended new gone.1 names old within (omega (arith, number)) before (kept.named names.image n is.0.named) missing stuck empty
            | inr stays ↦ absurd (stays.0 refused)
          ]

  -- an image that is missing may be made
  pub fit_before : (mounted : Bool) → AreFit names mounted begun → AreFit names mounted old
  fit_before mounted fit = at made makes
    where
      at : (o : Option ℕ) → MakesImage names.image o old begun → AreFit names mounted old
      at None is = subst (AreFit names mounted) is fit
      at (Some n) is = fit_made names n old begun within is.0 mounted

  says_between : (how : Option RecoveryOutcome) → SaysRecovered how begun ended → SaysRecovered how old new
  says_between how says =
      let one = made_streams names.image made old begun makes in
      let two = cleared_streams renewed made ended new clears in
      let told = says.errors in
      record {
        output = two.output ∙ says.output ∙ one.output;
        errors = (told.0, two.errors ∙ told.1 ∙ ap (λ e. e ++ take told.0 (recovered_line how)) one.errors);
        lent = two.lent ∙ says.lent ∙ one.lent;
        before = two.before ∙ says.before ∙ one.before;
      }

  -- nothing is written of it
  pub tells_between : TellsOpening renewed begun ended → TellsOpening renewed old new
  tells_between tells = at renewed tells
    where
      at : (r : Renewed) → TellsOpening r begun ended → TellsOpening r old new
      at (Kept answer) is = says_between answer.how is
      at (Undropped unseen) is = (is.0, says_between is.0 is.1)
      at (Changed answer) is = (is.0, says_between is.0 is.1)

-- the files of before are those behind steps that say so
pub tells_before : (renewed : Renewed) (begun ended : SystemState) → TellsOpening renewed begun ended → ended.before ≡ begun.before
tells_before (Kept answer) begun ended tells = tells.before
tells_before (Undropped unseen) begun ended tells = tells.1.before
tells_before (Changed answer) begun ended tells = tells.1.before

-- what the note has behind the end of a change, by whether it was dropped
pub ended_note : (renewed : Renewed) (behind : Bool) (before after last : ℕ) (old mid new : List ℕ) → (behind ≡ true → IsRefusedBehind renewed)
    → (IsRefusedBehind renewed → behind ≡ true) → after ≡ last → new ≡ mid → (behind ≡ true → DropsNote (before < after) old mid)
    → (behind ≡ false → mid ≡ old) → EndsNote renewed (before < last) old new
ended_note renewed true before after last old mid new to back same is drops stays = inl (
  to refl,
  elim (drops refl) [
    | inl gone ↦ inl (is ∙ gone)
    | inr left ↦ inr (let less = left.0 in omega (arith, less, same), is ∙ left.1)
  ],
)
ended_note renewed false before after last old mid new to back same is drops stays =
    inr ((λ refused. absurd (let wrong : false ≡ true = back refused in cc)), is ∙ stays refl)
