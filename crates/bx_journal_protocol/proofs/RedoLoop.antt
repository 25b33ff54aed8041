-- One turn of the redos over three devices.
use Rattle.std.proofs.Common.{◌≡◌, ℕ, suc, ◌+◌, ◌<◌, ◌≤◌, true, false, List, [], ◌∷◌, ◌++◌, length, take, drop, refl, ap, sym, ◌∙◌, subst, inl, inr, arith, Option, Some, None, append_assoc, length-append}
use Rattle.std.specs.Prelude.{IfSome, IsTrue, is_some}
use Rattle.bx_image.specs.declared.change.Change.{Change}
use Rattle.bx_image.specs.declared.change.TheConstants.{MAX_LEN}
use Rattle.bx_image.specs.Change.{effect, saved, restore, IsOf, IsAsGood, Restores}
use Rattle.bx_image.proofs.Records.{effect-restore, length-restore}
use Rattle.bx_journal_format.specs.Kept.{Kept, kept_of}
use Rattle.bx_journal_format.specs.Entry.{head_text, end_text, entry_text}
use Rattle.bx_journal_format.specs.Finished.{AllTell, IsFinished}
use Rattle.bx_journal_format.specs.Text.{Entry, Between, split}
use Rattle.bx_journal_format.specs.declared.read.types.EntryRead.{EntryRead}
use Rattle.bx_journal_format.specs.Parsed.{entry_of, entries_onto}
use Rattle.bx_journal_format.proofs.Bounds.{AreBounded, read_bounded, read_told}
use Rattle.bx_journal_format.proofs.KeptLemmas.{within_out, same_restore}
use Rattle.bx_journal_format.proofs.ReadLemmas.{onto-push}
use Rattle.bx_journal_model.specs.Images.{Images, redo_of}
use Rattle.bx_journal_model.specs.Machine.{changes_of}
use Rattle.bx_journal_model.specs.Phase.{IsAtRest, RecoversEither}
use Rattle.bx_journal_model.specs.Redo.{IsRedoOf, Finds, LeavesEither}
use Rattle.bx_journal_model.specs.OnTop.{OnTop}
use Rattle.bx_journal_model.specs.Stack.{HaveLengths, Recovers, StandsFor, stack_of}
use Rattle.bx_journal_model.specs.Taken.{taken_by}
use Rattle.bx_journal_model.specs.Step.{WritesEntry}
use Rattle.bx_journal_protocol.specs.protocol.Turns.{AreAtRest, AreStanding, side_of}
use Rattle.bx_journal_protocol.proofs.TurnsStated.{RedoesOne}
use Rattle.bx_journal_protocol.proofs.ImageLemmas.{redo_of_more}
use Rattle.bx_journal_protocol.proofs.EntryLoop.{EntriesLeft, EntryTurn, entries_same, finished_now, marks_at}
use Rattle.bx_journal_protocol.proofs.LoopLemmas.{standing}
use Rattle.bx_journal_protocol.proofs.Performed.{performed}
use Rattle.bx_journal_model.proofs.Phases.{length-stack_of}
use Rattle.bx_journal_protocol.proofs.RedoText.{one_list}
use Rattle.bx_journal_protocol.proofs.TakenText.{kept_turn}
use Rattle.bx_journal_protocol.proofs.TouchedLemmas.{IsKeptOf}
use Rattle.bx_journal_protocol.proofs.TurnLemmas.{redo_back, redo_one, redo_stops}
use Rattle.bx_journal_model.proofs.UndoLoop.{drop_one}

-- the images below the first
below_is : (e : Entry) (es : List Entry) (x : List ℕ) → drop 1 (stack_of (e ∷ es) x) ≡ stack_of es (restore e.saved x)
unfolding stack_of
below_is e es x = refl

first_is : (es : List Entry) (x : List ℕ) → stack_of es x ≡ x ∷ drop 1 (stack_of es x)
unfolding stack_of
first_is [] x = refl
first_is (e ∷ es) x = refl

-- what the redo text has, where an entry is its newest
record HasNewest (x : List ℕ) (e : Entry) (u : List (List ℕ)) : Type 0 where
  undone_is : u ≡ restore e.saved x ∷ drop 1 u
  long : length x ≤ MAX_LEN
  fits : e.saved.len ≤ MAX_LEN

has_newest : (redo x : List ℕ) (e : Entry) (es : List Entry) (n : ℕ) (u : List (List ℕ)) → IsRedoOf redo x n u → IsFinished redo (e ∷ es) → HasNewest x e u
has_newest redo x e es n u r f =
    let same : r.stands.entries ≡ e ∷ es = one_list redo r.stands.entries (e ∷ es) r.stands.reads f.reads in
    let lengths : HaveLengths (e ∷ es) x = subst (λ fs. HaveLengths fs x) same r.stands.lengths in
    let tell : AllTell (e ∷ es) = subst AllTell same r.tell in
    let told = read_told (split redo).lines (record { entries = e ∷ es; stage = Between }) f.reads.lines in
    let bounded = (read_bounded (split redo).lines (record { entries = e ∷ es; stage = Between }) f.reads.lines).0 in
    let below : u ≡ stack_of es (restore e.saved x) = ap (drop 1) (r.stands.stack_is ∙ ap (λ fs. stack_of fs x) same) ∙ below_is e es x in
    record {
      undone_is = below ∙ first_is es (restore e.saved x) ∙ ap (λ t. restore e.saved x ∷ drop 1 t) (sym below);
      long = by_after e.after tell.0 lengths.0 told.0;
      fits = bounded.0;
    }
  where
    by_after : (o : Option ℕ) → IsTrue (is_some o) → IfSome o (λ a. length x ≡ a) → IfSome o (λ a. a ≤ MAX_LEN) → length x ≤ MAX_LEN
    by_after None some is most = absurd (let h : false ≡ true = some in cc)
    by_after (Some a) some is most = omega (arith, is, most)

redo_next : (i : ℕ) (s : Images) → redo_of (i + 1) s ≡ redo_of 1 (redo_of i s)
redo_next i s = let count : i + 1 ≡ suc i = omega arith in ap (λ k. redo_of k s) count ∙ redo_of_more i s

count_one : (s : Images) (z : List ℕ) (u : List (List ℕ)) → s.undone ≡ z ∷ u → 1 ≤ length s.stack → changes_of (redo_of 1 s).stack ≡ changes_of s.stack + 1
count_one s z u is some =
    let e : length (redo_of 1 s).stack ≡ suc (length s.stack) = ap (λ t. length (redo_of 1 (record { stack = s.stack; undone = t })).stack) is in
    omega (arith, e, some)

-- some image stands
pub some_stands : (text x : List ℕ) (stack : List (List ℕ)) → StandsFor text x stack → 1 ≤ length stack
some_stands text x stack stands = omega (arith, ap length stands.stack_is, length-stack_of stands.entries x)

-- how many changes there are with some images on top
changes_on : {i n m : ℕ} (stack above : List (List ℕ)) → 1 ≤ length stack → length above ≡ i → m ≡ changes_of stack → n ≡ m + i → n ≡ changes_of (above ++ stack)
changes_on stack above some long count number = omega (arith, some, long, count, number, length-append above stack)

-- the change that puts the entry's record back, and the line that ends the entry that is written of it
pub record IsRedoBy {A : Type 0} (e : EntryRead A) (n : ℕ) (c : Change A) (line : List ℕ) : Type 0 where
  pub back : Restores c e.kept
  pub line_is : line ≡ end_text (n + 1) e.kept.len

-- the newest entry is made again: the image is changed, the journal has an entry of it, and the redo text is cut where its own began
pub record IsMadeAgain {A : Type 0} (redo_faithful faithful text_faithful : Type 0) (redo x text redo_new z new : List ℕ) (e : EntryRead A) (s : Kept) (n : ℕ) (c : Change A) (line : List ℕ) : Type 0 where
  pub changed : faithful → z ≡ effect c x
  pub good : faithful → IsAsGood (kept_of (saved c x)) x z
  pub cut : redo_faithful → redo_new ≡ take e.begins redo
  pub written : faithful → text_faithful → new ≡ text ++ head_text (n + 1) s ++ line
  pub rests : faithful → text_faithful → (stack : List (List ℕ)) → WritesEntry c text x stack (head_text (n + 1) s) line → IsAtRest new z (effect c x ∷ stack)

-- the entry of a change that is made again: what it keeps, its number and its text
record WritesAgain {A : Type 0} (c : Change A) (x : List ℕ) (stack : List (List ℕ)) (head line : List ℕ) : Type 0 where
  kept : IsOf (kept_of (saved c x)) x
  fits : (saved c x).len ≤ MAX_LEN
  number : length stack ≤ 65535
  head_is : head ≡ head_text (length stack) (kept_of (saved c x))
  after : length (effect c x) ≤ MAX_LEN
  line_is : line ≡ end_text (length stack) (length (effect c x))

module _ {A : Type 0} {redo_faithful faithful : Type 0} {first redo x : List ℕ} {room i k m : ℕ} {entries all : List (EntryRead A)}
    {was : EntriesLeft redo_faithful first redo room i entries all k m} {es : List (EntryRead A)} {e : EntryRead A} {less : ℕ} (turn : EntryTurn was es e less)
    {kept : Kept} (keeps : IsKeptOf faithful x e kept) {n : ℕ} {c : Change A} {line : List ℕ} (by : IsRedoBy e n c line) where
  effect_is : effect c x ≡ restore (kept_of e.kept) x
  effect_is = effect-restore c e.kept x by.back (within_out e.kept.len e.kept.runs turn.kept.1) ∙ sym (same_restore e.kept x)

  pub restored : {y : List ℕ} → y ≡ effect c x → y ≡ restore (kept_of e.kept) x
  restored changed = changed ∙ effect_is

  -- the entry's length is one that a line gave
  kept_fits : e.kept.len ≤ MAX_LEN
  kept_fits =
      let bounded = read_bounded (split (take was.place.to was.place.text)).lines (record { entries = entries_onto turn.undone.older (es ++ e ∷ []); stage = Between }) turn.undone.mark.lines in
      (subst AreBounded (onto-push turn.undone.older es e) bounded.0).0

  -- the entry that is written of an image that an entry can tell, whatever stack image and journal stand for
  writes_on : {text : List ℕ} → faithful → n + 1 ≤ 65535 → (stack : List (List ℕ)) → StandsFor text x stack → n ≡ changes_of stack → WritesAgain c x stack (head_text (n + 1) kept) line
  writes_on {text = text} h few stack stands count =
      let same : kept ≡ kept_of (saved c x) = keeps.is h c by.back in
      let number : n + 1 ≡ length stack = omega (arith, count, some_stands text x stack stands) in
      let long : length (effect c x) ≡ e.kept.len = ap length effect_is ∙ length-restore (kept_of e.kept) x in
      let of_x : IsOf (kept_of (saved c x)) x = subst (λ s. IsOf s x) same (keeps.of_x h) in
      record {
        kept = of_x;
        fits = omega (arith, of_x.len, keeps.short h);
        number = omega (arith, number, few);
        head_is = ap (λ m. head_text m kept) number ∙ ap (head_text (length stack)) same;
        after = omega (arith, long, kept_fits);
        line_is = by.line_is ∙ ap (λ m. end_text m e.kept.len) number ∙ ap (end_text (length stack)) (sym long);
      }

  entry_on : {text : List ℕ} → faithful → n + 1 ≤ 65535 → (stack : List (List ℕ)) → IsAtRest text x stack → n ≡ changes_of stack → WritesEntry c text x stack (head_text (n + 1) kept) line
  entry_on h few stack rest count =
      let w = writes_on h few stack rest.stands count in record {
        starts = record { rest = rest; kept = w.kept; fits = w.fits; number = w.number; head_is = w.head_is };
        fits = w.after;
        end_is = w.line_is;
      }

  -- stopped in the turn, with i images on top of a stack of m changes
  pub stopped_on : {text new y : List ℕ} {before most : ℕ} → faithful → n + 1 ≤ 65535 → i < most → n ≡ before + i → (stack : List (List ℕ)) → 1 ≤ length stack → before ≡ changes_of stack → OnTop i stack (IsAtRest text x)
      → ((s : List (List ℕ)) → WritesEntry c text x s (head_text (n + 1) kept) line → RecoversEither new y s (effect c x ∷ s)) → (j : ℕ) × (j ≤ most) × OnTop j stack (Recovers new y)
  stopped_on h few below number stack some count on stops =
      elim (stops (on.0 ++ stack) (entry_on h few (on.0 ++ stack) on.2 (changes_on stack on.0 some on.1 count number))) [
        | inl f ↦ (i, omega (arith, below), (on.0, on.1, f))
        | inr f ↦ (i + 1, omega (arith, below), (effect c x ∷ on.0, omega (arith, on.1), f))
      ]

  module _ (rh : redo_faithful) where
    newest : (s : Images) → IsRedoOf redo x (changes_of s.stack) s.undone → HasNewest x (entry_of e) s.undone
    newest s undone = has_newest redo x (entry_of e) (entries_onto turn.undone.older es) (changes_of s.stack) s.undone undone (finished_now turn rh)

    redoes_one : {text : List ℕ} (s : Images) → AreStanding text x redo s → RedoesOne c e.kept redo s (entry_of e) e.begins (restore (kept_of e.kept) x) (drop 1 s.undone)
    redoes_one {text = text} s both = record {
      undone_is = (newest s both.undone).undone_is;
      some = some_stands text x s.stack both.stands;
      restores = record { restores = by.back; within = within_out e.kept.len e.kept.runs turn.kept.1; kept = refl };
      entries = entries_onto turn.undone.older es;
      saved_at = e.saved;
      version = e.version;
      finished = finished_now turn rh;
      marks = marks_at turn rh;
    }

    writes_again : {text : List ℕ} → faithful → (s : Images) → AreStanding text x redo s → n ≡ changes_of s.stack → WritesAgain c x s.stack (head_text (n + 1) kept) line
    writes_again {text = text} h s both count =
        let has = newest s both.undone in
        let more : length s.undone ≡ suc (length (drop 1 s.undone)) = ap length has.undone_is in
        writes_on h (omega (arith, both.undone.few, more, count)) s.stack both.stands count

    writes_entry : {text : List ℕ} → faithful → (s : Images) → AreAtRest text x redo s → n ≡ changes_of s.stack → WritesEntry c text x s.stack (head_text (n + 1) kept) line
    writes_entry h s rest count =
        let w = writes_again h s (standing rest) count in record {
          starts = record { rest = rest.rest; kept = w.kept; fits = w.fits; number = w.number; head_is = w.head_is };
          fits = w.after;
          end_is = w.line_is;
        }

    top_is : {text : List ℕ} (s : Images) → AreStanding text x redo (redo_of i s) → (redo_of (i + 1) s).stack ≡ effect c x ∷ (redo_of i s).stack
    top_is s both =
        let next : redo_of (i + 1) s ≡ record { stack = restore (kept_of e.kept) x ∷ (redo_of i s).stack; undone = drop 1 (redo_of i s).undone } =
        redo_next i s ∙ redo_one (redo_of i s) (restore (kept_of e.kept) x) (drop 1 (redo_of i s).undone) (redoes_one (redo_of i s) both).undone_is in
        ap (λ (q : Images). q.stack) next ∙ ap (λ y. y ∷ (redo_of i s).stack) (sym effect_is)

    -- stopped in the turn
    pub redo_stopped : {text new y redo_new : List ℕ} {most : ℕ} → faithful → i < most → (s : Images) → AreAtRest text x redo (redo_of i s) → n ≡ changes_of (redo_of i s).stack
        → ((stack : List (List ℕ)) → WritesEntry c text x stack (head_text (n + 1) kept) line
        → LeavesEither new y redo_new (side_of stack x redo) (side_of (effect c x ∷ stack) (effect c x) (take e.begins redo)))
        → (j : ℕ) × (j ≤ most) × Finds new y redo_new (redo_of j s)
    redo_stopped {text = text} {new = new} {y = y} {redo_new = redo_new} h below s rest count stops =
        let p : Images = redo_of i s in
        elim (redo_stops c e.kept text x redo new y redo_new p (entry_of e) e.begins (restore (kept_of e.kept) x) (drop 1 p.undone) rest (redoes_one p (standing rest)) (stops p.stack (writes_entry h p rest count))) [
          | inl f ↦ (i, omega (arith, below), f)
          | inr f ↦ (i + 1, omega (arith, below), subst (Finds new y redo_new) (sym (redo_next i s)) f)
        ]

  -- behind the turn
  module _ {text_faithful : Type 0} {text redo_new z new : List ℕ} (made : IsMadeAgain redo_faithful faithful text_faithful redo x text redo_new z new e kept n c line) where
    pub rests_again : redo_faithful → faithful → text_faithful → (s : Images) → AreAtRest text x redo (redo_of i s) → n ≡ changes_of (redo_of i s).stack → IsAtRest new z (redo_of (i + 1) s).stack
    rests_again rh h th s rest count = subst (IsAtRest new z) (sym (top_is rh s (standing rest))) (made.rests h th (redo_of i s).stack (writes_entry rh h (redo_of i s) rest count))

    stands_with : faithful → text_faithful → (stack : List (List ℕ)) → StandsFor text x stack → WritesAgain c x stack (head_text (n + 1) kept) line → StandsFor new z (effect c x ∷ stack)
    stands_with h th stack stands w =
        let k : Kept = kept_of (saved c x) in
        let after : ℕ = length (effect c x) in
        let head : List ℕ = head_text (n + 1) kept in
        let text_is : new ≡ text ++ entry_text (length stack) k after =
        made.written h th ∙ append_assoc text head line ∙ ap (λ a. text ++ (a ++ line)) w.head_is ∙ ap (λ l. text ++ (head_text (length stack) k ++ l)) w.line_is in
        let done : StandsFor new z (z ∷ stack) = performed c text new x z stack k after stands w.number w.kept w.fits w.after (ap length (made.changed h)) ((made.good h).same ∙ w.kept.back) text_is in
        subst (λ y. StandsFor new z (y ∷ stack)) (made.changed h) done

    stands_again : redo_faithful → faithful → text_faithful → (s : Images) → AreStanding text x redo s → n ≡ changes_of s.stack → StandsFor new z (effect c x ∷ s.stack)
    stands_again rh h th s both count = stands_with h th s.stack both.stands (writes_again rh h s both count)

    -- one image more is on top
    pub rests_on : {before : ℕ} → faithful → text_faithful → n + 1 ≤ 65535 → n ≡ before + i → (stack : List (List ℕ)) → 1 ≤ length stack → before ≡ changes_of stack → OnTop i stack (IsAtRest text x) → OnTop (i + 1) stack (IsAtRest new z)
    rests_on h th few number stack some count on = (
      effect c x ∷ on.0,
      omega (arith, on.1),
      made.rests h th (on.0 ++ stack) (entry_on h few (on.0 ++ stack) on.2 (changes_on stack on.0 some on.1 count number)),
    )

    pub stands_on : {before : ℕ} → faithful → text_faithful → n + 1 ≤ 65535 → n ≡ before + i → (stack : List (List ℕ)) → 1 ≤ length stack → before ≡ changes_of stack → OnTop i stack (StandsFor text x) → OnTop (i + 1) stack (StandsFor new z)
    stands_on h th few number stack some count on = (
      effect c x ∷ on.0,
      omega (arith, on.1),
      stands_with h th (on.0 ++ stack) on.2 (writes_on h few (on.0 ++ stack) on.2 (changes_on stack on.0 some on.1 count number)),
    )

    pub redone_next : redo_faithful → faithful → text_faithful → (s : Images) → AreStanding text x redo (redo_of i s) → n ≡ changes_of (redo_of i s).stack
        → AreStanding new z redo_new (redo_of (i + 1) s) × (n + 1 ≡ changes_of (redo_of (i + 1) s).stack)
    redone_next rh h th s both count =
        let p : Images = redo_of i s in
        let y : List ℕ = restore (kept_of e.kept) x in
        let u : List (List ℕ) = drop 1 p.undone in
        let one = redoes_one rh p both in
        let left = redo_back c e.kept x redo z redo_new p (entry_of e) e.begins y u both.undone one (made.changed h) (made.cut rh) in
        let done : AreStanding new z redo_new (redo_of 1 p) = subst (AreStanding new z redo_new) (sym (redo_one p y u one.undone_is))
        (record { stands = subst (λ q. StandsFor new z (q ∷ p.stack)) effect_is (stands_again rh h th p both count); undone = left.1 }) in (
          subst (AreStanding new z redo_new) (sym (redo_next i s)) done,
          ap (λ m. m + 1) count ∙ sym (count_one p y u one.undone_is one.some) ∙ sym (ap (λ (q : Images). changes_of q.stack) (redo_next i s)),
        )

    -- what the ranges that are left lead on to
    pub grown_next : redo_faithful → faithful → text_faithful → (fs : List Entry) → IsFinished first fs → taken_by less (drop (i + 1) fs) z (n + 1) new ≡ taken_by m (drop i fs) x n text
    grown_next rh h th fs finished =
        let below : List Entry = entries_onto turn.undone.older es in
        let same : drop i fs ≡ entry_of e ∷ below = entries_same turn rh (drop i fs) (was.dropped rh fs finished).reads in
        let rest : drop (i + 1) fs ≡ below = sym (drop_one i fs) ∙ ap (drop 1) same in
        let most : suc less ≡ m = omega (arith, turn.most) in
        let y : List ℕ = restore (kept_of e.kept) x in
        let written : new ≡ text ++ entry_text (n + 1) kept e.kept.len =
        made.written h th ∙ append_assoc text (head_text (n + 1) kept) line ∙ ap (λ l. text ++ (head_text (n + 1) kept ++ l)) by.line_is in
        ap (λ gs. taken_by less gs z (n + 1) new) rest
        ∙ ap (λ w. taken_by less below w (n + 1) new) (restored (made.changed h))
        ∙ ap (taken_by less below y (n + 1)) written
        ∙ sym (kept_turn less e kept below x text n (keeps.short h) (keeps.is h))
        ∙ ap (λ j. taken_by j (entry_of e ∷ below) x n text) most
        ∙ ap (λ gs. taken_by m gs x n text) (sym same)
