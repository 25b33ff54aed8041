-- One turn of the undos over three devices.
use Rattle.std.proofs.Common.{◌≡◌, ℕ, suc, ◌+◌, ◌<◌, ◌≤◌, Bool, true, false, List, [], ◌∷◌, ◌++◌, length, take, drop, refl, ap, sym, ◌∙◌, subst, inl, inr, arith, Some, length-append}
use Rattle.std.specs.Prelude.{nat_le, if◌then◌else◌}
use Rattle.bx_image.specs.declared.change.Change.{Change}
use Rattle.bx_image.specs.declared.change.TheConstants.{MAX_LEN}
use Rattle.bx_image.specs.declared.record.Saved.{Saved}
use Rattle.bx_image.specs.Change.{restore}
use Rattle.bx_journal_format.specs.Kept.{kept_of}
use Rattle.bx_journal_format.specs.Entry.{entry_text}
use Rattle.bx_journal_format.specs.Text.{Entry, Between, split}
use Rattle.bx_journal_format.specs.Finished.{IsFinished}
use Rattle.bx_journal_format.specs.declared.read.types.EntryRead.{EntryRead}
use Rattle.bx_journal_format.specs.Parsed.{entry_of, entries_onto}
use Rattle.bx_journal_format.proofs.Bounds.{AreBounded, read_bounded}
use Rattle.bx_journal_format.proofs.KeptLemmas.{within_out}
use Rattle.bx_journal_model.specs.Images.{Images, with_undone, undo_of}
use Rattle.bx_journal_model.specs.Phase.{IsAtRest, RecoversEither}
use Rattle.bx_journal_model.specs.Redo.{Finds, LeavesEither}
use Rattle.bx_journal_model.specs.Stack.{StandsFor, HaveLengths, Recovers, stack_of}
use Rattle.bx_journal_model.specs.Taken.{AreKept}
use Rattle.bx_journal_model.specs.Step.{TakesBack}
use Rattle.bx_journal_protocol.specs.protocol.Takens.{entries_len}
use Rattle.bx_journal_protocol.specs.protocol.Turns.{kept_text, AreAtRest, AreStanding, side_of}
use Rattle.bx_journal_protocol.proofs.TurnsStated.{UndoesOne}
use Rattle.bx_journal_protocol.proofs.ImageLemmas.{undo_of_more}
use Rattle.bx_journal_protocol.proofs.LeftOut.{kept_back}
use Rattle.bx_journal_protocol.proofs.LoopLemmas.{AreLeft, IsTurn, entries_same, finished_below, marks_at}
use Rattle.bx_journal_model.proofs.Phases.{length-stack_of}
use Rattle.bx_journal_protocol.proofs.Shapes.{entry_long}
use Rattle.bx_journal_protocol.proofs.TakenText.{kept_turned}
use Rattle.bx_journal_protocol.proofs.TurnLemmas.{redo_part, undo_one, undo_stops}
use Rattle.bx_journal_model.proofs.UndoLoop.{drop_one}

-- the change that puts an entry's record back
abbrev change_back : {A : Type 0} → EntryRead A → Change A
change_back e = record { base = Some e.kept.len; writes = e.kept.runs }

length_with : (x : List ℕ) (u : List (List ℕ)) → length (with_undone x u) ≡ (if nat_le (length x) MAX_LEN then length u + 1 else 0)
length_with x u = by_test (nat_le (length x) MAX_LEN)
  where
    by_test : (b : Bool) → length (if b then x ∷ u else []) ≡ (if b then length u + 1 else 0)
    by_test true = omega arith
    by_test false = refl

undone_one : (s : Images) (x : List ℕ) (below : List (List ℕ)) → s.stack ≡ x ∷ below → (undo_of 1 s).undone ≡ with_undone x s.undone
undone_one s x below is = ap (λ t. (undo_of 1 (record { stack = t; undone = s.undone })).undone) is

undo_next : (i : ℕ) (s : Images) → undo_of (i + 1) s ≡ undo_of 1 (undo_of i s)
undo_next i s = let count : i + 1 ≡ suc i = omega arith in ap (λ k. undo_of k s) count ∙ undo_of_more i s

top_of : (e : Entry) (es : List Entry) (x : List ℕ) → stack_of (e ∷ es) x ≡ x ∷ stack_of es (restore e.saved x)
unfolding stack_of
top_of e es x = refl

-- the newest entry is taken back: the image is restored, the text is cut where the entry began, and the redo text keeps what was taken
pub record IsTakenBack {A : Type 0} (text_faithful faithful redo_faithful : Type 0) (text x redo new z redo_new : List ℕ) (e : EntryRead A) (t : Saved A) (n : ℕ) : Type 0 where
  pub restored : text_faithful → faithful → z ≡ restore (kept_of e.kept) x
  pub cut : text_faithful → new ≡ take e.begins text
  pub kept : redo_faithful → redo_new ≡ kept_text redo (kept_of t) (n + 1) e.kept.len
  pub rests : faithful → text_faithful → (below : List (List ℕ)) → TakesBack text x below e.version (entry_of e) e.begins e.saved → IsAtRest new z below

module _ {A : Type 0} {text_faithful faithful : Type 0} {first text x : List ℕ} {i : ℕ} {entries all : List (EntryRead A)} {takens records : List (Saved A)}
    {was : AreLeft text_faithful faithful first text x i entries all takens records} {es : List (EntryRead A)} {e : EntryRead A} {ts : List (Saved A)} {t : Saved A} (turn : IsTurn was es e ts t) where
  module _ (th : text_faithful) where
    stack_below : (stack : List (List ℕ)) → StandsFor text x stack → stack ≡ x ∷ stack_of (entries_onto turn.undone.older es) (restore (kept_of e.kept) x)
    stack_below stack stands =
        stands.stack_is ∙ ap (λ fs. stack_of fs x) (entries_same turn th stands.entries stands.reads) ∙ top_of (entry_of e) (entries_onto turn.undone.older es) x

    shape_of : (stack : List (List ℕ)) → StandsFor text x stack → stack ≡ x ∷ drop 1 stack
    shape_of stack stands = let is = stack_below stack stands in is ∙ ap (λ s. x ∷ drop 1 s) (sym is)

    takes_back : (stack : List (List ℕ)) → IsAtRest text x stack → TakesBack text x (drop 1 stack) e.version (entry_of e) e.begins e.saved
    takes_back stack rest =
        let moved : IsAtRest text x (x ∷ drop 1 stack) = subst (IsAtRest text x) (shape_of stack rest.stands) rest in
        record { rest = moved; entries = entries_onto turn.undone.older es; newest = entries_same turn th moved.stands.entries moved.stands.reads; marks = marks_at turn th }

    stands_below : {new z : List ℕ} → new ≡ take e.begins text → z ≡ restore (kept_of e.kept) x → (stack : List (List ℕ)) → StandsFor text x stack → StandsFor new z (drop 1 stack)
    stands_below cut restored stack stands =
        let es_below : List Entry = entries_onto turn.undone.older es in
        let lengths : HaveLengths (entry_of e ∷ es_below) x = subst (λ fs. HaveLengths fs x) (entries_same turn th stands.entries stands.reads) stands.lengths in
        let left = finished_below turn th cut in
        record {
          entries = es_below;
          reads = left.reads;
          whole = left.whole;
          lengths = subst (HaveLengths es_below) (sym restored) lengths.1;
          stack_is = ap (drop 1) (stack_below stack stands) ∙ ap (stack_of es_below) (sym restored);
        }

    undoes_one : faithful → (s : Images) → StandsFor text x s.stack → UndoesOne (change_back e) e.kept x s (entry_of e) (kept_of t) (drop 1 s.stack)
    undoes_one h s stands =
        let es_below : List Entry = entries_onto turn.undone.older es in
        let long : length (drop 1 s.stack) ≡ suc (length es_below) = ap (λ k. length (drop 1 k)) (stack_below s.stack stands) ∙ length-stack_of es_below (restore (kept_of e.kept) x) in
        let bounded : AreBounded (entry_of e ∷ es_below) = subst AreBounded (entries_same turn th stands.entries stands.reads) (read_bounded (split text).lines (record { entries = stands.entries; stage = Between }) stands.reads.lines).0 in
        let taken = (turn.ready th h).0 in
        record {
          stack_is = shape_of s.stack stands;
          some = omega (arith, long);
          restores = record { restores = record { base = refl; writes = refl }; within = within_out e.kept.len e.kept.runs turn.kept.1; kept = refl };
          fits = bounded.0;
          taken_is = record {
            len = taken.len;
            is = λ far. let kept = taken.is far in (kept.of_x, kept_back (kept_of e.kept) x (kept_of t) kept);
          };
        }

    -- stopped in the turn
    pub rest_stops : {new y : List ℕ} {k : ℕ} → i < k → (stack : List (List ℕ)) → IsAtRest text x (drop i stack)
        → ((below : List (List ℕ)) → TakesBack text x below e.version (entry_of e) e.begins e.saved → RecoversEither new y (x ∷ below) below)
        → (j : ℕ) × (j ≤ k) × Recovers new y (drop j stack)
    rest_stops {new = new} {y = y} less stack rest stops =
        elim (stops (drop 1 (drop i stack)) (takes_back (drop i stack) rest)) [
          | inl f ↦ (i, omega (arith, less), subst (Recovers new y) (sym (shape_of (drop i stack) rest.stands)) f)
          | inr f ↦ (i + 1, omega (arith, less), subst (Recovers new y) (drop_one i stack) f)
        ]

    pub undo_stopped : {redo new y redo_new : List ℕ} {n k : ℕ} → faithful → i < k → (s : Images) → AreAtRest text x redo (undo_of i s) → n ≡ length (undo_of i s).undone
        → ((below : List (List ℕ)) → TakesBack text x below e.version (entry_of e) e.begins e.saved
        → LeavesEither new y redo_new (side_of (x ∷ below) x redo) (side_of below (restore (kept_of e.kept) x) (kept_text redo (kept_of t) (n + 1) e.kept.len)))
        → (j : ℕ) × (j ≤ k) × Finds new y redo_new (undo_of j s)
    undo_stopped {redo = redo} {new = new} {y = y} {redo_new = redo_new} {n = n} h less s rest count stops =
        let below : List (List ℕ) = drop 1 (drop i s.stack) in
        let number : n + 1 ≡ suc (length (undo_of i s).undone) = omega (arith, count) in
        let leaves = subst (λ m. LeavesEither new y redo_new (side_of (x ∷ below) x redo) (side_of below (restore (kept_of e.kept) x) (kept_text redo (kept_of t) m e.kept.len))) number
        (stops below (takes_back (drop i s.stack) rest.rest)) in
        elim (undo_stops (change_back e) e.kept text x redo new y redo_new (undo_of i s) (entry_of e) (kept_of t) below rest (undoes_one h (undo_of i s) rest.rest.stands) leaves) [
          | inl f ↦ (i, omega (arith, less), f)
          | inr f ↦ (i + 1, omega (arith, less), subst (Finds new y redo_new) (sym (undo_next i s)) f)
        ]

  -- behind the turn
  module _ {redo_faithful : Type 0} {redo new z redo_new : List ℕ} {n : ℕ} (back : IsTakenBack text_faithful faithful redo_faithful text x redo new z redo_new e t n) where
    pub rests_below : text_faithful → faithful → (stack : List (List ℕ)) → IsAtRest text x (drop i stack) → IsAtRest new z (drop (i + 1) stack)
    rests_below th h stack rest = subst (IsAtRest new z) (drop_one i stack) (back.rests h th (drop 1 (drop i stack)) (takes_back th (drop i stack) rest))

    pub stood_below : text_faithful → faithful → (stack : List (List ℕ)) → StandsFor text x (drop i stack) → StandsFor new z (drop (i + 1) stack)
    stood_below th h stack stands = subst (StandsFor new z) (drop_one i stack) (stands_below th (back.cut th) (back.restored th h) (drop i stack) stands)

    pub undone_next : text_faithful → faithful → redo_faithful → (s : Images) → AreStanding text x redo (undo_of i s) → n ≡ length (undo_of i s).undone
        → AreStanding new z redo_new (undo_of (i + 1) s) × ((if nat_le t.len MAX_LEN then n + 1 else 0) ≡ length (undo_of (i + 1) s).undone)
    undone_next th h rh s both count =
        let p : Images = undo_of i s in
        let below : List (List ℕ) = drop 1 p.stack in
        let one = undoes_one th h p both.stands in
        let number : n + 1 ≡ suc (length p.undone) = omega (arith, count) in
        let redo_is = redo_part (change_back e) e.kept x redo z redo_new p (entry_of e) (kept_of t) below both.undone one (back.restored th h) (back.kept rh ∙ ap (λ m. kept_text redo (kept_of t) m e.kept.len) number) in
        let done : AreStanding new z redo_new (undo_of 1 p) = subst (AreStanding new z redo_new) (sym (undo_one p x below one.stack_is))
        (record { stands = stands_below th (back.cut th) (back.restored th h) p.stack both.stands; undone = redo_is }) in
        let many : (if nat_le t.len MAX_LEN then n + 1 else 0) ≡ length (undo_of 1 p).undone =
        ap (λ m. if nat_le m MAX_LEN then n + 1 else 0) one.taken_is.len ∙ ap (λ m. if nat_le (length x) MAX_LEN then m + 1 else 0) count
        ∙ sym (length_with x p.undone) ∙ sym (ap length (undone_one p x below one.stack_is)) in (
          subst (AreStanding new z redo_new) (sym (undo_next i s)) done,
          many ∙ sym (ap (λ (q : Images). length q.undone) (undo_next i s)),
        )

    -- the room that is left
    pub room_left : (filled : List (Saved A)) {limit more : ℕ} → redo_faithful → length redo + entries_len records ≤ limit → limit ≤ more → entries_len filled ≡ entries_len ts → length redo_new + entries_len filled ≤ more
    room_left filled {more = more} rh fits rises same = by_test (nat_le t.len MAX_LEN) (back.kept rh)
      where
        by_test : (b : Bool) → redo_new ≡ (if b then redo ++ entry_text (n + 1) (kept_of t) e.kept.len else []) → length redo_new + entries_len filled ≤ more
        by_test true is = omega (arith, ap length is, length-append redo (entry_text (n + 1) (kept_of t) e.kept.len), entry_long (n + 1) 0 (kept_of t) (kept_of t) e.kept.len 0 refl, turn.lens, fits, rises, same)
        by_test false is = omega (arith, ap length is, turn.lens, fits, rises, same)

    -- what the records that are left lead on to
    pub taken_next : text_faithful → faithful → redo_faithful → {m : ℕ} → m ≡ (if nat_le t.len MAX_LEN then n + 1 else 0) → (filled : List (Saved A)) → length filled ≡ length ts → (fs : List Entry) → IsFinished first fs
        → (last : List ℕ) → AreKept (length filled) (drop (i + 1) fs) z m redo_new last → AreKept (length records) (drop i fs) x n redo last
    taken_next th h rh {m = m} number filled count fs finished last left =
        let below : List Entry = entries_onto turn.undone.older es in
        let same : drop i fs ≡ entry_of e ∷ below = entries_same turn th (drop i fs) (was.dropped th fs finished).reads in
        let rest : drop (i + 1) fs ≡ below = sym (drop_one i fs) ∙ ap (drop 1) same in
        let most : suc (length ts) ≡ length records = omega (arith, turn.most) in
        let y : List ℕ = restore (kept_of e.kept) x in
        let turned : AreKept (length ts) below y (if nat_le t.len MAX_LEN then n + 1 else 0) (kept_text redo (kept_of t) (n + 1) e.kept.len) last =
        subst (λ r. AreKept (length ts) below y (if nat_le t.len MAX_LEN then n + 1 else 0) r last) (back.kept rh)
        (subst (λ j. AreKept (length ts) below y j redo_new last) number
        (subst (λ w. AreKept (length ts) below w m redo_new last) (back.restored th h)
        (subst (λ gs. AreKept (length ts) gs z m redo_new last) rest
        (subst (λ k. AreKept k (drop (i + 1) fs) z m redo_new last) count left)))) in
        subst (λ gs. AreKept (length records) gs x n redo last) (sym same)
        (subst (λ k. AreKept k (entry_of e ∷ below) x n redo last) most (kept_turned (length ts) e t below x redo last n (turn.ready th h).0 turned))
