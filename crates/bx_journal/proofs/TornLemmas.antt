-- What is unfinished at the end of a journal's text, and what opening leaves of it.
use Rattle.std.proofs.Common.{◌≡◌, ℕ, suc, ◌+◌, ◌≤◌, List, [], ◌∷◌, ◌++◌, length, length-append, length-drop, take, take_all, drop, true, refl, ap, sym, ◌∙◌, subst, inl, arith, Some, None}
use Rattle.std.specs.Prelude.{IfSome}
use Rattle.std.proofs.lemmas.List.{take-append-drop}
use Rattle.bx_image.specs.Change.{restore}
use Rattle.bx_journal_format.specs.Kept.{Kept}
use Rattle.bx_journal_format.specs.Finished.{IsFinished}
use Rattle.bx_journal_format.specs.Shown.{shown}
use Rattle.bx_journal_format.specs.Text.{Entry, Stage, Between, Saving, Ending, Reading, Reads, IsRest, split, start, after_lines, may_begin}
use Rattle.bx_journal_format.specs.declared.format.version.Version.{Version}
use Rattle.bx_journal_format.specs.count.Mark.{IsMark}
use Rattle.bx_journal_format.proofs.ShownLemmas.{shown_is_front, shown_short, take_shown}
use Rattle.bx_journal_model.specs.declared.mark.Mark.{Mark}
use Rattle.bx_journal_read.specs.declared.scan.torn.Torn.{Torn}
use Rattle.bx_journal_model.specs.declared.answers.RecoveryOutcome.{RecoveryOutcome}
use Rattle.bx_journal_model.specs.declared.answers.RecoveryOutcome.TheVariants.{Dropped, Restored}
use Rattle.bx_journal_model.specs.Calls.{how_of}
use Rattle.bx_journal_model.specs.Opening.{IsOpened, left_over}
use Rattle.bx_journal_model.specs.Redo.{IsClean}
use Rattle.bx_journal_model.specs.Stack.{HaveLengths, Recovers, image_at, stack_of}
use Rattle.bx_journal_model.specs.Undoing.{HasLeft}
use Rattle.bx_journal_read.specs.scan.Recovery.{HasMark, IsTorn}
use Rattle.bx_journal_model.specs.Restoring.{StandsAt}
use Rattle.bx_journal_model.specs.Step.{HasTail}
use Rattle.bx_journal_read.proofs.OpenLemmas.{begins_told}
use Rattle.bx_journal_model.proofs.ReadingLemmas.{IsSane, have_lengths, length-restore, read_sane}
use Rattle.bx_journal_model.proofs.Tails.{counted_stack, tail_of}

same_reading : (q r : Reading) → Some q ≡ Some r → q ≡ r
same_reading q r e = cc

-- a text is read in one way
pub torn_once : (text bytes : List ℕ) (t : Torn) (q r : Reading) → IsTorn bytes q t → text ≡ bytes → Reads text r → q ≡ r
torn_once text bytes t q r torn same reads = same_reading q r (sym torn.reads.lines ∙ (subst (λ u. Reads u r) same reads).lines)

pub torn_tail : (text bytes x : List ℕ) (stack : List (List ℕ)) (t : Torn) (r : Reading) → IsTorn bytes r t → text ≡ bytes → Recovers text x stack → HasTail text x stack r.entries r.stage t.begins
torn_tail text bytes x stack t r torn same rec =
    tail_of text x stack r.entries r.stage t.begins rec (subst (λ u. Reads u r) (sym same) torn.reads)
    (subst (λ u. IsMark u t.begins (record { entries = r.entries; stage = Between })) (sym same) torn.begins)

pub torn_stack : (text bytes x : List ℕ) (stack : List (List ℕ)) (t : Torn) (r : Reading) → IsTorn bytes r t → text ≡ bytes → Recovers text x stack → length stack ≡ suc t.count
torn_stack text bytes x stack t r torn same rec = counted_stack text x stack r.entries r.stage t.begins (torn_tail text bytes x stack t r torn same rec) ∙ ap suc (sym torn.count)

pub torn_begins : (text bytes : List ℕ) (t : Torn) (r : Reading) → IsTorn (shown bytes) r t → text ≡ bytes → t.begins ≤ length text
torn_begins text bytes t r torn same = omega (arith, torn.begins.within, ap length same, shown_short bytes)

-- where no record stands the image is as it was
unmarked_image : (text : List ℕ) (stage : Stage) (x : List ℕ) → HasMark text stage None → image_at stage x ≡ x
unmarked_image text Between x h = refl
unmarked_image text (Saving v s) x h = refl
unmarked_image text (Ending v s) x h = absurd h

pub torn_same : (text x : List ℕ) (t : Torn) (r : Reading) → IsTorn text r t → t.mark ≡ None → image_at r.stage x ≡ x
torn_same text x t r torn none = unmarked_image text r.stage x (subst (HasMark text r.stage) none torn.mark)

-- and where one stands its change was under way
pub record IsUnderWay (text : List ℕ) (stage : Stage) (m : Mark) : Type 0 where
  pub version : Version
  pub record_ : Kept
  pub is : stage ≡ Ending version record_
  pub stands : StandsAt text m record_

marked_stage : (text : List ℕ) (stage : Stage) (m : Mark) → HasMark text stage (Some m) → IsUnderWay text stage m
marked_stage text Between m h = absurd h
marked_stage text (Saving v s) m h = absurd h
marked_stage text (Ending v s) m h = record { version = v; record_ = s; is = refl; stands = h }

pub torn_way : (text : List ℕ) (t : Torn) (r : Reading) (m : Mark) → IsTorn text r t → t.mark ≡ Some m → IsUnderWay text r.stage m
torn_way text t r m torn some = marked_stage text r.stage m (subst (HasMark text r.stage) some torn.mark)

-- a record that stands in what is read of a text stands in the text
pub stands_shown : (text : List ℕ) (m : Mark) (s : Kept) → StandsAt (shown text) m s → StandsAt text m s
stands_shown text m s st =
    let begins : take m.lines (shown text) ≡ take m.lines text = sym (take_shown m.lines text st.begins.within) in
    let ends : take m.saved (shown text) ≡ take m.saved text = sym (take_shown m.saved text st.ends.within) in
    record {
      entries = st.entries;
      version = st.version;
      len = st.len;
      begins = record {
        within = omega (arith, st.begins.within, shown_short text);
        lines = subst (λ u. after_lines start (split u).lines ≡ Some (record { entries = st.entries; stage = Saving st.version (record { len = m.len; runs = [] }) })) begins st.begins.lines;
        whole = subst (λ u. (split u).rest ≡ []) begins st.begins.whole;
      };
      ends = record {
        within = omega (arith, st.ends.within, shown_short text);
        lines = subst (λ u. after_lines start (split u).lines ≡ Some (record { entries = st.entries; stage = Ending st.version s })) ends st.ends.lines;
        whole = subst (λ u. (split u).rest ≡ []) ends st.ends.whole;
      };
      order = st.order;
    }

pub stands_in : (text bytes : List ℕ) (m : Mark) (s : Kept) → text ≡ bytes → StandsAt (shown bytes) m s → StandsAt text m s
stands_in text bytes m s same st = subst (λ u. StandsAt u m s) (sym same) (stands_shown bytes m s st)

-- nothing is left over only behind finished entries alone
left_clean : (bytes : List ℕ) (es : List Entry) → Reads (shown bytes) (record { entries = es; stage = Between }) → left_over bytes ≡ [] → IsClean bytes
left_clean bytes es reads none =
    let long : length (split (shown bytes)).rest + length (drop (length (shown bytes)) bytes) ≡ 0 = sym (length-append (split (shown bytes)).rest (drop (length (shown bytes)) bytes)) ∙ ap length none in
    let rest : (split (shown bytes)).rest ≡ [] = nothing (split (shown bytes)).rest (omega (arith, long)) in
    let all : length bytes ≤ length (shown bytes) = omega (arith, long, length-drop (length (shown bytes)) bytes) in
    let same : shown bytes ≡ bytes = shown_is_front bytes ∙ take_all (length (shown bytes)) bytes all in
    (es, subst (λ u. IsFinished u es) same (record { reads = reads; whole = rest }))
  where
    nothing : (xs : List ℕ) → length xs ≡ 0 → xs ≡ []
    nothing [] h = refl
    nothing (x ∷ xs) h = absurd (omega (arith, h))

-- what is unfinished without a save line is dropped
dropped_at : (bytes : List ℕ) (es : List Entry) (stage : Stage) → Reads (shown bytes) (record { entries = es; stage = stage }) → HasMark (shown bytes) stage None → (IsClean bytes → ⊥)
    → Dropped ≡ how_of (record { entries = es; stage = stage }) (left_over bytes)
dropped_at bytes es (Saving v s) reads h unclean = refl
dropped_at bytes es (Ending v s) reads h unclean = absurd h
dropped_at bytes es Between reads h unclean = by (left_over bytes) (λ none. unclean (left_clean bytes es reads none))
  where
    by : (rest : List ℕ) → (rest ≡ [] → ⊥) → Dropped ≡ how_of (record { entries = es; stage = Between }) rest
    by [] some = absurd (some refl)
    by (b ∷ rest) some = refl

pub torn_dropped : (bytes : List ℕ) (t : Torn) (r : Reading) → IsTorn (shown bytes) r t → t.mark ≡ None → (IsClean bytes → ⊥) → Dropped ≡ how_of r (left_over bytes)
torn_dropped bytes t r torn none unclean = dropped_at bytes r.entries r.stage torn.reads (subst (HasMark (shown bytes) r.stage) none torn.mark) unclean

pub torn_restored : (bytes : List ℕ) (t : Torn) (r : Reading) (v : Version) (s : Kept) → IsTorn (shown bytes) r t → r.stage ≡ Ending v s → Restored (t.count + 1) ≡ how_of r (left_over bytes)
torn_restored bytes t r v s torn is =
    let number : t.count + 1 ≡ suc (length r.entries) = omega (arith, torn.count) in
    ap Restored number ∙ ap (λ stage. how_of (record { entries = r.entries; stage = stage }) (left_over bytes)) (sym is)

-- what is left where the text is cut at the place at which what is unfinished begins
pub torn_opened : (text bytes x new y : List ℕ) (t : Torn) (r : Reading) (how : RecoveryOutcome) (changes : ℕ) → IsTorn (shown bytes) r t → text ≡ bytes → HaveLengths r.entries (image_at r.stage x)
    → y ≡ image_at r.stage x → new ≡ take t.begins text → changes ≡ t.count → how ≡ how_of r (left_over bytes) → IsOpened text x r new y how changes
torn_opened text bytes x new y t r how changes torn same lengths image cut counted is =
    let es : List Entry = r.entries in
    let mark = torn.begins in
    let kept : new ≡ take t.begins (shown bytes) = cut ∙ ap (take t.begins) same ∙ take_shown t.begins bytes mark.within in
    let reads : Reads (take t.begins (shown bytes)) (record { entries = es; stage = Between }) = record { lines = mark.lines; rest = subst (IsRest es Between) (sym mark.whole) (inl refl) } in
    record {
      stands = record {
        entries = es;
        reads = subst (λ u. Reads u (record { entries = es; stage = Between })) (sym kept) reads;
        whole = ap (λ u. (split u).rest) kept ∙ mark.whole;
        lengths = subst (HaveLengths es) (sym image) lengths;
        stack_is = ap (stack_of es) (sym image);
      };
      changes_are = counted ∙ torn.count;
      how_is = is ∙ ap (λ u. how_of r (left_over u)) (sym same);
    }

pub torn_left : (text bytes new : List ℕ) (t : Torn) (r : Reading) → IsTorn (shown bytes) r t → text ≡ bytes → new ≡ take t.begins text → HasLeft text new r.entries
torn_left text bytes new t r torn same cut =
    let es : List Entry = r.entries in
    let n : ℕ = t.begins in
    let mark = torn.begins in
    let reads : Reads (take n (shown bytes)) (record { entries = es; stage = Between }) = record { lines = mark.lines; rest = subst (IsRest es Between) (sym mark.whole) (inl refl) } in
    let finished : IsFinished (take n (shown bytes)) es = record { reads = reads; whole = mark.whole } in
    record {
      front = (drop n text, sym (take-append-drop n text) ∙ ap (λ u. u ++ drop n text) (sym cut));
      finished = subst (λ u. IsFinished u es) (sym (cut ∙ ap (take n) same ∙ take_shown n bytes mark.within)) finished;
    }

-- the lengths that the finished entries record
pub torn_early : (text x : List ℕ) (t : Torn) (r : Reading) → IsTorn text r t → t.mark ≡ None → IfSome t.told (λ n. length x ≡ n) → HaveLengths r.entries (image_at r.stage x)
torn_early text x t r torn none told =
    let sane : IsSane r = read_sane (split text).lines r torn.reads.lines in
    subst (HaveLengths r.entries) (sym (torn_same text x t r torn none))
    (have_lengths r.entries x sane.0 (begins_told r.entries (length x) (subst (λ o. IfSome o (λ n. length x ≡ n)) torn.told told)))

pub torn_under_way : (text x : List ℕ) (t : Torn) (r : Reading) (v : Version) (s : Kept) → IsTorn text r t → r.stage ≡ Ending v s → HaveLengths r.entries (image_at r.stage x)
torn_under_way text x t r v s torn is =
    let sane : IsSane (record { entries = r.entries; stage = Ending v s }) = subst (λ stage. IsSane (record { entries = r.entries; stage = stage })) is (read_sane (split text).lines r torn.reads.lines) in
    let may : may_begin r.entries (length (restore s x)) ≡ true = ap (may_begin r.entries) (length-restore s x) ∙ sane.1.1 in
    subst (λ stage. HaveLengths r.entries (image_at stage x)) (sym is) (have_lengths r.entries (restore s x) sane.0 may)
