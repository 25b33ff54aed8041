-- Behind a change, an undo and a redo leave the very text of the journal.
use Rattle.std.proofs.Common.{◌≡◌, ℕ, zero, suc, ◌<◌, ◌≤◌, List, [], ◌∷◌, ◌++◌, length, drop, take, refl, ap, sym, ◌∙◌, subst, inl, inr, arith, Some, None, append-nil}
use Rattle.std.specs.Prelude.{nat_le, true, if◌then◌else◌}
use Rattle.std.proofs.lemmas.Bool.{cases_lt}
use Rattle.std.proofs.lemmas.Bool.Decides.{nat_tests}
use Rattle.std.proofs.lemmas.List.{take-append-drop, take_all}
use Rattle.bx_image.specs.declared.change.Change.{Change}
use Rattle.bx_image.specs.declared.change.TheConstants.{MAX_LEN}
use Rattle.bx_image.specs.Change.{byte_in, effect, restore, saved, AreBytes, IsOf}
use Rattle.bx_image.proofs.Records.{KeepsUntouched-effect, len-saved, restore-saved, saved-maximal}
use Rattle.bx_journal_format.specs.Kept.{Kept, kept_of, with_run}
use Rattle.bx_journal_format.specs.Entry.{entry_text}
use Rattle.bx_journal_format.specs.Finished.{IsFinished}
use Rattle.bx_journal_format.specs.Text.{Entry, Stage, Between, Saving, Ending, Reading, Reads, Split, split, text_of_lines, start, after_lines, next}
use Rattle.bx_journal_format.proofs.CalmLemmas.{lines_count}
use Rattle.bx_journal_format.proofs.Foreign.{joined_lines}
use Rattle.bx_journal_format.proofs.KeptLemmas.{is_of_in, same_byte, same_restore}
use Rattle.bx_journal_format.proofs.Inverse.{bind_some, next_between, next_saving, next_ending}
use Rattle.bx_journal_format.proofs.Runs.{after_lines-append}
use Rattle.bx_journal_format.proofs.Splits.{split-append}
use Rattle.bx_journal_model.specs.Laws.{HasBytes}
use Rattle.bx_journal_model.specs.Redo.{IsRedoOf}
use Rattle.bx_journal_model.specs.RedoLaws.{IsWrittenAgain}
use Rattle.bx_journal_model.specs.Stack.{StandsFor}
use Rattle.bx_journal_model.specs.Taken.{taken, taken_by, AreKept, IsKeptOf}
use Rattle.bx_journal_model.specs.Undoing.{HasLeft}
use Rattle.bx_journal.proofs.AgainTaken.{saved_is_of, taken_again}
use Rattle.bx_journal_protocol.proofs.LeftOut.{kept_back}
use Rattle.bx_journal_protocol.proofs.LawProofs.{written_is_read}
use Rattle.bx_journal_protocol.proofs.Performed.{performed, restored_same, top_of_stands}
use Rattle.bx_journal_protocol.proofs.RedoText.{one_reading}
use Rattle.bx_journal_model.proofs.Phases.{length-stack_of, may_begin_of}

abbrev between : List Entry → Reading
between es = record { entries = es; stage = Between }

-- Whole lines that leave a text between two entries, with no entry more, are none
abbrev IsWithin : Stage → Type 0
IsWithin Between = ⊥
IsWithin (Saving v s) = Unit {0}
IsWithin (Ending v s) = Unit {0}

-- an entry that was begun ends as one more
begun_counts : (ls : List (List ℕ)) (es : List Entry) (stage : Stage) (fs : List Entry) → IsWithin stage → after_lines (record { entries = es; stage = stage }) ls ≡ Some (between fs) → length es < length fs
unfolding after_lines
begun_counts [] es Between fs in_ e = absurd in_
begun_counts [] es (Saving v s) fs in_ e = let same : Saving v s ≡ Between = ap (λ (r : Reading). r.stage) (one_reading e) in absurd (subst IsWithin same tt)
begun_counts [] es (Ending v s) fs in_ e = let same : Ending v s ≡ Between = ap (λ (r : Reading). r.stage) (one_reading e) in absurd (subst IsWithin same tt)
begun_counts (l ∷ ls) es Between fs in_ e = absurd in_
begun_counts (l ∷ ls) es (Saving v s) fs in_ e =
    let b = bind_some (λ p. after_lines p ls) (next (record { entries = es; stage = Saving v s }) l) (between fs) e in
    elim (next_saving es v s l b.0 b.1) [
      | inl is ↦ begun_counts ls es (Ending v s) fs tt (subst (λ r. after_lines r ls ≡ Some (between fs)) is.1 b.2)
      | inr is ↦ begun_counts ls es (Saving v (record { len = s.len; runs = with_run s.runs is.1 })) fs tt (subst (λ r. after_lines r ls ≡ Some (between fs)) is.2 b.2)
    ]
begun_counts (l ∷ ls) es (Ending v s) fs in_ e =
    let b = bind_some (λ p. after_lines p ls) (next (record { entries = es; stage = Ending v s }) l) (between fs) e in
    let n = next_ending es v s l b.0 b.1 in
    omega (arith, ap (λ (r : Reading). length r.entries) n.1, lines_count ls b.0 (between fs) b.2)

no_lines : (ls : List (List ℕ)) (es : List Entry) → after_lines (between es) ls ≡ Some (between es) → ls ≡ []
unfolding after_lines
no_lines [] es e = refl
no_lines (l ∷ ls) es e =
    let b = bind_some (λ p. after_lines p ls) (next (between es) l) (between es) e in
    let n = next_between es l b.0 b.1 in
    let stage : Stage = n.0 in
    let begun = n.1 in
    let in_ : IsWithin stage = subst IsWithin (sym begun.7) tt in
    let less : length es < length es = begun_counts ls es stage es in_ (subst (λ r. after_lines r ls ≡ Some (between es)) n.2 b.2) in
    absurd (omega (arith, less))

-- a text of finished entries with more behind it, which is the same entries alone, has nothing more
nothing_behind : (a d : List ℕ) (es : List Entry) → IsFinished a es → IsFinished (a ++ d) es → d ≡ []
nothing_behind a d es short long =
    let parts : split (a ++ d) ≡ record { lines = (split a).lines ++ (split d).lines; rest = (split d).rest } = split-append a d short.whole in
    let on : after_lines (between es) (split d).lines ≡ Some (between es) =
    sym (after_lines-append start (between es) (split a).lines (split d).lines short.reads.lines) ∙ ap (λ (s : Split). after_lines start s.lines) (sym parts) ∙ long.reads.lines in
    let whole : (split d).rest ≡ [] = sym (ap (λ (s : Split). s.rest) parts) ∙ long.whole in
    sym (joined_lines d whole) ∙ ap text_of_lines (no_lines (split d).lines es on)

-- two fronts of one text that are the same entries are one
take_front : (a z : List ℕ) (n : ℕ) → n ≤ length a → take n (a ++ z) ≡ take n a
take_front a z zero low = refl
take_front [] z (suc n) low = absurd (omega arith)
take_front (b ∷ a) z (suc n) low = ap (λ t. b ∷ t) (take_front a z n (omega arith))

shorter : (a b y z : List ℕ) (es : List Entry) → a ++ y ≡ b ++ z → length a ≤ length b → IsFinished a es → IsFinished b es → a ≡ b
shorter a b y z es same low one two =
    let front : a ≡ take (length a) b = sym (take_all (length a) a (omega arith)) ∙ sym (take_front a y (length a) (omega arith)) ∙ ap (take (length a)) same ∙ take_front b z (length a) low in
    let whole : a ++ drop (length a) b ≡ b = ap (λ t. t ++ drop (length a) b) front ∙ take-append-drop (length a) b in
    let none : drop (length a) b ≡ [] = nothing_behind a (drop (length a) b) es one (subst (λ t. IsFinished t es) (sym whole) two) in
    sym (append-nil a) ∙ ap (λ t. a ++ t) (sym none) ∙ whole

pub one_front : (a b y z : List ℕ) (es : List Entry) → a ++ y ≡ b ++ z → IsFinished a es → IsFinished b es → a ≡ b
one_front a b y z es same one two = elim (cases_lt (length a) (length b)) [
  | inl less ↦ shorter a b y z es same (omega arith) one two
  | inr most ↦ sym (shorter b a z y es (sym same) (omega arith) two one)
]

-- an entry behind a text that stands for a stack
record IsWrittenTo (text new x y : List ℕ) (s : Kept) (n : ℕ) : Type 0 where
  entry : Entry
  entries : List Entry
  finished : IsFinished new (entry ∷ entries)
  bytes : HasBytes entry s (length y)
  before : IsFinished text entries

written_to : (text new x y : List ℕ) (stack : List (List ℕ)) (s : Kept) (n : ℕ) → StandsFor text x stack → length stack ≡ suc n → suc n ≤ 65535 → IsOf s x → length x ≤ MAX_LEN → length y ≤ MAX_LEN → restore s y ≡ x
    → new ≡ text ++ entry_text (suc n) s (length y) → IsWrittenTo text new x y s n
written_to text new x y stack s n st many few is long most back written =
    let es : List Entry = st.entries in
    let count : length stack ≡ suc (length es) = ap length st.stack_is ∙ length-stack_of es x in
    let fits : s.len ≤ MAX_LEN = omega (arith, is.len, long) in
    let none : Change (Unit {0}) = record { base = None; writes = [] } in
    let text_is : new ≡ text ++ entry_text (length stack) s (length y) = written ∙ ap (λ k. text ++ entry_text k s (length y)) (sym many) in
    let done = performed none text new x y stack s (length y) st (omega (arith, many, few)) is fits most refl back text_is in
    let w = written_is_read text es s (length y) st.reads st.whole (omega (arith, count, many, few)) fits most is.within is.bytes (may_begin_of es x s.len st.lengths is.len) in
    let read : Reads new (between (w.0 ∷ es)) = subst (λ t. Reads t (between (w.0 ∷ es))) (sym (text_is ∙ ap (λ k. text ++ entry_text k s (length y)) count)) w.2 in
    record {
      entry = w.0;
      entries = es;
      finished = record { reads = read; whole = done.whole };
      bytes = w.1;
      before = record { reads = st.reads; whole = st.whole };
    }

-- one turn of an image that an entry can tell
one_taken : (new : List ℕ) (e : Entry) (es : List Entry) (x text : List ℕ) (n m : ℕ) → length x ≤ MAX_LEN → e.saved.len ≡ m → new ≡ taken_by 1 (e ∷ es) x n text → new ≡ text ++ entry_text (suc n) (taken e.saved x) m
one_taken new e es x text n m low long taken_so =
    let is : nat_le (length x) MAX_LEN ≡ true = grind (arith, nat_tests) in
    taken_so ∙ ap (λ b. if b then text ++ entry_text (suc n) (taken e.saved x) e.saved.len else []) is ∙ ap (λ k. text ++ entry_text (suc n) (taken e.saved x) k) long

-- one turn of an undo, and what it keeps below the length that it leaves
one_kept : (new : List ℕ) (e : Entry) (es : List Entry) (x text : List ℕ) (n m : ℕ) → length x ≤ MAX_LEN → e.saved.len ≡ m → AreKept 1 (e ∷ es) x n text new
    → (s : Kept) × IsKeptOf e.saved x s × (new ≡ text ++ entry_text (suc n) s m)
one_kept new e es x text n m low long kept =
    let is : nat_le (length x) MAX_LEN ≡ true = grind (arith, nat_tests) in
    (kept.0, kept.1 low, kept.2 ∙ ap (λ b. if b then text ++ entry_text (suc n) kept.0 e.saved.len else []) is ∙ ap (λ k. text ++ entry_text (suc n) kept.0 k) long)

kept_below : (e : Kept) (x : List ℕ) (s : Kept) → IsKeptOf e x s → (i : ℕ) → i < e.len → byte_in s.runs i ≡ byte_in (taken e x).runs i
kept_below e x s kept i low = elim (kept.zeros.bytes i) [
  | inl same ↦ same
  | inr out ↦ absurd (omega (arith, low, out.0))
]

-- two texts of one entry behind one text
same_text : (new text left older : List ℕ) (t s : Kept) (n m : ℕ) → new ≡ left ++ entry_text n t m → t ≡ s → left ≡ older → text ≡ older ++ entry_text n s m → new ≡ text
same_text new text left older t s n m written same left_is text_is = written ∙ ap (λ k. left ++ entry_text n k m) same ∙ ap (λ u. u ++ entry_text n s m) left_is ∙ sym text_is

pub written_again : {A : Type 0} (c : Change A) (x older text left redo kept new : List ℕ) (stack undone : List (List ℕ)) (n : ℕ) → StandsFor older x stack → length stack ≡ suc n → IsRedoOf redo (effect c x) (suc n) undone
    → length x ≤ MAX_LEN → length (effect c x) ≤ MAX_LEN → AreBytes x → AreBytes (effect c x)
    → text ≡ older ++ entry_text (suc n) (kept_of (saved c x)) (length (effect c x))
    → ((es : List Entry) → IsFinished text es → AreKept 1 es (effect c x) (length undone) redo kept)
    → ((es : List Entry) → IsFinished text es → HasLeft text left (drop 1 es))
    → ((es : List Entry) → IsFinished kept es → new ≡ taken_by 1 es x n left)
    → new ≡ text
written_again c x older text left redo kept new stack undone n st many r long most bytes bytes_behind text_is keeps leaves grows =
    let y : List ℕ = effect c x in
    let s : Kept = kept_of (saved c x) in
    let s_back : restore s y ≡ x = same_restore (saved c x) y ∙ restore-saved c x y (KeepsUntouched-effect c x) in
    let w = written_to older text x y stack s n st many (omega (arith, r.few)) (is_of_in (saved c x) x (saved_is_of c x bytes)) long most s_back text_is in
    let e : Entry = w.entry in
    let back : restore e.saved y ≡ x = restored_same e s (length y) y w.bytes ∙ s_back in
    let len : e.saved.len ≡ length x = w.bytes.len ∙ len-saved c x in
    let one = one_kept kept e w.entries y redo (length undone) (length x) most len (keeps (e ∷ w.entries) w.finished) in
    let t : Kept = one.0 in
    let kept_so : IsKeptOf e.saved y t = one.1 in
    let again : restore t x ≡ y = ap (restore t) (sym back) ∙ kept_back e.saved y t kept_so in
    let w2 = written_to redo kept y x (y ∷ undone) t (length undone) r.stands refl (omega (arith, r.few)) kept_so.of_x most long again one.2 in
    let f : Entry = w2.entry in
    let f_len : f.saved.len ≡ length y = w2.bytes.len ∙ kept_so.of_x.len in
    let same : taken f.saved x ≡ s =
    taken_again c x e.saved f.saved len (λ i. w.bytes.bytes i ∙ same_byte (saved c x).runs i ∙ (saved-maximal c x).same i) f_len
    (λ i low. w2.bytes.bytes i ∙ kept_below e.saved y t kept_so i (omega (arith, low, len))) in
    let left_is : left ≡ older =
    let l = leaves (e ∷ w.entries) w.finished in
    one_front left older l.front.0 (entry_text (suc n) s (length y)) w.entries (sym l.front.1 ∙ text_is) l.finished w.before in
    same_text new text left older (taken f.saved x) s (suc n) (length y) (one_taken new f w2.entries x left n (length y) long f_len (grows (f ∷ w2.entries) w2.finished)) same left_is text_is

pub is_written_again : (A : Type 0) {D T : Type 0} (image : D → List ℕ) (text : T → List ℕ) → IsWrittenAgain A image text
is_written_again A image text c x older stack undone old mid new left n behind has standing leaves keeps grows =
    let image_is : image mid.image ≡ x = sym (top_of_stands (text mid.journal) (image mid.image) stack standing.stands) ∙ top_of_stands older x stack behind.stands in
    let number : suc mid.count ≡ old.count = sym standing.count ∙ behind.count in
    let redo : IsRedoOf (text old.redo) (effect c x) (suc mid.count) undone =
    subst (λ k. IsRedoOf (text old.redo) (effect c x) k undone) (sym number) (subst (λ y. IsRedoOf (text old.redo) y old.count undone) behind.changed has.redo) in
    let written : text old.journal ≡ older ++ entry_text (suc mid.count) (kept_of (saved c x)) (length (effect c x)) =
    behind.written ∙ ap (λ k. older ++ entry_text k (kept_of (saved c x)) (length (effect c x))) (sym number) in
    written_again c x older (text old.journal) (text mid.journal) (text old.redo) (text mid.redo) (text new.journal) stack undone mid.count behind.stands standing.count redo behind.fits.0 behind.fits.1 behind.bytes.0 behind.bytes.1
    written
    (λ es finished. subst (λ k. AreKept 1 es (effect c x) k (text old.redo) (text mid.redo)) has.counted
    (subst (λ y. AreKept 1 es y old.undone (text old.redo) (text mid.redo)) behind.changed (keeps es finished)))
    leaves
    (λ es finished. grows es finished ∙ ap (λ y. taken_by 1 es y mid.count (text mid.journal)) image_is)
