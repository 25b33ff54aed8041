-- What is shown of one step, beside the image, is a patch of it.
use Rattle.std.proofs.Common.{◌≡◌, ◌≤◌, ◌<◌, ◌+◌, ◌-◌, ◌^◌, ℕ, zero, suc, eqb, Bool, true, false, Option, None, Some, List, [], ◌∷◌, ◌++◌, length, take, drop, map, inr, refl, sym, ap, subst, ◌∙◌, arith, append_assoc, append-nil}
use Rattle.std.specs.Prelude.{◌==◌, codes, decimal, if◌then◌else◌, is_some, IfSome, IsTrue, All}
use Rattle.std.proofs.lemmas.Bool.{eqb-true}
use Rattle.std.proofs.lemmas.List.{length-take}
use Rattle.std.proofs.lemmas.List.Elements.{All-cons, All-drop, All-nil, All-take}
use Rattle.std.specs.Option.{option_map_or}
use Rattle.bx_image.specs.declared.change.TheConstants.{MAX_LEN}
use Rattle.bx_image.specs.Change.{effect, placed}
use Rattle.bx_image.specs.Image.{cut, end_of, place}
use Rattle.bx_image.proofs.Images.{length-cut, same_image, slice_index-cut}
use Rattle.bx_journal_format.specs.DumpLine.{saved_run_line}
use Rattle.bx_journal_format.specs.Finished.{AllTell}
use Rattle.bx_journal_format.specs.Kept.{Run}
use Rattle.bx_journal_format.specs.Line.{saved_in}
use Rattle.bx_journal_format.specs.Spelled.{EntryLines, IsSpelled, entry_in}
use Rattle.bx_journal_format.specs.Text.{Between, Entry, Reading, split}
use Rattle.bx_journal_format.proofs.Bounds.{read_bounded, read_told}
use Rattle.bx_journal_format.proofs.GrammarLemmas.{saved_found}
use Rattle.bx_journal_read.specs.declared.show.way.Steps.{Steps}
use Rattle.bx_journal_model.specs.Images.{Images, redone_by}
use Rattle.bx_journal_model.specs.Machine.{changes_of, top}
use Rattle.bx_journal_model.specs.Stack.{HaveLengths, StandsFor, stack_of}
use Rattle.bx_journal_read.specs.show.Differences.{diff_text, lines_beside, signed_line}
use Rattle.bx_journal_read.specs.show.ShownSteps.{first_number, heading, length_told, lines_text, patch_length, shown_steps, shows_patch, step_text, steps_text}
use Rattle.bx_journal_read.proofs.OpenLemmas.{some_same}
use Rattle.bx_patch.specs.Grammar.{EndsWithin, IsInLengths, IsPatch}
use Rattle.bx_patch.specs.Patch.{Agrees, Asked, HasPiece, Pieces, patch_change}
use Rattle.bx_patch.specs.Text.{length_text}
use Rattle.bx_patch.proofs.DiffLemmas.{lengths_are}
use Rattle.bx_patch.proofs.FrontLemmas.{TextAsks, TextGives, ended_by_hand, gives_none, lengths_in_front, line_sizes, new_in_front, no_lengths, old_in_front, remark_in_front}
use Rattle.bx_patch.proofs.MakesLemmas.{EachIn, all_in, piece_end, writes}
use Rattle.bx_journal.specs.ShownText.{last_line}
use Rattle.bx_journal.specs.ShowLaws.{IsShownPatch, ShownRedoIsAPatch, ShownUndoIsAPatch, run_then, shown_runs, step_onto}
use Rattle.bx_journal.proofs.HeadingLines.{head, head_in}
use Rattle.bx_journal.proofs.ShownWritten.{shown_is_written}

-- bytes at an address in front of pieces, if there are any
abbrev piece_then : ℕ → List ℕ → Pieces → Pieces
piece_then at [] ps = ps
piece_then at (b ∷ bytes) ps = (at, b ∷ bytes) ∷ ps

-- what an image has at the addresses of a run
abbrev now_at : List ℕ → Run → List ℕ
now_at x run = take (length run.bytes) (drop run.at x)

-- the pieces that are expected, and those that are written
abbrev expected_of : List ℕ → List Run → Pieces
expected_of x [] = []
expected_of x (run ∷ runs) = piece_then run.at (now_at x run) (expected_of x runs)

abbrev written_of : List Run → Pieces
written_of [] = []
written_of (run ∷ runs) = (run.at, run.bytes) ∷ written_of runs

-- the lines are those of a patch
old_line : (at : ℕ) (bytes rest : List ℕ) (e w : Pieces) → length bytes ≤ 16 → All (λ b. b < 256) bytes → at < 2 ^ 62 → TextGives rest e w
    → TextGives (signed_line (codes "-") at bytes ++ rest) (piece_then at bytes e) w
unfolding saved_run_line
old_line at [] rest e w few are near is = is
old_line at (b ∷ bytes) rest e w few are near is =
    subst (λ t. TextGives t ((at, b ∷ bytes) ∷ e) w) (sym (append_assoc (45 ∷ saved_run_line at (b ∷ bytes)) (10 ∷ []) rest))
    (old_in_front at (b ∷ bytes) rest (omega arith) few are near e w is)

new_line : (at : ℕ) (bytes rest : List ℕ) (e w : Pieces) → 0 < length bytes → length bytes ≤ 16 → All (λ b. b < 256) bytes → at < 2 ^ 62 → TextGives rest e w
    → TextGives (signed_line (codes "+") at bytes ++ rest) e ((at, bytes) ∷ w)
unfolding saved_run_line
new_line at [] rest e w some few are near is = absurd (omega (arith, some))
new_line at (b ∷ bytes) rest e w some few are near is =
    subst (λ t. TextGives t e ((at, b ∷ bytes) ∷ w)) (sym (append_assoc (43 ∷ saved_run_line at (b ∷ bytes)) (10 ∷ []) rest))
    (new_in_front at (b ∷ bytes) rest some few are near e w is)

lines_give : (x : List ℕ) → All (λ b. b < 256) x → (len : ℕ) (lines : List (List ℕ)) (rest : List ℕ) → TextGives rest [] []
    → TextGives (diff_text x len lines ++ rest) (expected_of x (shown_runs len lines)) (written_of (shown_runs len lines))
lines_give x are len [] rest is = is
lines_give x are len (line ∷ lines) rest is = by (saved_in len line) refl (lines_give x are len lines rest is)
  where
    by : (o : Option Run) → saved_in len line ≡ o → TextGives (diff_text x len lines ++ rest) (expected_of x (shown_runs len lines)) (written_of (shown_runs len lines))
        → TextGives ((lines_beside x o ++ diff_text x len lines) ++ rest) (expected_of x (run_then o (shown_runs len lines))) (written_of (run_then o (shown_runs len lines)))
    by None read later = later
    by (Some run) read later =
        let found = saved_found len line run read in
        let sizes = line_sizes line found.0.0 run.bytes run.at found.0.1 in
        let e = expected_of x (shown_runs len lines) in
        let w = written_of (shown_runs len lines) in
        let minus = signed_line (codes "-") run.at (now_at x run) in
        let plus = signed_line (codes "+") run.at run.bytes in
        let more = diff_text x len lines in
        let parts : ((minus ++ plus) ++ more) ++ rest ≡ minus ++ (plus ++ (more ++ rest)) =
        append_assoc (minus ++ plus) more rest ∙ append_assoc minus plus (more ++ rest) in
        let few : length (now_at x run) ≤ 16 = omega (arith, found.1, length-take {A = ℕ} (length run.bytes) (drop run.at x)) in
        let bytes : All (λ b. b < 256) (now_at x run) =
        All-take (λ b. b < 256) (length run.bytes) (drop run.at x) (All-drop (λ b. b < 256) run.at x are) in
        subst (λ t. TextGives t (piece_then run.at (now_at x run) e) ((run.at, run.bytes) ∷ w)) (sym parts)
        (old_line run.at (now_at x run) (plus ++ (more ++ rest)) e ((run.at, run.bytes) ∷ w) few bytes sizes.2
        (new_line run.at run.bytes (more ++ rest) e w sizes.0 found.1 sizes.3 sizes.2 later))

-- the image has what is expected
take_taken : (k : ℕ) (l : List ℕ) → take (length (take k l)) l ≡ take k l
take_taken zero l = refl
take_taken (suc k) [] = refl
take_taken (suc k) (b ∷ l) = ap (λ t. b ∷ t) (take_taken k l)

has_then : (x : List ℕ) (at : ℕ) (bytes : List ℕ) (ps : Pieces) → HasPiece x (at, bytes) → EachIn x ps → EachIn x (piece_then at bytes ps)
has_then x at [] ps has rest = rest
has_then x at (b ∷ bytes) ps has rest = (has, rest)

has_expected : (x : List ℕ) (runs : List Run) → EachIn x (expected_of x runs)
has_expected x [] = tt
has_expected x (run ∷ runs) = has_then x run.at (now_at x run) (expected_of x runs) (take_taken (length run.bytes) (drop run.at x)) (has_expected x runs)

-- and each piece ends within its length
ends_then : (n at : ℕ) (bytes : List ℕ) (ps : Pieces) → end_of at bytes ≤ n → All (EndsWithin n) ps → All (EndsWithin n) (piece_then at bytes ps)
ends_then n at [] ps ends rest = rest
ends_then n at (b ∷ bytes) ps ends rest = All-cons (EndsWithin n) (at, b ∷ bytes) ps ends rest

old_ends : (x : List ℕ) (runs : List Run) → All (EndsWithin (length x)) (expected_of x runs)
old_ends x [] = All-nil (EndsWithin (length x))
old_ends x (run ∷ runs) =
    ends_then (length x) run.at (now_at x run) (expected_of x runs) (piece_end x run.at (now_at x run) (take_taken (length run.bytes) (drop run.at x))) (old_ends x runs)

new_ends : (len : ℕ) (lines : List (List ℕ)) → All (EndsWithin len) (written_of (shown_runs len lines))
new_ends len [] = All-nil (EndsWithin len)
new_ends len (line ∷ lines) = by (saved_in len line) refl (new_ends len lines)
  where
    by : (o : Option Run) → saved_in len line ≡ o → All (EndsWithin len) (written_of (shown_runs len lines)) → All (EndsWithin len) (written_of (run_then o (shown_runs len lines)))
    by None read rest = rest
    by (Some run) read rest = All-cons (EndsWithin len) (run.at, run.bytes) (written_of (shown_runs len lines)) (saved_found len line run read).2 rest

-- the writes place the runs
placed_same : (A : Type 0) (runs : List Run) (x : List ℕ) → placed {A = A} (writes (written_of runs)) x ≡ placed runs x
unfolding placed
placed_same A [] x = refl
placed_same A (run ∷ runs) x = placed_same A runs (place x run.at run.bytes)

cut_whole : (x : List ℕ) (n : ℕ) → length x ≡ n → cut x n ≡ x
cut_whole x n is =
    same_image (cut x n) x (length-cut x n ∙ sym is) (λ i inside. slice_index-cut x n i (omega (arith, inside, length-cut x n)))

-- one step, whose entry tells the length that the image has
module _ (A : Type 0) (x : List ℕ) (are : All (λ b. b < 256) x) (c : EntryLines) where
  abbrev len : ℕ
  len = c.entry.saved.len

  abbrev runs : List Run
  runs = shown_runs len c.saved

  abbrev body : List ℕ
  body = diff_text x len c.saved ++ codes "\n"

  -- what is asked, where the length stays and where it doesn't
  abbrev asked : Bool → Asked
  asked keeps = record { lengths = if keeps then None else Some (length x, len); expected = expected_of x runs; written = written_of runs }

  abbrev told : Bool → List ℕ
  told keeps = if keeps then [] else codes "length " ++ decimal (length x) ++ codes " to " ++ decimal len ++ codes "\n"

  asks : (keeps : Bool) → length x ≤ MAX_LEN → len ≤ MAX_LEN → TextAsks (told keeps ++ body) (asked keeps)
  asks true small little = no_lengths body (expected_of x runs) (written_of runs) (lines_give x are len c.saved (codes "\n") gives_none)
  asks false small little =
      let line : told false ++ body ≡ length_text (length x) len ++ 10 ∷ body =
      ap (λ t. t ++ body) (lengths_are (length x) len) ∙ append_assoc (length_text (length x) len) (codes "\n") body in
      subst (λ t. TextAsks t (asked false)) (sym line)
      (lengths_in_front (length x) len body (expected_of x runs) (written_of runs) (omega (arith, small)) (omega (arith, little)) (lines_give x are len c.saved (codes "\n") gives_none))

  fits : (keeps : Bool) → IsInLengths (asked keeps)
  fits true = tt
  fits false = (old_ends x runs, new_ends len c.saved)

  agrees : (keeps : Bool) → Agrees (asked keeps) x
  agrees true = record { long = tt; has = all_in x (expected_of x runs) (has_expected x runs) }
  agrees false = record { long = refl; has = all_in x (expected_of x runs) (has_expected x runs) }

  makes : (keeps : Bool) → eqb (length x) len ≡ keeps → effect {A = A} (patch_change (asked keeps)) x ≡ step_onto c x
  unfolding effect
  makes true is = placed_same A runs x ∙ ap (placed runs) (sym (cut_whole x len (eqb-true (length x) len is)))
  makes false is =
      ap (λ (b : Bool). placed {A = A} (writes (written_of runs)) (option_map_or (cut x) (if b then None else Some len) x)) is ∙ placed_same A runs (cut x len)

  -- the text of a step
  text_is : (s : Steps) (older : List EntryLines) → (s.compares ≡ true) × (s.count ≡ 1) → c.entry.after ≡ Some (length x)
      → shown_steps s x (c ∷ older) ≡ head s.way (first_number s.way s.changes (length (c ∷ older))) c.entry ++ 10 ∷ (told (eqb (length x) len) ++ body)
  unfolding steps_text
  text_is s older one after =
      let n = first_number s.way s.changes (length (c ∷ older)) in
      let front = heading s.way n c.entry in
      let line = head s.way n c.entry in
      let keeps = eqb (length x) len in
      let diff = diff_text x len c.saved in
      let step : step_text s x n c ≡ ((front ++ told keeps) ++ diff) ++ codes "\n" =
      ap (λ (k : ℕ). ((front ++ (if (if s.compares then k == 1 else false) then patch_length c.entry.after len else [])) ++ lines_text s.compares x len c.saved) ++ codes "\n") one.1
      ∙ ap (λ (b : Bool). ((front ++ (if (if b then true else false) then patch_length c.entry.after len else [])) ++ lines_text b x len c.saved) ++ codes "\n") one.0
      ∙ ap (λ (o : Option ℕ). ((front ++ patch_length o len) ++ diff) ++ codes "\n") after in
      ap (λ k. steps_text s x n (take k (c ∷ older))) one.1 ∙ append-nil (step_text s x n c) ∙ step
      ∙ append_assoc (front ++ told keeps) diff (codes "\n") ∙ append_assoc front (told keeps) body ∙ append_assoc line (codes "\n") (told keeps ++ body)

  -- it is whole lines
  abbrev front_of : Steps → List EntryLines → List ℕ
  front_of s older =
      heading s.way (first_number s.way s.changes (length (c ∷ older))) c.entry ++ length_told s c.entry.after len ++ lines_text s.compares x len c.saved

  text_whole : (s : Steps) (older : List EntryLines) → (s.compares ≡ true) × (s.count ≡ 1) → shown_steps s x (c ∷ older) ≡ front_of s older ++ codes "\n"
  unfolding steps_text
  text_whole s older one =
      let n = first_number s.way s.changes (length (c ∷ older)) in
      ap (λ k. steps_text s x n (take k (c ∷ older))) one.1 ∙ append-nil (step_text s x n c)

  -- and the last line stands behind them
  last_is : (s : Steps) → (s.compares ≡ true) × (s.count ≡ 1) → last_line s ≡ codes "end\n"
  last_is s one =
      ap (λ (k : ℕ). if (if s.compares then k == 1 else false) then codes "end\n" else []) one.1
      ∙ ap (λ (b : Bool). if (if b then true else false) then codes "end\n" else []) one.0

  pub step_is_a_patch : (s : Steps) (older : List EntryLines) → (s.compares ≡ true) × (s.count ≡ 1) → c.entry.after ≡ Some (length x) → length x ≤ MAX_LEN → len ≤ MAX_LEN
      → IsShownPatch A s (c ∷ older) x (step_onto c x)
  step_is_a_patch s older one after small little =
      let n = first_number s.way s.changes (length (c ∷ older)) in
      let keeps = eqb (length x) len in
      let line = head s.way n c.entry in
      let gives : TextAsks (shown_steps s x (c ∷ older)) (asked keeps) =
      subst (λ t. TextAsks t (asked keeps)) (sym (text_is s older one after))
      (remark_in_front line (told keeps ++ body) (asked keeps) (head_in s.way n c.entry) (inr (drop 1 line, refl)) (asks keeps small little)) in (
        asked keeps,
        subst (λ last. IsPatch (shown_steps s x (c ∷ older) ++ last) (asked keeps)) (sym (last_is s one))
            (ended_by_hand (shown_steps s x (c ∷ older)) (front_of s older) (asked keeps) (text_whole s older one) gives (fits keeps)),
        agrees keeps,
        makes keeps refl,
      )

one_step : (compares : Bool) (count : ℕ) → (if compares then count == 1 else false) ≡ true → (compares ≡ true) × (count ≡ 1)
one_step true count is = (refl, eqb-true count 1 is)
one_step false count is = absurd cc

tells_this : (after : Option ℕ) (n : ℕ) → IsTrue (is_some after) → IfSome after (λ m. n ≡ m) → after ≡ Some n
tells_this None n tells is = let e : false ≡ true = tells in absurd cc
tells_this (Some m) n tells is = ap Some (sym is)

-- what a text of finished entries alone reads as
abbrev entries_of : List Entry → Reading
entries_of es = record { entries = es; stage = Between }

-- the entries of a text that stands for images
same_entries : (text x : List ℕ) (old : List (List ℕ)) (cs : List EntryLines) (stands : StandsFor text x old) → IsSpelled text cs → map entry_in cs ≡ stands.entries
same_entries text x old cs stands spelled =
    ap (λ (r : Reading). r.entries) (some_same (entries_of (map entry_in cs)) (entries_of stands.entries) (sym spelled.finished.reads.lines ∙ stands.reads.lines))

-- where the newest one tells the length
newest : (A : Type 0) (s : Steps) (text x : List ℕ) (old : List (List ℕ)) (c : EntryLines) (older : List EntryLines) → shows_patch s ≡ true → All (λ b. b < 256) x
    → StandsFor text x old → IsSpelled text (c ∷ older) → IsTrue (is_some c.entry.after) → IsShownPatch A s (c ∷ older) x (step_onto c x)
newest A s text x old c older shows are stands spelled tells =
    let cs : List Entry = map entry_in (c ∷ older) in
    let lengths = subst (λ fs. HaveLengths fs x) (sym (same_entries text x old (c ∷ older) stands spelled)) stands.lengths in
    let after = tells_this c.entry.after (length x) tells lengths.0 in
    let bound = (read_bounded (split text).lines (entries_of cs) spelled.finished.reads.lines).0.0 in
    let most = subst (λ o. IfSome o (λ n. n ≤ MAX_LEN)) after (read_told (split text).lines (entries_of cs) spelled.finished.reads.lines).0 in
    step_is_a_patch A x are c s older (one_step s.compares s.count shows) after most bound

pub shown_undo : (A : Type 0) → ShownUndoIsAPatch A
shown_undo A s text x old new [] left shows are stands spelled tells step = absurd tells
shown_undo A s text x old new (c ∷ older) left shows are stands spelled tells step =
    let shown = newest A s text x old c older shows are stands spelled tells in
    (shown.0, shown.1, shown.2, shown.3 ∙ sym (shown_is_written text x old new (c ∷ older) 1 left stands spelled step))

-- a redo makes the image again that was undone last
redone_top : (stack undone : List (List ℕ)) → 1 ≤ length undone → top (redone_by 1 undone stack) ≡ top undone
redone_top stack [] some = absurd (omega (arith, some))
redone_top stack (y ∷ undone) some = refl

none_undone : (x : List ℕ) (undone : List (List ℕ)) (es : List Entry) → [] ≡ es → x ∷ undone ≡ stack_of es x → 1 ≤ length undone → ⊥
unfolding stack_of
none_undone x undone es same is some =
    let count : suc (length undone) ≡ 1 = ap length (is ∙ ap (λ fs. stack_of fs x) (sym same)) in
    absurd (omega (arith, count, some))

pub shown_redo : (A : Type 0) → ShownRedoIsAPatch A
shown_redo A s redo x old new [] changes shows are is spelled step =
    absurd (none_undone x old.undone is.stands.entries (same_entries redo x (x ∷ old.undone) [] is.stands spelled) is.stands.stack_is step.0)
shown_redo A s redo x old new (c ∷ older) changes shows are is spelled step =
    let stack = x ∷ old.undone in
    let tells = (subst AllTell (sym (same_entries redo x stack (c ∷ older) is.stands spelled)) is.tell).0 in
    let shown = newest A s redo x stack c older shows are is.stands spelled tells in
    let taken = shown_is_written redo x stack old.undone (c ∷ older) 1 (changes_of stack - 1) is.stands spelled (omega (arith, step.0), refl, refl) in
    let made : top new.stack ≡ top old.undone = ap (λ (i : Images). top i.stack) step.2 ∙ redone_top old.stack old.undone step.0 in
    (shown.0, shown.1, shown.2, shown.3 ∙ sym (made ∙ taken))
