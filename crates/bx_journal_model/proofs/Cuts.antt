-- A text that is cut behind a mark, or nearly so.
use Rattle.std.proofs.Common.{◌≡◌, ℕ, ◌+◌, ◌-◌, ◌≤◌, true, List, [], ◌∷◌, ◌++◌, length, take, drop, ap, sym, ◌∙◌, subst, inl, inr, ◌⊎◌, arith, Some}
use Rattle.std.specs.List.{list_all}
use Rattle.std.proofs.lemmas.List.{take-append-drop}
use Rattle.std.proofs.lemmas.List.Folds.{list_all-append}
use Rattle.std.proofs.Math.Seq.{take-add}
use Rattle.bx_image.specs.Change.{restore, Covers}
use Rattle.bx_journal_format.specs.declared.format.version.Version.{Version}
use Rattle.bx_journal_format.specs.Text.{IsPrefix, Reading, Entry, Between, Ending, IsRest, Split, split, start, text_of_lines, after_lines, is_short}
use Rattle.bx_journal_model.specs.Stack.{stack_of, HaveLengths, AllCover, Recovers}
use Rattle.bx_journal_model.specs.Phase.{IsAtRest, RecoversEither, IsOpen}
use Rattle.bx_journal_format.specs.count.Mark.{IsMark}
use Rattle.bx_journal_store.specs.Store.{IsCutInPart}
use Rattle.bx_journal_format.proofs.Splits.{split-append}
use Rattle.bx_journal_format.proofs.Runs.{SafeRun, Goes, safe_prefix, after_lines-append, empty_rest}
use Rattle.bx_journal_format.proofs.Foreign.{lines_plain, joined_lines, and_true, OnTheWay, foreign_run, way_in_end}
use Rattle.bx_journal_model.proofs.Phases.{Fine, IsWhole, ReadsShort, extends}

-- a whole text of short lines
pub record IsRead (text : List ℕ) (q : Reading) : Type 0 where
  pub lines : after_lines start (split text).lines ≡ Some q
  pub whole : (split text).rest ≡ []
  pub short : list_all is_short (split text).lines ≡ true

-- what a cut that failed leaves, with the readings on the way
pub record Leaves (Q : Reading → Type 0) (new : List ℕ) : Type 0 where
  pub reading : Reading
  pub reads : ReadsShort new reading
  pub has : Q reading

pub halves : (text : List ℕ) (n : ℕ) (r q : Reading) → IsMark text n r → IsRead text q
    → IsWhole (take n text) r × ((split (drop n text)).rest ≡ []) × (after_lines r (split (drop n text)).lines ≡ Some q) × (list_all is_short (split (drop n text)).lines ≡ true)
halves text n r q mark read =
    let parts : split text ≡ record { lines = (split (take n text)).lines ++ (split (drop n text)).lines; rest = (split (drop n text)).rest } =
    ap split (sym (take-append-drop n text)) ∙ split-append (take n text) (drop n text) mark.whole in
    let shorts : (list_all is_short (split (take n text)).lines ≡ true) × (list_all is_short (split (drop n text)).lines ≡ true) =
    and_true (list_all is_short (split (take n text)).lines) (list_all is_short (split (drop n text)).lines)
    (sym (list_all-append is_short (split (take n text)).lines (split (drop n text)).lines) ∙ sym (ap (λ (s : Split). list_all is_short s.lines) parts) ∙ read.short) in (
      record { lines = mark.lines; whole = mark.whole; short = shorts.0 },
      sym (ap (λ (s : Split). s.rest) parts) ∙ read.whole,
      sym (after_lines-append start r (split (take n text)).lines (split (drop n text)).lines mark.lines) ∙ sym (ap (λ (s : Split). after_lines start s.lines) parts) ∙ read.lines,
      shorts.1,
    )

pub cut_front : (text new : List ℕ) (n : ℕ) → n ≤ length new → new ≡ take (length new) text → new ≡ take n text ++ take (length new - n) (drop n text)
cut_front text new n long is =
    let total : length new ≡ n + (length new - n) = omega arith in
    is ∙ ap (λ k. take k text) total ∙ take-add n (length new - n) text

pub cut_leaves : (Q : Reading → Type 0) (text new : List ℕ) (n : ℕ) (r q : Reading) → IsMark text n r → IsRead text q → OnTheWay Q r q → IsCutInPart n text new → Leaves Q new
cut_leaves Q text new n r q mark read each part =
    let h = halves text n r q mark read in
    let ls : List (List ℕ) = (split (drop n text)).lines in
    let p : List ℕ = take (length new - n) (drop n text) in
    let run : SafeRun Q (λ s. s ≡ q) r ls = foreign_run Q q ls r h.2 (lines_plain (drop n text)) h.3 each in
    let front : IsPrefix p (text_of_lines ls) = (drop (length new - n) (drop n text), joined_lines (drop n text) h.1 ∙ sym (take-append-drop (length new - n) (drop n text))) in
    let g : Goes Q r p = safe_prefix Q (λ s. s ≡ q) r ls run p front in
    let is : take n text ++ p ≡ new = sym (cut_front text new n part.no_shorter part.front) in
    record { reading = g.reading; reads = subst (λ t. ReadsShort t g.reading) is (extends Q (take n text) p r h.0 g); has = g.has }

rest_read : (text x : List ℕ) (stack : List (List ℕ)) (rest : IsAtRest text x stack) → IsRead text (record { entries = rest.stands.entries; stage = Between })
rest_read text x stack rest = record { lines = rest.stands.reads.lines; whole = rest.stands.whole; short = rest.sound.short }

-- undo, first step: the line that ends the newest entry is cut off
abbrev pub FineUndo : List ℕ → List (List ℕ) → Reading → Type 0
FineUndo x below r = Fine x (x ∷ below) r ⊎ Fine x below r

-- the entries of a pair at rest, the newest first
pub record Newest (text x : List ℕ) (below : List (List ℕ)) (entries : List Entry) (e : Entry) : Type 0 where
  pub read : IsRead text (record { entries = e ∷ entries; stage = Between })
  pub covers : Covers e.saved x
  pub finished : AllCover entries (restore e.saved x)
  pub lengths : HaveLengths (e ∷ entries) x
  pub stack_is : stack_of entries (restore e.saved x) ≡ below

fine_ending : (text x : List ℕ) (below : List (List ℕ)) (es : List Entry) (e : Entry) (v : Version) → Newest text x below es e → Fine x below (record { entries = es; stage = Ending v e.saved })
fine_ending text x below es e v n = record { covers = n.covers; finished = n.finished; lengths = n.lengths.1; stack_is = n.stack_is }

fine_before : (text x : List ℕ) (below : List (List ℕ)) (es : List Entry) (e : Entry) → Newest text x below es e → Fine x (x ∷ below) (record { entries = e ∷ es; stage = Between })
unfolding stack_of
fine_before text x below es e n = record { covers = tt; finished = (n.covers, n.finished); lengths = n.lengths; stack_is = ap (λ s. x ∷ s) n.stack_is }

pub cut_end_fault : (text new x : List ℕ) (below : List (List ℕ)) (es : List Entry) (e : Entry) (v : Version) (n : ℕ)
    → Newest text x below es e → IsMark text n (record { entries = es; stage = Ending v e.saved }) → IsCutInPart n text new → RecoversEither new x (x ∷ below) below
cut_end_fault text new x below es e v n newest mark part =
    let l = cut_leaves (FineUndo x below) text new n (record { entries = es; stage = Ending v e.saved }) (record { entries = e ∷ es; stage = Between }) mark newest.read
    (way_in_end (FineUndo x below) es e v e.saved (inr (fine_ending text x below es e v newest)) (inl (fine_before text x below es e newest))) part in
    elim (l.has) [ inl f ↦ inl (recovers_of new x (x ∷ below) l.reading l.reads f) | inr f ↦ inr (recovers_of new x below l.reading l.reads f) ]
  where
    recovers_of : (new x : List ℕ) (stack : List (List ℕ)) (q : Reading) → ReadsShort new q → Fine x stack q → Recovers new x stack
    recovers_of new x stack q r f = record { reading = q; reads = record { lines = r.lines; rest = r.rest }; sound = record { short = r.short; unfinished = f.covers; finished = f.finished }; lengths = f.lengths; stack_is = f.stack_is }

unfoldable pub cut_end_ok : (text x : List ℕ) (below : List (List ℕ)) (es : List Entry) (e : Entry) (v : Version) (n : ℕ)
    → Newest text x below es e → IsMark text n (record { entries = es; stage = Ending v e.saved }) → IsOpen v e.saved (take n text) x below
cut_end_ok text x below es e v n newest mark =
    let h = halves text n (record { entries = es; stage = Ending v e.saved }) (record { entries = e ∷ es; stage = Between }) mark newest.read in
    record {
      entries = es;
      reads = record { lines = mark.lines; rest = subst (IsRest es (Ending v e.saved)) (sym mark.whole) (empty_rest es (Ending v e.saved)) };
      whole = mark.whole;
      sound = record { short = h.0.short; unfinished = newest.covers; finished = newest.finished };
      lengths = newest.lengths.1;
      stack_is = sym newest.stack_is;
    }

-- the newest entry of a pair at rest, where the marks name it
pub newest_of : (text x : List ℕ) (below : List (List ℕ)) (es : List Entry) (e : Entry) (rest : IsAtRest text x (x ∷ below)) → rest.stands.entries ≡ e ∷ es → Newest text x below es e
unfolding stack_of
newest_of text x below es e rest same =
    let P : List Entry → Type 0 = λ entries. IsRead text (record { entries = entries; stage = Between }) × AllCover entries x × HaveLengths entries x × (x ∷ below ≡ stack_of entries x) in
    let all : P (e ∷ es) = subst P same (rest_read text x (x ∷ below) rest, rest.sound.finished, rest.stands.lengths, rest.stands.stack_is) in
    record { read = all.0; covers = all.1.0; finished = all.1.1; lengths = all.2; stack_is = sym (tail_same x below e es all.3) }
  where
    tail_same : (x : List ℕ) (below : List (List ℕ)) (e : Entry) (es : List Entry) → x ∷ below ≡ stack_of (e ∷ es) x → below ≡ stack_of es (restore e.saved x)
    tail_same x below e es is = cc
