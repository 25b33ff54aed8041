-- Records that stand in a text, and entries that are taken back from them.
use Rattle.std.proofs.Common.{◌≡◌, ℕ, zero, suc, ◌≤◌, List, [], ◌∷◌, ◌++◌, length, take, drop, sym, ◌∙◌, subst, arith}
use Rattle.std.specs.Prelude.{reverse}
use Rattle.std.proofs.lemmas.List.{take-take, reverse-append, reverse-reverse}
use Rattle.bx_image.specs.declared.change.TheConstants.{MAX_LEN}
use Rattle.bx_journal_format.specs.Kept.{Kept, kept_of}
use Rattle.bx_journal_format.specs.Text.{Between, Ending, Entry, Saving, split}
use Rattle.bx_journal_format.specs.declared.read.types.EntryRead.{EntryRead}
use Rattle.bx_journal_format.specs.Parsed.{AllKept, AreMarked, entries_onto, entry_of}
use Rattle.bx_journal_format.proofs.Bounds.{AreBounded, read_bounded}
use Rattle.bx_journal_protocol.specs.declared.protocol.undo_entry.Placed.{Placed}
use Rattle.bx_journal_model.specs.declared.mark.Mark.{Mark}
use Rattle.bx_journal_protocol.specs.protocol.Placed.{AllFit, ArePlaced, IsPlaced}
use Rattle.bx_journal_model.specs.Redo.{LeavesEither, Side}
use Rattle.bx_journal_model.specs.Restoring.{IsEnough, StandsAt}
use Rattle.bx_journal_model.specs.Step.{TakesBack}
use Rattle.bx_journal_protocol.specs.protocol.Turns.{kept_text, side_of}
use Rattle.bx_journal_model.specs.Undoing.{AreReadFrom}
use Rattle.bx_journal_model.proofs.ReadingLemmas.{AreSane, read_sane}
use Rattle.bx_journal_protocol.proofs.TakenLemmas.{reverse_last}
use Rattle.bx_journal_protocol.proofs.UndoSteps.{mark_in}

-- a record stands in each front of its text that has its save line
pub stands_cut : (text new : List ℕ) (n : ℕ) (m : Mark) (s : Kept) → StandsAt text m s → m.saved ≤ n → n ≤ length text → new ≡ take n text → StandsAt new m s
stands_cut text new n m s st fits within is =
    let same : take m.saved (take n text) ≡ take m.saved text = take-take m.saved n text fits in
    subst (λ t. StandsAt t m s) (sym is) (record {
      entries = st.entries;
      version = st.version;
      len = st.len;
      begins = mark_in text m.lines n (record { entries = st.entries; stage = Saving st.version (record { len = m.len; runs = [] }) }) st.begins (omega (arith, st.order, fits)) within;
      ends = mark_in text m.saved n (record { entries = st.entries; stage = Ending st.version s }) st.ends fits within;
      order = st.order;
    })

-- an entry at its place
pub placed_marks : {A : Type 0} {faithful : Type 0} {text x : List ℕ} {e : EntryRead A} {p : Placed} {below : List (List ℕ)} → IsPlaced faithful text e p
    → TakesBack text x below e.version (entry_of e) e.begins e.saved → TakesBack text x below e.version (entry_of e) p.begins p.mark.saved
placed_marks {text = text} {x = x} {e = e} {p = p} {below = below} placed t =
    subst (λ b. TakesBack text x below e.version (entry_of e) b p.mark.saved) (sym placed.begins)
    (subst (λ s. TakesBack text x below e.version (entry_of e) e.begins s) (sym placed.saved) t)

-- what an undo leaves, by its entry and by its place
pub at_place : {A : Type 0} {faithful : Type 0} {stored : List ℕ} {e : EntryRead A} {p : Placed} → IsPlaced faithful stored e p → (redo : List ℕ) (taken : Kept) (n : ℕ) → {text x left : List ℕ} {old : Side} {below : List (List ℕ)} {y : List ℕ}
    → LeavesEither text x left old (side_of below y (kept_text redo taken n p.mark.len)) → LeavesEither text x left old (side_of below y (kept_text redo taken n e.kept.len))
at_place placed redo taken n {text = text} {x = x} {left = left} {old = old} {below = below} {y = y} leaves =
    subst (λ k. LeavesEither text x left old (side_of below y (kept_text redo taken n k))) placed.len leaves

-- every record of a text that was read lies within its length, which is one that an entry can tell
sane_before : {A : Type 0} (done : List Entry) (es : List (EntryRead A)) → AreSane (entries_onto done es) → AreSane done
sane_before done [] sane = sane
sane_before done (e ∷ es) sane = (sane_before (entry_of e ∷ done) es sane).2

bounded_before : {A : Type 0} (done : List Entry) (es : List (EntryRead A)) → AreBounded (entries_onto done es) → AreBounded done
bounded_before done [] bounded = bounded
bounded_before done (e ∷ es) bounded = (bounded_before (entry_of e ∷ done) es bounded).1

kept_each : {A : Type 0} (done : List Entry) (es : List (EntryRead A)) → AreSane (entries_onto done es) → AreBounded (entries_onto done es) → AllKept MAX_LEN es
kept_each done [] sane bounded = tt
kept_each done (e ∷ es) sane bounded = (
  (sane_before (entry_of e ∷ done) es sane).0,
  (bounded_before (entry_of e ∷ done) es bounded).0,
  kept_each (entry_of e ∷ done) es sane bounded,
)

kept_drop : {A : Type 0} (limit n : ℕ) (es : List (EntryRead A)) → AllKept limit es → AllKept limit (drop n es)
kept_drop limit zero es kept = kept
kept_drop limit (suc n) [] kept = tt
kept_drop limit (suc n) (e ∷ es) kept = kept_drop limit n es kept.2

pub kept_reading : {A : Type 0} {faithful : Type 0} {stored : List ℕ} {es : List (EntryRead A)} → AreReadFrom faithful stored es → (n : ℕ) → AllKept MAX_LEN (drop n es)
kept_reading {es = es} read n =
    let lines : List (List ℕ) = (split (take (length read.text) read.text)).lines in
    let sane = (read_sane lines (record { entries = entries_onto read.older es; stage = Between }) read.mark.lines).0 in
    let bounded = (read_bounded lines (record { entries = entries_onto read.older es; stage = Between }) read.mark.lines).0 in
    kept_drop MAX_LEN n es (kept_each read.older es sane bounded)

-- the save lines of these entries end before a place
abbrev pub AllBefore : {A : Type 0} → ℕ → List (EntryRead A) → Type 0
AllBefore to [] = Unit {0}
AllBefore to (e ∷ es) = (e.saved ≤ to) × AllBefore to es

before_of : {A : Type 0} (text : List ℕ) (done : List Entry) (from to : ℕ) (es : List (EntryRead A)) → AreMarked text done from es to → AllBefore to es × (from ≤ to)
before_of text done from to [] marked = (tt, marked)
before_of text done from to (e ∷ es) marked =
    let rest = before_of text (entry_of e ∷ done) e.saved to es marked.2 in
    ((rest.1, rest.0), omega (arith, marked.0, marked.1.order, rest.1))

before_append : {A : Type 0} (to : ℕ) (es fs : List (EntryRead A)) → AllBefore to es → AllBefore to fs → AllBefore to (es ++ fs)
before_append to [] fs h k = k
before_append to (e ∷ es) fs h k = (h.0, before_append to es fs h.1 k)

before_reverse : {A : Type 0} (to : ℕ) (es : List (EntryRead A)) → AllBefore to es → AllBefore to (reverse es)
before_reverse to [] h = tt
before_reverse to (e ∷ es) h = subst (AllBefore to) (sym (reverse-append (e ∷ []) es)) (before_append to (reverse es) (e ∷ []) (before_reverse to es h.1) (h.0, tt))

pub all_before : {A : Type 0} (text : List ℕ) (done : List Entry) (from to : ℕ) (es : List (EntryRead A)) → AreMarked text done from es to → AllBefore to (reverse es)
all_before text done from to es marked = before_reverse to es (before_of text done from to es marked).0

-- older entries stand where they stood in what a cut behind them leaves
pub placed_cut : {A : Type 0} (faithful : Type 0) (text new : List ℕ) (n : ℕ) (es : List (EntryRead A)) (ps : List Placed) → (faithful → n ≤ length text) → (faithful → new ≡ take n text) → AllBefore n es
    → ArePlaced faithful text es ps → ArePlaced faithful new es ps
placed_cut faithful text new n es [] within is before placed = tt
placed_cut faithful text new n [] (p ∷ ps) within is before placed = absurd placed
placed_cut faithful text new n (e ∷ es) (p ∷ ps) within is before placed = (
  record {
    begins = placed.0.begins;
    saved = placed.0.saved;
    len = placed.0.len;
    stands = λ h. stands_cut text new n p.mark (kept_of e.kept) (placed.0.stands h) (omega (arith, placed.0.saved, before.0)) (within h) (is h);
  },
  placed_cut faithful text new n es ps within is before.1 placed.1,
)

-- the last of the places, and its entry
pub record PlacePopped {A : Type 0} (faithful : Type 0) (text : List ℕ) (es : List (EntryRead A)) (p : Placed) (ps : List Placed) : Type 0 where
  pub below : List (EntryRead A)
  pub entry : EntryRead A
  pub is : es ≡ below ++ entry ∷ []
  pub placed : IsPlaced faithful text entry p
  pub rest : ArePlaced faithful text (reverse below) ps

popped_by : {A : Type 0} (faithful : Type 0) (text : List ℕ) (es rs : List (EntryRead A)) (p : Placed) (ps : List Placed) → es ≡ reverse rs → ArePlaced faithful text rs (p ∷ ps) → PlacePopped faithful text es p ps
popped_by faithful text es [] p ps is placed = absurd placed
popped_by faithful text es (e ∷ rs) p ps is placed = record {
  below = reverse rs;
  entry = e;
  is = is ∙ reverse-append (e ∷ []) rs;
  placed = placed.0;
  rest = subst (λ fs. ArePlaced faithful text fs ps) (sym (reverse-reverse rs)) placed.1;
}

pub place_popped : {A : Type 0} {faithful : Type 0} {text : List ℕ} {es : List (EntryRead A)} {all : List Placed} (ps : List Placed) {p : Placed} → all ≡ ps ++ p ∷ [] → ArePlaced faithful text (reverse es) (reverse all) → PlacePopped faithful text es p (reverse ps)
place_popped {faithful = faithful} {text = text} {es = es} ps {p = p} is placed =
    popped_by faithful text es (reverse es) p (reverse ps) (sym (reverse-reverse es))
    (subst (ArePlaced faithful text (reverse es)) (reverse_last ps p) (subst (λ all. ArePlaced faithful text (reverse es) (reverse all)) is placed))

-- a place lies in order, within an image's room, and any line within a window
pub record Fits (room window : ℕ) (p : Placed) : Type 0 where
  pub begins : p.begins ≤ p.mark.lines
  pub lines : p.mark.lines ≤ p.mark.saved
  pub len : p.mark.len ≤ room
  pub enough : IsEnough window

fit_in : (room window : ℕ) (ps : List Placed) (p : Placed) → AllFit room window (ps ++ p ∷ []) → AllFit room window ps × Fits room window p
fit_in room window [] p fit = (tt, record { begins = fit.0; lines = fit.1; len = fit.2; enough = fit.3 })
fit_in room window (q ∷ ps) p fit = let rest = fit_in room window ps p fit.4 in ((fit.0, fit.1, fit.2, fit.3, rest.0), rest.1)

pub fit_popped : {room window : ℕ} {all : List Placed} (ps : List Placed) {p : Placed} → all ≡ ps ++ p ∷ [] → AllFit room window all → AllFit room window ps × Fits room window p
fit_popped {room = room} {window = window} ps {p = p} is fit = fit_in room window ps p (subst (AllFit room window) is fit)

pub fit_more : (room more window : ℕ) (ps : List Placed) → room ≤ more → AllFit room window ps → AllFit more window ps
fit_more room more window [] le fit = tt
fit_more room more window (p ∷ ps) le fit = (fit.0, fit.1, omega (arith, fit.2, le), fit.3, fit_more room more window ps le fit.4)
