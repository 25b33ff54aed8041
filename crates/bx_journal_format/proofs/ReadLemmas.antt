-- What was read, with its places, when one more entry comes.
use Rattle.std.proofs.Common.{◌≡◌, ℕ, suc, ◌+◌, ◌-◌, ◌≤◌, List, [], ◌∷◌, ◌++◌, length, map, refl, ap, sym, ◌∙◌, subst, arith, Option, Some, length-append}
use Rattle.std.specs.Prelude.{option_and_then, slice_get, Vec}
use Rattle.bx_text.specs.declared.owned.pieces.Piece.{Piece}
use Rattle.bx_journal_format.specs.declared.format.line.SavedLine.{SavedLine}
use Rattle.bx_journal_format.specs.declared.format.version.Version.{Version}
use Rattle.bx_journal_format.specs.declared.read.classify.Event.TheVariants.{Begun, Saved, Complete, Committed}
use Rattle.bx_journal_format.specs.declared.read.count.Place.{Place}
use Rattle.bx_journal_format.specs.declared.read.types.EntryRead.{EntryRead}
use Rattle.bx_journal_format.specs.declared.read.types.StageRead.{StageRead}
use Rattle.bx_journal_format.specs.declared.read.types.StageRead.TheVariants.{Between as BetweenRead, Saving as SavingRead, Ending as EndingRead}
use Rattle.bx_journal_format.specs.Kept.{kept_of, run_of}
use Rattle.bx_journal_format.specs.Text.{Entry, Between, Saving}
use Rattle.bx_journal_format.specs.read.Event.{LeadsAs}
use Rattle.bx_journal_format.specs.count.Mark.{HasMarks, IsMark}
use Rattle.bx_journal_format.specs.Parsed.{told_by, entry_of, entries_onto, entries_of, reading_onto, stage_of, AreMarked, IsStageMarked, KeepsMarks}
use Rattle.bx_journal_format.specs.count.Tally.{place_of, tally_of}
use Rattle.bx_journal_format.specs.read.TakeLine.{IsCompleted, IsFinishedBy, IsSavedOn, TakesLine}

pub onto-push : {A : Type 0} → (done : List Entry) (es : List (EntryRead A)) (e : EntryRead A) → entries_onto done (es ++ e ∷ []) ≡ entry_of e ∷ entries_onto done es
onto-push done [] e = refl
onto-push done (f ∷ es) e = onto-push (entry_of f ∷ done) es e

pub length-onto : {A : Type 0} → (done : List Entry) (es : List (EntryRead A)) → length (entries_onto done es) ≡ length es + length done
length-onto done [] = omega arith
length-onto done (e ∷ es) = length-onto (entry_of e ∷ done) es ∙ omega arith

pub length-entries_of : {A : Type 0} → (es : List (EntryRead A)) → length (entries_of es) ≡ length es
length-entries_of es = length-onto [] es ∙ omega arith

pub marked-push : {A : Type 0} → (text : List ℕ) (done : List Entry) (from to after : ℕ) (es : List (EntryRead A)) (e : EntryRead A)
    → AreMarked text done from es e.begins → HasMarks text (entries_onto done es) e.version (entry_of e) e.begins e.saved → e.saved ≤ after
    → AreMarked text done from (es ++ e ∷ []) after
marked-push text done from to after [] e are marks le = (are, marks, le)
marked-push text done from to after (f ∷ es) e are marks le = (are.0, are.1, marked-push text (entry_of f ∷ done) f.saved to after es e are.2 marks le)

-- the newest of them, and the others
pub marked-pop : {A : Type 0} → (text : List ℕ) (done : List Entry) (from to : ℕ) (es : List (EntryRead A)) (e : EntryRead A) → AreMarked text done from (es ++ e ∷ []) to
    → AreMarked text done from es e.begins × HasMarks text (entries_onto done es) e.version (entry_of e) e.begins e.saved × (e.saved ≤ to)
marked-pop text done from to [] e are = are
marked-pop text done from to (f ∷ es) e are =
    let more = marked-pop text (entry_of f ∷ done) f.saved to es e are.2 in
    ((are.0, are.1, more.0), more.1, more.2)

pub marked-below : {A : Type 0} → (text : List ℕ) (done : List Entry) (from to more : ℕ) (es : List (EntryRead A)) → AreMarked text done from es to → to ≤ more → AreMarked text done from es more
marked-below text done from to more [] are le = omega (arith, are, le)
marked-below text done from to more (e ∷ es) are le = (are.0, are.1, marked-below text (entry_of e ∷ done) e.saved to more es are.2 le)

pub entry_marked : {A : Type 0} → (text : List ℕ) (older : List Entry) (es : List (EntryRead A)) (e : EntryRead A) (at after : ℕ) → IsStageMarked text older es (EndingRead e.version e.kept e.begins e.saved) at → at ≤ after
    → IsStageMarked text older (es ++ e ∷ []) BetweenRead after
entry_marked text older es e at after m le = (
  marked-push text older 0 at after es e m.0 (record { beginning = m.1; saving = m.2; order = m.3 }) (omega (arith, m.4, le)),
  omega (arith, m.5, length-append es (e ∷ [])),
)

-- what was read, seen as a tally
pub tally_read : {A : Type 0} → (older : List Entry) (es : List (EntryRead A)) (stage : StageRead A) (count : ℕ) (told : Option ℕ) (place : Place) → count ≡ length older → told ≡ told_by (entries_onto older es)
    → place ≡ place_of (stage_of stage) → tally_of (reading_onto older es stage) ≡ record { count = count + length es; told = told; place = place }
tally_read older es stage count told place counted tells at =
    let all : length (entries_onto older es) ≡ count + length es = omega (arith, length-onto older es, counted) in
    rw (all, tells, at) refl

-- what was read, with one entry more
pub entry_finished : {A : Type 0} → (es news : List (EntryRead A)) (e : EntryRead A) → news ≡ es ++ e ∷ [] → IsFinishedBy es (EndingRead e.version e.kept e.begins e.saved) e.after news
entry_finished es news e is v s ending =
    let same : kept_of e.kept ≡ s = cc in (
      λ older. ap (entries_onto older) is ∙ onto-push older es e ∙ ap (λ k. record { saved = k; after = e.after } ∷ entries_onto older es) same,
      λ text older at to marked le. subst (λ fs. IsStageMarked text older fs BetweenRead to) (sym is) (entry_marked text older es e at to marked le),
    )

-- one more line: it begins an entry, is among its saved lines, is its save line, or ends it
module _ {A : Type 0} (older : List Entry) (es : List (EntryRead A)) (stage : StageRead A) (at : ℕ) (line : List ℕ) where
  between : (text : List ℕ) (stage : StageRead A) → stage_of stage ≡ Between → IsStageMarked text older es stage at → AreMarked text older 0 es at
  between text BetweenRead is m = m.0
  between text (SavingRead v len runs begins) is m = absurd (cc)
  between text (EndingRead v kept begins saved) is m = absurd (cc)

  pub takes_begun : (v : Version) (len : ℕ) (runs : Vec (Piece A) A) → runs.items ≡ [] → LeadsAs (entries_onto older es) (stage_of stage) line (Begun v len)
      → TakesLine older es stage at line es (Some (SavingRead v len runs at))
  takes_begun v len runs none to = record {
    leads = to.leads ∙ ap Some to.is.1 ∙ ap (λ (rs : List (Piece A)). Some (record { entries = entries_onto older es; stage = Saving v (record { len = len; runs = map run_of rs }) })) (sym none);
    marked = λ text after marked mark is next. (
      between text stage to.is.0 marked,
      subst (λ s. IsMark text at (record { entries = entries_onto older es; stage = s })) to.is.0 mark,
      omega (arith, is),
      omega (arith, to.is.2, length-onto older es),
    );
  }

  pub takes_saved : (l : SavedLine) (new : StageRead A) → IsSavedOn stage l new → LeadsAs (entries_onto older es) (stage_of stage) line (Saved l) → TakesLine older es stage at line es (Some new)
  takes_saved l new on to =
      let next = on to.is.0 to.is.1 to.is.2 in
      record {
        leads = to.leads ∙ ap Some to.is.3 ∙ ap (λ s. Some (record { entries = entries_onto older es; stage = s })) (sym next.0);
        marked = λ text after marked mark is. next.1 after text older es at marked (omega (arith, is));
      }

  pub takes_complete : (v : Version) (new : StageRead A) → IsCompleted stage (at + length line + 1) new → LeadsAs (entries_onto older es) (stage_of stage) line (Complete v) → TakesLine older es stage at line es (Some new)
  takes_complete v new on to =
      let next = on v to.is.0 to.is.1 in
      record {
        leads = to.leads ∙ ap Some to.is.2 ∙ ap (λ s. Some (record { entries = entries_onto older es; stage = s })) (sym next.0);
        marked = λ text after marked mark is. subst (λ n. KeepsMarks text older es n (Some new)) (sym is) (next.1 text older es at marked (omega arith));
      }

  pub takes_committed : (after : Option ℕ) (news : List (EntryRead A)) → IsFinishedBy es stage after news → LeadsAs (entries_onto older es) (stage_of stage) line (Committed after)
      → TakesLine older es stage at line news (Some BetweenRead)
  takes_committed after news on to =
      let next = on to.is.0 to.is.1 to.is.2 in
      record {
        leads = to.leads ∙ ap Some to.is.3 ∙ ap (λ fs. Some (record { entries = fs; stage = Between })) (sym (next.0 older));
        marked = λ text end marked mark is done. next.1 text older at end marked (omega (arith, is));
      }

told-onto : {A : Type 0} → (done : List Entry) (f : EntryRead A) (es : List (EntryRead A)) → told_by (entries_onto (entry_of f ∷ done) es) ≡ option_and_then (λ (e : EntryRead A). e.after) (slice_get (f ∷ es) (length es))
told-onto done f [] = refl
told-onto done f (h ∷ es) = told-onto (entry_of f ∷ done) h es

-- where there are none, the last of the older ones tells it
pub told-none : {A : Type 0} → (older : List Entry) (es : List (EntryRead A)) (told : Option ℕ) → length es ≡ 0 → told ≡ told_by older → told ≡ told_by (entries_onto older es)
told-none older [] told none is = is
told-none older (f ∷ es) told none is = absurd (omega (arith, none))

pub told-some : {A : Type 0} → (older : List Entry) (es : List (EntryRead A)) → (length es ≡ 0 → ⊥) → told_by (entries_of es) ≡ told_by (entries_onto older es)
told-some older [] some = absurd (some refl)
told-some older (f ∷ es) some = told-onto [] f es ∙ sym (told-onto older f es)

-- the last of them tells the length
pub told-last : {A : Type 0} → (es : List (EntryRead A)) (e : Option (EntryRead A)) → e ≡ slice_get es (length es - 1) → option_and_then (λ (f : EntryRead A). f.after) e ≡ told_by (entries_of es)
told-last {A = A} [] e is = ap (option_and_then (λ (f : EntryRead A). f.after)) is
told-last {A = A} (f ∷ es) e is =
    let place : suc (length es) - 1 ≡ length es = omega arith in
    ap (option_and_then (λ (f : EntryRead A). f.after)) (is ∙ ap (slice_get (f ∷ es)) place) ∙ sym (told-onto [] f es)
