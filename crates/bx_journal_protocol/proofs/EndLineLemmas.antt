-- What a failed append or cut of an end line leaves, and that an open entry isn't finished.
use Rattle.std.proofs.Common.{◌≡◌, ℕ, suc, ◌≤◌, List, [], ◌∷◌, ◌++◌, length, take, drop, refl, ap, sym, ◌∙◌, subst, inl, inr, ◌⊎◌, Some}
use Rattle.std.proofs.lemmas.List.{take-append-drop}
use Rattle.bx_image.specs.declared.change.TheConstants.{MAX_LEN}
use Rattle.bx_image.specs.Change.{restore}
use Rattle.bx_journal_format.specs.Kept.{Kept}
use Rattle.bx_journal_format.specs.declared.format.version.Version.{Version}
use Rattle.bx_journal_format.specs.declared.format.version.Version.TheVariants.{Second}
use Rattle.bx_journal_format.specs.Line.{end_line}
use Rattle.bx_journal_format.specs.Entry.{end_text}
use Rattle.bx_journal_format.specs.Text.{IsPrefix, Reading, Entry, Between, Ending, split, start, after_lines}
use Rattle.bx_journal_model.specs.Stack.{stack_of, Recovers}
use Rattle.bx_journal_model.specs.Phase.{RecoversEither, IsOpen}
use Rattle.bx_journal_format.proofs.EntryRun.{end_run, ending}
use Rattle.bx_journal_format.proofs.Foreign.{way_in_end}
use Rattle.bx_journal_format.proofs.Runs.{SafeRun, Goes, safe_prefix}
use Rattle.bx_journal_model.proofs.Phases.{Fine, ReadsShort, ended_fine, extends, length-stack_of, open_fine, open_is_whole, open_recovers, recovers_by}
use Rattle.bx_journal_model.proofs.Cuts.{Newest, newest_of, cut_leaves}
use Rattle.bx_journal_model.specs.Redo.{IsClean, RecoversOpen}
use Rattle.bx_journal_protocol.proofs.RedoLawsStated.{OpenIsNotClean, EndIsSharp, CutIsSharp}
use Rattle.bx_journal_protocol.proofs.RedoText.{one_reading}

-- a text that reads as something unfinished isn't finished entries alone
pub not_clean : (text : List ℕ) (q : Reading) → after_lines start (split text).lines ≡ Some q → (q.stage ≡ Between → ⊥) → IsClean text → ⊥
not_clean text q reads apart clean =
    let same : q ≡ record { entries = clean.0; stage = Between } = one_reading (sym reads ∙ clean.1.reads.lines) in
    apart (ap (λ (r : Reading). r.stage) same)

ending_apart : (v : Version) (s : Kept) → Ending v s ≡ Between → ⊥
ending_apart v s e = cc

pub open_is_not_clean : OpenIsNotClean
open_is_not_clean v s text x stack o = (
  open_recovers v s text x stack o,
  not_clean text (record { entries = o.entries; stage = Ending v s }) o.reads.lines (ending_apart v s),
)

-- the entry is open, with one stack, or finished, with the other
abbrev pub FineOpen : List ℕ → List (List ℕ) → List (List ℕ) → Reading → Type 0
FineOpen x below stack r = (Fine x below r × (r.stage ≡ Between → ⊥)) ⊎ Fine x stack r

end_fine : (text x : List ℕ) (stack : List (List ℕ)) (s : Kept) (o : IsOpen Second s text x stack) (after : ℕ) → length x ≡ after → after ≤ MAX_LEN
    → SafeRun (FineOpen x stack (x ∷ stack)) (λ r. Unit {0}) (record { entries = o.entries; stage = Ending Second s }) (end_line Second (length stack) after ∷ [])
unfolding stack_of
end_fine text x stack s o after told most =
    let es : List Entry = o.entries in
    let count : length stack ≡ suc (length es) = ap length o.stack_is ∙ length-stack_of es (restore s x) in
    let E : Reading → Type 0 = λ r. Unit {0} in
    let Q : Reading → Type 0 = FineOpen x stack (x ∷ stack) in
    let run : SafeRun Q E (ending es Second s.len s.runs) (end_line Second (suc (length es)) after ∷ []) =
    end_run Q E es s after most
    (inl (open_fine text x stack s o, ending_apart Second s))
    (inr (ended_fine text x stack s o after told)) tt in
    subst (λ n. SafeRun Q E (ending es Second s.len s.runs) (end_line Second n after ∷ [])) (sym count) run

open_by : (new x : List ℕ) (below : List (List ℕ)) (q : Reading) → ReadsShort new q → Fine x below q × (q.stage ≡ Between → ⊥) → RecoversOpen new x below
open_by new x below q e f = (
  recovers_of new x below q e f.0,
  not_clean new q e.lines f.1,
)
  where
    recovers_of : (new x : List ℕ) (stack : List (List ℕ)) (q : Reading) → ReadsShort new q → Fine x stack q → Recovers new x stack
    recovers_of new x stack q r f = record { reading = q; reads = record { lines = r.lines; rest = r.rest }; sound = record { short = r.short; unfinished = f.covers; finished = f.finished }; lengths = f.lengths; stack_is = f.stack_is }

-- any front of the line that ends the entry leaves it open, or the image on the stack
pub end_sharp : (text x : List ℕ) (stack : List (List ℕ)) (s : Kept) (after : ℕ) (p : List ℕ) → IsOpen Second s text x stack → length x ≡ after → after ≤ MAX_LEN
    → IsPrefix p (end_text (length stack) after) → RecoversOpen (text ++ p) x stack ⊎ Recovers (text ++ p) x (x ∷ stack)
end_sharp text x stack s after p o told most front =
    let r : Reading = record { entries = o.entries; stage = Ending Second s } in
    let Q : Reading → Type 0 = FineOpen x stack (x ∷ stack) in
    let E : Reading → Type 0 = λ q. Unit {0} in
    let g : Goes Q r p = safe_prefix Q E r (end_line Second (length stack) after ∷ []) (end_fine text x stack s o after told most) p front in
    let e : ReadsShort (text ++ p) g.reading = extends Q text p r (open_is_whole Second s text x stack o) g in
    elim (g.has) [
      | inl f ↦ inl (open_by (text ++ p) x stack g.reading e f)
      | inr f ↦ inr (recovers_by text p x (x ∷ stack) g.reading e f)
    ]

front_of : (k : ℕ) (bytes text : List ℕ) → bytes ≡ text → IsPrefix (take k bytes) text
front_of k bytes text is = (drop k bytes, sym is ∙ sym (take-append-drop k bytes))

pub end_is_sharp : EndIsSharp
end_is_sharp text new x stack s line ends part =
    subst (λ t. RecoversOpen t x stack ⊎ Recovers t x (x ∷ stack)) (sym part.1)
    (end_sharp text x stack s (length x) (take part.0 line) ends.unfinished refl ends.fits (front_of part.0 line (end_text (length stack) (length x)) ends.end_is))

fine_ending : (text x : List ℕ) (below : List (List ℕ)) (es : List Entry) (e : Entry) (v : Version) → Newest text x below es e → Fine x below (record { entries = es; stage = Ending v e.saved })
fine_ending text x below es e v n = record { covers = n.covers; finished = n.finished; lengths = n.lengths.1; stack_is = n.stack_is }

fine_before : (text x : List ℕ) (below : List (List ℕ)) (es : List Entry) (e : Entry) → Newest text x below es e → Fine x (x ∷ below) (record { entries = e ∷ es; stage = Between })
unfolding stack_of
fine_before text x below es e n = record { covers = tt; finished = (n.covers, n.finished); lengths = n.lengths; stack_is = ap (λ s. x ∷ s) n.stack_is }

pub cut_is_sharp : CutIsSharp
cut_is_sharp text new x below v e begins saved t part =
    let es : List Entry = t.entries in
    let newest : Newest text x below es e = newest_of text x below es e t.rest t.newest in
    let Q : Reading → Type 0 = FineOpen x below (x ∷ below) in
    let l = cut_leaves Q text new saved (record { entries = es; stage = Ending v e.saved }) (record { entries = e ∷ es; stage = Between }) t.marks.saving newest.read
    (way_in_end Q es e v e.saved (inl (fine_ending text x below es e v newest, ending_apart v e.saved)) (inr (fine_before text x below es e newest))) part in
    elim (l.has) [
      | inl f ↦ inr (open_by new x below l.reading l.reads f)
      | inr f ↦ inl (recovers_of new x (x ∷ below) l.reading l.reads f)
    ]
  where
    recovers_of : (new x : List ℕ) (stack : List (List ℕ)) (q : Reading) → ReadsShort new q → Fine x stack q → Recovers new x stack
    recovers_of new x stack q r f = record { reading = q; reads = record { lines = r.lines; rest = r.rest }; sound = record { short = r.short; unfinished = f.covers; finished = f.finished }; lengths = f.lengths; stack_is = f.stack_is }

-- what the two say without the phase
pub either_of : (text x : List ℕ) (old new : List (List ℕ)) → RecoversOpen text x old ⊎ Recovers text x new → RecoversEither text x old new
either_of text x old new (inl o) = inl o.0
either_of text x old new (inr r) = inr r

pub either_below : (text x : List ℕ) (old new : List (List ℕ)) → Recovers text x old ⊎ RecoversOpen text x new → RecoversEither text x old new
either_below text x old new (inl r) = inl r
either_below text x old new (inr o) = inr o.0
