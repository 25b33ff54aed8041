-- A line whose first bytes alone are at hand.
use Rattle.std.proofs.Common.{◌≡◌, ℕ, zero, suc, ◌+◌, ◌≤◌, Bool, List, [], ◌∷◌, ◌++◌, length, length-append, take, drop, refl, ap, sym, ◌∙◌, subst, arith, append-nil, Some}
use Rattle.std.proofs.Math.Seq.{take-append_seam}
use Rattle.bx_journal_format.specs.declared.format.line.SavedLine.{SavedLine}
use Rattle.bx_journal_format.specs.declared.read.classify.Event.{Event}
use Rattle.bx_journal_format.specs.declared.read.classify.Event.TheVariants.{Begun, Saved, Complete, Committed}
use Rattle.bx_journal_format.specs.declared.read.count.Place.TheVariants.{Saving as SavingPlace}
use Rattle.bx_journal_format.specs.declared.read.count.Tally.{Tally}
use Rattle.bx_journal_format.specs.declared.read.marks.Mark.{Mark}
use Rattle.bx_journal_format.specs.declared.read.marks.Marking.{Marking}
use Rattle.bx_journal_format.specs.declared.read.rows.Summed.{Summed}
use Rattle.bx_journal_format.specs.declared.read.types.EntryRead.{EntryRead}
use Rattle.bx_journal_format.specs.declared.read.types.StageRead.{StageRead}
use Rattle.bx_journal_format.specs.Parsed.{Leads, entries_onto, reading_onto}
use Rattle.bx_journal_format.specs.Text.{Entry, Stage, Reading, ended}
use Rattle.bx_journal_format.specs.count.Marks.{IsMarked, ended_mark}
use Rattle.bx_journal_format.specs.count.Rows.{SumsTo, summed_behind}
use Rattle.bx_journal_format.specs.count.Tally.{LeadsTo, place_of}
use Rattle.bx_journal_format.specs.read.Event.{IsEvent, LeadsAs, run_in}
use Rattle.bx_journal_format.specs.read.Lines.{IsReadAt}
use Rattle.bx_journal_format.specs.read.Plain.{HasNoNewline}
use Rattle.bx_journal_format.specs.read.TakeLine.{TakesLine}
use Rattle.bx_journal_format.proofs.LinesLemmas.{left_of_whole, read_one}
use Rattle.bx_journal_format.proofs.MarkLemmas.{marked_line}
use Rattle.bx_journal_format.proofs.ReadLoop.{IsFound}
use Rattle.bx_journal_format.proofs.Stops.{next_more, saved_same, save_few}
use Rattle.bx_journal_format.proofs.SumLemmas.{sums_to}

-- what a line is by its first bytes it is, whatever follows them
event_more : (es : List Entry) (stage : Stage) (front more : List ℕ) (q : Reading) (event : Event) → 1024 ≤ length front → IsEvent es stage front q event → IsEvent es stage (front ++ more) q event
event_more es stage front more q (Begun v len) long is = is
event_more es stage front more q (Saved l) long is = (is.0, is.1, is.2, is.3, saved_same is.1.len front more long ∙ is.4)
event_more es stage front more q (Complete v) long is = absurd (omega (arith, long, ap length is.3, save_few (suc (length es))))
event_more es stage front more q (Committed after) long is = is

pub leads_more : (es : List Entry) (stage : Stage) (front more : List ℕ) (event : Event) → 1024 ≤ length front → LeadsAs es stage front event → LeadsAs es stage (front ++ more) event
leads_more es stage front more event long to = record {
  reading = to.reading;
  leads = next_more es stage front more to.reading long to.leads;
  is = event_more es stage front more to.reading event long to.is;
}

-- and so it leads to the same tally
pub tally_more : (only_second : Bool) (r : Reading) (front more : List ℕ) (t : Tally) → 1024 ≤ length front → LeadsTo only_second r front t → LeadsTo only_second r (front ++ more) t
tally_more only_second r front more t long to = record { reading = to.reading; leads = next_more r.entries r.stage front more to.reading long to.leads; is = to.is; tell = to.tell }

-- and to the same sums
pub sums_more : (r : Reading) (front more : List ℕ) (s : Summed) → 1024 ≤ length front → SumsTo r front s → SumsTo r (front ++ more) s
sums_more r front more s long to = record { reading = to.reading; leads = next_more r.entries r.stage front more to.reading long to.leads; is = to.is }

-- a line with its newline is found where it stands
ended_found : (l : List ℕ) → HasNoNewline l → IsFound (ended l) (length l) × (take (length l) (ended l) ≡ l)
ended_found l plain =
    let front : take (length l) (ended l) ≡ l = take-append_seam l (10 ∷ []) in
    let behind : drop (length l + 1) (ended l) ≡ [] = drop_end (length l + 1) (ended l) (omega (arith, length-append l (10 ∷ []))) in (
      record {
        below = omega (arith, length-append l (10 ∷ []));
        plain = subst HasNoNewline (sym front) plain;
        is = ap (λ t. t ++ 10 ∷ []) (sym front) ∙ ap (λ t. take (length l) (ended l) ++ 10 ∷ t) (sym behind);
      },
      front,
    )
  where
    drop_end : (n : ℕ) (t : List ℕ) → length t ≤ n → drop n t ≡ []
    drop_end zero [] below = refl
    drop_end (suc n) [] below = refl
    drop_end zero (b ∷ t) below = absurd (omega (arith, below))
    drop_end (suc n) (b ∷ t) below = drop_end n t (omega (arith, below))

-- a text that was read, with one line more
pub read_ended : {A : Type 0} → (text l : List ℕ) (older : List Entry) (es : List (EntryRead A)) (stage s : StageRead A) (at : ℕ) → length text ≡ at → HasNoNewline l → IsReadAt (text ++ ended l) older es stage at
    → TakesLine older es stage at l es (Some s) → IsReadAt (text ++ ended l) older es s (at + length l + 1)
read_ended text l older es stage s at long plain read takes =
    let f = ended_found l plain in
    let start : at + 0 ≡ at = omega arith in
    read_one (text ++ ended l) (ended l) older es es stage s at (length l) read (left_of_whole text (ended l) at 0 long ∙ ap (λ n. drop n (text ++ ended l)) start) f.0
    (subst (λ k. Leads (reading_onto older es stage) k (entries_onto older es) (Some s)) (sym f.1) takes.leads) (takes.marked (text ++ ended l) (at + length l + 1) read.marked read.mark refl)

-- a text that was marked, with a saved line more
pub marked_saved : (text l : List ℕ) (marks : List Mark) (now : Marking) (sums : Summed) (after : ℕ) (saved : SavedLine) → (h : IsMarked text now marks) → HasNoNewline l → sums ≡ summed_behind now.sums (Saved saved)
    → LeadsAs h.reading.entries h.reading.stage l (Saved saved) → after ≡ length text + length l + 1 → IsMarked (text ++ ended l) (record { sums = sums; from = now.from; to = after }) marks
marked_saved text l marks now sums after saved h plain more to long =
    let lead = sums_to h.reading now.sums sums l (Saved saved) h.is more to in
    let next : Marking = record { sums = sums; from = now.from; to = after } in
    let all = marked_line text l marks now sums h plain lead to.is.0 to.is.1 (run_in saved) after to.is.2 to.is.3 to.is.4 long in
    let place : SavingPlace to.is.0 to.is.1.len ≡ sums.tally.place =
    ap place_of (sym to.is.2) ∙ ap (λ (s : Summed). s.tally.place) h.is ∙ ap (λ (s : Summed). s.tally.place) (sym more) in
    subst (IsMarked (text ++ ended l) next) (append-nil marks) (subst (λ p. IsMarked (text ++ ended l) next (marks ++ ended_mark p next)) (sym place) all)
