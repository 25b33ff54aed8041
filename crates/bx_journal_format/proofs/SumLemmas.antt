-- What an entry saves, summed line by line.
use Rattle.std.proofs.Common.{◌≡◌, ℕ, false, List, [], length, refl, ap, sym, ◌∙◌, Some}
use Rattle.bx_journal_format.specs.declared.format.version.Version.{Version}
use Rattle.bx_journal_format.specs.declared.read.classify.Event.{Event}
use Rattle.bx_journal_format.specs.declared.read.classify.Event.TheVariants.{Begun, Saved, Complete, Committed}
use Rattle.bx_journal_format.specs.declared.read.count.Tally.{Tally}
use Rattle.bx_journal_format.specs.declared.read.rows.Summed.{Summed}
use Rattle.bx_journal_format.specs.Kept.{Run, Kept}
use Rattle.bx_journal_format.specs.Text.{Entry, Saving, Reading, start, split, after_lines}
use Rattle.bx_journal_format.specs.read.Event.{IsEvent, LeadsAs, kept_with, run_in, tally_behind}
use Rattle.bx_journal_format.specs.count.Tally.{tally_of, IsTallied}
use Rattle.bx_journal_format.specs.count.Rows.{saved_length, saved_at, summed_behind, summed_of, with_more, SumsTo}
use Rattle.bx_journal_format.proofs.Gathered.{with_run-sum}
use Rattle.bx_journal_format.proofs.TallyLemmas.{event_counts}

-- what the newest entry of a reading saved
abbrev newest : Reading → Kept
newest r = saved_at r.entries r.stage

abbrev size : Run → ℕ
size run = length run.bytes

summed_by : (q : Reading) (t : Tally) (len saved : ℕ) → tally_of q ≡ t → (newest q).len ≡ len → saved_length (newest q) ≡ saved → summed_of q ≡ record { tally = t; len = len; saved = saved }
summed_by q t len saved tally long many =
    ap (λ u. record { tally = u; len = (newest q).len; saved = saved_length (newest q) }) tally
    ∙ ap (λ n. record { tally = t; len = n; saved = saved_length (newest q) }) long
    ∙ ap (λ n. record { tally = t; len = len; saved = n }) many

one_reading : (r q : Reading) → Some r ≡ Some q → r ≡ q
one_reading r q e = cc

-- nothing was read
pub summed_none : (t : Tally) → IsTallied false [] t 0 → record { tally = t; len = 0; saved = 0 } ≡ summed_of start
unfolding split after_lines
summed_none t h =
    let same : start ≡ h.reading = one_reading start h.reading h.reads in
    sym (summed_by start t 0 0 (ap tally_of same ∙ h.is) refl refl)

-- one more run among what the newest entry saves
pub sum_saved : (es : List Entry) (v : Version) (s : Kept) (p : Run) → summed_of (record { entries = es; stage = Saving v (kept_with s p) }) ≡ with_more (summed_of (record { entries = es; stage = Saving v s })) (length p.bytes)
sum_saved es v s p = ap (λ n. record { tally = tally_of (record { entries = es; stage = Saving v s }); len = s.len; saved = n }) (with_run-sum size (λ run. refl) s.runs p)

-- what is seen of a reading as sums, behind a line
pub event_sums : (r q : Reading) (line : List ℕ) (e : Event) → IsEvent r.entries r.stage line q e → summed_of q ≡ summed_behind (summed_of r) e
event_sums r q line (Begun v len) is =
    summed_by q (tally_behind (tally_of r) (Begun v len)) len 0 (event_counts r q line (Begun v len) is) (ap (λ (p : Reading). (newest p).len) is.1) (ap (λ (p : Reading). saved_length (newest p)) is.1)
event_sums r q line (Saved l) is =
    ap summed_of is.3 ∙ sum_saved r.entries is.0 is.1 (run_in l) ∙ ap (λ s. with_more (summed_of (record { entries = r.entries; stage = s })) (length (run_in l).bytes)) (sym is.2)
event_sums r q line (Complete v) is =
    let same : newest q ≡ newest r = ap newest is.2 ∙ ap (saved_at r.entries) (sym is.1) in
    summed_by q (tally_behind (tally_of r) (Complete v)) (newest r).len (saved_length (newest r)) (event_counts r q line (Complete v) is) (ap (λ (k : Kept). k.len) same) (ap saved_length same)
event_sums r q line (Committed after) is =
    let same : newest q ≡ newest r = ap newest is.3 ∙ ap (saved_at r.entries) (sym is.2) in
    summed_by q (tally_behind (tally_of r) (Committed after)) (newest r).len (saved_length (newest r)) (event_counts r q line (Committed after) is) (ap (λ (k : Kept). k.len) same) (ap saved_length same)

-- one more line leads from sums to the next
abbrev pub sums_to : (r : Reading) (now next : Summed) (line : List ℕ) (e : Event) → summed_of r ≡ now → next ≡ summed_behind now e → LeadsAs r.entries r.stage line e → SumsTo r line next
sums_to r now next line e is more to = record {
  reading = to.reading;
  leads = to.leads;
  is = event_sums r to.reading line e to.is ∙ ap (λ s. summed_behind s e) is ∙ sym more;
}
