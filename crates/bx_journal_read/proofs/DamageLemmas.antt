-- A text that is damaged behind its lines in place.
use Rattle.std.proofs.Common.{◌≡◌, ℕ, suc, ◌+◌, ◌-◌, ◌≤◌, Bool, true, false, List, [], ◌++◌, length, length-append, take, drop, refl, ap, sym, ◌∙◌, subst, arith, Some, Option, None, Result, Ok, Err, append-nil}
use Rattle.std.specs.Prelude.{IfOk, IfSome}
use Rattle.std.proofs.Math.Seq.{take-append_seam, drop-append_seam}
use Rattle.bx_journal_format.specs.Text.{Reading, IsDamagedAt, split, start, after_lines}
use Rattle.bx_journal_format.specs.count.Mark.{IsMark}
use Rattle.bx_journal_format.specs.count.Tally.{tally_of}
use Rattle.bx_journal_format.specs.read.Stops.{StopsAt}
use Rattle.bx_journal_format.proofs.ReadLoop.{drop_twice}
use Rattle.bx_journal_format.proofs.Stops.{endless_stops, stopped}
use Rattle.bx_journal_format.proofs.TallyLemmas.{take_sum}
use Rattle.bx_journal_read.specs.declared.scan.count.Walk.{Walk}
use Rattle.bx_journal_read.specs.declared.scan.damage.PlaceScan.{PlaceScan}
use Rattle.bx_journal_read.specs.declared.scan.windows.Reached.{Reached}
use Rattle.bx_journal_read.specs.scan.Damage.{IsDamagedIn, IsInPlace}
use Rattle.bx_journal_model.specs.Long.{IsPlainTo}
use Rattle.bx_journal_read.specs.scan.Windows.{IsReached, IsWalkedTo}

-- lines in place were walked along
pub placed_of : (faithful : Type 0) (stored : List ℕ) (len : ℕ) (r : Reached PlaceScan) → IsReached faithful stored IsInPlace len r
    → IsWalkedTo faithful stored false len (record { tally = r.scan.tally; at = r.at; lines = r.scan.lines })
placed_of faithful stored len r reached = record {
  led = record { text = reached.led.text; is = reached.led.is; long = reached.led.long; leads = reached.led.leads.tallied };
  below = reached.below;
  lines = omega (arith, reached.led.leads.lines, reached.led.long);
  few = reached.led.leads.few;
}

at_seam : (a b : List ℕ) (n : ℕ) → length a ≡ n → (take n (a ++ b) ≡ a) × (drop n (a ++ b) ≡ b)
at_seam a b n long = subst (λ k. (take k (a ++ b) ≡ a) × (drop k (a ++ b) ≡ b)) long (take-append_seam a b, drop-append_seam a b)

-- what follows the lines that were walked along stops the reading
pub damaged_behind : (H : Type 0) (stored bytes : List ℕ) (len n : ℕ) (all : Bool) (w : Walk) → IsWalkedTo H stored false len w → (H → bytes ≡ take n (drop w.at stored)) → length bytes ≡ n → w.at + n ≤ len
    → (all ≡ true → n ≡ len - w.at) → ((r : Reading) → tally_of r ≡ w.tally → (more : List ℕ) → (all ≡ true → more ≡ []) → StopsAt r (bytes ++ more))
    → IsDamagedIn H (take len stored) (w.lines + 1)
damaged_behind H stored bytes len n all w walked read long below ends stops =
    let a : List ℕ = walked.led.text in
    let t = walked.led.leads in
    let r : Reading = t.reading in
    let k : ℕ = len - (w.at + n) in
    let more : List ℕ = take k (drop (w.at + n) stored) in
    let seam = at_seam a (bytes ++ more) w.at walked.led.long in
    let mark : IsMark (a ++ (bytes ++ more)) w.at r = record {
      within = omega (arith, length-append a (bytes ++ more), walked.led.long);
      lines = ap (λ u. after_lines start (split u).lines) seam.0 ∙ t.reads;
      whole = ap (λ u. (split u).rest) seam.0 ∙ t.whole;
    } in
    let none : all ≡ true → more ≡ [] = λ e. let zero : k ≡ 0 = omega (arith, ends e, below) in ap (λ m. take m (drop (w.at + n) stored)) zero in
    let here : StopsAt r (drop w.at (a ++ (bytes ++ more))) = subst (StopsAt r) (sym seam.1) (stops r t.is more none) in
    let number : suc (length (split (take w.at (a ++ (bytes ++ more)))).lines) ≡ w.lines + 1 = ap (λ u. suc (length (split u).lines)) seam.0 ∙ omega (arith, t.many) in
    record {
      text = a ++ (bytes ++ more);
      is = λ h.
          let count : w.at + (n + k) ≡ len = omega (arith, below) in
          ap (λ m. take m stored) (sym count) ∙ take_sum w.at (n + k) stored
          ∙ ap (λ u. take w.at stored ++ u) (take_sum n k (drop w.at stored) ∙ ap (λ u. take n (drop w.at stored) ++ take k u) (drop_twice w.at n stored) ∙ ap (λ u. u ++ more) (sym (read h)))
          ∙ ap (λ u. u ++ (bytes ++ more)) (sym (walked.led.is h));
      damaged = subst (IsDamagedAt (a ++ (bytes ++ more))) number (stopped (a ++ (bytes ++ more)) w.at r mark here);
    }

-- what was found of a store is so of it before
pub damaged_before : (H now : Type 0) (stored text : List ℕ) (line : ℕ) → (H → now) → (H → text ≡ stored) → IsDamagedIn now text line → IsDamagedIn H stored line
damaged_before H now stored text line to same d = record { text = d.text; is = λ h. sym (same h) ∙ d.is (to h); damaged = d.damaged }

pub line_all : {A E : Type 0} → (P Q : A → Type 0) (result : Result (Option A) E) → ((t : A) → P t → Q t) → IfOk result (λ found. IfSome found P) → IfOk result (λ found. IfSome found Q)
line_all P Q (Ok (Some t)) all h = all t h
line_all P Q (Ok None) all h = tt
line_all P Q (Err e) all h = tt

-- what ends in a line that is surely too long is damaged there
pub damaged_long : (H : Type 0) (stored : List ℕ) (len : ℕ) (w : Walk) → IsWalkedTo H stored false len w → 1024 ≤ len - w.at → IsPlainTo H stored w.at len → IsDamagedIn H (take len stored) (w.lines + 1)
damaged_long H stored len w walked long p =
    let n : ℕ = len - w.at in
    let count : length p.bytes ≡ n = omega (arith, p.long) in
    damaged_behind H stored p.bytes len n true w walked p.is count (omega (arith, walked.below)) (λ e. refl)
    (λ r same more none. subst (StopsAt r) (sym (ap (λ u. p.bytes ++ u) (none refl) ∙ append-nil p.bytes)) (endless_stops r p.bytes p.plain (omega (arith, count, long))))
