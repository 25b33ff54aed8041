-- A text that is read in windows: a window more.
use Rattle.std.proofs.Common.{◌≡◌, ℕ, ◌+◌, ◌<◌, ◌≤◌, inl, inr, List, [], ◌∷◌, ◌++◌, length, length-append, length-take, take, drop, ap, sym, ◌∙◌, subst, arith, Option, Some, None, Result, Ok, Err}
use Rattle.std.specs.Prelude.{IfOk, IfSome}
use Rattle.std.proofs.lemmas.List.{take_all}
use Rattle.bx_journal_format.proofs.TallyLemmas.{take_sum}
use Rattle.bx_journal_read.specs.declared.scan.count.CountScan.{CountScan}
use Rattle.bx_journal_read.specs.declared.scan.windows.Reached.{Reached}
use Rattle.bx_journal_read.specs.declared.scan.windows.Taken.{Taken}
use Rattle.bx_journal_format.specs.Text.{ended}
use Rattle.bx_journal_model.specs.Long.{IsLongLine}
use Rattle.bx_journal_read.specs.scan.Windows.{IfReached, IsCountedBy, IsLedTo, IsReached, IsWalkedTo, TakesLong}
use Rattle.bx_journal_model.proofs.WindowBytes.{front_of}

-- a window more
pub reached_on : {S : Type 0} → (faithful : Type 0) (stored window : List ℕ) (Leads : S → List ℕ → Type 0) (len at m n : ℕ) (old new : S)
    → (led : IsLedTo faithful stored Leads at old) → (faithful → window ≡ take m (drop at stored)) → n ≤ length window → at + length window ≤ len
    → Leads new (led.text ++ take n window) → IsReached faithful stored Leads len (record { scan = new; at = at + n })
reached_on faithful stored window Leads len at m n old new led read within below leads =
    let a : List ℕ = led.text in
    let bytes : List ℕ = take n window in
    let more : length bytes ≡ n = omega (arith, length-take n window, within) in
    let is : faithful → a ++ bytes ≡ take (at + n) stored =
    λ h. ap (λ l. l ++ bytes) (led.is h) ∙ ap (λ l. take at stored ++ l) (front_of n m window (drop at stored) within (read h)) ∙ sym (take_sum at n stored) in
    record {
      led = record { text = a ++ bytes; is = is; long = omega (arith, length-append a bytes, led.long, more); leads = leads };
      below = omega (arith, within, below);
    }

-- what is said of a place that was reached
pub reached_of : {R E : Type 0} → (P : R → Type 0) (scanned : Result (Option R) E) (found : Option R) (r : R) → scanned ≡ Ok found → found ≡ Some r → IfOk scanned (λ o. IfSome o P) → P r
reached_of P scanned found r was is there = subst (λ o. IfSome o P) is (subst (λ s. IfOk s (λ o. IfSome o P)) was there)

-- what is said of an answer that is there
pub some_of : {R : Type 0} → (P : R → Type 0) (found : Option R) (r : R) → found ≡ Some r → IfSome found P → P r
some_of P found r is there = subst (λ o. IfSome o P) is there

-- the end that was reached is that of all the text, behind a call that only looked at it
pub reached_all : {S : Type 0} → (H now : Type 0) (stored text : List ℕ) (Leads : S → List ℕ → Type 0) (len at : ℕ) (scan : S) → (H → now) → (H → text ≡ stored) → (H → len ≡ length stored) → at ≡ len
    → (led : IsLedTo now text Leads at scan) → H → stored ≡ led.text
reached_all H now stored text Leads len at scan still same long all led h = sym (led.is (still h) ∙ ap (take at) (same h) ∙ take_all at stored (omega (arith, all, long h)))

-- what was counted was walked along
pub walked_of : (faithful : Type 0) (stored : List ℕ) (first : CountScan) (len : ℕ) (r : Reached CountScan) → IsReached faithful stored (IsCountedBy first) len r
    → IsWalkedTo faithful stored first.only_second len (record { tally = r.scan.tally; at = r.at; lines = r.scan.lines })
walked_of faithful stored first len r reached = record {
  led = record { text = reached.led.text; is = reached.led.is; long = reached.led.long; leads = reached.led.leads.tallied };
  below = reached.below;
  lines = omega (arith, reached.led.leads.lines, reached.led.long);
  few = reached.led.leads.few;
}

-- a line that is longer than a window more
pub reached_long : {S : Type 0} → (faithful : Type 0) (stored front : List ℕ) (Leads : S → List ℕ → Type 0) (len at size : ℕ) (old new : S) → (led : IsLedTo faithful stored Leads at old)
    → (l : IsLongLine faithful stored at len front size) → Leads new (led.text ++ ended (front ++ l.more)) → IsReached faithful stored Leads len (record { scan = new; at = at + size + 1 })
reached_long faithful stored front Leads len at size old new led l leads =
    let line : List ℕ = ended (front ++ l.more) in
    let place : at + (size + 1) ≡ at + size + 1 = omega arith in
    record {
      led = record {
        text = led.text ++ line;
        is = λ h. ap (λ t. t ++ line) (led.is h) ∙ ap (λ t. take at stored ++ t) (sym (l.is h)) ∙ sym (take_sum at (size + 1) stored) ∙ ap (λ n. take n stored) place;
        long = omega (arith, length-append led.text line, length-append (front ++ l.more) (10 ∷ []), length-append front l.more, led.long, l.long);
        leads = leads;
      };
      below = omega (arith, l.within);
    }

-- or it isn't taken
pub long_reached : {S : Type 0} → (faithful : Type 0) (stored front : List ℕ) (Leads : S → List ℕ → Type 0) (len at size : ℕ) (old : S) (t : Taken S) → (led : IsLedTo faithful stored Leads at old)
    → (l : IsLongLine faithful stored at len front size) → TakesLong Leads led.text (ended (front ++ l.more)) t → 0 < t.taken → IsReached faithful stored Leads len (record { scan = t.scan; at = at + size + 1 })
long_reached faithful stored front Leads len at size old t led l takes some =
    elim takes [
      | inl none ↦ absurd (omega (arith, none.0, some))
      | inr more ↦ reached_long faithful stored front Leads len at size old t.scan led l more.1
    ]

pub long_stays : {S : Type 0} → (faithful : Type 0) (stored line : List ℕ) (Leads : S → List ℕ → Type 0) (len at : ℕ) (old : S) (t : Taken S) → (led : IsLedTo faithful stored Leads at old) → at ≤ len
    → TakesLong Leads led.text line t → t.taken ≡ 0 → IsReached faithful stored Leads len (record { scan = t.scan; at = at })
long_stays faithful stored line Leads len at old t led below takes none =
    elim takes [
      | inl same ↦ record { led = record { text = led.text; is = led.is; long = led.long; leads = same.1 }; below = below }
      | inr more ↦ absurd (omega (arith, more.0, none))
    ]

-- what is said of a place that was reached is weaker
pub reached_weaker : {R E F : Type 0} → (P Q : R → Type 0) → ((r : R) → P r → Q r) → (result : Result (Result (Option R) E) F) → IfReached result P → IfReached result Q
reached_weaker P Q more (Ok (Ok (Some r))) h = more r h
reached_weaker P Q more (Ok (Ok None)) h = tt
reached_weaker P Q more (Ok (Err e)) h = tt
reached_weaker P Q more (Err e) h = tt
