-- What is said of a text behind calls that only read it.
use Rattle.std.proofs.Common.{◌∙◌, ℕ, false, List, take, ap, sym, subst}
use Rattle.bx_journal_store.specs.declared.store.TextStore.{Ghosts as StoreViews}
use Rattle.bx_journal_read.specs.declared.scan.count.Walk.{Walk}
use Rattle.bx_journal_read.specs.declared.scan.torn.Torn.{Torn}
use Rattle.bx_journal_read.specs.declared.scan.windows.Reached.{Reached}
use Rattle.bx_journal_model.specs.Looking.{OnlyReadsText}
use Rattle.bx_journal_read.specs.scan.Recovery.{IsTornIn, IsUnfinishedIn}
use Rattle.bx_journal_read.specs.scan.Windows.{IsLedTo, IsReached, IsWalkedTo}
use Rattle.bx_journal_read.proofs.WalkLemmas.{walked_after}

module _ {T : Type 0} (t : StoreViews T) where
  -- what was walked along is so behind it
  pub read_walked : {old now : T} → OnlyReadsText t false old now → (len : ℕ) (w : Walk) → IsWalkedTo (t.faithful old) (t.text old) false len w → IsWalkedTo (t.faithful now) (t.text now) false len w
  read_walked {old = old} {now = now} first len w walked = walked_after (t.faithful old) (t.faithful now) (t.text old) (t.text now) false len w first.goes_on.faith.0 first.text walked

  -- so does what a text leads to
  pub read_led : {S : Type 0} {old now : T} → OnlyReadsText t false old now → (Leads : S → List ℕ → Type 0) (at : ℕ) (scan : S) → IsLedTo (t.faithful old) (t.text old) Leads at scan
      → IsLedTo (t.faithful now) (t.text now) Leads at scan
  read_led first Leads at scan led =
      record { text = led.text; is = λ n. let h = first.goes_on.faith.0 n in led.is h ∙ ap (take at) (sym (first.text h)); long = led.long; leads = led.leads }

  pub read_reached : {S : Type 0} {old now : T} → OnlyReadsText t false old now → (Leads : S → List ℕ → Type 0) (len : ℕ) (r : Reached S) → IsReached (t.faithful now) (t.text now) Leads len r
      → IsReached (t.faithful old) (t.text old) Leads len r
  read_reached first Leads len r reached = record {
    led = record { text = reached.led.text; is = λ h. reached.led.is (first.goes_on.faith.1 h) ∙ ap (take r.at) (first.text h); long = reached.led.long; leads = reached.led.leads };
    below = reached.below;
  }

  -- what is found unfinished behind it is so before
  pub read_unfinished : {old now : T} → OnlyReadsText t false old now → (torn : Torn) → IsUnfinishedIn (t.faithful now) (t.text now) torn → IsUnfinishedIn (t.faithful old) (t.text old) torn
  read_unfinished first torn u = record {
    torn = λ h. subst (λ y. IsTornIn y torn) (first.text h) (u.torn (first.goes_on.faith.1 h));
    few = u.few;
    order = u.order;
  }
