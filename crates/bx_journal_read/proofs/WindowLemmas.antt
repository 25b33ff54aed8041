-- Counting in windows.
use Rattle.std.proofs.Common.{◌≡◌, ℕ, Bool, List, length, take, ap, sym, ◌∙◌, subst, arith, Result, Ok}
use Rattle.bx_image.specs.Power.{NoMore}
use Rattle.bx_image.proofs.Survivors.{NoMore_then}
use Rattle.bx_journal_store.specs.declared.store.TextStore.{Ghosts as StoreViews}
use Rattle.bx_journal_format.specs.Shown.{shown}
use Rattle.std.specs.Prelude.{IfErr, OnOk}
use Rattle.std.proofs.lemmas.List.{take_all}
use Rattle.std.proofs.lemmas.Result.{IfErr-weaker, IfOk-weaker}
use Rattle.bx_journal_format.specs.Text.{IsDamagedAt}
use Rattle.bx_journal_format.specs.declared.read.types.Front.{Front}
use Rattle.bx_journal_read.specs.declared.scan.journal.Found.{Found}
use Rattle.bx_journal_read.specs.declared.scan.journal.Found.TheVariants.{Finished, Unfinished}
use Rattle.bx_journal_model.specs.declared.fault.SessionFault.{SessionFault}
use Rattle.bx_journal_model.specs.declared.fault.SessionFault.TheVariants.{NoMemory, TooLarge, DeviceFailed, Damaged, TooFew, JournalFull, Interrupted, Broken, LengthDiffers, NothingToRedo, RedoDamaged}
use Rattle.bx_journal_model.specs.Undoing.{AgainFault, IsOutOfStep}
use Rattle.bx_journal_model.specs.Looking.{FaultCounts, LooksAt}
use Rattle.bx_journal_read.specs.scan.Recovery.{FindFault, FindsText, IsFoundIn, IsTornIn}
use Rattle.bx_journal_read.specs.scan.Windows.{IsFrontCounted, IsAllCounted}

-- what was counted of a store is so of it later
pub front_after : (H now : Type 0) (stored text : List ℕ) (only : Bool) (f : Front) → (now → H) → (H → text ≡ stored) → IsFrontCounted H stored only f → IsFrontCounted now text only f
front_after H now stored text only f back same c = record {
  front = c.front;
  is = λ n. c.is (back n) ∙ ap (take f.at) (sym (same (back n)));
  long = c.long;
  counted = c.counted;
  lines = c.lines;
  few = c.few;
}

-- all of a text was counted
pub all_of : (faithful : Type 0) (stored : List ℕ) (only : Bool) (f : Front) (len : ℕ) → IsFrontCounted faithful stored only f → (faithful → len ≡ length stored) → f.at ≡ len
    → IsAllCounted faithful stored only (record { counted = record { count = f.count; told = f.told }; lines = f.lines })
all_of faithful stored only f len c long all = record {
  text = c.front;
  is = λ h. sym (c.is h ∙ take_all f.at stored (omega (arith, long h, all)));
  counted = c.counted;
  few = c.few;
}

-- a call that only looks, behind another that did
pub looks_before : {D V W : Type 0} {faithful : D → Type 0} {view : D → List ℕ} {failures : D → ℕ} {v : V} {r : Result W SessionFault} {old now new : D} → LooksAt faithful view failures (Ok v) old now
    → LooksAt faithful view failures r now new → LooksAt faithful view failures r old new
looks_before {failures = failures} {r = r} {new = new} first next = record {
  same = λ h. next.same (first.faith.1 h) ∙ first.same h;
  faith = (λ h. first.faith.0 (next.faith.0 h), λ h. next.faith.1 (first.faith.1 h));
  no_failure = subst (λ n. OnOk r (failures new ≡ n)) first.no_failure next.no_failure;
  counts = subst (λ n. IfErr r (λ e. FaultCounts e n 0 (failures new) 0)) first.no_failure next.counts;
}

-- what is said of a text behind a call that only looked at it
module _ {T V : Type 0} {faithful : T → Type 0} {text : T → List ℕ} {failures : T → ℕ} {v : V} {old now : T} (first : LooksAt faithful text failures (Ok v) old now) where
  found_is : (f : Found) → IsFoundIn (faithful now) (text now) f → IsFoundIn (faithful old) (text old) f
  found_is (Finished counted) f = record { text = f.text; is = λ h. sym (first.same h) ∙ f.is (first.faith.1 h); counted = f.counted; few = f.few }
  found_is (Unfinished torn) f = record { torn = λ h. subst (λ t. IsTornIn t torn) (first.same h) (f.torn (first.faith.1 h)); few = f.few; order = f.order }

  pub fault_is : (e : SessionFault) → FindFault (faithful now) (shown (text now)) e → FindFault (faithful old) (shown (text old)) e
  fault_is NoMemory f = tt
  fault_is DeviceFailed f = tt
  fault_is (Damaged line) f = λ h. subst (λ t. IsDamagedAt (shown t) line) (first.same h) (f (first.faith.1 h))
  fault_is TooLarge f = f
  fault_is (TooFew have) f = f
  fault_is JournalFull f = f
  fault_is Interrupted f = f
  fault_is Broken f = f
  fault_is (LengthDiffers n) f = f
  fault_is (NothingToRedo have) f = f
  fault_is (RedoDamaged line) f = f

  again_is : (count : ℕ) (e : SessionFault) → AgainFault (faithful now) (text now) count e → AgainFault (faithful old) (text old) count e
  again_is count NoMemory f = tt
  again_is count DeviceFailed f = tt
  again_is count (Damaged line) f = λ h. subst (λ t. IsOutOfStep t count line) (first.same h) (f (first.faith.1 h))
  again_is count TooLarge f = f
  again_is count (TooFew have) f = f
  again_is count JournalFull f = f
  again_is count Interrupted f = f
  again_is count Broken f = f
  again_is count (LengthDiffers n) f = f
  again_is count (NothingToRedo have) f = f
  again_is count (RedoDamaged line) f = f

  pub again_behind : {W : Type 0} → (count : ℕ) (r : Result W SessionFault) → IfErr r (AgainFault (faithful now) (text now) count) → IfErr r (AgainFault (faithful old) (text old) count)
  again_behind count r fault = IfErr-weaker r (AgainFault (faithful now) (text now) count) (AgainFault (faithful old) (text old) count) (again_is count) fault

-- what a text was found to be behind a call that only looked at it
pub text_behind : {T V : Type 0} (t : StoreViews T) {v : V} {old now new : T} → LooksAt t.faithful t.text t.failures (Ok v) old now → (t.faithful old → NoMore (t.survives old) (t.survives now))
    → (r : Result Found SessionFault) → FindsText t r now new → FindsText t r old new
text_behind t {old = old} {now = now} first before r next = record {
  found = IfOk-weaker r (IsFoundIn (t.faithful now) (t.text now)) (IsFoundIn (t.faithful old) (t.text old)) (found_is first) next.found;
  fault = IfErr-weaker r (FindFault (t.faithful now) (shown (t.text now))) (FindFault (t.faithful old) (shown (t.text old))) (fault_is first) next.fault;
  looks = looks_before first next.looks;
  found_before = λ h. NoMore_then _ _ _ (before h) (next.found_before (first.faith.1 h));
}
