-- The last entries of a text, read behind those that were counted.
use Rattle.std.proofs.Common.{◌≡◌, ◌⊎◌, ℕ, ◌+◌, ◌≤◌, false, List, [], length, take, ap, sym, ◌∙◌, subst, inl, inr, arith, Option, Some, None, Result, Ok, Err}
use Rattle.std.specs.Prelude.{IfOk, IfSome}
use Rattle.std.proofs.lemmas.List.{take_all}
use Rattle.bx_journal_format.specs.declared.read.types.EntryRead.{EntryRead}
use Rattle.bx_journal_format.specs.declared.read.types.Front.{Front}
use Rattle.bx_journal_format.specs.Text.{Entry, Between, split, start, after_lines}
use Rattle.bx_journal_format.specs.declared.read.types.StageRead.TheVariants.{Between as BetweenRead}
use Rattle.bx_journal_format.specs.declared.read.lines.LinesRead.{LinesRead}
use Rattle.bx_journal_format.specs.read.Lines.{IsFront, IsReadUpTo}
use Rattle.bx_journal_format.specs.Parsed.{entries_onto, reading_onto, AreMarked, IsStageMarked}
use Rattle.bx_journal_format.specs.count.Mark.{IsMark}
use Rattle.bx_journal_format.specs.count.Tally.{IsCounted}
use Rattle.bx_journal_model.specs.declared.entries.FinishedRead.{FinishedRead}
use Rattle.bx_journal_model.specs.declared.fault.SessionFault.{SessionFault}
use Rattle.bx_journal_model.specs.declared.fault.SessionFault.TheVariants.{NoMemory, DeviceFailed}
use Rattle.bx_journal_model.specs.Undoing.{AgainFault, IsReadLast, IsLastFrom}
use Rattle.bx_journal_read.specs.scan.Entries.{IsReadFrom, IsReadBehind}
use Rattle.bx_journal_read.specs.scan.Windows.{IsFrontCounted}

-- what was counted is a front
pub front_is : (faithful : Type 0) (stored : List ℕ) (f : Front) → (c : IsFrontCounted faithful stored false f) → IsFront c.front c.counted.counted.entries f
front_is faithful stored f c =
    let counted : IsCounted c.front f.count f.told = c.counted.counted in
    let taken : take f.at c.front ≡ c.front = take_all f.at c.front (omega (arith, c.long)) in
    record {
      mark = record {
        within = omega (arith, c.long);
        lines = ap (λ t. after_lines start (split t).lines) taken ∙ counted.finished.reads.lines;
        whole = ap (λ t. (split t).rest) taken ∙ counted.finished.whole;
      };
      long = c.long;
      count = counted.counted;
      told = counted.told_is;
      few = c.few;
    }

-- all of a store's text was read
pub behind_all : {A : Type 0} → (faithful : Type 0) (stored : List ℕ) (f : Front) (len : ℕ) (r : LinesRead A) → (b : IsReadBehind faithful stored f r) → r.at ≡ len → (faithful → len ≡ length stored) → faithful → stored ≡ b.text
behind_all faithful stored f len r b all long h = sym (b.is h ∙ take_all r.at stored (omega (arith, all, long h)))

pub last_from : {A : Type 0} → (faithful : Type 0) (stored text : List ℕ) (len count : ℕ) (o : Option (FinishedRead A)) → (faithful → stored ≡ text) → len ≡ length text
    → IfSome o (λ r. IsReadLast text r.entries.items count) → IfSome o (λ r. r.len ≡ len) → IfSome o (λ r. IsLastFrom faithful stored r.len r.entries.items count)
last_from faithful stored text len count None is long read same = tt
last_from faithful stored text len count (Some r) is long read same = record { text = text; is = is; long = same ∙ long; read = read }

-- a text that was read behind its older entries, and in which none is unfinished
pub last_read : {A : Type 0} → (text : List ℕ) (older : List Entry) (f : Front) (r : LinesRead A) (first count : ℕ) → IsReadUpTo text older f r → r.stage ≡ BetweenRead → first ≡ f.count
    → first + length r.entries.items ≡ count → IsReadLast text r.entries.items count
last_read text older f r first count read is before many =
    let es = r.entries.items in
    let long : r.at ≡ length text = sym read.long in
    let mark : IsMark text (length text) (record { entries = entries_onto older es; stage = Between }) =
    subst (λ n. IsMark text n (record { entries = entries_onto older es; stage = Between })) long (subst (λ s. IsMark text r.at (reading_onto older es s)) is read.read.mark) in
    let taken : take (length text) text ≡ text = take_all (length text) text (omega arith) in
    let rest : (split text).rest ≡ [] = ap (λ t. (split t).rest) (sym taken) ∙ mark.whole in
    record {
      older = older;
      finished = record {
        reads = record { lines = ap (λ t. after_lines start (split t).lines) (sym taken) ∙ mark.lines; rest = inl rest };
        whole = rest;
      };
      mark = mark;
      marked = subst (AreMarked text older 0 es) long (subst (λ s. IsStageMarked text older es s r.at) is read.read.marked).0;
      counted = omega (arith, many, before, read.count);
    }

-- all of it was read
pub last_of_all : {A : Type 0} → (faithful : Type 0) (stored : List ℕ) (len count : ℕ) (es : List (EntryRead A)) → IsReadFrom faithful stored len es count → IsLastFrom faithful stored len es count
last_of_all faithful stored len count es r =
    record { text = r.text; is = r.is; long = r.long; read = record { older = []; finished = r.read.finished; mark = r.read.mark; marked = r.read.marked; counted = omega (arith, r.read.counted) } }

-- what is said of a store that is the same as before
module _ (H now : Type 0) (stored text : List ℕ) (still : H → now) (same : H → text ≡ stored) where
  last_is : {A : Type 0} → (len count : ℕ) (es : List (EntryRead A)) → IsLastFrom now text len es count → IsLastFrom H stored len es count
  last_is len count es f = record { text = f.text; is = λ h. sym (same h) ∙ f.is (still h); long = f.long; read = f.read }

  pub found_last_before : {A E : Type 0} → (count : ℕ) (r : Result (Option (FinishedRead A)) E)
      → IfOk r (λ o. IfSome o (λ f. IsLastFrom now text f.len f.entries.items count)) → IfOk r (λ o. IfSome o (λ f. IsLastFrom H stored f.len f.entries.items count))
  found_last_before count (Ok None) f = tt
  found_last_before count (Ok (Some r)) f = last_is r.len count r.entries.items f
  found_last_before count (Err e) f = tt

  pub again_last : {A E : Type 0} → (count : ℕ) (r : Result (FinishedRead A) E) → IfOk r (λ o. IsReadFrom now text o.len o.entries.items count) → IfOk r (λ o. IsLastFrom H stored o.len o.entries.items count)
  again_last count (Ok r) f = last_is r.len count r.entries.items (last_of_all now text r.len count r.entries.items f)
  again_last count (Err e) f = tt

-- at least k entries were read where all were
pub few_of_all : {A E : Type 0} → (faithful : Type 0) (stored : List ℕ) (count k : ℕ) (r : Result (FinishedRead A) E) → k ≤ count → IfOk r (λ o. IsReadFrom faithful stored o.len o.entries.items count) → IfOk r (λ o. k ≤ length o.entries.items)
few_of_all faithful stored count k (Ok r) few f = omega (arith, few, f.read.counted)
few_of_all faithful stored count k (Err e) few f = tt

-- nothing but want of memory, or a failed device
pub again_fault : (faithful : Type 0) (text : List ℕ) (count : ℕ) (e : SessionFault) → (e ≡ NoMemory) ⊎ (e ≡ DeviceFailed) → AgainFault faithful text count e
again_fault faithful text count e (inl is) = subst (AgainFault faithful text count) (sym is) tt
again_fault faithful text count e (inr is) = subst (AgainFault faithful text count) (sym is) tt
