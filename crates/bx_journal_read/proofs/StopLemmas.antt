-- A look that was stopped: in the first text, in one behind it, or before any.
use Rattle.std.proofs.Common.{◌≡◌, ℕ, ◌+◌, ◌-◌, ◌<◌, List, ◌++◌, length, length-append, append_assoc, take, sym, subst, arith, Option, Result, Ok, Err}
use Rattle.std.specs.Prelude.{◌^◌, IfErr, IsErrAnd}
use Rattle.std.proofs.KnownBytes.{Appends-nil, Appends-trans}
use Rattle.std.proofs.Math.Seq.{take-append-add}
use Rattle.std.proofs.lemmas.List.{take-append-le}
use Rattle.std.specs.Io.KnownBytes.{Appends}
use Rattle.bx_text.specs.Writing.{WritesFront}
use Rattle.bx_text.specs.declared.fault.IoFault.{IoFault}
use Rattle.bx_text.specs.declared.fault.IoFault.TheVariants.{NoMemory, ReadFailed, WriteFailed, InputTooLong, SkipPastEnd}
use Rattle.bx_journal_model.specs.declared.fault.SessionFault.{SessionFault}
use Rattle.bx_journal_read.specs.declared.show.fault.ShowFault.{ShowFault}
use Rattle.bx_journal_read.specs.declared.show.fault.ShowFault.TheVariants.{Text, Io}
use Rattle.bx_journal_read.specs.show.Stopping.{CountsBytes, IsOfReading, StopsPrefix, TellsBytes}

-- nothing was written
pub stops_none : (before : ℕ) (text : List ℕ) (w : Option (List ℕ)) (fault : SessionFault) → StopsPrefix before text w w (Text fault)
stops_none before text w fault = record { count = 0; within = omega arith; front = Appends-nil w; told = λ few. tt }

pub stops_before : (before : ℕ) (text : List ℕ) (w : Option (List ℕ)) (fault : ShowFault) → IsOfReading fault → StopsPrefix before text w w fault
stops_before before text w (Text fault) of = stops_none before text w fault
stops_before before text w (Io fault) of = absurd of

-- a write of bytes failed
pub stops_written : (before told : ℕ) (bytes : List ℕ) (w0 w1 : Option (List ℕ)) (fault : IoFault) → (before + length bytes < 2 ^ 64 → told ≡ before) → WritesFront told w0 w1 bytes fault
    → StopsPrefix before bytes w0 w1 (Io fault)
stops_written before told bytes w0 w1 (WriteFailed n) same stop =
    record { count = stop.0; within = omega (arith, stop.2); front = stop.3; told = λ few. omega (arith, same few, stop.1) }
stops_written before told bytes w0 w1 NoMemory same stop = absurd stop
stops_written before told bytes w0 w1 ReadFailed same stop = absurd stop
stops_written before told bytes w0 w1 InputTooLong same stop = absurd stop
stops_written before told bytes w0 w1 SkipPastEnd same stop = absurd stop

-- a text that goes on behind where it was stopped
pub stops_first : (before : ℕ) (a b : List ℕ) (w0 w1 : Option (List ℕ)) (fault : ShowFault) → StopsPrefix before a w0 w1 fault → StopsPrefix before (a ++ b) w0 w1 fault
stops_first before a b w0 w1 fault s = record {
  count = s.count;
  within = omega (arith, s.within, length-append a b);
  front = subst (Appends w0 w1) (sym (take-append-le s.count a b s.within)) s.front;
  told = λ few. s.told (omega (arith, few, length-append a b));
}

-- one that was stopped behind a whole one
pub stops_later : (before mid : ℕ) (a b : List ℕ) (w0 w1 w2 : Option (List ℕ)) (fault : ShowFault) → Appends w0 w1 a → CountsBytes before a mid → StopsPrefix mid b w1 w2 fault
    → StopsPrefix before (a ++ b) w0 w2 fault
stops_later before mid a b w0 w1 w2 fault first counted s = record {
  count = length a + s.count;
  within = omega (arith, s.within, length-append a b);
  front = subst (Appends w0 w2) (sym (take-append-add a b s.count)) (Appends-trans w0 w1 w2 a (take s.count b) first s.front);
  told = λ few.
      let is : mid ≡ before + length a = counted (omega (arith, few, length-append a b)) in
      let sum : mid + s.count ≡ before + (length a + s.count) = omega (arith, is) in
      subst (TellsBytes fault) sum (s.told (omega (arith, few, is, length-append a b)));
}

-- both were counted
pub counts_both : (before mid after : ℕ) (a b : List ℕ) → CountsBytes before a mid → CountsBytes mid b after → CountsBytes before (a ++ b) after
counts_both before mid after a b first next few =
    let is : mid ≡ before + length a = first (omega (arith, few, length-append a b)) in
    omega (arith, is, length-append a b, next (omega (arith, few, is, length-append a b)))

-- of three texts the first was stopped
pub stops_at_first : (before : ℕ) (a b c : List ℕ) (w0 w1 : Option (List ℕ)) (fault : ShowFault) → StopsPrefix before a w0 w1 fault → StopsPrefix before (a ++ b ++ c) w0 w1 fault
stops_at_first before a b c w0 w1 fault s = stops_first before (a ++ b) c w0 w1 fault (stops_first before a b w0 w1 fault s)

-- the second
pub stops_at_second : (before mid : ℕ) (a b c : List ℕ) (w0 w1 w2 : Option (List ℕ)) (fault : ShowFault) → Appends w0 w1 a → CountsBytes before a mid → StopsPrefix mid b w1 w2 fault
    → StopsPrefix before (a ++ b ++ c) w0 w2 fault
stops_at_second before mid a b c w0 w1 w2 fault first counted s = stops_first before (a ++ b) c w0 w2 fault (stops_later before mid a b w0 w1 w2 fault first counted s)

-- the third
pub stops_at_third : (before mid last : ℕ) (a b c : List ℕ) (w0 w1 w2 w3 : Option (List ℕ)) (fault : ShowFault) → Appends w0 w1 a → CountsBytes before a mid → Appends w1 w2 b → CountsBytes mid b last
    → StopsPrefix last c w2 w3 fault → StopsPrefix before (a ++ b ++ c) w0 w3 fault
stops_at_third before mid last a b c w0 w1 w2 w3 fault first counted second next s =
    stops_later before last (a ++ b) c w0 w2 w3 fault (Appends-trans w0 w1 w2 a b first second) (counts_both before mid last a b counted next) s

-- all three were counted
pub counts_three : (before mid last after : ℕ) (a b c : List ℕ) → CountsBytes before a mid → CountsBytes mid b last → CountsBytes last c after → CountsBytes before (a ++ b ++ c) after
counts_three before mid last after a b c first second third = counts_both before last after (a ++ b) c (counts_both before mid last a b first second) third

-- what a `?` hands on
pub handed_on : {T : Type 0} (r : Result T ShowFault) (P : ShowFault → Type 0) (e : ShowFault) → IsErrAnd r (λ f. f ≡ e) → P e → IfErr r P
handed_on (Ok v) P e is p = tt
handed_on (Err f) P e is p = subst P (sym is) p

-- a refused call that hands its fault on before anything was written
pub refused_on : {T : Type 0} (r : Result T ShowFault) (before : ℕ) (text : List ℕ) (w : Option (List ℕ)) (fault : SessionFault) → IsErrAnd r (λ f. f ≡ Text fault) → IfErr r (StopsPrefix before text w w)
refused_on r before text w fault is = handed_on r (StopsPrefix before text w w) (Text fault) is (stops_none before text w fault)

-- a text in another order of its parts
pub stops_joined : (before : ℕ) (a b c : List ℕ) (w0 w1 : Option (List ℕ)) (fault : ShowFault) → StopsPrefix before (a ++ (b ++ c)) w0 w1 fault → StopsPrefix before (a ++ b ++ c) w0 w1 fault
stops_joined before a b c w0 w1 fault s = subst (λ t. StopsPrefix before t w0 w1 fault) (sym (append_assoc a b c)) s

pub counts_joined : (before after : ℕ) (a b c : List ℕ) → CountsBytes before (a ++ (b ++ c)) after → CountsBytes before (a ++ b ++ c) after
counts_joined before after a b c counted = subst (λ t. CountsBytes before t after) (sym (append_assoc a b c)) counted
