-- Texts written part by part.
use Rattle.std.proofs.Common.{◌≡◌, ℕ, ◌+◌, ◌≤◌, List, ◌++◌, length, map, take, drop, Option, sym, ap, ◌∙◌, arith, length-append}
use Rattle.std.specs.Io.KnownBytes.{Appends}
use Rattle.std.proofs.lemmas.List.{take-append-le, take-append-drop, map-append, length-map, length-take-le}
use Rattle.std.proofs.Math.Seq.{take-append-add, take-add}
use Rattle.bx_text.specs.declared.fault.IoFault.{IoFault}
use Rattle.bx_text.specs.declared.fault.IoFault.TheVariants.{NoMemory, ReadFailed, WriteFailed, InputTooLong, SkipPastEnd}
use Rattle.bx_text.specs.Writing.{WritesFront}
use Rattle.std.specs.declared.result.Result.{Result}
use Rattle.std.specs.Prelude.{Ok, Err}
use Rattle.bx_dump_columns.specs.Emitting.{Emits}
use Rattle.bx_text.proofs.KnownLemmas.{Appends-trans}

-- the first part was not written whole
pub first_stops : (before : ℕ) (w0 w1 : Option (List ℕ)) (a b : List ℕ) (fault : IoFault) → WritesFront before w0 w1 a fault → WritesFront before w0 w1 (a ++ b) fault
first_stops before w0 w1 a b (WriteFailed n) stop =
    let e : take stop.0 (a ++ b) ≡ take stop.0 a = take-append-le stop.0 a b (omega (arith, stop.2)) in
    (stop.0, stop.1, omega (arith, stop.2, length-append a b), rw e stop.3)
first_stops before w0 w1 a b NoMemory stop = absurd stop
first_stops before w0 w1 a b ReadFailed stop = absurd stop
first_stops before w0 w1 a b InputTooLong stop = absurd stop
first_stops before w0 w1 a b SkipPastEnd stop = absurd stop

-- the second was not
pub second_stops : (before n : ℕ) (w0 w1 w2 : Option (List ℕ)) (a b : List ℕ) (fault : IoFault) → n ≡ before + length a → Appends w0 w1 a → WritesFront n w1 w2 b fault → WritesFront before w0 w2 (a ++ b) fault
second_stops before n w0 w1 w2 a b (WriteFailed m) is writes stop =
    let e : take (length a + stop.0) (a ++ b) ≡ a ++ take stop.0 b = take-append-add a b stop.0 in
    (length a + stop.0, omega (arith, stop.1), omega (arith, stop.2, length-append a b), rw e (Appends-trans w0 w1 w2 a (take stop.0 b) writes stop.3))
second_stops before n w0 w1 w2 a b NoMemory is writes stop = absurd stop
second_stops before n w0 w1 w2 a b ReadFailed is writes stop = absurd stop
second_stops before n w0 w1 w2 a b InputTooLong is writes stop = absurd stop
second_stops before n w0 w1 w2 a b SkipPastEnd is writes stop = absurd stop

-- one text after another
pub emits_both : (before n : ℕ) (w0 w1 w2 : Option (List ℕ)) (a b : List ℕ) (outcome : Result ℕ IoFault) → Emits before w0 w1 a (Ok n) → Emits n w1 w2 b outcome → Emits before w0 w2 (a ++ b) outcome
emits_both before n w0 w1 w2 a b (Ok m) p q = (omega (arith, p.0, q.0, length-append a b), Appends-trans w0 w1 w2 a b p.1 q.1)
emits_both before n w0 w1 w2 a b (Err e) p q = second_stops before n w0 w1 w2 a b e p.0 p.1 q

-- the first of two was not written whole
pub emits_first : (before : ℕ) (w0 w1 : Option (List ℕ)) (a b : List ℕ) (e : IoFault) → Emits before w0 w1 a (Err e) → Emits before w0 w1 (a ++ b) (Err e)
emits_first before w0 w1 a b e p = first_stops before w0 w1 a b e p

-- what stands for a part of a name, and for all of it
module _ (f : ℕ → ℕ) (name : List ℕ) where
  pub mapped_more : (done size : ℕ) → map f (take (done + size) name) ≡ map f (take done name) ++ map f (take size (drop done name))
  mapped_more done size = ap (map f) (take-add done size name) ∙ map-append f (take done name) (take size (drop done name))

  mapped_all : (n : ℕ) → map f name ≡ map f (take n name) ++ map f (drop n name)
  mapped_all n = ap (map f) (sym (take-append-drop n name)) ∙ map-append f (take n name) (drop n name)

  pub mapped_stops : (before done size n : ℕ) (w0 w1 w2 : Option (List ℕ)) (piece : List ℕ) (fault : IoFault) → n ≡ before + done → done ≤ length name →
      Appends w0 w1 (map f (take done name)) → piece ≡ map f (take size (drop done name)) → WritesFront n w1 w2 piece fault → WritesFront before w0 w2 (map f name) fault
  mapped_stops before done size n w0 w1 w2 piece fault is within writes same stop =
      let front = map f (take done name) in
      let len : length front ≡ done = length-map (take done name) f ∙ length-take-le done name within in
      let both = second_stops before n w0 w1 w2 front piece fault (omega arith) writes stop in
      let all : map f name ≡ front ++ piece ++ map f (drop (done + size) name) =
      mapped_all (done + size) ∙ ap (λ t. t ++ map f (drop (done + size) name)) (mapped_more done size ∙ ap (λ t. front ++ t) (sym same)) in
      rw all (first_stops before w0 w2 (front ++ piece) (map f (drop (done + size) name)) fault both)
