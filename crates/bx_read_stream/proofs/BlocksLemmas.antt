-- Bytes that go out in blocks.
use Rattle.std.proofs.Common.{◌≡◌, ◌⊎◌, inl, inr, ℕ, ◌+◌, ◌-◌, ◌<◌, ◌≤◌, List, [], ◌++◌, length, take, replicate, Option, refl, sym, ap, ◌∙◌, append_assoc, append-nil, arith}
use Rattle.std.proofs.Math.Seq.{take-append-add}
use Rattle.std.proofs.lemmas.List.{length-append, take-append-le, take_all, replicate-append-replicate}
use Rattle.std.specs.Io.KnownBytes.{Appends}
use Rattle.bx_text.proofs.KnownLemmas.{Appends-trans, Appends-nil}
use Rattle.bx_text.specs.Writing.{WritesFront}
use Rattle.bx_text.specs.declared.fault.IoFault.{IoFault}
use Rattle.bx_text.specs.declared.fault.IoFault.TheVariants.{NoMemory, ReadFailed, WriteFailed, InputTooLong, SkipPastEnd}
use Rattle.bx_read_stream.specs.Writing.{FailsIn}
use Rattle.bx_read_stream.specs.private.Blocks.{IsPending}

-- a write that failed
pub flush_fails : (w0 w w1 : Option (List ℕ)) (sent : ℕ) (pending x : List ℕ) (e : IoFault) → IsPending w0 w sent pending x → WritesFront sent w w1 pending e → FailsIn w0 w1 x e
flush_fails w0 w w1 sent pending x (WriteFailed n) h (front, is, few, wrote) =
    let same : take n x ≡ h.out ++ take front pending =
    ap (λ y. take n y) (sym h.whole) ∙ ap (λ k. take k (h.out ++ pending)) (is ∙ ap (λ s. s + front) (sym h.counted)) ∙ take-append-add h.out pending front in
    record {
      written = n;
      within = omega (arith, is, few, h.counted, ap length h.whole, length-append h.out pending);
      appended = rw same (Appends-trans w0 w w1 h.out (take front pending) h.appended wrote);
      cause = inr refl;
    }
flush_fails w0 w w1 sent pending x NoMemory h p = absurd p
flush_fails w0 w w1 sent pending x ReadFailed h p = absurd p
flush_fails w0 w w1 sent pending x InputTooLong h p = absurd p
flush_fails w0 w w1 sent pending x SkipPastEnd h p = absurd p

-- all was written
pub flush_holds : (w0 w w1 : Option (List ℕ)) (sent n : ℕ) (pending rest x : List ℕ) → IsPending w0 w sent pending x → Appends w w1 pending → n ≡ sent + length pending → rest ≡ []
    → IsPending w0 w1 n rest x
flush_holds w0 w w1 sent n pending rest x h wrote is none = record {
  out = h.out ++ pending;
  appended = Appends-trans w0 w w1 h.out pending h.appended wrote;
  counted = omega (arith, is, h.counted, length-append h.out pending);
  whole = ap (λ r. (h.out ++ pending) ++ r) none ∙ append-nil (h.out ++ pending) ∙ h.whole;
}

-- memory was refused
pub refused : (w0 w : Option (List ℕ)) (sent : ℕ) (pending x more : List ℕ) → IsPending w0 w sent pending x → FailsIn w0 w (x ++ more) NoMemory
refused w0 w sent pending x more h =
    let long : length x ≡ sent + length pending = omega (arith, h.counted, ap length h.whole, length-append h.out pending) in
    let same : take sent (x ++ more) ≡ h.out =
    take-append-le sent x more (omega (arith, long)) ∙ ap (λ y. take sent y) (sym h.whole) ∙ take-append-le sent h.out pending (omega (arith, h.counted)) ∙ take_all sent h.out (omega (arith, h.counted)) in
    record {
      written = sent;
      within = omega (arith, long, length-append x more);
      appended = rw same h.appended;
      cause = inl refl;
    }

-- what failed in a front failed in the whole
pub fails_longer : (w0 w : Option (List ℕ)) (x more : List ℕ) (e : IoFault) → FailsIn w0 w x e → FailsIn w0 w (x ++ more) e
fails_longer w0 w x more e h = record {
  written = h.written;
  within = omega (arith, h.within, length-append x more);
  appended = rw (take-append-le h.written x more h.within) h.appended;
  cause = h.cause;
}

-- some zeros and others
pub zeros_more : (x : List ℕ) (done part : ℕ) → (x ++ replicate done 0) ++ replicate part 0 ≡ x ++ replicate (done + part) 0
zeros_more x done part = append_assoc x (replicate done 0) (replicate part 0) ∙ ap (λ r. x ++ r) (replicate-append-replicate done part 0)

-- with the zeros that are still to come
pub fails_zeros : (w0 w : Option (List ℕ)) (x : List ℕ) (done part count : ℕ) (e : IoFault) → done + part ≤ count → FailsIn w0 w ((x ++ replicate done 0) ++ replicate part 0) e
    → FailsIn w0 w (x ++ replicate count 0) e
fails_zeros w0 w x done part count e few h =
    let same : ((x ++ replicate done 0) ++ replicate part 0) ++ replicate (count - (done + part)) 0 ≡ x ++ replicate count 0 =
    ap (λ y. y ++ replicate (count - (done + part)) 0) (zeros_more x done part) ∙ zeros_more x (done + part) (count - (done + part)) ∙ ap (λ n. x ++ replicate n 0) (omega (arith, few)) in
    rw same at (fails_longer w0 w ((x ++ replicate done 0) ++ replicate part 0) (replicate (count - (done + part)) 0) e h)
