-- Blocks read one after another.
use Rattle.std.proofs.Common.{◌≡◌, ℕ, ◌+◌, ◌-◌, ◌*◌, ◌%◌, ◌<◌, ◌≤◌, List, [], ◌++◌, length, take, drop, Option, Some, None, Result, Ok, Err, IfOk, IfSome, unwrap_or, ◌^◌, ◌∷◌, refl, drop_of_length-le, ◌⊎◌, inl, inr, subst, sym, ap, ◌∙◌, arith}
use Rattle.std.proofs.Math.Nat.{mul-le-mul_left, mul-le-mul_right, mul-mod_left}
use Rattle.std.proofs.lemmas.List.{length-append, length-take-le, drop-append-le, take_all}
use Rattle.std.specs.Io.KnownBytes.{Consumes, IsAtEnd}
use Rattle.bx_text.proofs.KnownLemmas.{Consumes-trans}
use Rattle.bx_text.specs.declared.stream.State.{State}
use Rattle.bx_text.specs.declared.stream.State.TheVariants.{Open, Ended}
use Rattle.bx_dd.specs.declared.fault.DdFault.{DdFault}
use Rattle.bx_dd.specs.declared.fault.DdFault.TheVariants.{NoMemory}
use Rattle.bx_dd.specs.Transfer.{HasStopped}
use Rattle.bx_dd.specs.private.Transfer.{IsReadOut, IsStopCause, ReadsNoMore, HasReadBlocks, StopsWithin, selected}

cause_more : (e : DdFault) (room n m : ℕ) → n ≤ room → IsStopCause e (room - n) m → IsStopCause e room (n + m)
cause_more e room n m few (inl long) = inl (long.0, omega (arith, long.1))
cause_more e room n m few (inr other) = inr (other.0, omega (arith, other.1))

-- bytes were read, and then reading stopped
pub stopped_more : (a b c : Option (List ℕ)) (input : List ℕ) (room now less most : ℕ) (e : DdFault) → Consumes a b input → now ≡ room - length input → length input ≤ room →
    length input + less ≤ most → StopsWithin less b c now e → StopsWithin most a c room e
stopped_more a b c input room now less most e read is few all more =
    let P : ℕ → Type 0 = λ n. IsStopCause e n (length more.0) in
    let Q : ℕ → Type 0 = λ n. IsStopCause e room n in (
      input ++ more.0,
      Consumes-trans a b c input more.0 read more.1,
      subst Q (sym (length-append input more.0)) (cause_more e room (length input) (length more.0) few (subst P is more.2)),
      omega (arith, length-append input more.0, more.3),
    )

-- bytes were read, and then memory was wanted
pub stopped_memory : (a b : Option (List ℕ)) (input : List ℕ) (room : ℕ) (e : DdFault) → Consumes a b input → length input ≤ room → e ≡ NoMemory → HasStopped a b room e
stopped_memory a b input room e read few is = (input, read, inr (inl is, few))

pub within_memory : (a b : Option (List ℕ)) (input : List ℕ) (room most : ℕ) (e : DdFault) → Consumes a b input → length input ≤ room → length input ≤ most → e ≡ NoMemory →
    StopsWithin most a b room e
within_memory a b input room most e read few all is = (input, read, inr (inl is, few), all)

-- what stops within some bytes stops
pub has_stopped : (most : ℕ) (a b : Option (List ℕ)) (room : ℕ) (e : DdFault) → StopsWithin most a b room e → HasStopped a b room e
has_stopped most a b room e stop = (stop.0, stop.1, stop.2)

-- among the blocks to skip, and all of them with those to take
pub asked_skip : (ibs skip n : ℕ) (count : Option ℕ) → n ≤ skip * ibs → IfSome count (λ k. n ≤ (skip + k) * ibs)
asked_skip ibs skip n None few = tt
asked_skip ibs skip n (Some k) few = omega arith

pub asked_all : (ibs skip turns n : ℕ) (count : Option ℕ) → turns ≡ unwrap_or count (2 ^ 64 - 1) → n ≤ skip * ibs + turns * ibs → IfSome count (λ k. n ≤ (skip + k) * ibs)
asked_all ibs skip turns n None is few = tt
asked_all ibs skip turns n (Some k) is few = let same : turns * ibs ≡ k * ibs = ap (λ m. m * ibs) is in omega arith

module _ (a b c : Option (List ℕ)) (input buf : List ℕ) (k n count size : ℕ) (fits : n ≤ length buf) (same : length buf ≡ size) (before : length input ≡ k * size) (inside : k < count) where
  pub read_more : Consumes a b input → Consumes b c (take n buf) → Consumes a c (input ++ take n buf)
  read_more p q = Consumes-trans a b c input (take n buf) p q

  pub length_more : length (input ++ take n buf) ≡ length input + n
  length_more = omega (arith, length-append input (take n buf), length-take-le n buf fits)

  -- a short block is the last
  pub read_last : (state : State) → n < size → Consumes a b input → Consumes b c (take n buf) → state ≡ Ended → IsAtEnd c → HasReadBlocks a c count size state (input ++ take n buf)
  read_last state short p q ended end =
      let more : (k + 1) * size ≤ count * size = mul-le-mul_right size (omega arith) in
      record { consumed = read_more p q; within = omega (arith, length_more, more, before); extent = inr (ended, end) }

pub whole_blocks : (k taken size : ℕ) → taken ≡ k * size → taken % size ≡ 0
whole_blocks k taken size is = ap (λ n. n % size) is ∙ mul-mod_left k size

-- where something more was read, the input was not at its end
pub still_open : (state : State) (P : Type 0) → (state ≡ Open) ⊎ ((state ≡ Ended) × P) → (state ≡ Ended → ⊥) → state ≡ Open
still_open state P (inl open_now) more = open_now
still_open state P (inr ended) more = absurd (more ended.0)

empty_list : (xs : List ℕ) → length xs ≡ 0 → xs ≡ []
empty_list [] e = refl
empty_list (x ∷ xs) e = absurd (omega arith)

-- what follows the blocks that were skipped
pub drop_read : (n : ℕ) (skipped input : List ℕ) → (length skipped ≡ n) ⊎ ((length skipped ≤ n) × (length input ≡ 0)) → drop n (skipped ++ input) ≡ input
drop_read n skipped input (inl whole) = rw (← whole) (drop-append-le (length skipped) skipped input (omega arith) ∙ ap (λ l. l ++ input) (drop_of_length-le skipped (omega arith)))
drop_read n skipped input (inr (few, none)) =
    let nil : input ≡ [] = empty_list input none in
    drop_of_length-le (skipped ++ input) (omega (arith, length-append skipped input)) ∙ sym nil

-- blocks that were skipped, and blocks that were taken
module _ (old mid new : Option (List ℕ)) (ibs skip turns : ℕ) (first second : State) (skipped input : List ℕ) (skips : HasReadBlocks old mid skip ibs first skipped) (takes : HasReadBlocks mid new turns ibs second input) (none : first ≡ Ended → (length input ≡ 0) × (second ≡ Ended)) where
  pub consumed_both : Consumes old new (skipped ++ input)
  consumed_both = Consumes-trans old mid new skipped input skips.consumed takes.consumed

  after_skip : drop (skip * ibs) (skipped ++ input) ≡ input
  after_skip = drop_read (skip * ibs) skipped input (elim skips.extent [ inl whole ↦ inl whole.1 | inr ended ↦ inr (skips.within, (none ended.0).0) ])

  pub selected_both : (count : Option ℕ) → turns ≡ unwrap_or count (2 ^ 64 - 1) → selected ibs skip count (skipped ++ input) ≡ input
  selected_both None is = after_skip
  selected_both (Some n) is = ap (take (n * ibs)) after_skip ∙ take_all (n * ibs) input (subst (λ (k : ℕ). length input ≤ k * ibs) is takes.within)

  pub within_both : (count : Option ℕ) → turns ≡ unwrap_or count (2 ^ 64 - 1) → ReadsNoMore ibs skip count (skipped ++ input)
  within_both None is = tt
  within_both (Some n) is = omega (arith, length-append skipped input, skips.within, subst (λ (k : ℕ). length input ≤ k * ibs) is takes.within)

  pub read_out_both : (count : Option ℕ) → turns ≡ unwrap_or count (2 ^ 64 - 1) → 0 < ibs → length input ≤ 2 ^ 40 → IsReadOut new ibs skip count (skipped ++ input)
  read_out_both None is some few =
      elim takes.extent [
        | inl whole ↦ absurd (omega (arith, whole.1, is, mul-le-mul_left turns some))
        | inr ended ↦ inl ended.1
      ]
  read_out_both (Some n) is some few =
      elim takes.extent [
        | inl whole ↦ elim skips.extent [
          | inl all ↦ inr (omega (arith, length-append skipped input, all.1, subst (λ (k : ℕ). length input ≡ k * ibs) is whole.1))
          | inr ended ↦ absurd (let wrong : Open ≡ Ended = sym whole.0 ∙ (none ended.0).1 in cc)
        ]
        | inr ended ↦ inl ended.1
      ]

pub IfOk-both : {T E : Type 0} (r : Result T E) (P Q R : T → Type 0) → ((t : T) → P t → Q t → R t) → IfOk r P → IfOk r Q → IfOk r R
IfOk-both (Ok t) P Q R f p q = f t p q
IfOk-both (Err e) P Q R f p q = tt
