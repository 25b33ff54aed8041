-- The bytes of a text that a window has.
use Rattle.std.proofs.Common.{◌≡◌, ℕ, ◌+◌, ◌-◌, ◌≤◌, List, length, take, ap, sym, ◌∙◌, arith, length-take, [], ◌++◌, length-append, drop}
use Rattle.bx_journal_format.proofs.TallyLemmas.{take_less, take_sum}
use Rattle.bx_journal_format.proofs.ReadLoop.{drop_twice}
use Rattle.bx_journal_format.proofs.Splits.{plain-append}
use Rattle.bx_journal_format.specs.read.Plain.{HasNoNewline}
use Rattle.bx_journal_model.specs.Long.{IsPlainTo}

-- a front of a window that was filled
pub front_of : (n m : ℕ) (window from : List ℕ) → n ≤ length window → window ≡ take m from → take n window ≡ take n from
front_of n m window from less is =
    let more : n + (m - n) ≡ m = omega (arith, less, ap length is, length-take m from) in
    ap (take n) is ∙ ap (λ k. take n (take k from)) (sym more) ∙ take_less n (m - n) from

-- nothing of a text was looked at
pub plain_none : (H : Type 0) (stored : List ℕ) (from : ℕ) → IsPlainTo H stored from from
plain_none H stored from =
    let zero : from - from ≡ 0 = omega arith in
    record { bytes = []; is = λ h. sym (ap (λ m. take m (drop from stored)) zero); long = omega arith; plain = tt }

-- a window more has no newline
pub plain_on : (H : Type 0) (stored part : List ℕ) (from at n : ℕ) → IsPlainTo H stored from at → (H → part ≡ take n (drop at stored)) → length part ≡ n → HasNoNewline part → IsPlainTo H stored from (at + n)
plain_on H stored part from at n p read long plain = record {
  bytes = p.bytes ++ part;
  is = λ h.
      let first : from + (at - from) ≡ at = omega (arith, p.long) in
      let count : at + n - from ≡ (at - from) + n = omega (arith, p.long) in
      ap (λ u. u ++ part) (p.is h) ∙ ap (λ u. take (at - from) (drop from stored) ++ u) (read h ∙ ap (λ m. take n (drop m stored)) (sym first) ∙ ap (take n) (sym (drop_twice from (at - from) stored)))
      ∙ sym (take_sum (at - from) n (drop from stored)) ∙ ap (λ m. take m (drop from stored)) (sym count);
  long = omega (arith, p.long, long, length-append p.bytes part);
  plain = plain-append p.bytes part p.plain plain;
}
