-- The definitions in other words.
use Rattle.std.proofs.Common.{◌≡◌, ℕ, zero, suc, ◌%◌, ◌<◌, true, false, List, [], ◌∷◌, ◌++◌, length, Option, None, Some, refl, sym, ap, arith, append_assoc, append-nil, inl, inr}
use Rattle.std.specs.Option.{option_or}
use Rattle.std.specs.Prelude.{nat_lt, ◌==◌, slice_index}
use Rattle.std.proofs.lemmas.Bool.{cases_lt, cases_eq, eq-eqb, ne_eqb}
use Rattle.std.proofs.lemmas.Bool.Decides.{nat_tests}
use Rattle.bx_dd.specs.Output.{swapped}
use Rattle.bx_dd.specs.declared.fault.DdFault.{DdFault}
use Rattle.bx_dd.specs.Operands.{first_fault, operand_fault}
use Rattle.bx_dd.specs.Laws.{other_place, swap_place, SwapTurnsLowestBit, IsFirstFault, IsFirstOf, FirstFaultIsFirst}
use Rattle.bx_dd.proofs.BlockLemmas.{length-swapped}

-- two places further
other_on : (k : ℕ) → other_place (suc (suc k)) ≡ suc (suc (other_place k))
other_on k =
    elim (cases_eq (k % 2) 0) [
      | inl even ↦
          let a : (k % 2 == 0) ≡ true = eq-eqb (k % 2) 0 even in
          let b : (suc (suc k) % 2 == 0) ≡ true = eq-eqb (suc (suc k) % 2) 0 (omega arith) in
          rw (a, b) (omega arith)
      | inr odd ↦
          let a : (k % 2 == 0) ≡ false = ne_eqb (k % 2) 0 odd in
          let b : (suc (suc k) % 2 == 0) ≡ false = ne_eqb (suc (suc k) % 2) 0 (λ z. odd (omega arith)) in
          rw (a, b) (omega arith)
    ]

place_on : (n k : ℕ) → swap_place (suc (suc n)) (suc (suc k)) ≡ suc (suc (swap_place n k))
place_on n k =
    elim (cases_lt (other_place k) n) [
      | inl inside ↦
          let a : nat_lt (other_place k) n ≡ true = grind (arith, nat_tests) in
          let b : nat_lt (suc (suc (other_place k))) (suc (suc n)) ≡ true = grind (arith, nat_tests) in
          rw (other_on k, a, b) refl
      | inr outside ↦
          let a : nat_lt (other_place k) n ≡ false = grind (arith, nat_tests) in
          let b : nat_lt (suc (suc (other_place k))) (suc (suc n)) ≡ false = grind (arith, nat_tests) in
          rw (other_on k, a, b) refl
    ]

swapped_at : (block : List ℕ) (i : ℕ) → i < length block → slice_index (swapped block) i ≡ slice_index block (swap_place (length block) i)
unfolding swapped
swapped_at [] i inside = absurd (omega arith)
swapped_at (a ∷ []) zero inside = refl
swapped_at (a ∷ []) (suc i) inside = absurd (omega arith)
swapped_at (a ∷ b ∷ rest) zero inside =
    let e : nat_lt 1 (suc (suc (length rest))) ≡ true = grind (arith, nat_tests) in
    rw e refl
swapped_at (a ∷ b ∷ rest) (suc zero) inside =
    let e : nat_lt 0 (suc (suc (length rest))) ≡ true = grind (arith, nat_tests) in
    rw e refl
swapped_at (a ∷ b ∷ rest) (suc (suc k)) inside =
    rw (place_on (length rest) k) (swapped_at rest k (omega arith))

pub swap_turns : SwapTurnsLowestBit
swap_turns block = (length-swapped block, swapped_at block)

one_more : (before words : List (List ℕ)) (word : List ℕ) (found : Option DdFault) → operand_fault before word ≡ None → IsFirstOf found (before ++ word ∷ []) words →
    IsFirstOf found before (word ∷ words)
one_more before words word None sound rest = (sound, rest)
one_more before words word (Some fault) sound rest =
    let place : before ++ word ∷ rest.front ≡ (before ++ word ∷ []) ++ rest.front = sym (append_assoc before (word ∷ []) rest.front) in record {
      front = word ∷ rest.front;
      rest = rest.rest;
      word = rest.word;
      stands = ap (λ ws. word ∷ ws) rest.stands;
      sound = (sound, rest.sound);
      faulty = rw place rest.faulty;
    }

at_once : (before words : List (List ℕ)) (word : List ℕ) (fault : DdFault) → operand_fault before word ≡ Some fault → IsFirstFault before (word ∷ words) fault
at_once before words word fault is = record {
  front = [];
  rest = words;
  word = word;
  stands = refl;
  sound = tt;
  faulty = rw (append-nil before) is;
}

found_is : (before words : List (List ℕ)) (word : List ℕ) (found : Option DdFault) → operand_fault before word ≡ found →
    IsFirstOf (first_fault (before ++ word ∷ []) words) (before ++ word ∷ []) words → IsFirstOf (option_or found (first_fault (before ++ word ∷ []) words)) before (word ∷ words)
found_is before words word None is later = one_more before words word (first_fault (before ++ word ∷ []) words) is later
found_is before words word (Some fault) is later = at_once before words word fault is

first_is : (before words : List (List ℕ)) → IsFirstOf (first_fault before words) before words
first_is before [] = tt
first_is before (word ∷ words) = found_is before words word (operand_fault before word) refl (first_is (before ++ word ∷ []) words)

pub first_fault_is_first : FirstFaultIsFirst
first_fault_is_first words = first_is [] words
