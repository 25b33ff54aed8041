-- Words, one after another.
use Rattle.std.proofs.Common.{◌≡◌, ℕ, suc, ◌+◌, ◌<◌, ◌≤◌, Bool, true, false, not, List, [], ◌∷◌, ◌++◌, length, get_or, take, drop, slice_get, Some, None, sym, ap, ◌∙◌, arith}
use Rattle.std.specs.List.{position_or_len}
use Rattle.std.specs.Option.{option_or}
use Rattle.std.proofs.Math.Seq.{drop-cons}
use Rattle.std.proofs.lemmas.List.{take_more, get_or-take, length-take-le}
use Rattle.std.proofs.lemmas.List.Sums.{prefix_len-drop_no, prefix_len-drop_yes}
use Rattle.std.proofs.lemmas.Option.{get_or_from_slice_get}
use Rattle.bx_dd.specs.declared.fault.DdFault.{DdFault}
use Rattle.bx_dd.specs.Operands.{first_fault, operand_fault}

module _ (p : List ℕ → Bool) (words : List (List ℕ)) (count i : ℕ) (few : count ≤ length words) (inside : i < count) (word : List ℕ) (is : slice_get words i ≡ Some word) where
  at : get_or (take count words) i [] ≡ word
  at = get_or-take count words i [] inside ∙ get_or_from_slice_get words i word [] is

  within : i < length (take count words)
  within = omega (arith, length-take-le count words few)

  -- the word at i passes
  pub position_here : p word ≡ true → position_or_len p (take count words) ≡ i + position_or_len p (drop i (take count words)) → position_or_len p (take count words) ≡ i
  position_here passes so_far = omega (arith, so_far, prefix_len-drop_no (λ w. not (p w)) (take count words) i [] within (ap (λ w. not (p w)) at ∙ ap not passes))

  -- it doesn't
  pub position_later : p word ≡ false → position_or_len p (take count words) ≡ i + position_or_len p (drop i (take count words)) →
      position_or_len p (take count words) ≡ i + 1 + position_or_len p (drop (i + 1) (take count words))
  position_later fails so_far = omega (arith, so_far, prefix_len-drop_yes (λ w. not (p w)) (take count words) i [] within (ap (λ w. not (p w)) at ∙ ap not fails))

module _ (words : List (List ℕ)) (i : ℕ) (inside : i < length words) (word : List ℕ) (is : slice_get words i ≡ Some word) (so_far : first_fault [] words ≡ first_fault (take i words) (drop i words)) where
  step : first_fault [] words ≡ option_or (operand_fault (take i words) word) (first_fault (take i words ++ word ∷ []) (drop (i + 1) words))
  step =
      let next : suc i ≡ i + 1 = omega arith in
      so_far ∙ ap (first_fault (take i words)) (drop-cons words i [] inside ∙ ap (λ w. w ∷ drop (suc i) words) (get_or_from_slice_get words i word [] is))
      ∙ ap (λ k. option_or (operand_fault (take i words) word) (first_fault (take i words ++ word ∷ []) (drop k words))) next

  -- the word at i is faulty
  pub fault_here : (fault : DdFault) → Some fault ≡ operand_fault (take i words) word → Some fault ≡ first_fault [] words
  fault_here fault found = sym (step ∙ ap (λ o. option_or o (first_fault (take i words ++ word ∷ []) (drop (i + 1) words))) (sym found))

  -- it isn't
  pub fault_later : None ≡ operand_fault (take i words) word → first_fault [] words ≡ first_fault (take (i + 1) words) (drop (i + 1) words)
  fault_later found = step ∙ ap (λ o. option_or o (first_fault (take i words ++ word ∷ []) (drop (i + 1) words))) (sym found)
      ∙ ap (λ l. first_fault l (drop (i + 1) words)) (sym (take_more words i [] inside ∙ ap (λ w. take i words ++ w ∷ []) (get_or_from_slice_get words i word [] is)))
