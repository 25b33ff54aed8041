-- Products that stop at the greatest number.
use Rattle.std.proofs.Common.{◌≡◌, ℕ, suc, ◌+◌, ◌-◌, ◌*◌, ◌^◌, ◌<◌, ◌≤◌, Option, None, Some, List, [], ◌∷◌, length, get_or, take, drop, refl, arith, sym, ap, ◌∙◌}
use Rattle.std.specs.Option.{option_map, option_and_then}
use Rattle.std.proofs.lemmas.List.{get_or-drop, drop-drop, length-drop}
use Rattle.bx_text.specs.private.Capped.{capped, capped_value}
use Rattle.bx_text.specs.private.Number.{factors_of}
use Rattle.bx_text.proofs.NumberLemmas.{cap_three, factor_at, factor_last}
use Rattle.bx_dd.specs.Number.{factor_of, product_value}

-- one factor more
times : (value n new : ℕ) (o p : Option ℕ) → option_map capped o ≡ Some n → new ≡ capped (value * n) →
    option_map (λ rest. capped (value * rest)) (option_and_then (λ first. option_map (λ rest. first * rest) p) o) ≡ option_map (λ rest. capped (new * rest)) p
times value n new None p e f = cc
times value n new (Some first) None e f = refl
times value n new (Some first) (Some rest) e f =
    let same : n ≡ capped first = cc in
    let product : new ≡ capped (value * capped first) = f ∙ ap (λ k. capped (value * k)) same in
    ap Some (sym (cap_three value first rest (2 ^ 64 - 1)) ∙ ap (λ k. capped (k * rest)) (sym product))

no_times : (value : ℕ) (o p : Option ℕ) → option_map capped o ≡ None → option_map (λ rest. capped (value * rest)) (option_and_then (λ first. option_map (λ rest. first * rest) p) o) ≡ None
no_times value None p e = refl
no_times value (Some first) p e = cc

module _ (whole : Option ℕ) (text part : List ℕ) (start value : ℕ) (all : whole ≡ option_map (λ rest. capped (value * rest)) (product_value (factors_of (drop start text)))) where
  module _ (i : ℕ) (from : start ≤ i) (inside : i < length text) (is : get_or text i 0 ≡ 120) (none : (k : ℕ) → start ≤ k → k < i → get_or text k 0 ≡ 120 → ⊥) (cut : part ≡ take (i - start) (drop start text)) where
    parts : factors_of (drop start text) ≡ part ∷ factors_of (drop (i + 1) text)
    parts =
        let k = i - start in
        let place : start + k ≡ i = omega arith in
        let next : start + suc k ≡ i + 1 = omega arith in
        let here : get_or (drop start text) k 0 ≡ 120 = get_or-drop start text k 0 ∙ ap (λ n. get_or text n 0) place ∙ is in
        factor_at (drop start text) k (omega (arith, length-drop start text)) here (λ j lt e. none (start + j) (omega arith) (omega arith) (sym (get_or-drop start text j 0) ∙ e))
        ∙ ap (λ p. p ∷ factors_of (drop (suc k) (drop start text))) (sym cut)
        ∙ ap (λ d. part ∷ factors_of d) (drop-drop (suc k) start text ∙ ap (λ n. drop n text) next)

    pub factor_more : (n new : ℕ) → capped_value (factor_of part) ≡ Some n → new ≡ capped (value * n) →
        whole ≡ option_map (λ rest. capped (new * rest)) (product_value (factors_of (drop (i + 1) text)))
    factor_more n new e f = all ∙ ap (λ p. option_map (λ rest. capped (value * rest)) (product_value p)) parts ∙ times value n new (factor_of part) (product_value (factors_of (drop (i + 1) text))) e f

    pub factor_bad : capped_value (factor_of part) ≡ None → whole ≡ None
    factor_bad e = all ∙ ap (λ p. option_map (λ rest. capped (value * rest)) (product_value p)) parts ∙ no_times value (factor_of part) (product_value (factors_of (drop (i + 1) text))) e

  module _ (none : (k : ℕ) → start ≤ k → k < length text → get_or text k 0 ≡ 120 → ⊥) (cut : part ≡ drop start text) where
    last_part : factors_of (drop start text) ≡ part ∷ []
    last_part = factor_last (drop start text) (λ j lt e. none (start + j) (omega arith) (omega (arith, lt, length-drop start text)) (sym (get_or-drop start text j 0) ∙ e)) ∙ ap (λ p. p ∷ []) (sym cut)

    pub last_more : (n new : ℕ) → capped_value (factor_of part) ≡ Some n → new ≡ capped (value * n) → Some new ≡ whole
    last_more n new e f =
        let one : capped (new * 1) ≡ new = omega (arith, f) in
        sym (all ∙ ap (λ p. option_map (λ rest. capped (value * rest)) (product_value p)) last_part ∙ times value n new (factor_of part) (Some 1) e f ∙ ap Some one)

    pub last_bad : capped_value (factor_of part) ≡ None → whole ≡ None
    last_bad e = all ∙ ap (λ p. option_map (λ rest. capped (value * rest)) (product_value p)) last_part ∙ no_times value (factor_of part) (Some 1) e
