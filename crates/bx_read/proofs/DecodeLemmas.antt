-- The bytes of pairs, put one after another.
use Rattle.std.proofs.Common.{◌≡◌, ℕ, ◌+◌, ◌<◌, ◌≤◌, Bool, true, false, ◌&&◌, Option, None, Some, List, [], ◌∷◌, ◌++◌, length, get_or, take, drop, refl, arith, sym, ap, ◌∙◌, append_assoc}
use Rattle.std.proofs.Math.ListN.{set}
use Rattle.std.specs.Option.{option_map}
use Rattle.std.proofs.lemmas.List.{take_more_set, drop-set-lt, length-take-le, length-drop, length-set, drop_more}
use Rattle.bx_read.specs.Digits.{is_hex, pairs_of, pair_value}
use Rattle.bx_read.specs.private.Digits.{few_pairs}
use Rattle.bx_read.proofs.PieceLemmas.{rest_of, long_enough}
use Rattle.bx_read.proofs.PairsLemmas.{pairs_at-wrong, pairs_at-last, bytes_at-space, bytes_at-next}

-- one byte more in front
pub more_in_front : (front : List ℕ) (b : ℕ) (o : Option (List ℕ)) → option_map (λ more. front ++ more) (option_map (λ more. b ∷ more) o) ≡ option_map (λ more. (front ++ b ∷ []) ++ more) o
more_in_front front b None = refl
more_in_front front b (Some more) = ap Some (sym (append_assoc front (b ∷ []) more))

module _ (hex front : List ℕ) (at : ℕ) (few : few_pairs hex ≡ true) (all : pairs_of hex ≡ option_map (λ more. front ++ more) (pairs_of (drop at hex))) where
  -- a pair is there
  pub pair_fits : at < length hex → at + 2 ≤ length hex
  pair_fits inside =
      let rest = rest_of hex (drop at hex) front few all in
      omega (arith, long_enough (drop at hex) rest.0 rest.1, length-drop at hex)

  pub pair_there : at < length hex → (is_hex (get_or hex at 0) && is_hex (get_or hex (at + 1) 0)) ≡ true
  pair_there inside = go (is_hex (get_or hex at 0) && is_hex (get_or hex (at + 1) 0)) refl
    where
      go : (b : Bool) → (is_hex (get_or hex at 0) && is_hex (get_or hex (at + 1) 0)) ≡ b → b ≡ true
      go true e = refl
      go false e =
          let rest = rest_of hex (drop at hex) front few all in
          let none = pairs_at-wrong hex at (pair_fits inside) e in
          cc (rest.1)

drop_step : (xs ys : List ℕ) (n : ℕ) → drop n xs ≡ drop n ys → n < length xs → n < length ys → drop (n + 1) xs ≡ drop (n + 1) ys
drop_step xs ys n e a b = ap (drop 1) (sym (drop_more xs n 0 a) ∙ e ∙ drop_more ys n 0 b)

-- what stands after a byte more
module _ (hex out : List ℕ) (at count v : ℕ) (few : few_pairs hex ≡ true) (all : pairs_of hex ≡ option_map (λ more. take count out ++ more) (pairs_of (drop at hex)))
    (value : v ≡ pair_value (get_or hex at 0) (get_or hex (at + 1) 0)) (room : length out ≡ 256) (full : count < 256) (inside : at < length hex) where
  front : take (count + 1) (set out count v) ≡ take count out ++ pair_value (get_or hex at 0) (get_or hex (at + 1) 0) ∷ []
  front = take_more_set out count v (omega arith) ∙ ap (λ b. take count out ++ b ∷ []) value

  pub rest_kept : (old : List ℕ) → drop count out ≡ drop count old → count < length old → drop (count + 1) (set out count v) ≡ drop (count + 1) old
  rest_kept old same within =
      let before : drop (count + 1) out ≡ drop (count + 1) old = drop_step out old count same (omega arith) within in
      drop-set-lt (count + 1) out count v (omega arith) ∙ before

  -- after the last pair
  pub bytes_end : at + 2 ≡ length hex → pairs_of hex ≡ Some (take (count + 1) (set out count v))
  bytes_end end =
      let last = pairs_at-last hex at end (pair_there hex (take count out) at few all inside) in
      all ∙ ap (option_map (λ more. take count out ++ more)) last ∙ ap Some (sym front)

  module _ (next : ℕ) (step : pairs_of (drop at hex) ≡ option_map (λ more. pair_value (get_or hex at 0) (get_or hex (at + 1) 0) ∷ more) (pairs_of (drop next hex))) where
    step_all : pairs_of hex ≡ option_map (λ more. take (count + 1) (set out count v) ++ more) (pairs_of (drop next hex))
    step_all =
        all ∙ ap (option_map (λ more. take count out ++ more)) step ∙ more_in_front (take count out) (pair_value (get_or hex at 0) (get_or hex (at + 1) 0)) (pairs_of (drop next hex))
        ∙ ap (λ f. option_map (λ more. f ++ more) (pairs_of (drop next hex))) (sym front)

    step_rest : (next < length hex) × (count + 1 < 256)
    step_rest =
        let rest = rest_of hex (drop next hex) (take (count + 1) (set out count v)) few step_all in
        let long = long_enough (drop next hex) rest.0 rest.1 in
        (omega (arith, long, length-drop next hex), omega (arith, rest.2, rest.3, length-take-le (count + 1) (set out count v) (omega (arith, length-set out count v))))

  pub after_space : at + 2 < length hex → get_or hex (at + 2) 0 ≡ 32 →
      (at + 2 + 1 < length hex) × (count + 1 < 256) × (pairs_of hex ≡ option_map (λ more. take (count + 1) (set out count v) ++ more) (pairs_of (drop (at + 2 + 1) hex)))
  after_space fits space =
      let step = bytes_at-space hex at fits (pair_there hex (take count out) at few all inside) space in
      let rest = step_rest (at + 2 + 1) step in
      (rest.0, rest.1, step_all (at + 2 + 1) step)

  pub after_pair : at + 2 < length hex → (get_or hex (at + 2) 0 ≡ 32 → ⊥) →
      (at + 2 < length hex) × (count + 1 < 256) × (pairs_of hex ≡ option_map (λ more. take (count + 1) (set out count v) ++ more) (pairs_of (drop (at + 2) hex)))
  after_pair fits other =
      let step = bytes_at-next hex at fits (pair_there hex (take count out) at few all inside) other in
      let rest = step_rest (at + 2) step in
      (rest.0, rest.1, step_all (at + 2) step)
