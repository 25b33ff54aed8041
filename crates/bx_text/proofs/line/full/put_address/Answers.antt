use Rattle.std.proofs.Common.{◌≡◌, ℕ, suc, ◌/◌, ◌%◌, ◌^◌, ◌<◌, false, List, [], ◌++◌, refl, sym, ap, ◌∙◌, arith}
use Rattle.std.specs.Fmt.{digits}
use Rattle.bx_text.specs.Field.{left_filled, hex_text}
use Rattle.bx_text.specs.Dump.{pair_of}
use Rattle.bx_text.proofs.FixedLemmas.{fixed_onto, fixed_text}
use Rattle.bx_text.proofs.line.full.put_address.Goals as goal

-- two digits at once
two : (k n : ℕ) (acc : List ℕ) → fixed_onto (suc (suc k)) n acc ≡ fixed_onto k (n / 256) (pair_of false (n % 256) ++ acc)
two k n acc =
    let up : n / 16 / 16 ≡ n / 256 = omega arith in
    let high : n / 16 % 16 ≡ n % 256 / 16 = omega arith in
    let low : n % 16 ≡ n % 256 % 16 = omega arith in
    rw (up, high, low) refl

four : (k n : ℕ) → k ≡ 8 → n < 2 ^ 32 →
    pair_of false (n / 256 / 256 / 256 % 256) ++ (pair_of false (n / 256 / 256 % 256) ++ (pair_of false (n / 256 % 256) ++ pair_of false (n % 256))) ≡ left_filled 48 k (digits 16 false n)
four k n e small =
    let power : 16 ^ k ≡ 2 ^ 32 = rw e refl in
    let all = fixed_text k 64 n refl (omega arith) (omega arith) (omega arith) in
    let steps = two 6 n [] ∙ two 4 (n / 256) _ ∙ two 2 (n / 256 / 256) _ ∙ two 0 (n / 256 / 256 / 256) _ in
    sym steps ∙ ap (λ j. fixed_onto j n []) (sym e) ∙ all

joined : (at : ℕ) (a b c d : List ℕ) → at < 2 ^ 32 → a ≡ pair_of false (at / 256 / 256 / 256 % 256) → b ≡ pair_of false (at / 256 / 256 % 256) → c ≡ pair_of false (at / 256 % 256) →
    d ≡ pair_of false (at % 256) → a ++ (b ++ (c ++ d)) ≡ hex_text false 8 at
joined at a b c d small p q r s = rw (p, q, r, s) (four 8 at refl small)

pub returns : goal.returns
returns c =
    joined c.args.at _ _ _ _ (omega (arith, c.ranges.at.fits)) (c.copy_from_slice.ensures.after ∙ c.digits_of.ensures) (c.copy_from_slice-2.ensures.after ∙ c.digits_of-2.ensures)
    (c.copy_from_slice-3.ensures.after ∙ c.digits_of-3.ensures) (c.copy_from_slice-4.ensures.after ∙ c.digits_of-4.ensures)
