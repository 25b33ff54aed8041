-- The loop over digits.
use Rattle.std.proofs.Common.{◌≡◌, ℕ, suc, ◌+◌, ◌*◌, ◌^◌, ◌<◌, ◌≤◌, List, length, get_or, drop, refl, ap, Some, None, arith, add-one}
use Rattle.std.proofs.Math.Seq.{drop-cons}
use Rattle.std.proofs.Math.ListN.{drop_of_length-le}
use Rattle.std.proofs.Math.Nat.{pow-suc, pow-le-pow_right}
use Rattle.bx_journal_format.specs.Hex.{hex_nibble, number_after}

-- one digit on
pub digit_on : (text : List ℕ) (i n d : ℕ) → i < length text → hex_nibble (get_or text i 0) ≡ Some d → number_after n (drop i text) ≡ number_after (n * 16 + d) (drop (i + 1) text)
unfolding number_after
digit_on text i n d h is = rw (drop-cons text i 0 h, is, add-one) (ap (λ k. number_after k (drop (suc i) text)) (omega arith))

pub digit_stops : (text : List ℕ) (i n : ℕ) → i < length text → hex_nibble (get_or text i 0) ≡ None → number_after n (drop i text) ≡ None
unfolding number_after
digit_stops text i n h is = rw (drop-cons text i 0 h, is) refl

pub digits_end : (text : List ℕ) (i n : ℕ) → length text ≤ i → number_after n (drop i text) ≡ Some n
unfolding number_after
digits_end text i n h = rw (drop_of_length-le text h) refl

pub digit_fits : (i n d : ℕ) → n < 16 ^ i → d < 16 → n * 16 + d < 16 ^ (i + 1)
digit_fits i n d h k = rw (add-one, pow-suc 16 i) (omega arith)

power_at : (i j : ℕ) → i ≤ j → 16 ^ i ≤ 16 ^ j
power_at i j h = pow-le-pow_right (omega arith) h

pub digit_bound : (i n d : ℕ) → n < 16 ^ i → d < 16 → i < 16 → n * 16 + d < 2 ^ 64
digit_bound i n d h k few =
    let fits : n * 16 + d < 16 ^ (i + 1) = digit_fits i n d h k in
    let most : 16 ^ (i + 1) ≤ 16 ^ 16 = power_at (i + 1) 16 (omega arith) in
    omega arith
