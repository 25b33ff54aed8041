-- The digits of a number from a field with zeros in front of them.
use Rattle.std.proofs.Common.{◌≡◌, ℕ, suc, ◌+◌, ◌-◌, ◌^◌, ◌<◌, ◌≤◌, false, List, [], ◌∷◌, ◌++◌, length, take, drop, replicate, refl, ap, ◌∙◌, arith, append_assoc}
use Rattle.std.specs.Fmt.{digits}
use Rattle.std.proofs.lemmas.List.{length-replicate}
use Rattle.std.proofs.Math.Seq.{take-append-add, drop-append_seam}
use Rattle.bx_text.specs.Field.{left_filled}
use Rattle.bx_dump_columns.proofs.DigitParts.{digits_few, digits_many, digits_some}

-- how many digits there are from a power of the base on
pub count_is : (base : ℕ) (big : 2 ≤ base) (k j n : ℕ) → 0 < k → k + j ≡ 64 → suc k ≤ 64 → n < base ^ j → 0 < base ^ k → n < base ^ suc k → base ^ k ≤ n →
    suc k ≡ length (digits base false n)
count_is base big k j n some all most small pos above below =
    omega (arith, digits_few base big (suc k) n most (omega arith) above, digits_many base big k j n some all small pos below)

-- and below it
pub one_is : (base : ℕ) (big : 2 ≤ base) (n : ℕ) → n < base ^ 1 → 1 ≡ length (digits base false n)
one_is base big n small = omega (arith, digits_few base big 1 n (omega arith) (omega arith) small, digits_some base big 64 63 n refl refl)

-- what stands last in a field of eight, and a space behind it
pub last_of : (text rest : List ℕ) (len : ℕ) → len ≡ length text → len ≤ 8 → take (len + 1) (drop (8 - len) (left_filled 48 8 text ++ 32 ∷ rest)) ≡ text ++ 32 ∷ []
last_of text rest len is few =
    let zeros = replicate (8 - length text) 48 in
    let front : 8 - len ≡ length zeros = omega (arith, is, length-replicate {A = ℕ} (8 - length text) 48) in
    ap (λ t. take (len + 1) (drop (8 - len) t)) (append_assoc zeros text (32 ∷ rest))
    ∙ ap (λ n. take (len + 1) (drop n (zeros ++ (text ++ 32 ∷ rest)))) front
    ∙ ap (take (len + 1)) (drop-append_seam zeros (text ++ 32 ∷ rest))
    ∙ ap (λ n. take (n + 1) (text ++ 32 ∷ rest)) is
    ∙ take-append-add text (32 ∷ rest) 1
