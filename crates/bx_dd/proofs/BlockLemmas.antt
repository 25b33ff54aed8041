-- Pairs that change places.
use Rattle.std.proofs.Common.{◌≡◌, ℕ, zero, suc, ◌+◌, ◌*◌, ◌/◌, ◌<◌, List, [], ◌∷◌, ◌++◌, length, get_or, take, drop, refl, sym, ap, ◌∙◌, arith, add-one, map}
use Rattle.std.proofs.Math.ListN.{set}
use Rattle.std.proofs.Math.Seq.{drop-cons, take-add}
use Rattle.std.proofs.lemmas.List.{length-take-le, length-drop, append_assoc, take-append-drop}
use Rattle.bx_dd.specs.Output.{swapped, cased}
use Rattle.bx_dd.specs.declared.form.Letters.TheVariants.{Keep}

pub length-swapped : (xs : List ℕ) → length (swapped xs) ≡ length xs
unfolding swapped
length-swapped [] = refl
length-swapped (a ∷ []) = refl
length-swapped (a ∷ b ∷ rest) = ap (λ n. suc (suc n)) (length-swapped rest)

-- whole pairs, and more
pub swapped-append : (n : ℕ) (xs ys : List ℕ) → length xs ≡ 2 * n → swapped (xs ++ ys) ≡ swapped xs ++ swapped ys
unfolding swapped
swapped-append n [] ys e = refl
swapped-append zero (a ∷ []) ys e = absurd (omega arith)
swapped-append (suc n) (a ∷ []) ys e = absurd (omega arith)
swapped-append zero (a ∷ b ∷ rest) ys e = absurd (omega arith)
swapped-append (suc n) (a ∷ b ∷ rest) ys e = ap (λ l. b ∷ a ∷ l) (swapped-append n rest ys (omega arith))

short : (xs : List ℕ) → length xs < 2 → swapped xs ≡ xs
unfolding swapped
short [] few = refl
short (a ∷ []) few = refl
short (a ∷ b ∷ rest) few = absurd (omega arith)

-- two elements in the middle change places
pub change_places : (s : List ℕ) (a b : ℕ) (r : List ℕ) (n : ℕ) → length s ≡ n →
    set (set (s ++ a ∷ b ∷ r) n b) (suc n) a ≡ s ++ b ∷ a ∷ r
change_places [] a b r zero e = refl
change_places [] a b r (suc n) e = absurd (omega arith)
change_places (x ∷ s) a b r zero e = absurd (omega arith)
change_places (x ∷ s) a b r (suc n) e = ap (λ l. x ∷ l) (change_places s a b r n (omega arith))

get_first : (s : List ℕ) (a b : ℕ) (r : List ℕ) (n : ℕ) → length s ≡ n → get_or (s ++ a ∷ b ∷ r) n 0 ≡ a
get_first [] a b r zero e = refl
get_first [] a b r (suc n) e = absurd (omega arith)
get_first (x ∷ s) a b r zero e = absurd (omega arith)
get_first (x ∷ s) a b r (suc n) e = get_first s a b r n (omega arith)

get_second : (s : List ℕ) (a b : ℕ) (r : List ℕ) (n : ℕ) → length s ≡ n → get_or (s ++ a ∷ b ∷ r) (suc n) 0 ≡ b
get_second [] a b r zero e = refl
get_second [] a b r (suc n) e = absurd (omega arith)
get_second (x ∷ s) a b r zero e = absurd (omega arith)
get_second (x ∷ s) a b r (suc n) e = get_second s a b r n (omega arith)

-- one pair more
pub pair_more : (xs cur : List ℕ) (i : ℕ) → i < length xs / 2 → cur ≡ swapped (take (2 * i) xs) ++ drop (2 * i) xs →
    set (set cur (2 * i) (get_or cur (2 * i + 1) 0)) (2 * i + 1) (get_or cur (2 * i) 0) ≡ swapped (take (2 * (i + 1)) xs) ++ drop (2 * (i + 1)) xs
unfolding swapped
pair_more xs cur i inside is =
    let fits : 2 * i + 1 < length xs = omega arith in
    let a = get_or xs (2 * i) 0 in
    let b = get_or xs (suc (2 * i)) 0 in
    let r = drop (suc (suc (2 * i))) xs in
    let s = swapped (take (2 * i) xs) in
    let len : length s ≡ 2 * i = length-swapped (take (2 * i) xs) ∙ length-take-le (2 * i) xs (omega arith) in
    let parts : drop (2 * i) xs ≡ a ∷ b ∷ r = drop-cons xs (2 * i) 0 (omega arith) ∙ ap (λ l. a ∷ l) (drop-cons xs (suc (2 * i)) 0 (omega arith)) in
    let now : cur ≡ s ++ a ∷ b ∷ r = is ∙ ap (λ l. s ++ l) parts in
    let next : 2 * (i + 1) ≡ 2 * i + 2 = omega arith in
    let two : 2 * i + 2 ≡ suc (suc (2 * i)) = omega arith in
    let front : take (2 * i + 2) xs ≡ take (2 * i) xs ++ a ∷ b ∷ [] = take-add (2 * i) 2 xs ∙ ap (λ l. take (2 * i) xs ++ take 2 l) parts in
    let pairs : swapped (take (2 * i) xs ++ a ∷ b ∷ []) ≡ s ++ b ∷ a ∷ [] = swapped-append i (take (2 * i) xs) (a ∷ b ∷ []) (length-take-le (2 * i) xs (omega arith)) in
    let right : swapped (take (2 * (i + 1)) xs) ++ drop (2 * (i + 1)) xs ≡ s ++ b ∷ a ∷ r =
    rw next (ap (λ l. swapped l ++ drop (2 * i + 2) xs) front ∙ ap (λ l. l ++ drop (2 * i + 2) xs) pairs ∙ append_assoc s (b ∷ a ∷ []) (drop (2 * i + 2) xs) ∙ ap (λ n. s ++ b ∷ a ∷ drop n xs) two) in
    rw (now, add-one, get_first s a b r (2 * i) len, get_second s a b r (2 * i) len) (change_places s a b r (2 * i) len) ∙ sym right

-- all pairs, and perhaps an odd last byte
pub pairs_all : (xs cur : List ℕ) → cur ≡ swapped (take (2 * (length xs / 2)) xs) ++ drop (2 * (length xs / 2)) xs → cur ≡ swapped xs
unfolding swapped
pairs_all xs cur is =
    let n = 2 * (length xs / 2) in
    let front : length (take n xs) ≡ n = length-take-le n xs (omega arith) in
    let split : swapped (take n xs ++ drop n xs) ≡ swapped (take n xs) ++ swapped (drop n xs) = swapped-append (length xs / 2) (take n xs) (drop n xs) front in
    let few : length (drop n xs) < 2 = omega (arith, length-drop n xs) in
    is ∙ ap (λ l. swapped (take n xs) ++ l) (sym (short (drop n xs) few)) ∙ sym split ∙ ap swapped (take-append-drop n xs)

-- letters that are kept
pub map_kept : (xs : List ℕ) → map (cased Keep) xs ≡ xs
map_kept [] = refl
map_kept (x ∷ xs) = ap (λ l. x ∷ l) (map_kept xs)
