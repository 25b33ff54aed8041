-- Bytes in which no four print have no run that is long enough.
use Rattle.std.proofs.Common.{◌≡◌, ℕ, zero, suc, ◌+◌, ◌<◌, ◌≤◌, Bool, true, false, eqb, List, [], ◌∷◌, ◌++◌, length, take, drop, slice_index, refl, sym, ap, ◌∙◌, arith, append_assoc, length-append, inl, inr}
use Rattle.std.specs.Prelude.{nat_lt, nat_le, ◌==◌, ◌&&◌}
use Rattle.std.specs.List.{prefix_len}
use Rattle.std.proofs.lemmas.Bool.{cases_lt, eq-eqb, ne_eqb, cond-true, cond-false}
use Rattle.std.proofs.lemmas.Bool.Decides.{nat_tests}
use Rattle.std.proofs.lemmas.List.{length-take-le, drop-drop, take-append-drop, get_or-take, get_or_past}
use Rattle.std.proofs.lemmas.List.Folds.{prefix_len-append}
use Rattle.bx_dump_columns.specs.declared.od.options.Address.{Address}
use Rattle.bx_text.specs.Ascii.{is_printable}
use Rattle.bx_dump.specs.private.Scan.{scan_text, scan_run, AllPrint, EndsQuiet, IsQuiet}
use Rattle.bx_dump_columns.specs.Printing.{four_print}
use Rattle.bx_dump.proofs.ScanLemmas.{both, ends_quiet}

-- one load of n bytes: not all print, or all
pub count_stops : (n done r : ℕ) (xs : List ℕ) → n ≤ length (drop done xs) → r ≡ prefix_len is_printable (take n (drop done xs)) → r < n →
    prefix_len is_printable (drop done xs) ≡ r
count_stops n done r xs room is short =
    let rest = drop done xs in
    let long : length (take n rest) ≡ n = length-take-le n rest room in
    let other : eqb (prefix_len is_printable (take n rest)) (length (take n rest)) ≡ false = ne_eqb _ _ (λ e. omega (arith, is, e, long)) in
    ap (prefix_len is_printable) (sym (take-append-drop n rest)) ∙ prefix_len-append is_printable (take n rest) (drop n rest) ∙ cond-false _ _ _ other ∙ sym is

pub count_goes : (n done r : ℕ) (xs : List ℕ) → n ≤ length (drop done xs) → r ≡ prefix_len is_printable (take n (drop done xs)) → r ≡ n →
    prefix_len is_printable (drop done xs) ≡ r + prefix_len is_printable (drop (done + r) xs)
count_goes n done r xs room is whole =
    let rest = drop done xs in
    let long : length (take n rest) ≡ n = length-take-le n rest room in
    let same : eqb (prefix_len is_printable (take n rest)) (length (take n rest)) ≡ true = eq-eqb _ _ (omega (arith, is, whole, long)) in
    ap (prefix_len is_printable) (sym (take-append-drop n rest)) ∙ prefix_len-append is_printable (take n rest) (drop n rest) ∙ cond-true _ _ _ same
    ∙ ap (λ m. m + prefix_len is_printable (drop n rest)) (long ∙ sym whole) ∙ ap (λ m. r + prefix_len is_printable (drop m rest)) (sym whole)
    ∙ ap (λ t. r + prefix_len is_printable t) (drop-drop r done xs ∙ ap (λ m. drop m xs) (omega arith))

-- four that print, from the first of them on
first_four : (a b c d : Bool) → (a && (b && (c && d))) ≡ true → (a ≡ true) × (b ≡ true) × (c ≡ true) × (d ≡ true)
first_four true true true true e = (refl, refl, refl, refl)
first_four true true true false e = absurd (grind (arith, e))
first_four true true false d e = absurd (grind (arith, e))
first_four true false c d e = absurd (grind (arith, e))
first_four false b c d e = absurd (grind (arith, e))

all_four : (xs : List ℕ) (k : ℕ) → is_printable (slice_index xs k) ≡ true → is_printable (slice_index xs (k + 1)) ≡ true → is_printable (slice_index xs (k + 2)) ≡ true →
    is_printable (slice_index xs (k + 3)) ≡ true → four_print xs k ≡ true
all_four xs k a b c d = rw (a, b, c, d) refl

-- a run that has four bytes begins with four that print
begins : (run xs : List ℕ) → AllPrint run → 4 ≤ length run → four_print (run ++ xs) 0 ≡ true
begins [] xs print long = absurd (omega arith)
begins (a ∷ []) xs print long = absurd (omega arith)
begins (a ∷ b ∷ []) xs print long = absurd (omega arith)
begins (a ∷ b ∷ c ∷ []) xs print long = absurd (omega arith)
begins (a ∷ b ∷ c ∷ d ∷ run) xs print long = all_four (a ∷ b ∷ c ∷ d ∷ run ++ xs) 0 print.0 print.1.0 print.1.1.0 print.1.1.1.0

one_more : (run : List ℕ) (b : ℕ) → AllPrint run → is_printable b ≡ true → AllPrint (run ++ b ∷ [])
one_more [] b print holds = (holds, tt)
one_more (a ∷ run) b print holds = (print.0, one_more run b print.1 holds)

behind : (xs : List ℕ) (b : ℕ) (ys : List ℕ) (k : ℕ) → four_print (xs ++ b ∷ ys) (length xs + suc k) ≡ four_print ys k
behind [] b ys k =
    let zero_more : 0 + suc k ≡ suc k = omega arith in
    let one : suc k + 1 ≡ suc (k + 1) = omega arith in
    let two : suc k + 2 ≡ suc (k + 2) = omega arith in
    let three : suc k + 3 ≡ suc (k + 3) = omega arith in
    rw (zero_more, one, two, three) refl
behind (x ∷ xs) b ys k =
    let m = length xs + suc k in
    let zero_more : suc (length xs) + suc k ≡ suc m = omega arith in
    let one : suc m + 1 ≡ suc (m + 1) = omega arith in
    let two : suc m + 2 ≡ suc (m + 2) = omega arith in
    let three : suc m + 3 ≡ suc (m + 3) = omega arith in
    rw (zero_more, one, two, three) (behind xs b ys k)

quiet_tail : (xs : List ℕ) (b : ℕ) (ys : List ℕ) → EndsQuiet (xs ++ b ∷ ys) → EndsQuiet ys
quiet_tail [] b [] quiet = tt
quiet_tail [] b (y ∷ ys) quiet = quiet
quiet_tail (x ∷ []) b ys quiet = quiet_tail [] b ys quiet
quiet_tail (x ∷ z ∷ xs) b ys quiet = quiet_tail (z ∷ xs) b ys quiet

no_run : (run : List ℕ) → AllPrint run → EndsQuiet (run ++ []) → run ≡ []
no_run [] print quiet = refl
no_run (a ∷ []) print quiet = absurd (grind (arith, print.0, quiet))
no_run (a ∷ b ∷ run) print quiet = absurd (some_run (b ∷ run) print.1 quiet (omega arith))
  where
    some_run : (run : List ℕ) → AllPrint run → EndsQuiet (run ++ []) → 0 < length run → ⊥
    some_run [] print quiet some = absurd (omega arith)
    some_run (a ∷ []) print quiet some = grind (arith, print.0, quiet)
    some_run (a ∷ b ∷ run) print quiet some = some_run (b ∷ run) print.1 quiet (omega arith)

fours_scan : (least : ℕ) (o : Address) (at : ℕ) (run xs : List ℕ) → 4 ≤ least → AllPrint run → EndsQuiet (run ++ xs) → ((k : ℕ) → four_print (run ++ xs) k ≡ false) →
    (scan_text least o at run xs ≡ []) × (scan_run run xs ≡ [])
unfolding scan_text scan_run
fours_scan least o at run [] some print quiet none = (refl, no_run run print quiet)
fours_scan least o at run (b ∷ bs) some print quiet none =
    let short : length run < 4 = elim (cases_lt (length run) 4) [ inl lt ↦ lt | inr le ↦ absurd (grind (arith, begins run (b ∷ bs) print (omega arith), none 0)) ] in
    elim (both (is_printable b)) [
      | inl holds ↦
          let join : (run ++ b ∷ []) ++ bs ≡ run ++ b ∷ bs = append_assoc run (b ∷ []) bs in
          let longer = one_more run b print holds in
          let size : length (run ++ b ∷ []) ≡ length run + 1 = length-append run (b ∷ []) in
          let none_now : (k : ℕ) → four_print ((run ++ b ∷ []) ++ bs) k ≡ false = λ k. rw join (none k) in
          let still : length run + 1 < 4 = elim (cases_lt (length run + 1) 4) [ inl lt ↦ lt | inr le ↦ absurd (grind (arith, begins (run ++ b ∷ []) bs longer (omega (arith, size)), none_now 0)) ] in
          let first : nat_lt (length run) least ≡ true = grind (arith, nat_tests) in
          let other : (length run + 1 == least) ≡ false = ne_eqb (length run + 1) least (λ e. omega arith) in
          let rest = fours_scan least o (at + 1) (run ++ b ∷ []) bs some longer (rw join quiet) none_now in
          (rw (holds, first, other) rest.0, rw holds rest.1)
      | inr fails ↦
          let none_now : (k : ℕ) → four_print bs k ≡ false = λ k. sym (behind run b bs k) ∙ none (length run + suc k) in
          let long : nat_le least (length run) ≡ false = grind (arith, nat_tests) in
          let rest = fours_scan least o (at + 1) [] bs some tt (quiet_tail run b bs quiet) none_now in
          (rw (fails, long) rest.0, rw fails rest.1)
    ]

-- four that print in a front do so in the whole, and begin in the front
in_front : (n k : ℕ) (xs : List ℕ) → is_printable (slice_index (take n xs) k) ≡ true → (k < n) × (is_printable (slice_index xs k) ≡ true)
in_front n k xs holds = elim (cases_lt k n) [
  | inl lt ↦ (lt, ap is_printable (sym (get_or-take n xs k 0 lt)) ∙ holds)
  | inr le ↦ absurd (past le)
]
  where
    past : n ≤ k → ⊥
    past le =
        let out : slice_index (take n xs) k ≡ 0 = get_or_past (take n xs) k 0 (omega (arith, shorter n xs)) in
        grind (arith, rw out at holds)
      where
        shorter : (n : ℕ) (xs : List ℕ) → length (take n xs) ≤ n
        shorter zero xs = omega arith
        shorter (suc n) [] = omega arith
        shorter (suc n) (x ∷ xs) = omega (arith, shorter n xs)

none_in_front : (n done : ℕ) (xs : List ℕ) → n ≤ done → ((k : ℕ) → k < done → four_print xs k ≡ false) → (k : ℕ) → four_print (take n xs) k ≡ false
none_in_front n done xs le none k = elim (both (four_print (take n xs) k)) [
  | inr fails ↦ fails
  | inl holds ↦
      let four = first_four _ _ _ _ holds in
      let a = in_front n k xs four.0 in
      let b = in_front n (k + 1) xs four.1 in
      let c = in_front n (k + 2) xs four.2 in
      let d = in_front n (k + 3) xs four.3 in
      absurd (grind (arith, all_four xs k a.1 b.1 c.1 d.1, none k (omega (arith, a.0))))
]

-- a front that ends in a byte that doesn't print
pub fours_quiet : (least n done : ℕ) (xs : List ℕ) → 4 ≤ least → n ≤ done → EndsQuiet (take n xs) → ((k : ℕ) → k < done → four_print xs k ≡ false) → IsQuiet least (take n xs)
fours_quiet least n done xs some le quiet none =
    let all = none_in_front n done xs le none in
    record { text = λ o at. (fours_scan least o at [] (take n xs) some tt quiet all).0; run = (fours_scan least Address.Without 0 [] (take n xs) some tt quiet all).1 }

-- the byte before the first four doesn't print
pub before_four : (n : ℕ) (xs : List ℕ) → n ≤ length xs → four_print xs n ≡ true → ((k : ℕ) → k < n → four_print xs k ≡ false) → EndsQuiet (take n xs)
before_four zero xs inside found none = tt
before_four (suc n) xs inside found none = elim (both (is_printable (slice_index xs n))) [
  | inr fails ↦ ends_quiet xs n (omega arith) fails
  | inl holds ↦
      let four : (is_printable (slice_index xs (suc n)) ≡ true) × (is_printable (slice_index xs (suc n + 1)) ≡ true) × (is_printable (slice_index xs (suc n + 2)) ≡ true) × (is_printable (slice_index xs (suc n + 3)) ≡ true) =
      first_four _ _ _ _ found in
      let one : suc n ≡ n + 1 = omega arith in
      let two : suc n + 1 ≡ n + 2 = omega arith in
      let three : suc n + 2 ≡ n + 3 = omega arith in
      let b : is_printable (slice_index xs (n + 1)) ≡ true = rw (← one) four.0 in
      let c : is_printable (slice_index xs (n + 2)) ≡ true = rw (← two) four.1 in
      let d : is_printable (slice_index xs (n + 3)) ≡ true = rw (← three) four.2 in
      absurd (grind (arith, all_four xs n holds b c d, none n (omega arith)))
]
