-- Lines of zeros row by row, and that they are those by position.
use Rattle.std.proofs.Common.{◌≡◌, ◌⊎◌, ℕ, zero, suc, ◌+◌, ◌-◌, ◌*◌, ◌/◌, ◌<◌, ◌≤◌, Bool, true, false, List, [], ◌∷◌, ◌++◌, length, min, take, drop, replicate, refl, sym, ap, subst, ◌∙◌, arith, add-zero, add-one, append_assoc, append-nil, length-append, inl, inr, ⊎_elim}
use Rattle.std.specs.Prelude.{nat_lt, ◌==◌, ◌&&◌, if◌then◌else◌, bytes_eq, codes}
use Rattle.std.specs.List.{flat_map, range_with_len}
use Rattle.std.proofs.lemmas.Bool.{and_right, cond-false, cases_Bool, cases_eq, cases_lt, cases_order, eq-eqb, ne_eqb}
use Rattle.std.proofs.lemmas.Bool.Decides.{nat_tests}
use Rattle.std.proofs.lemmas.Slice.Eq.{bytes_eq-Decides}
use Rattle.std.proofs.lemmas.List.{take-take, drop-drop, drop-take, drop-append-le, take-append-le, take_min, take_all, length-drop, length-take, length-take-le, take-append-drop, length-replicate}
use Rattle.std.proofs.Math.Nat.{le-div_iff_mul-le, lt-div-mul-add, mul-div-le, mul-le-mul_left, mul-add-div, div-eq_of_lt, div-eq_of_lt-le}
use Rattle.bx_dump.proofs.FoldByLemmas.{bytes_stay_by}
use Rattle.std.proofs.Math.Seq.{take-append-add, drop-append-add}
use Rattle.bx_text.proofs.RangeLemmas.{flat_map_along, flat_map_split}
use Rattle.bx_text.specs.Fold.{shown_text}
use Rattle.bx_text.specs.declared.line.fold.Show.{Show}
use Rattle.bx_text.specs.declared.line.fold.Show.TheVariants.{Line, Star, Nothing}
use Rattle.bx_dump_columns.specs.Lines.{in_lines}
use Rattle.bx_dump_columns.proofs.LinesLemmas.{in_lines-one, in_lines-none, lines_step, line_begin, line_end}
use Rattle.bx_dump.specs.FoldBy.{line_bytes_by}
use Rattle.bx_dump.specs.Zeros.{all_zeros, follows_skippable, is_skippable, show_zeros, zeros_line, zeros_skipped}
use Rattle.bx_dump.specs.Laws.{EndsAreShown, PlainWithoutZeros}
use Rattle.bx_dump.specs.private.Zeros.{zeros_before, dump_end, line_put, put_to, row_end, row_room, zeros_put, HasCounted, PutsRows}

-- bytes that are all zeros
pub zeros_are : (bytes : List ℕ) → all_zeros bytes ≡ true → bytes ≡ replicate (length bytes) 0
zeros_are bytes e = (bytes_eq-Decides bytes (replicate (length bytes) 0)).0 e

-- some zeros of more, as a line
pub blank_line : (n most : ℕ) (bytes : List ℕ) → bytes ≡ replicate most 0 → n ≤ most → take n bytes ≡ replicate n 0
blank_line n most bytes is fits = ap (take n) is ∙ fewer n most fits
  where
    fewer : (n m : ℕ) → n ≤ m → take {A = ℕ} n (replicate m 0) ≡ replicate n 0
    fewer zero m le = refl
    fewer (suc n) zero le = absurd (omega arith)
    fewer (suc n) (suc m) le = ap (λ t. 0 ∷ t) (fewer n m (omega arith))

-- one line has the room of one
pub one_room : (n room : ℕ) → 0 < n → room * ((n + n - 1) / n) ≡ room
one_room n room pos =
    let one : (n + n - 1) / n ≡ 1 = div-eq_of_lt-le n (omega arith) (omega arith) in
    ap (λ k. room * k) one ∙ omega arith

-- a line compared with the front of more zeros
pub zeros_front : (line : List ℕ) (most : ℕ) → length line ≤ most → bytes_eq line (take {A = ℕ} (length line) (replicate most 0)) ≡ all_zeros line
zeros_front line most fits = ap (bytes_eq line) (blank_line (length line) most (replicate most 0) refl fits)

-- a line that another follows is quiet where its bytes are zeros
pub quiet_at : (n k : ℕ) (whole : List ℕ) → n * (k + 1) < length whole → is_skippable n whole k ≡ all_zeros (line_bytes_by n whole k)
quiet_at n k whole follows =
    let e : nat_lt (n * (k + 1)) (length whole) ≡ true = grind (arith, nat_tests) in
    rw e refl

-- the last line is not
pub last_shown : (n k : ℕ) (whole : List ℕ) → length whole ≤ n * (k + 1) → is_skippable n whole k ≡ false
last_shown n k whole last =
    let e : nat_lt (n * (k + 1)) (length whole) ≡ false = grind (arith, nat_tests) in
    rw e refl

-- a quiet line is followed, and has n zeros
quiet_follows : (n k : ℕ) (whole : List ℕ) → is_skippable n whole k ≡ true → n * (k + 1) < length whole
quiet_follows n k whole quiet =
    elim (cases_lt (n * (k + 1)) (length whole)) [
      | inl below ↦ below
      | inr over ↦ absurd (no_both (is_skippable n whole k) quiet (last_shown n k whole over))
    ]
  where
    no_both : (b : Bool) → b ≡ true → b ≡ false → ⊥
    no_both true p q = absurd cc
    no_both false p q = absurd cc

line_is_long : (n k : ℕ) (whole : List ℕ) → n * (k + 1) ≤ length whole → length (line_bytes_by n whole k) ≡ n
line_is_long n k whole fits = length-take-le n (drop (n * k) whole) (omega (arith, length-drop (n * k) whole))

pub quiet_zeros : (n k : ℕ) (whole : List ℕ) → is_skippable n whole k ≡ true → line_bytes_by n whole k ≡ replicate n 0
quiet_zeros n k whole quiet =
    let below = quiet_follows n k whole quiet in
    let zeros : all_zeros (line_bytes_by n whole k) ≡ true = sym (quiet_at n k whole below) ∙ quiet in
    zeros_are (line_bytes_by n whole k) zeros ∙ ap (λ m. replicate m 0) (line_is_long n k whole (omega (arith, below)))

-- line k of some lines is line m + k of the whole
pub line_of_rows : (n m lines k : ℕ) (whole bytes : List ℕ) → bytes ≡ take (n * lines) (drop (n * m) whole) → k < lines → line_bytes_by n bytes k ≡ line_bytes_by n whole (m + k)
line_of_rows n m lines k whole bytes is below =
    let next : n * (k + 1) ≤ n * lines = mul-le-mul_left {m = k + 1} {n = lines} n (omega arith) in
    let parts : n * lines ≡ n * k + (n * lines - n * k) = omega arith in
    let place : n * m + n * k ≡ n * (m + k) = omega arith in
    ap (λ t. take n (drop (n * k) t)) (is ∙ ap (λ j. take j (drop (n * m) whole)) parts)
    ∙ ap (take n) (drop-take (n * k) (n * lines - n * k) (drop (n * m) whole))
    ∙ take-take n (n * lines - n * k) (drop (n * k) (drop (n * m) whole)) (omega arith)
    ∙ ap (take n) (drop-drop (n * k) (n * m) whole ∙ ap (λ j. drop j whole) place)

-- a line of the first ones
pub front_line_is : (n lines k : ℕ) (bytes : List ℕ) → k < lines → line_bytes_by n (take (n * lines) bytes) k ≡ line_bytes_by n bytes k
front_line_is n lines k bytes below =
    let none : n * 0 ≡ 0 = omega arith in
    let same : 0 + k ≡ k = omega arith in
    line_of_rows n 0 lines k bytes (take (n * lines) bytes) (ap (λ j. take (n * lines) (drop j bytes)) (sym none)) below ∙ ap (line_bytes_by n bytes) same

-- one line more
put_next : (line : ℕ → List ℕ → List ℕ) (n at : ℕ) (whole : List ℕ) (k : ℕ) → put_to line n at whole (k + 1) ≡ put_to line n at whole k ++ line_put line n at whole k
unfolding put_to
put_next line n at whole k =
    let e : k + 1 ≡ suc k = omega arith in
    let step : put_to line n at whole (suc k) ≡ put_to line n at whole k ++ line_put line n at whole k = refl in
    ap (put_to line n at whole) e ∙ step

counted_next : (n : ℕ) (whole : List ℕ) (k : ℕ) → is_skippable n whole k ≡ true → zeros_before n whole (k + 1) ≡ min (zeros_before n whole k + 1) 4
unfolding zeros_before
counted_next n whole k quiet =
    let e : k + 1 ≡ suc k = omega arith in
    let step : zeros_before n whole (suc k) ≡ min (zeros_before n whole k + 1) 4 = rw quiet refl in
    ap (zeros_before n whole) e ∙ step

counted_none : (n : ℕ) (whole : List ℕ) (k : ℕ) → is_skippable n whole k ≡ false → zeros_before n whole (k + 1) ≡ 0
unfolding zeros_before
counted_none n whole k loud =
    let e : k + 1 ≡ suc k = omega arith in
    let step : zeros_before n whole (suc k) ≡ 0 = rw loud refl in
    ap (zeros_before n whole) e ∙ step

-- no line
pub rows_none : (line : ℕ → List ℕ → List ℕ) (n count at : ℕ) (bytes : List ℕ) → PutsRows line n 0 count count at bytes []
rows_none line n count at bytes whole m start place is follows old =
    rw (add-zero m) (sym (append-nil (put_to line n start whole m)), old)

-- a line of zeros
pub rows_zero : (line : ℕ → List ℕ → List ℕ) (n old at : ℕ) (bytes text : List ℕ) → 0 < n → all_zeros (line_bytes_by n bytes 0) ≡ true →
    text ≡ (if old == 0 then line at (replicate n 0) else []) → PutsRows line n 1 old (min (old + 1) 4) at bytes text
rows_zero line n old at bytes text pos zeros is whole m start place part follows was =
    let same = line_of_rows n m 1 0 whole bytes part (omega arith) in
    let nil : m + 0 ≡ m = omega arith in
    let quiet : is_skippable n whole m ≡ true = quiet_at n m whole follows ∙ ap all_zeros (sym (same ∙ ap (line_bytes_by n whole) nil)) ∙ zeros in
    let put : line_put line n start whole m ≡ text = rw (quiet, quiet_zeros n m whole quiet, ← was, ← place) (sym is) in
    (put_next line n start whole m ∙ ap (λ t. put_to line n start whole m ++ t) put, ap (λ c. min (c + 1) 4) was ∙ sym (counted_next n whole m quiet))

-- lines that are shown, from line m on
module _ (line : ℕ → List ℕ → List ℕ) (n start : ℕ) (pos : 0 < n) (whole : List ℕ) (m : ℕ) where
  pub busy_text : ℕ → List ℕ
  busy_text k = row_end line n (start + n * m) (zeros_before n whole m) ++ in_lines line n (start + n * m) (take (n * k) (drop (n * m) whole))

  pub busy_to : (e : ℕ) → ((k : ℕ) → k ≤ e → is_skippable n whole (m + k) ≡ false) → n * (m + e) < length whole →
      (put_to line n start whole (m + (e + 1)) ≡ put_to line n start whole m ++ busy_text (e + 1)) × (zeros_before n whole (m + (e + 1)) ≡ 0)
  unfolding busy_text
  busy_to zero loud inside =
      let nil : m + 0 ≡ m = omega arith in
      let quiet : is_skippable n whole m ≡ false = rw nil at (loud 0 (omega arith)) in
      let one : n * (0 + 1) ≡ n = omega arith in
      let rest = drop (n * m) whole in
      let some : 0 < length (take n rest) = omega (arith, length-drop (n * m) whole, length-take n rest) in
      let only : in_lines line n (start + n * m) (take (n * (0 + 1)) rest) ≡ line (start + n * m) (line_bytes_by n whole m) =
      ap (λ j. in_lines line n (start + n * m) (take j rest)) one ∙ in_lines-one line n (start + n * m) (take n rest) some (omega (arith, length-take n rest)) in
      let put : line_put line n start whole m ≡ busy_text 1 = rw quiet (ap (λ t. row_end line n (start + n * m) (zeros_before n whole m) ++ t) (sym only)) in
      (put_next line n start whole m ∙ ap (λ t. put_to line n start whole m ++ t) put, counted_none n whole m quiet)
  busy_to (suc e) loud inside =
      let k = e + 1 in
      let wide : n * (m + suc e) ≡ n * m + n * k = omega arith in
      let near : n * (m + e) ≤ n * m + n * k = omega arith in
      let so_far = busy_to e (λ j le. loud j (omega arith)) (omega arith) in
      let quiet : is_skippable n whole (m + k) ≡ false = loud k (omega arith) in
      let rest = drop (n * m) whole in
      let begins : n * k < length rest = omega (arith, length-drop (n * m) whole) in
      let size = min (n * k + n) (length rest) - n * k in
      let step = lines_step line n (start + n * m) k size rest pos begins (omega arith) in
      let size_is : size ≡ min n (length (drop (n * k) rest)) = omega (arith, length-drop (n * k) rest) in
      let place : n * m + n * k ≡ n * (m + k) = omega arith in
      let cut : take size (drop (n * k) rest) ≡ line_bytes_by n whole (m + k) =
      ap (λ j. take j (drop (n * k) rest)) size_is ∙ take_min n (drop (n * k) rest) ∙ ap (take n) (drop-drop (n * k) (n * m) whole ∙ ap (λ j. drop j whole) place) in
      let address : start + n * m + n * k ≡ start + n * (m + k) = omega arith in
      let put : line_put line n start whole (m + k) ≡ line (start + n * (m + k)) (line_bytes_by n whole (m + k)) = rw (quiet, so_far.1) refl in
      let more : in_lines line n (start + n * m) (take (n * (k + 1)) rest) ≡ in_lines line n (start + n * m) (take (n * k) rest) ++ line (start + n * (m + k)) (line_bytes_by n whole (m + k)) =
      step ∙ ap (λ t. in_lines line n (start + n * m) (take (n * k) rest) ++ t) (ap (λ a. line a (take size (drop (n * k) rest))) address ∙ ap (line (start + n * (m + k))) cut) in
      let next : m + (suc e + 1) ≡ m + k + 1 = omega arith in
      let last : suc e + 1 ≡ k + 1 = omega arith in
      let all : put_to line n start whole (m + k + 1) ≡ put_to line n start whole m ++ busy_text (k + 1) =
      put_next line n start whole (m + k) ∙ ap (λ t. t ++ line_put line n start whole (m + k)) so_far.0
      ∙ joined (put_to line n start whole m) (row_end line n (start + n * m) (zeros_before n whole m)) _ _ _ _ put more in
      (ap (put_to line n start whole) next ∙ all ∙ ap (λ j. put_to line n start whole m ++ busy_text j) (sym last), ap (zeros_before n whole) next ∙ counted_none n whole (m + k) quiet)
    where
      joined : (a b c d p q : List ℕ) → p ≡ d → q ≡ c ++ d → (a ++ (b ++ c)) ++ p ≡ a ++ (b ++ q)
      joined a b c d p q e f = rw (e, f) (append_assoc a (b ++ c) d ∙ ap (λ t. a ++ t) (append_assoc b c d))

  -- the last line, perhaps of fewer bytes
  pub last_row : n * m < length whole → length whole ≤ n * (m + 1) →
      put_to line n start whole (m + 1) ≡ put_to line n start whole m ++ (row_end line n (start + n * m) (zeros_before n whole m) ++ in_lines line n (start + n * m) (drop (n * m) whole))
  unfolding busy_text
  last_row inside last =
      let loud : (k : ℕ) → k ≤ 0 → is_skippable n whole (m + k) ≡ false = λ k le.
      let same : m + k ≡ m = omega arith in
      rw same (last_shown n m whole last) in
      let place : n * (m + 0) ≡ n * m = omega arith in
      let one : m + (0 + 1) ≡ m + 1 = omega arith in
      let only = (busy_to 0 loud (omega arith)).0 in
      let all : take (n * (0 + 1)) (drop (n * m) whole) ≡ drop (n * m) whole = take_all (n * (0 + 1)) (drop (n * m) whole) (omega (arith, length-drop (n * m) whole)) in
      rw (one, all) at only

-- lines that are shown
pub rows_busy : (line : ℕ → List ℕ → List ℕ) (n e old at : ℕ) (bytes text : List ℕ) → 0 < n → ((k : ℕ) → k < e + 1 → all_zeros (line_bytes_by n bytes k) ≡ false) →
    text ≡ row_end line n at old ++ in_lines line n at bytes → PutsRows line n (e + 1) old 0 at bytes text
unfolding busy_text
rows_busy line n e old at bytes text pos busy is whole m start place part follows was =
    let loud : (k : ℕ) → k ≤ e → is_skippable n whole (m + k) ≡ false = λ k le.
    let next : n * (m + k + 1) ≤ n * (m + (e + 1)) = mul-le-mul_left {m = m + k + 1} {n = m + (e + 1)} n (omega arith) in
    quiet_at n (m + k) whole (omega arith) ∙ ap all_zeros (sym (line_of_rows n m (e + 1) k whole bytes part (omega arith))) ∙ busy k (omega arith) in
    let near : n * (m + e) ≤ n * (m + (e + 1)) = mul-le-mul_left {m = m + e} {n = m + (e + 1)} n (omega arith) in
    let both = busy_to line n start pos whole m e loud (omega arith) in
    let same : busy_text line n start pos whole m (e + 1) ≡ text = rw (← was, ← place, ← part) (sym is) in
    (both.0 ∙ ap (λ t. put_to line n start whole m ++ t) same, sym both.1)

pub rows_shown : (line : ℕ → List ℕ → List ℕ) (n lines old at : ℕ) (bytes text : List ℕ) → 0 < n → 0 < lines → ((k : ℕ) → k < lines → all_zeros (line_bytes_by n bytes k) ≡ false) →
    text ≡ row_end line n at old ++ in_lines line n at bytes → PutsRows line n lines old 0 at bytes text
rows_shown line n zero old at bytes text pos some busy is = absurd (omega arith)
rows_shown line n (suc e) old at bytes text pos some busy is =
    let one : suc e ≡ e + 1 = omega arith in
    subst (λ k. PutsRows line n k old 0 at bytes text) (sym one) (rows_busy line n e old at bytes text pos (λ k below. busy k (omega arith)) is)

-- how long the lines of whole ones are
pub whole_room : (n lines room : ℕ) (bytes : List ℕ) → 0 < n → n * lines ≤ length bytes → room * ((length (take (n * lines) bytes) + n - 1) / n) ≡ room * lines
whole_room n lines room bytes pos fits =
    let size : length (take (n * lines) bytes) ≡ n * lines = length-take-le (n * lines) bytes fits in
    let e : n * lines + n - 1 ≡ n * lines + (n - 1) = omega arith in
    let z : (n - 1) / n ≡ 0 = div-eq_of_lt (omega arith) in
    let count : (n * lines + n - 1) / n ≡ lines = ap (λ t. t / n) e ∙ mul-add-div pos lines (n - 1) ∙ rw z (add-zero lines) in
    ap (λ t. room * ((t + n - 1) / n)) size ∙ ap (λ t. room * t) count

pub full_count : (n lines : ℕ) → 0 < n → (n * lines + n - 1) / n ≡ lines
full_count n lines pos =
    let e : n * lines + n - 1 ≡ n * lines + (n - 1) = omega arith in
    let z : (n - 1) / n ≡ 0 = div-eq_of_lt (omega arith) in
    ap (λ t. t / n) e ∙ mul-add-div pos lines (n - 1) ∙ rw z (add-zero lines)

-- no more whole lines than there are
pub lines_few : (n lines room size : ℕ) → 0 < n → n * lines ≤ size → room * lines ≤ room * (size / n)
lines_few n lines room size pos fits = mul-le-mul_left {m = lines} {n = size / n} room ((le-div_iff_mul-le {k = n} {x = lines} {y = size} pos).1 (omega arith))

-- rows behind others
pub rows_join : (line : ℕ → List ℕ → List ℕ) (n a b old now new at next : ℕ) (all xs ys first second : List ℕ) → next ≡ at + n * a → xs ≡ take (n * a) all → ys ≡ take (n * b) (drop (n * a) all) →
    PutsRows line n a old now at xs first → PutsRows line n b now new next ys second → PutsRows line n (a + b) old new at all (first ++ second)
rows_join line n a b old now new at next all xs ys first second at_is front back p q whole m start place part follows was =
    let D = drop (n * m) whole in
    let total : n * (a + b) ≡ n * a + n * b = omega arith in
    let near : n * (m + a) ≤ n * (m + (a + b)) = mul-le-mul_left {m = m + a} {n = m + (a + b)} n (omega arith) in
    let cut : all ≡ take (n * a + n * b) D = part ∙ ap (λ j. take j D) total in
    let fronts : xs ≡ take (n * a) D = front ∙ ap (take (n * a)) cut ∙ take-take (n * a) (n * a + n * b) D (omega arith) in
    let behind : n * m + n * a ≡ n * (m + a) = omega arith in
    let taken : take (n * b) (take (n * b) (drop (n * a) D)) ≡ take (n * b) (drop (n * a) D) = take-take (n * b) (n * b) (drop (n * a) D) (omega arith) in
    let backs : ys ≡ take (n * b) (drop (n * (m + a)) whole) =
    back ∙ ap (λ t. take (n * b) (drop (n * a) t)) cut ∙ ap (take (n * b)) (drop-take (n * a) (n * b) D) ∙ taken ∙ ap (take (n * b)) (drop-drop (n * a) (n * m) whole ∙ ap (λ j. drop j whole) behind) in
    let one = p whole m start place fronts (omega arith) was in
    let sum : m + (a + b) ≡ m + a + b = omega arith in
    let two = q whole (m + a) start (omega arith) backs (omega (arith, follows, ap (λ j. n * j) sum)) one.1 in
    let text : put_to line n start whole (m + a + b) ≡ put_to line n start whole m ++ (first ++ second) =
    two.0 ∙ ap (λ t. t ++ second) one.0 ∙ append_assoc (put_to line n start whole m) first second in
    (ap (put_to line n start whole) sum ∙ text, two.1 ∙ ap (zeros_before n whole) (sym sum))

pub rows_next : (line : ℕ → List ℕ → List ℕ) (n a b old now new at next : ℕ) (bytes ys first second : List ℕ) → next ≡ at + n * a → ys ≡ take (n * b) (drop (n * a) bytes) →
    PutsRows line n a old now at (take (n * a) bytes) first → PutsRows line n b now new next ys second → PutsRows line n (a + b) old new at (take (n * (a + b)) bytes) (first ++ second)
rows_next line n a b old now new at next bytes ys first second at_is back p q =
    let total : n * (a + b) ≡ n * a + n * b = omega arith in
    let front : take (n * a) bytes ≡ take (n * a) (take (n * (a + b)) bytes) = sym (take-take (n * a) (n * (a + b)) bytes (omega arith)) in
    let behind : take (n * b) (drop (n * a) (take (n * (a + b)) bytes)) ≡ take (n * b) (drop (n * a) bytes) =
    ap (λ j. take (n * b) (drop (n * a) (take j bytes))) total ∙ ap (take (n * b)) (drop-take (n * a) (n * b) bytes) ∙ take-take (n * b) (n * b) (drop (n * a) bytes) (omega arith) in
    rows_join line n a b old now new at next (take (n * (a + b)) bytes) (take (n * a) bytes) ys first second at_is front (back ∙ sym behind) p q

pub cancel_lines : (n a b : ℕ) → 0 < n → n * a ≤ n * b → a ≤ b
cancel_lines n a b pos le = elim (cases_lt b a) [
  | inl less ↦ let more : n * (b + 1) ≤ n * a = mul-le-mul_left {m = b + 1} {n = a} n (omega arith) in absurd (omega arith)
  | inr fine ↦ omega arith
]

-- the whole lines that are left
pub lines_left : (n done count : ℕ) (bytes : List ℕ) → 0 < n → done ≤ count → n * count ≤ length bytes →
    length (take (n * count - n * done) (drop (n * done) bytes)) ≡ n * (count - done)
lines_left n done count bytes pos le fits =
    let near : n * done ≤ n * count = mul-le-mul_left {m = done} {n = count} n le in
    let rest : n * count - n * done ≡ n * (count - done) = omega (arith, ap (λ j. n * j) (split done count le)) in
    length-take-le (n * count - n * done) (drop (n * done) bytes) (omega (arith, length-drop (n * done) bytes)) ∙ rest
  where
    split : (a b : ℕ) → a ≤ b → a + (b - a) ≡ b
    split a b le = omega arith

pub whole_lines : (n k : ℕ) → 0 < n → (n * k) / n ≡ k
whole_lines n k pos =
    let e : n * k ≡ n * k + 0 = omega arith in
    let z : 0 / n ≡ 0 = div-eq_of_lt (omega arith) in
    ap (λ t. t / n) e ∙ mul-add-div pos k 0 ∙ rw z (add-zero k)

-- the whole lines in front of the last one, of size bytes
pub last_above : (size n : ℕ) → 0 < n → 0 < size → n * ((size - 1) / n) < size
last_above size n pos some = omega (arith, mul-div-le (size - 1) n)

pub last_below : (size n : ℕ) → 0 < n → 0 < size → size ≤ n * ((size - 1) / n + 1)
last_below size n pos some = omega (arith, lt-div-mul-add {a = size - 1} {b = n} pos)

pub last_count : (size n : ℕ) → 0 < n → 0 < size → (size + n - 1) / n ≡ (size - 1) / n + 1
last_count size n pos some =
    let e : size + n - 1 ≡ n * 1 + (size - 1) = omega arith in
    ap (λ t. t / n) e ∙ mul-add-div pos 1 (size - 1) ∙ omega arith

pub last_one : (size n room : ℕ) → 0 < n → 0 < size → room * ((size - n * ((size - 1) / n) + n - 1) / n) ≡ room
last_one size n room pos some =
    let above = last_above size n pos some in
    let below = last_below size n pos some in
    let one : (size - n * ((size - 1) / n) + n - 1) / n ≡ 1 = div-eq_of_lt-le n (omega arith) (omega arith) in
    ap (λ k. room * k) one ∙ omega arith

-- no more room is kept than for a line
pub row_room_most : (room count : ℕ) → row_room room count ≤ room
row_room_most room count = elim (cases_Bool (nat_lt count 2)) [
  | inl none ↦ rw none (omega arith)
  | inr some ↦ rw some (omega arith)
]

-- the rows are those by position
module _ (line : ℕ → List ℕ → List ℕ) (n start : ℕ) (whole : List ℕ) where
  step_count : (j : ℕ) → 0 < zeros_before n whole (suc j) → (is_skippable n whole j ≡ true) × (zeros_before n whole (suc j) ≡ min (zeros_before n whole j + 1) 4)
  unfolding zeros_before
  step_count j some = elim (cases_Bool (is_skippable n whole j)) [
    | inl quiet ↦ (quiet, rw quiet refl)
    | inr loud ↦ absurd (none_some (is_skippable n whole j) (min (zeros_before n whole j + 1) 4) loud some)
  ]
    where
      none_some : (b : Bool) (k : ℕ) → b ≡ false → 0 < (if b then k else 0) → ⊥
      none_some true k e p = absurd cc
      none_some false k e p = absurd (omega arith)

  before_none : (k : ℕ) → zeros_before n whole k ≡ 0 → follows_skippable n whole k ≡ false
  unfolding zeros_before
  before_none zero none = refl
  before_none (suc j) none = elim (cases_Bool (is_skippable n whole j)) [
    | inl quiet ↦ absurd (some_none (is_skippable n whole j) (zeros_before n whole j) quiet none)
    | inr loud ↦ loud
  ]
    where
      some_none : (b : Bool) (k : ℕ) → b ≡ true → (if b then min (k + 1) 4 else 0) ≡ 0 → ⊥
      some_none true k e p = absurd (omega arith)
      some_none false k e p = absurd cc

  before_some : (k : ℕ) → 0 < zeros_before n whole k → follows_skippable n whole k ≡ true
  unfolding zeros_before
  before_some zero some = absurd (omega arith)
  before_some (suc j) some = (step_count j some).0

  show_loud : (k : ℕ) → is_skippable n whole k ≡ false → show_zeros n whole k ≡ Line
  show_loud zero loud = refl
  show_loud (suc j) loud = rw loud refl

  show_first : (k : ℕ) → zeros_before n whole k ≡ 0 → show_zeros n whole k ≡ Line
  show_first zero none = refl
  show_first (suc j) none =
      let before : is_skippable n whole j ≡ false = before_none (suc j) none in
      cond-false _ _ _ (and_right (is_skippable n whole (suc j)) (is_skippable n whole j) before)

  show_second : (k : ℕ) → is_skippable n whole k ≡ true → zeros_before n whole k ≡ 1 → show_zeros n whole k ≡ (if is_skippable n whole (suc k) then Star else Line)
  unfolding zeros_before
  show_second zero quiet one = absurd (omega arith)
  show_second (suc j) quiet one =
      let step = step_count j (omega arith) in
      let first : follows_skippable n whole j ≡ false = before_none j (omega (arith, one, step.1)) in
      rw (quiet, step.0, first) refl

  show_later : (k : ℕ) → is_skippable n whole k ≡ true → 2 ≤ zeros_before n whole k → show_zeros n whole k ≡ Nothing
  unfolding zeros_before
  show_later zero quiet many = absurd (omega arith)
  show_later (suc j) quiet many =
      let step = step_count j (omega arith) in
      let later : follows_skippable n whole j ≡ true = before_some j (omega (arith, many, step.1)) in
      rw (quiet, step.0, later) refl

  -- what isn't put yet of the first k lines
  left_at : ℕ → ℕ → Bool → List ℕ
  left_at k count quiet = if nat_lt count 2 then [] else if nat_lt count 3 then (if quiet then codes "*\n" else line (start + n * k - n) (replicate n 0)) else codes "*\n"

  texts : ℕ → List ℕ
  texts k = flat_map (zeros_line line n start whole) (range_with_len 0 k)

  texts_next : (k : ℕ) → texts (k + 1) ≡ texts k ++ zeros_line line n start whole k
  unfolding texts
  texts_next k =
      let z : 0 + k ≡ k = omega arith in
      flat_map_split (zeros_line line n start whole) 0 k 1 ∙ rw (z, append-nil (zeros_line line n start whole k)) refl

  -- one line more, by what stands for it
  one_more : (k : ℕ) (before shown put after : List ℕ) → texts k ≡ put_to line n start whole k ++ before → zeros_line line n start whole k ≡ shown → line_put line n start whole k ≡ put →
      before ++ shown ≡ put ++ after → texts (k + 1) ≡ put_to line n start whole (k + 1) ++ after
  one_more k before shown put after so_far is puts same =
      let P = put_to line n start whole k in
      texts_next k ∙ ap (λ t. t ++ zeros_line line n start whole k) so_far ∙ ap (λ t. (P ++ before) ++ t) is ∙ append_assoc P before shown ∙ ap (λ t. P ++ t) same
      ∙ sym (append_assoc P put after) ∙ ap (λ t. t ++ after) (sym (put_next line n start whole k ∙ ap (λ t. P ++ t) puts))

  star_left : (k count : ℕ) (quiet : Bool) → 3 ≤ count → left_at k count quiet ≡ codes "*\n"
  unfolding left_at
  star_left k count quiet many =
      let a : nat_lt count 2 ≡ false = grind (arith, nat_tests) in
      let b : nat_lt count 3 ≡ false = grind (arith, nat_tests) in
      rw (a, b) refl

  star_at : (k count : ℕ) → 2 ≤ count → left_at k count true ≡ codes "*\n"
  unfolding left_at
  star_at k count many = elim (cases_eq count 2) [
    | inl two ↦ rw two refl
    | inr other ↦ star_left k count true (omega arith)
  ]

  none_put : (k : ℕ) → is_skippable n whole k ≡ true → 0 < zeros_before n whole k → line_put line n start whole k ≡ []
  none_put k quiet some = let e : (zeros_before n whole k == 0) ≡ false = ne_eqb (zeros_before n whole k) 0 (λ q. omega arith) in rw (quiet, e) refl

  by_loud : (k : ℕ) → is_skippable n whole k ≡ false → texts k ≡ put_to line n start whole k ++ left_at k (zeros_before n whole k) (is_skippable n whole k) →
      texts (k + 1) ≡ put_to line n start whole (k + 1) ++ left_at (k + 1) (zeros_before n whole (k + 1)) (is_skippable n whole (k + 1))
  unfolding left_at
  by_loud k loud so_far =
      let c = zeros_before n whole k in
      let L = line (start + n * k) (line_bytes_by n whole k) in
      let E = row_end line n (start + n * k) c in
      let before : texts k ≡ put_to line n start whole k ++ E = rw loud at so_far in
      let is : zeros_line line n start whole k ≡ L = ap (λ v. shown_text v L) (show_loud k loud) in
      let puts : line_put line n start whole k ≡ E ++ L = rw loud refl in
      let none : left_at (k + 1) (zeros_before n whole (k + 1)) (is_skippable n whole (k + 1)) ≡ [] = rw (counted_none n whole k loud) refl in
      rw none (one_more k E L (E ++ L) [] before is puts (sym (append-nil (E ++ L))))

  by_first : (k : ℕ) → is_skippable n whole k ≡ true → zeros_before n whole k ≡ 0 → texts k ≡ put_to line n start whole k ++ left_at k (zeros_before n whole k) (is_skippable n whole k) →
      texts (k + 1) ≡ put_to line n start whole (k + 1) ++ left_at (k + 1) (zeros_before n whole (k + 1)) (is_skippable n whole (k + 1))
  unfolding left_at
  by_first k quiet first so_far =
      let L = line (start + n * k) (line_bytes_by n whole k) in
      let before : texts k ≡ put_to line n start whole k ++ [] = rw first at so_far in
      let is : zeros_line line n start whole k ≡ L = ap (λ v. shown_text v L) (show_first k first) in
      let puts : line_put line n start whole k ≡ L = rw (quiet, first) refl in
      let count : zeros_before n whole (k + 1) ≡ 1 = counted_next n whole k quiet ∙ ap (λ c. min (c + 1) 4) first in
      let none : left_at (k + 1) (zeros_before n whole (k + 1)) (is_skippable n whole (k + 1)) ≡ [] = rw count refl in
      rw none (one_more k [] L L [] before is puts (sym (append-nil L)))

  by_second : (k : ℕ) → is_skippable n whole k ≡ true → zeros_before n whole k ≡ 1 → texts k ≡ put_to line n start whole k ++ left_at k (zeros_before n whole k) (is_skippable n whole k) →
      texts (k + 1) ≡ put_to line n start whole (k + 1) ++ left_at (k + 1) (zeros_before n whole (k + 1)) (is_skippable n whole (k + 1))
  unfolding left_at
  by_second k quiet second so_far =
      let L = line (start + n * k) (line_bytes_by n whole k) in
      let q = is_skippable n whole (k + 1) in
      let Z = line (start + n * (k + 1) - n) (replicate n 0) in
      let T = if q then codes "*\n" else Z in
      let before : texts k ≡ put_to line n start whole k ++ [] = rw second at so_far in
      let next : suc k ≡ k + 1 = omega arith in
      let place : start + n * k ≡ start + n * (k + 1) - n = omega arith in
      let zeros : L ≡ Z = ap (λ a. line a (line_bytes_by n whole k)) place ∙ ap (line (start + n * (k + 1) - n)) (quiet_zeros n k whole quiet) in
      let is : zeros_line line n start whole k ≡ T =
      ap (λ v. shown_text v L) (show_second k quiet second ∙ ap (λ j. if is_skippable n whole j then Star else Line) next) ∙ either q L Z zeros in
      let count : zeros_before n whole (k + 1) ≡ 2 = counted_next n whole k quiet ∙ ap (λ c. min (c + 1) 4) second in
      let left : left_at (k + 1) (zeros_before n whole (k + 1)) q ≡ T = rw count refl in
      rw left (one_more k [] T [] T before is (none_put k quiet (omega arith)) refl)
    where
      either : (b : Bool) (xs ys : List ℕ) → xs ≡ ys → shown_text (if b then Star else Line) xs ≡ (if b then codes "*\n" else ys)
      either true xs ys e = refl
      either false xs ys e = e

  by_later : (k : ℕ) → is_skippable n whole k ≡ true → 2 ≤ zeros_before n whole k → texts k ≡ put_to line n start whole k ++ left_at k (zeros_before n whole k) (is_skippable n whole k) →
      texts (k + 1) ≡ put_to line n start whole (k + 1) ++ left_at (k + 1) (zeros_before n whole (k + 1)) (is_skippable n whole (k + 1))
  by_later k quiet later so_far =
      let L = line (start + n * k) (line_bytes_by n whole k) in
      let star : left_at k (zeros_before n whole k) (is_skippable n whole k) ≡ codes "*\n" = ap (left_at k (zeros_before n whole k)) quiet ∙ star_at k (zeros_before n whole k) later in
      let before : texts k ≡ put_to line n start whole k ++ codes "*\n" = rw star at so_far in
      let is : zeros_line line n start whole k ≡ [] = ap (λ v. shown_text v L) (show_later k quiet later) in
      let count : 3 ≤ zeros_before n whole (k + 1) = omega (arith, counted_next n whole k quiet) in
      let left = star_left (k + 1) (zeros_before n whole (k + 1)) (is_skippable n whole (k + 1)) count in
      rw left (one_more k (codes "*\n") [] [] (codes "*\n") before is (none_put k quiet (omega arith)) refl)

  by_none : texts 0 ≡ put_to line n start whole 0 ++ left_at 0 (zeros_before n whole 0) (is_skippable n whole 0)
  unfolding texts left_at put_to zeros_before
  by_none = refl

  by_next : (k : ℕ) → texts k ≡ put_to line n start whole k ++ left_at k (zeros_before n whole k) (is_skippable n whole k) →
      texts (k + 1) ≡ put_to line n start whole (k + 1) ++ left_at (k + 1) (zeros_before n whole (k + 1)) (is_skippable n whole (k + 1))
  by_next k so_far = elim (cases_Bool (is_skippable n whole k)) [
    | inl quiet ↦ elim (cases_eq (zeros_before n whole k) 0) [
      | inl first ↦ by_first k quiet first so_far
      | inr some ↦ elim (cases_eq (zeros_before n whole k) 1) [
        | inl second ↦ by_second k quiet second so_far
        | inr many ↦ by_later k quiet (omega arith) so_far
      ]
    ]
    | inr loud ↦ by_loud k loud so_far
  ]

  by_rows : (k : ℕ) → texts k ≡ put_to line n start whole k ++ left_at k (zeros_before n whole k) (is_skippable n whole k)
  by_rows zero = by_none
  by_rows (suc k) =
      let next : suc k ≡ k + 1 = omega arith in
      subst (λ j. texts j ≡ put_to line n start whole j ++ left_at j (zeros_before n whole j) (is_skippable n whole j)) (sym next) (by_next k (by_rows k))

  -- no row is open behind the last line
  closed : (k : ℕ) → length whole ≤ n * k → zeros_before n whole k ≡ 0
  unfolding zeros_before
  closed zero all = refl
  closed (suc j) all = let loud = last_shown n j whole (omega (arith, all)) in rw loud refl

  pub text_is : (k : ℕ) → k ≡ (length whole + n - 1) / n → 0 < n → zeros_skipped line n start whole ≡ put_to line n start whole k
  unfolding texts left_at
  text_is k count pos =
      let all : length whole ≤ n * k = rw (← count) at (line_end (length whole) n pos) in
      let none : left_at k (zeros_before n whole k) (is_skippable n whole k) ≡ [] = rw (closed k all) refl in
      ap (λ j. flat_map (zeros_line line n start whole) (range_with_len 0 j)) (sym count) ∙ by_rows k ∙ ap (λ t. put_to line n start whole k ++ t) none ∙ append-nil (put_to line n start whole k)

-- what stands in front stays, whatever comes behind it
module _ (n : ℕ) (pos : 0 < n) (xs ys zs : List ℕ) (m : ℕ) (whole : length xs ≡ n * m) (some : 0 < length ys) (other : 0 < length zs) where
  quiet_stays : (k : ℕ) → k < m → is_skippable n (xs ++ ys) k ≡ is_skippable n (xs ++ zs) k
  quiet_stays k below =
      let next : n * (k + 1) ≤ n * m = mul-le-mul_left {m = k + 1} {n = m} n (omega arith) in
      quiet_at n k (xs ++ ys) (omega (arith, length-append xs ys)) ∙ ap all_zeros (bytes_stay_by n pos xs ys m whole k below ∙ sym (bytes_stay_by n pos xs zs m whole k below))
      ∙ sym (quiet_at n k (xs ++ zs) (omega (arith, length-append xs zs)))

  pub counted_stays : (k : ℕ) → k ≤ m → zeros_before n (xs ++ ys) k ≡ zeros_before n (xs ++ zs) k
  unfolding zeros_before
  counted_stays zero le = refl
  counted_stays (suc k) le = rw (quiet_stays k (omega arith), counted_stays k (omega arith)) refl

  pub put_stays : (line : ℕ → List ℕ → List ℕ) (start k : ℕ) → k ≤ m → put_to line n start (xs ++ ys) k ≡ put_to line n start (xs ++ zs) k
  unfolding put_to
  put_stays line start zero le = refl
  put_stays line start (suc k) le =
      let same : line_bytes_by n (xs ++ ys) k ≡ line_bytes_by n (xs ++ zs) k = bytes_stay_by n pos xs ys m whole k (omega arith) ∙ sym (bytes_stay_by n pos xs zs m whole k (omega arith)) in
      rw (put_stays line start k (omega arith), quiet_stays k (omega arith), counted_stays k (omega arith), same) refl

-- what is put only grows
put_grows : (line : ℕ → List ℕ → List ℕ) (n start : ℕ) (whole : List ℕ) (m j : ℕ) → (rest : List ℕ) × (put_to line n start whole (m + j) ≡ put_to line n start whole m ++ rest)
put_grows line n start whole m zero = let nil : m + 0 ≡ m = omega arith in ([], ap (put_to line n start whole) nil ∙ sym (append-nil (put_to line n start whole m)))
put_grows line n start whole m (suc j) =
    let so_far = put_grows line n start whole m j in
    let next : m + suc j ≡ m + j + 1 = omega arith in (
      so_far.0 ++ line_put line n start whole (m + j),
      ap (put_to line n start whole) next ∙ put_next line n start whole (m + j) ∙ ap (λ t. t ++ line_put line n start whole (m + j)) so_far.1
          ∙ append_assoc (put_to line n start whole m) so_far.0 (line_put line n start whole (m + j)),
    )

-- whole lines that were put
module _ (line : ℕ → List ℕ → List ℕ) (n start : ℕ) (pos : 0 < n) (xs : List ℕ) (m : ℕ) (whole : length xs ≡ n * m) where
  lines_in : length xs / n ≡ m
  lines_in =
      let e : length xs ≡ n * m + 0 = omega arith in
      let z : 0 / n ≡ 0 = div-eq_of_lt (omega arith) in
      ap (λ t. t / n) e ∙ mul-add-div pos m 0 ∙ rw z (add-zero m)

  -- the same lines with something else behind them
  pub put_is : (ys : List ℕ) → 0 < length ys → zeros_put line n start xs ≡ put_to line n start (xs ++ ys) m
  put_is ys some = ap (put_to line n start (xs ++ 0 ∷ [])) lines_in ∙ put_stays n pos xs (0 ∷ []) ys m whole (omega arith) some line start m (omega arith)

  lines_of : (ys : List ℕ) → (length (xs ++ ys) + n - 1) / n ≡ m + (length ys + n - 1) / n
  lines_of ys =
      let e : length (xs ++ ys) + n - 1 ≡ n * m + (length ys + n - 1) = omega (arith, length-append xs ys) in
      ap (λ t. t / n) e ∙ mul-add-div pos m (length ys + n - 1)

  -- a block more
  pub put_block : (lines old new : ℕ) (bytes text : List ℕ) → HasCounted n old xs m → length bytes ≡ n * lines → PutsRows line n lines old new (start + length xs) bytes text →
      (zeros_put line n start (xs ++ bytes) ≡ zeros_put line n start xs ++ text) × HasCounted n new (xs ++ bytes) (m + lines)
  put_block lines old new bytes text has long puts =
      let all = (xs ++ bytes) ++ 0 ∷ [] in
      let same : all ≡ xs ++ (bytes ++ 0 ∷ []) = append_assoc xs bytes (0 ∷ []) in
      let part : bytes ≡ take (n * lines) (drop (n * m) all) =
      sym (ap (λ t. take (n * lines) (drop (n * m) t)) same ∙ ap (λ j. take (n * lines) (drop j (xs ++ (bytes ++ 0 ∷ [])))) (sym (add-zero (n * m)) ∙ ap (λ j. j + 0) (sym whole))
      ∙ ap (take (n * lines)) (drop-append-add xs (bytes ++ 0 ∷ []) 0) ∙ take-append-le (n * lines) bytes (0 ∷ []) (omega arith) ∙ take_all (n * lines) bytes (omega arith)) in
      let size : length (xs ++ bytes) ≡ n * (m + lines) = omega (arith, length-append xs bytes) in
      let some : 0 < length (bytes ++ 0 ∷ []) = omega (arith, length-append bytes (0 ∷ [])) in
      let old_is : old ≡ zeros_before n all m = has.1 ∙ counted_stays n pos xs (0 ∷ []) (bytes ++ 0 ∷ []) m whole (omega arith) some m (omega arith) ∙ ap (λ t. zeros_before n t m) (sym same) in
      let both = puts all m start (ap (λ j. start + j) whole) part (omega (arith, length-append (xs ++ bytes) (0 ∷ []), size)) old_is in
      let count : length (xs ++ bytes) / n ≡ m + lines =
      let e : length (xs ++ bytes) ≡ n * (m + lines) + 0 = omega arith in
      let z : 0 / n ≡ 0 = div-eq_of_lt (omega arith) in
      ap (λ t. t / n) e ∙ mul-add-div pos (m + lines) 0 ∙ rw z (add-zero (m + lines)) in
      let front : put_to line n start all m ≡ zeros_put line n start xs = ap (λ t. put_to line n start t m) same ∙ sym (put_is (bytes ++ 0 ∷ []) some) in
      (ap (put_to line n start all) count ∙ both.0 ∙ ap (λ t. t ++ text) front, (size, both.1))

  -- the last bytes: some whole lines and one more, perhaps of fewer
  pub put_last : (lines old new : ℕ) (bytes first second : List ℕ) → HasCounted n old xs m → n * lines < length bytes → length bytes ≤ n * (lines + 1) →
      PutsRows line n lines old new (start + length xs) (take (n * lines) bytes) first →
      second ≡ row_end line n (start + length xs + n * lines) new ++ in_lines line n (start + length xs + n * lines) (drop (n * lines) bytes) →
      zeros_skipped line n start (xs ++ bytes) ≡ zeros_put line n start xs ++ (first ++ second)
  put_last lines old new bytes first second has inside fits puts is =
      let all = xs ++ bytes in
      let some : 0 < length bytes = omega arith in
      let behind : drop (n * m) all ≡ bytes = ap (λ j. drop j all) (sym whole ∙ sym (add-zero (length xs))) ∙ drop-append-add xs bytes 0 in
      let part : take (n * lines) bytes ≡ take (n * lines) (drop (n * m) all) = ap (take (n * lines)) (sym behind) in
      let size : length all ≡ n * m + length bytes = omega (arith, length-append xs bytes) in
      let lower : n * (m + lines) < length all = omega arith in
      let upper : length all ≤ n * (m + lines + 1) = omega arith in
      let old_is : old ≡ zeros_before n all m = has.1 ∙ counted_stays n pos xs (0 ∷ []) bytes m whole (omega arith) some m (omega arith) in
      let both = puts all m start (ap (λ j. start + j) whole) part lower old_is in
      let place : start + n * (m + lines) ≡ start + length xs + n * lines = omega arith in
      let tail : drop (n * (m + lines)) all ≡ drop (n * lines) bytes =
      let parts : n * (m + lines) ≡ length xs + n * lines = omega arith in
      ap (λ j. drop j all) parts ∙ drop-append-add xs bytes (n * lines) in
      let ends : put_to line n start all (m + lines + 1) ≡ put_to line n start all (m + lines) ++ second =
      last_row line n start pos all (m + lines) lower upper
      ∙ ap (λ t. put_to line n start all (m + lines) ++ t) (rw (place, tail, ← both.1) (sym is)) in
      let count : m + lines + 1 ≡ (length all + n - 1) / n = count_is (length all) (m + lines) lower upper in
      text_is line n start all (m + lines + 1) count pos ∙ ends ∙ ap (λ t. t ++ second) (both.0 ∙ ap (λ t. t ++ first) (sym (put_is bytes some)))
      ∙ append_assoc (zeros_put line n start xs) first second
    where
      count_is : (size k : ℕ) → n * k < size → size ≤ n * (k + 1) → k + 1 ≡ (size + n - 1) / n
      count_is size k above below = sym (div-eq_of_lt-le n (omega arith) (omega arith))

-- what ends the dump
row_end_one_less : (line : ℕ → List ℕ → List ℕ) (n at c : ℕ) → 0 < c → row_end line n at (min (c + 1) 4 - 1) ≡ row_end line n at c
row_end_one_less line n at c some = elim (cases_lt c 4) [
  | inl below ↦ let e : min (c + 1) 4 - 1 ≡ c = omega arith in rw e refl
  | inr over ↦
      let e : min (c + 1) 4 - 1 ≡ 3 = omega arith in
      let a : nat_lt c 2 ≡ false = grind (arith, nat_tests) in
      let b : nat_lt c 3 ≡ false = grind (arith, nat_tests) in
      rw (e, a, b) refl
]

put_nothing : (line : ℕ → List ℕ → List ℕ) (n start : ℕ) → 0 < n → (xs : List ℕ) (count : ℕ) → length xs ≡ 0 → count ≡ zeros_before n (xs ++ 0 ∷ []) 0 →
    zeros_skipped line n start xs ≡ zeros_put line n start xs ++ dump_end line n (start + length xs) count
unfolding zeros_before put_to
put_nothing line n start pos [] count none is =
    let z : (0 + n - 1) / n ≡ 0 = div-eq_of_lt (omega arith) in
    let y : 0 / n ≡ 0 = div-eq_of_lt (omega arith) in
    rw (is, z, y) refl
put_nothing line n start pos (x ∷ xs) count none is = absurd (omega arith)

module _ (line : ℕ → List ℕ → List ℕ) (n start : ℕ) (pos : 0 < n) where
  pub put_none : (xs : List ℕ) (m count : ℕ) → HasCounted n count xs m → zeros_skipped line n start xs ≡ zeros_put line n start xs ++ dump_end line n (start + length xs) count
  put_none xs zero count has = put_nothing line n start pos xs count (omega (arith, has.0)) has.1
  put_none xs (suc j) count has =
      let size : length xs ≡ n * j + n = omega (arith, has.0) in
      let front = take (n * j) xs in
      let tail = drop (n * j) xs in
      let front_len : length front ≡ n * j = length-take-le (n * j) xs (omega arith) in
      let tail_len : length tail ≡ n = omega (arith, length-drop (n * j) xs) in
      let parts : front ++ tail ≡ xs = take-append-drop (n * j) xs in
      let longer : front ++ (tail ++ 0 ∷ []) ≡ xs ++ 0 ∷ [] = sym (append_assoc front tail (0 ∷ [])) ∙ ap (λ t. t ++ 0 ∷ []) parts in
      let some : 0 < length (tail ++ 0 ∷ []) = omega (arith, length-append tail (0 ∷ [])) in
      let X = xs ++ 0 ∷ [] in
      let puts : put_to line n start xs j ≡ put_to line n start X j =
      ap (λ t. put_to line n start t j) (sym parts) ∙ put_stays n pos front tail (tail ++ 0 ∷ []) j front_len (omega arith) some line start j (omega arith) ∙ ap (λ t. put_to line n start t j) longer in
      let counts : zeros_before n xs j ≡ zeros_before n X j =
      ap (λ t. zeros_before n t j) (sym parts) ∙ counted_stays n pos front tail (tail ++ 0 ∷ []) j front_len (omega arith) some j (omega arith) ∙ ap (λ t. zeros_before n t j) longer in
      let bytes : line_bytes_by n xs j ≡ line_bytes_by n X j =
      sym (ap (take n) (drop-append-le (n * j) xs (0 ∷ []) (omega arith)) ∙ take-append-le n tail (0 ∷ []) (omega arith)) in
      let count_is : (length xs + n - 1) / n ≡ j + 1 = div-eq_of_lt-le n (omega arith) (omega arith) in
      let loud : is_skippable n xs j ≡ false = last_shown n j xs (omega arith) in
      let L = line (start + n * j) (line_bytes_by n X j) in
      let E = row_end line n (start + n * j) (zeros_before n X j) in
      let shown : line_put line n start xs j ≡ E ++ L = rw (loud, counts, bytes) refl in
      let text : zeros_skipped line n start xs ≡ put_to line n start X j ++ (E ++ L) =
      text_is line n start xs (j + 1) (sym count_is) pos ∙ put_next line n start xs j ∙ ap (λ t. t ++ line_put line n start xs j) puts ∙ ap (λ t. put_to line n start X j ++ t) shown in
      let next : suc j ≡ j + 1 = omega arith in
      let known : zeros_put line n start xs ≡ put_to line n start X j ++ line_put line n start X j =
      ap (put_to line n start X) (lines_in line n start pos xs (suc j) has.0 ∙ next) ∙ put_next line n start X j in
      let is : count ≡ zeros_before n X (j + 1) = has.1 ∙ ap (zeros_before n X) next in
      text ∙ ap (λ t. put_to line n start X j ++ t) (ending j X L E count (start + length xs) (omega (arith, size)) refl refl is) ∙ sym (append_assoc (put_to line n start X j) (line_put line n start X j) _)
      ∙ ap (λ t. t ++ dump_end line n (start + length xs) count) (sym known)
    where
      ending : (j : ℕ) (X L E : List ℕ) (count at : ℕ) → at ≡ start + n * j + n → L ≡ line (start + n * j) (line_bytes_by n X j) → E ≡ row_end line n (start + n * j) (zeros_before n X j) → count ≡ zeros_before n X (j + 1) →
          E ++ L ≡ line_put line n start X j ++ dump_end line n at count
      ending j X L E count at place is ends counts = elim (cases_Bool (is_skippable n X j)) [
        | inl quiet ↦
            let back : at - n ≡ start + n * j = omega arith in
            let total : count ≡ min (zeros_before n X j + 1) 4 = counts ∙ counted_next n X j quiet in
            elim (cases_eq (zeros_before n X j) 0) [
              | inl first ↦
                  let one : count ≡ 1 = total ∙ ap (λ c. min (c + 1) 4) first in
                  rw (quiet, first, one, ends, is) (rw first (sym (append-nil (line (start + n * j) (line_bytes_by n X j)))))
              | inr more ↦
                  let e : (zeros_before n X j == 0) ≡ false = ne_eqb (zeros_before n X j) 0 more in
                  let two : nat_lt count 2 ≡ false = grind (arith, nat_tests) in
                  rw (quiet, e, two, back, is, quiet_zeros n j X quiet, ends) (ap (λ t. t ++ line (start + n * j) (replicate n 0)) (sym (ap (λ c. row_end line n (start + n * j) (c - 1)) total ∙ row_end_one_less line n (start + n * j) (zeros_before n X j) (omega arith))))
            ]
        | inr loud ↦
            let none : count ≡ 0 = counts ∙ counted_none n X j loud in
            rw (loud, none, ends, is) (sym (append-nil _))
      ]

  -- the same where no bytes come
  pub put_empty : (xs ys text : List ℕ) (m count : ℕ) → HasCounted n count xs m → length ys ≡ 0 → text ≡ dump_end line n (start + length xs) count →
      zeros_skipped line n start (xs ++ ys) ≡ zeros_put line n start xs ++ text
  put_empty xs [] text m count has none is =
      ap (zeros_skipped line n start) (append-nil xs) ∙ put_none xs m count has ∙ ap (λ t. zeros_put line n start xs ++ t) (sym is)
  put_empty xs (y ∷ ys) text m count has none is = absurd (omega arith)

  -- no line
  pub none_counted : (count : ℕ) → count ≡ 0 → HasCounted n count [] 0
  unfolding zeros_before
  none_counted count none = (omega arith, none)

  pub skipped_none : zeros_skipped line n start [] ≡ []
  skipped_none = let z : (0 + n - 1) / n ≡ 0 = div-eq_of_lt (omega arith) in rw z refl

  -- what is put is a front of the text, whatever comes
  pub put_front : (xs more : List ℕ) (m count : ℕ) → HasCounted n count xs m → (rest : List ℕ) × (zeros_skipped line n start (xs ++ more) ≡ zeros_put line n start xs ++ rest)
  put_front xs [] m count has =
      (dump_end line n (start + length xs) count, ap (zeros_skipped line n start) (append-nil xs) ∙ put_none xs m count has)
  put_front xs (b ∷ bs) m count has =
      let more = b ∷ bs in
      let some : 0 < length more = omega arith in
      let total = lines_of line n start pos xs m has.0 more in
      let later = put_grows line n start (xs ++ more) m ((length more + n - 1) / n) in
      (later.0, text_is line n start (xs ++ more) (m + (length more + n - 1) / n) (sym total) pos ∙ later.1 ∙ ap (λ t. t ++ later.0) (sym (put_is line n start pos xs m has.0 more some)))

  -- how much of it is kept, where no line is longer than `most`
  pub kept_few : (most : ℕ) (xs : List ℕ) (m count : ℕ) → 2 ≤ most → ((at : ℕ) (bytes : List ℕ) → length bytes ≤ n → length (line at bytes) ≤ most) → HasCounted n count xs m →
      length (zeros_skipped line n start xs) ≤ length (zeros_put line n start xs) + 2 * most
  kept_few most xs m count star short has =
      let at = start + length xs in
      omega (arith, ap length (put_none xs m count has), length-append (zeros_put line n start xs) (dump_end line n at count), end_few count at)
    where
      zero_line : (at : ℕ) → length (line at (replicate n 0)) ≤ most
      zero_line at = short at (replicate n 0) (omega (arith, length-replicate {A = ℕ} n 0))

      row_few : (count at : ℕ) → length (row_end line n at count) ≤ most
      row_few count at = elim (cases_Bool (nat_lt count 2)) [
        | inl none ↦ rw none (omega arith)
        | inr some ↦ elim (cases_Bool (nat_lt count 3)) [
          | inl two ↦ rw (some, two) (zero_line (at - n))
          | inr many ↦ rw (some, many) star
        ]
      ]

      end_few : (count at : ℕ) → length (dump_end line n at count) ≤ 2 * most
      end_few count at = elim (cases_Bool (nat_lt count 2)) [
        | inl none ↦ rw none (omega arith)
        | inr some ↦ rw some (omega (arith, length-append (row_end line n (at - n) (count - 1)) (line (at - n) (replicate n 0)), row_few (count - 1) (at - n), zero_line (at - n)))
      ]

-- no line is left out where none is of zeros, and the ends are always shown
pub plain_without_zeros : PlainWithoutZeros
plain_without_zeros line n at bytes some =
    let shown : (k : ℕ) → zeros_line line n at bytes k ≡ line (at + n * k) (line_bytes_by n bytes k) = λ k.
    ap (λ v. shown_text v (line (at + n * k) (line_bytes_by n bytes k))) (show_loud line n at bytes k (and_right (nat_lt (n * (k + 1)) (length bytes)) (all_zeros (line_bytes_by n bytes k)) (some k))) in
    flat_map_along (zeros_line line n at bytes) (λ k. line (at + n * k) (line_bytes_by n bytes k)) 0 0 ((length bytes + n - 1) / n) (λ k below. shown (0 + k))

pub ends_are_shown : EndsAreShown
ends_are_shown n k bytes = (refl, λ last. show_loud (λ at line. line) n 0 bytes k (last_shown n k bytes last))
