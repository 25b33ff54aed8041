-- A dump in lines, part by part.
use Rattle.std.proofs.Common.{◌≡◌, ℕ, zero, suc, ◌+◌, ◌-◌, ◌*◌, ◌/◌, ◌<◌, ◌≤◌, List, [], ◌∷◌, ◌++◌, length, min, take, drop, refl, sym, ap, ◌∙◌, arith, add-zero, append-nil, length-append, inl, inr}
use Rattle.std.specs.List.{flat_map, range_with_len}
use Rattle.std.proofs.lemmas.List.{drop-append-le, take-append-le, take-append-drop, length-drop, take_all, drop_all, take_min, length-take-le}
use Rattle.std.proofs.lemmas.Bool.{cases_order}
use Rattle.std.proofs.Math.Nat.{le-div_iff_mul-le, mul-add-div, mul-div-le, lt-div-mul-add, mul-le-mul_left, div-eq_of_lt, div-eq_of_lt-le}
use Rattle.std.proofs.Math.Seq.{drop-append-add, take-append-add, take-add}
use Rattle.bx_text.proofs.RangeLemmas.{flat_map_along, flat_map_split}
use Rattle.bx_dump_columns.specs.Lines.{in_lines}

-- Whole lines and more bytes: the lines of both, one after the other.
pub in_lines-append : (line : ℕ → List ℕ → List ℕ) (cols at n : ℕ) (xs ys : List ℕ) → 0 < cols → length xs ≡ cols * n →
    in_lines line cols at (xs ++ ys) ≡ in_lines line cols at xs ++ in_lines line cols (at + length xs) ys
in_lines-append line cols at n xs ys pos whole =
    let all = λ (k : ℕ). line (at + cols * k) (take cols (drop (cols * k) (xs ++ ys))) in
    let front = λ (k : ℕ). line (at + cols * k) (take cols (drop (cols * k) xs)) in
    let back = λ (k : ℕ). line (at + length xs + cols * k) (take cols (drop (cols * k) ys)) in
    let more = (length ys + cols - 1) / cols in
    let count_front : (length xs + cols - 1) / cols ≡ n =
    let e : length xs + cols - 1 ≡ cols * n + (cols - 1) = omega arith in
    let z : (cols - 1) / cols ≡ 0 = div-eq_of_lt (omega arith) in
    ap (λ m. m / cols) e ∙ mul-add-div pos n (cols - 1) ∙ rw z (add-zero n) in
    let count_all : (length (xs ++ ys) + cols - 1) / cols ≡ n + more =
    let e : length (xs ++ ys) + cols - 1 ≡ cols * n + (length ys + cols - 1) = omega (arith, length-append xs ys) in
    ap (λ m. m / cols) e ∙ mul-add-div pos n (length ys + cols - 1) in
    let fronts : flat_map all (range_with_len 0 n) ≡ flat_map front (range_with_len 0 n) = flat_map_along all front 0 0 n (λ k inside.
    let z : 0 + k ≡ k = omega arith in
    let next : cols * (k + 1) ≤ cols * n = mul-le-mul_left cols (omega arith) in
    let fits : cols * k + cols ≤ length xs = omega arith in
    let part : take cols (drop (cols * k) (xs ++ ys)) ≡ take cols (drop (cols * k) xs) =
    ap (take cols) (drop-append-le (cols * k) xs ys (omega arith)) ∙ take-append-le cols (drop (cols * k) xs) ys (omega (arith, length-drop (cols * k) xs)) in
    rw (z, part) refl) in
    let backs : flat_map all (range_with_len (0 + n) more) ≡ flat_map back (range_with_len 0 more) = flat_map_along all back (0 + n) 0 more (λ k inside.
    let z : 0 + k ≡ k = omega arith in
    let place : cols * (0 + n + k) ≡ length xs + cols * k = omega arith in
    let address : at + (length xs + cols * k) ≡ at + length xs + cols * k = omega arith in
    rw (z, place, address, drop-append-add xs ys (cols * k)) refl) in
    rw (count_all, count_front) (flat_map_split all 0 n more ∙ ap (λ t. t ++ flat_map all (range_with_len (0 + n) more)) fronts ∙ ap (λ t. flat_map front (range_with_len 0 n) ++ t) backs)

pub in_lines-none : (line : ℕ → List ℕ → List ℕ) (cols at : ℕ) → 0 < cols → in_lines line cols at [] ≡ []
in_lines-none line cols at pos =
    let none : (0 + cols - 1) / cols ≡ 0 = div-eq_of_lt (omega arith) in
    rw none refl

-- one line
pub in_lines-one : (line : ℕ → List ℕ → List ℕ) (cols at : ℕ) (xs : List ℕ) → 0 < length xs → length xs ≤ cols → in_lines line cols at xs ≡ line at xs
in_lines-one line cols at xs some fits =
    let one : (length xs + cols - 1) / cols ≡ 1 = div-eq_of_lt-le cols (omega arith) (omega arith) in
    let start : cols * 0 ≡ 0 = omega arith in
    let same : at + 0 ≡ at = omega arith in
    rw (one, start, same, take_all cols xs fits) (append-nil (line at xs))

-- a line begins inside the bytes, and all lines together hold them
pub line_begin : (n cols k : ℕ) → 0 < cols → k < (n + cols - 1) / cols → cols * k < n
line_begin n cols k pos below =
    omega (arith, mul-div-le (n + cols - 1) cols, mul-le-mul_left {m = k + 1} {n = (n + cols - 1) / cols} cols (omega arith))

pub line_end : (n cols : ℕ) → 0 < cols → n ≤ cols * ((n + cols - 1) / cols)
line_end n cols pos = omega (arith, lt-div-mul-add {a = n + cols - 1} {b = cols} pos)

-- one line more
pub lines_step : (line : ℕ → List ℕ → List ℕ) (cols at k size : ℕ) (bytes : List ℕ) → 0 < cols → cols * k < length bytes → cols * k + size ≡ min (cols * k + cols) (length bytes) →
    in_lines line cols at (take (cols * (k + 1)) bytes) ≡ in_lines line cols at (take (cols * k) bytes) ++ line (at + cols * k) (take size (drop (cols * k) bytes))
lines_step line cols at k size bytes pos more is =
    let front = take (cols * k) bytes in
    let chunk = take size (drop (cols * k) bytes) in
    let front_len : length front ≡ cols * k = length-take-le (cols * k) bytes (omega arith) in
    let chunk_len : length chunk ≡ size = length-take-le size (drop (cols * k) bytes) (omega (arith, length-drop (cols * k) bytes)) in
    let next : min (cols * (k + 1)) (length bytes) ≡ cols * k + size = omega arith in
    let parts : take (cols * (k + 1)) bytes ≡ front ++ chunk =
    sym (take_min (cols * (k + 1)) bytes) ∙ ap (λ n. take n bytes) next ∙ take-add (cols * k) size bytes in
    ap (in_lines line cols at) parts ∙ in_lines-append line cols at k front chunk pos front_len
    ∙ ap (λ t. in_lines line cols at front ++ t) (in_lines-one line cols (at + length front) chunk (omega arith) (omega arith) ∙ ap (λ n. line (at + n) chunk) front_len)

-- all lines
pub lines_all : (line : ℕ → List ℕ → List ℕ) (cols at k : ℕ) (bytes text : List ℕ) → length bytes ≤ cols * k → text ≡ in_lines line cols at (take (cols * k) bytes) → text ≡ in_lines line cols at bytes
lines_all line cols at k bytes text all is = is ∙ ap (in_lines line cols at) (take_all (cols * k) bytes all)

-- the digits of bytes that each have as many
module _ (f : ℕ → List ℕ) (w : ℕ) (even : (b : ℕ) → length (f b) ≡ w) where
  pub cells_len : (xs : List ℕ) → length (flat_map f xs) ≡ w * length xs
  cells_len [] = let e : 0 ≡ w * 0 = omega arith in e
  cells_len (x ∷ xs) = omega (arith, length-append (f x) (flat_map f xs), even x, cells_len xs)

  pub cells_drop : (n : ℕ) (xs : List ℕ) → drop (w * n) (flat_map f xs) ≡ flat_map f (drop n xs)
  cells_drop zero xs = let e : w * 0 ≡ 0 = omega arith in rw e refl
  cells_drop (suc n) [] = drop_all (w * suc n) [] (omega arith)
  cells_drop (suc n) (x ∷ xs) =
      let e : w * suc n ≡ length (f x) + w * n = omega (arith, even x) in
      ap (λ m. drop m (f x ++ flat_map f xs)) e ∙ drop-append-add (f x) (flat_map f xs) (w * n) ∙ cells_drop n xs

  pub cells_take : (n : ℕ) (xs : List ℕ) → take (w * n) (flat_map f xs) ≡ flat_map f (take n xs)
  cells_take zero xs = let e : w * 0 ≡ 0 = omega arith in rw e refl
  cells_take (suc n) [] = take_all (w * suc n) [] (omega arith)
  cells_take (suc n) (x ∷ xs) =
      let e : w * suc n ≡ length (f x) + w * n = omega (arith, even x) in
      ap (λ m. take m (f x ++ flat_map f xs)) e ∙ take-append-add (f x) (flat_map f xs) (w * n) ∙ ap (λ t. f x ++ t) (cells_take n xs)

  pub cells_part : (begin size m : ℕ) (xs : List ℕ) → m ≡ w * size → take m (drop (w * begin) (flat_map f xs)) ≡ flat_map f (take size (drop begin xs))
  cells_part begin size m xs e = ap (λ t. take m t) (cells_drop begin xs) ∙ ap (λ j. take j (flat_map f (drop begin xs))) e ∙ cells_take size (drop begin xs)

-- the lines so far and the next, where it begins at `begin`
pub lines_next_at : (line : ℕ → List ℕ → List ℕ) (cols at k begin : ℕ) (bytes before after : List ℕ) → 0 < cols → begin ≡ cols * k → begin < length bytes →
    before ≡ in_lines line cols at (take (cols * k) bytes) → after ≡ line (at + begin) (take (min (begin + cols) (length bytes) - begin) (drop begin bytes)) →
    before ++ after ≡ in_lines line cols at (take (cols * (k + 1)) bytes)
lines_next_at line cols at k begin bytes before after pos is inside p q =
    let size = min (begin + cols) (length bytes) - begin in
    let step = lines_step line cols at k size bytes pos (omega arith) (omega arith) in
    let chunk : take size (drop begin bytes) ≡ take size (drop (cols * k) bytes) = ap (λ n. take size (drop n bytes)) is in
    let place : at + begin ≡ at + cols * k = omega arith in
    let same : line (at + begin) (take size (drop begin bytes)) ≡ line (at + cols * k) (take size (drop (cols * k) bytes)) =
    ap (λ n. line n (take size (drop begin bytes))) place ∙ ap (λ t. line (at + cols * k) t) chunk in
    ap (λ t. t ++ after) p ∙ ap (λ t. in_lines line cols at (take (cols * k) bytes) ++ t) (q ∙ same) ∙ sym step

-- no more lines than hold the bytes
pub count_most : (n cols lines : ℕ) → 0 < cols → n ≤ cols * lines → (n + cols - 1) / cols ≤ lines
count_most n cols lines pos few =
    elim (cases_order lines ((n + cols - 1) / cols)) [
      | inl same ↦ omega arith
      | inr (inl below) ↦ let begins = line_begin n cols lines pos below in absurd (omega arith)
      | inr (inr above) ↦ omega arith
    ]

-- no lines yet
pub lines_zero : (line : ℕ → List ℕ → List ℕ) (cols at : ℕ) (bytes : List ℕ) → 0 < cols → [] ≡ in_lines line cols at (take (cols * 0) bytes)
lines_zero line cols at bytes pos =
    let z : cols * 0 ≡ 0 = omega arith in
    sym (ap (λ n. in_lines line cols at (take n bytes)) z ∙ in_lines-none line cols at pos)

-- no more whole lines than lines
pub lines_within : (n cols m : ℕ) → 0 < cols → cols * m ≤ n → m ≤ (n + cols - 1) / cols
lines_within n cols m pos fits = (le-div_iff_mul-le {k = cols} {x = m} {y = n + cols - 1} pos).1 (omega arith)

-- the lines in front and those of the rest: as many, as long, and as they stand
pub lines_rest : (n cols k : ℕ) → 0 < cols → cols * k ≤ n → (n + cols - 1) / cols ≡ k + (n - cols * k + cols - 1) / cols
lines_rest n cols k pos le =
    let e : n + cols - 1 ≡ cols * k + (n - cols * k + cols - 1) = omega arith in
    ap (λ m. m / cols) e ∙ mul-add-div pos k (n - cols * k + cols - 1)

pub rest_fits : (n cols k room used text : ℕ) → 0 < cols → cols * k ≤ n → used ≤ room * k → room * ((n + cols - 1) / cols) ≤ text →
    used + room * ((n - cols * k + cols - 1) / cols) ≤ text
rest_fits n cols k room used text pos le few fits =
    let r = (n - cols * k + cols - 1) / cols in
    let parts : room * ((n + cols - 1) / cols) ≡ room * k + room * r = ap (λ m. room * m) (lines_rest n cols k pos le) ∙ omega arith in
    omega arith

pub lines_join : (line : ℕ → List ℕ → List ℕ) (cols at k : ℕ) (bytes before after : List ℕ) → 0 < cols → cols * k ≤ length bytes → before ≡ in_lines line cols at (take (cols * k) bytes) →
    after ≡ in_lines line cols (at + cols * k) (drop (cols * k) bytes) → before ++ after ≡ in_lines line cols at bytes
lines_join line cols at k bytes before after pos le p q =
    let front : length (take (cols * k) bytes) ≡ cols * k = length-take-le (cols * k) bytes le in
    rw (p, q) (ap (λ n. in_lines line cols at (take (cols * k) bytes) ++ in_lines line cols (at + n) (drop (cols * k) bytes)) (sym front)
    ∙ sym (in_lines-append line cols at k (take (cols * k) bytes) (drop (cols * k) bytes) pos front) ∙ ap (in_lines line cols at) (take-append-drop (cols * k) bytes))
