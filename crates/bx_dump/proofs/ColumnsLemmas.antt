-- Characters in groups, and the same by their places.
use Rattle.std.proofs.Common.{◌≡◌, ℕ, zero, suc, false, ◌+◌, ◌-◌, ◌*◌, ◌/◌, ◌%◌, ◌<◌, ◌≤◌, List, [], ◌∷◌, ◌++◌, length, get_or, take, drop, replicate, map, refl, sym, ap, ◌∙◌, arith, append_assoc, append-nil, length-append, inl, inr}
use Rattle.std.specs.List.{flat_map, range_with_len}
use Rattle.std.proofs.lemmas.Bool.{cases_order}
use Rattle.std.proofs.lemmas.Nat.{div-mul-add}
use Rattle.std.proofs.lemmas.List.{take_at, get_or_append_left, get_or-append_right, get_or-replicate, length-replicate, replicate-append-replicate, take_all, length-drop, get_or-drop}
use Rattle.std.proofs.lemmas.List.FromFn.{fill_by_all, get_or-map-range_with_len}
use Rattle.std.proofs.Math.Nat.{mul-le-mul_left, mul-div-mul_left, div-add-mod, div-eq_of_lt}
use Rattle.std.specs.Prelude.{codes}
use Rattle.std.proofs.Math.Seq.{take-append-add}
use Rattle.bx_text.specs.Field.{char_at, laid_out, hex_text}
use Rattle.bx_text.specs.Dump.{shown_byte}
use Rattle.bx_text.proofs.FieldLemmas.{char_at-inside, char_at-below, char_at-above, div_mono}
use Rattle.bx_dump_columns.specs.Cells.{piece_at, grouped}
use Rattle.bx_dump.specs.private.Xxd.{columns_line, cell_of, cell_width, laid_columns, columns_place, columns_width, columns}
use Rattle.bx_dump.specs.declared.xxd.columns.Columns.{Columns}
use Rattle.bx_dump.specs.declared.xxd.columns.Digits.{Digits}
use Rattle.bx_dump.specs.declared.xxd.columns.Digits.TheVariants.{Hexadecimal, Binary}
use Rattle.bx_dump_columns.proofs.LinesLemmas.{cells_len, cells_drop, cells_part}
use Rattle.bx_dump_columns.proofs.CellsLemmas.{range_more, flat_more}

-- a text put on blanks, at its place
module _ (place : ℕ → ℕ) (text : ℕ → List ℕ) (i width : ℕ) (front : List ℕ) (m : ℕ) (at : length front ≡ place i) (total : length front + (length (text i) + m) ≡ width)
    (before : laid_out place text i width ≡ front ++ replicate (length (text i) + m) 32) where
  was : (p : ℕ) → p < width → char_at place text i p ≡ get_or (front ++ replicate (length (text i) + m) 32) p 0
  was p inside = sym (get_or-map-range_with_len (char_at place text i) 0 width p p 0 inside (omega arith)) ∙ ap (λ l. get_or l p 0) before

  past : (p : ℕ) → p < width → length front ≤ p → get_or (front ++ (text i ++ replicate m 32)) p 0 ≡ char_at place text (i + 1) p
  past p inside from =
      let k = p - length front in
      let right : get_or (front ++ (text i ++ replicate m 32)) p 0 ≡ get_or (text i ++ replicate m 32) k 0 = get_or-append_right front (text i ++ replicate m 32) (length front) p 0 refl from in
      elim (cases_order k (length (text i))) [
        | inr (inl below) ↦ right ∙ get_or_append_left (text i) (replicate m 32) 0 k below ∙ sym (char_at-inside place text i p k (omega arith) below)
        | inl same ↦ right ∙ after p inside from (omega arith)
        | inr (inr above) ↦ right ∙ after p inside from (omega arith)
      ]
    where
      after : (p : ℕ) → p < width → length front ≤ p → length (text i) ≤ p - length front → get_or (text i ++ replicate m 32) (p - length front) 0 ≡ char_at place text (i + 1) p
      after p inside from beyond =
          let k = p - length front in
          let blank : get_or (text i ++ replicate m 32) k 0 ≡ 32 =
          get_or-append_right (text i) (replicate m 32) (length (text i)) k 0 refl beyond ∙ get_or-replicate m (k - length (text i)) 32 0 (omega arith) in
          let old : get_or (front ++ replicate (length (text i) + m) 32) p 0 ≡ 32 =
          get_or-append_right front (replicate (length (text i) + m) 32) (length front) p 0 refl from ∙ get_or-replicate (length (text i) + m) k 32 0 (omega arith) in
          blank ∙ sym old ∙ sym (was p inside) ∙ sym (char_at-above place text i p (omega arith))

  here : (p : ℕ) → p < width → get_or (front ++ (text i ++ replicate m 32)) p 0 ≡ char_at place text (i + 1) p
  here p inside =
      elim (cases_order p (length front)) [
        | inr (inl below) ↦
            get_or_append_left front (text i ++ replicate m 32) 0 p below ∙ sym (get_or_append_left front (replicate (length (text i) + m) 32) 0 p below)
            ∙ sym (was p inside) ∙ sym (char_at-below place text i p (omega arith))
        | inl same ↦ past p inside (omega arith)
        | inr (inr above) ↦ past p inside (omega arith)
      ]

  pub laid_next : laid_out place text (i + 1) width ≡ front ++ (text i ++ replicate m 32)
  laid_next =
      let all : length (front ++ (text i ++ replicate m 32)) ≡ width =
      omega (arith, length-append front (text i ++ replicate m 32), length-append (text i) (replicate m 32), length-replicate {A = ℕ} m 32) in
      sym (fill_by_all (char_at place text (i + 1)) (front ++ (text i ++ replicate m 32)) width 0 all here)

-- nothing put yet
pub laid_none : (place : ℕ → ℕ) (text : ℕ → List ℕ) (width : ℕ) → laid_out place text 0 width ≡ replicate width 32
laid_none place text width =
    sym (fill_by_all (char_at place text 0) (replicate width 32) width 0 (length-replicate {A = ℕ} width 32) (λ p inside. get_or-replicate width p 32 0 inside))

-- the digits of bytes in groups of g
module _ (f : ℕ → List ℕ) (w g : ℕ) (even : (b : ℕ) → length (f b) ≡ w) (some_group : 0 < g) (xs : List ℕ) where
  -- the first i of them, and a space after each whole group
  abbrev front : ℕ → List ℕ
  front zero = []
  front (suc i) = front i ++ (f (get_or xs i 0) ++ replicate (suc i / g - i / g) 32)

  front_len : (i : ℕ) → length (front i) ≡ columns_place w g i
  front_len zero = let z : 0 / g ≡ 0 = div-eq_of_lt some_group in let p : w * 0 ≡ 0 = omega arith in omega arith
  front_len (suc i) =
      let more : i / g ≤ suc i / g = div_mono i (suc i) g some_group (omega arith) in
      let part = f (get_or xs i 0) in
      let gap = replicate {A = ℕ} (suc i / g - i / g) 32 in
      omega (arith, length-append (front i) (part ++ gap), length-append part gap, even (get_or xs i 0), length-replicate {A = ℕ} (suc i / g - i / g) 32, front_len i)

  -- they stand where the columns have them
  front_laid : (width i : ℕ) → columns_place w g i ≤ width → laid_out (columns_place w g) (λ k. f (get_or xs k 0)) i width ≡ front i ++ replicate (width - columns_place w g i) 32
  front_laid width zero fits =
      let z : 0 / g ≡ 0 = div-eq_of_lt some_group in
      let same : width - columns_place w g 0 ≡ width = omega arith in
      rw same (laid_none (columns_place w g) (λ k. f (get_or xs k 0)) width)
  front_laid width (suc i) fits =
      let more : i / g ≤ suc i / g = div_mono i (suc i) g some_group (omega arith) in
      let part = f (get_or xs i 0) in
      let part_len : length part ≡ w = even (get_or xs i 0) in
      let d = suc i / g - i / g in
      let m = width - (columns_place w g i + w) in
      let here : length (front i) ≡ columns_place w g i = front_len i in
      let blank : width - columns_place w g i ≡ length part + m = omega arith in
      let before = rw blank at (front_laid width i (omega arith)) in
      let next = laid_next (columns_place w g) (λ k. f (get_or xs k 0)) i width (front i) m here (omega arith) before in
      let one : i + 1 ≡ suc i = omega arith in
      let rest : m ≡ d + (width - columns_place w g (suc i)) = omega arith in
      let blanks : replicate m 32 ≡ replicate d 32 ++ replicate (width - columns_place w g (suc i)) 32 =
      ap (λ n. replicate n 32) rest ∙ sym (replicate-append-replicate d (width - columns_place w g (suc i)) 32) in
      ap (λ n. laid_out (columns_place w g) (λ k. f (get_or xs k 0)) n width) (sym one) ∙ next
      ∙ ap (λ t. front i ++ (part ++ t)) blanks ∙ regroup (front i) part (replicate d 32) (replicate (width - columns_place w g (suc i)) 32)
    where
      regroup : (a b c e : List ℕ) → a ++ (b ++ (c ++ e)) ≡ a ++ (b ++ c) ++ e
      regroup a b c e = simp append_assoc

  -- within a group
  front_within : (j r : ℕ) → r < g → g * j + r ≤ length xs → front (g * j + r) ≡ front (g * j) ++ flat_map f (take r (drop (g * j) xs))
  front_within j zero below fits = let z : g * j + 0 ≡ g * j = omega arith in rw z (sym (append-nil (front (g * j))))
  front_within j (suc r) below fits =
      let place : g * j + suc r ≡ suc (g * j + r) = omega arith in
      let swap : (g * j + r) ≡ (j * g + r) = omega arith in
      let here : (g * j + r) / g ≡ j = ap (λ n. n / g) swap ∙ div-mul-add j g r (omega arith) in
      let swap_next : suc (g * j + r) ≡ (j * g + suc r) = omega arith in
      let next : suc (g * j + r) / g ≡ j = ap (λ n. n / g) swap_next ∙ div-mul-add j g (suc r) below in
      let none : suc (g * j + r) / g - (g * j + r) / g ≡ 0 = omega arith in
      let before = front_within j r (omega arith) (omega arith) in
      let inside : r < length (drop (g * j) xs) = omega (arith, length-drop (g * j) xs) in
      let byte : get_or xs (g * j + r) 0 ≡ get_or (drop (g * j) xs) r 0 = sym (get_or-drop (g * j) xs r 0) in
      let one : r + 1 ≡ suc r = omega arith in
      let more : flat_map f (take (suc r) (drop (g * j) xs)) ≡ flat_map f (take r (drop (g * j) xs)) ++ f (get_or (drop (g * j) xs) r 0) =
      ap (λ n. flat_map f (take n (drop (g * j) xs))) (sym one) ∙ flat_more f (drop (g * j) xs) r inside in
      ap front place ∙ ap (λ n. front (g * j + r) ++ (f (get_or xs (g * j + r) 0) ++ replicate n 32)) none
      ∙ ap (λ t. front (g * j + r) ++ t) (append-nil (f (get_or xs (g * j + r) 0)) ∙ ap f byte)
      ∙ ap (λ t. t ++ f (get_or (drop (g * j) xs) r 0)) before
      ∙ append_assoc (front (g * j)) (flat_map f (take r (drop (g * j) xs))) (f (get_or (drop (g * j) xs) r 0)) ∙ ap (λ t. front (g * j) ++ t) (sym more)

  -- a whole group
  front_group : (j : ℕ) → g * (j + 1) ≤ length xs → front (g * (j + 1)) ≡ front (g * j) ++ (flat_map f (take g (drop (g * j) xs)) ++ 32 ∷ [])
  front_group j fits =
      let r = g - 1 in
      let place : g * (j + 1) ≡ suc (g * j + r) = omega arith in
      let swap : (g * j + r) ≡ (j * g + r) = omega arith in
      let here : (g * j + r) / g ≡ j = ap (λ n. n / g) swap ∙ div-mul-add j g r (omega arith) in
      let swap_next : suc (g * j + r) ≡ ((j + 1) * g + 0) = omega arith in
      let next : suc (g * j + r) / g ≡ j + 1 = ap (λ n. n / g) swap_next ∙ div-mul-add (j + 1) g 0 some_group in
      let one_space : suc (g * j + r) / g - (g * j + r) / g ≡ 1 = omega arith in
      let before = front_within j r (omega arith) (omega arith) in
      let inside : r < length (drop (g * j) xs) = omega (arith, length-drop (g * j) xs) in
      let byte : get_or xs (g * j + r) 0 ≡ get_or (drop (g * j) xs) r 0 = sym (get_or-drop (g * j) xs r 0) in
      let one : r + 1 ≡ g = omega arith in
      let more : flat_map f (take g (drop (g * j) xs)) ≡ flat_map f (take r (drop (g * j) xs)) ++ f (get_or (drop (g * j) xs) r 0) =
      ap (λ n. flat_map f (take n (drop (g * j) xs))) (sym one) ∙ flat_more f (drop (g * j) xs) r inside in
      ap front place ∙ ap (λ n. front (g * j + r) ++ (f (get_or xs (g * j + r) 0) ++ replicate n 32)) one_space
      ∙ ap (λ t. front (g * j + r) ++ (t ++ 32 ∷ [])) (ap f byte)
      ∙ ap (λ t. t ++ (f (get_or (drop (g * j) xs) r 0) ++ 32 ∷ [])) before
      ∙ regroup (front (g * j)) (flat_map f (take r (drop (g * j) xs))) (f (get_or (drop (g * j) xs) r 0)) (32 ∷ [])
      ∙ ap (λ t. front (g * j) ++ (t ++ 32 ∷ [])) (sym more)
    where
      regroup : (a b c e : List ℕ) → a ++ b ++ (c ++ e) ≡ a ++ (b ++ c ++ e)
      regroup a b c e = simp append_assoc

  -- all whole groups
  front_groups : (j : ℕ) → g * j ≤ length xs → front (g * j) ≡ flat_map (piece_at (w * g) (flat_map f xs)) (range_with_len 0 j)
  front_groups zero fits = let z : g * 0 ≡ 0 = omega arith in rw z refl
  front_groups (suc j) fits =
      let one : j + 1 ≡ suc j = omega arith in
      let place : w * g * j ≡ w * (g * j) = omega arith in
      let piece : take (w * g) (drop (w * g * j) (flat_map f xs)) ≡ flat_map f (take g (drop (g * j) xs)) =
      ap (λ n. take (w * g) (drop n (flat_map f xs))) place ∙ cells_part f w even (g * j) g (w * g) xs refl in
      ap (λ n. front (g * n)) (sym one) ∙ front_group j (omega arith) ∙ ap (λ t. t ++ (flat_map f (take g (drop (g * j) xs)) ++ 32 ∷ [])) (front_groups j (omega arith))
      ∙ ap (λ t. flat_map (piece_at (w * g) (flat_map f xs)) (range_with_len 0 j) ++ (t ++ 32 ∷ [])) (sym piece)
      ∙ sym (range_more (piece_at (w * g) (flat_map f xs)) j) ∙ ap (λ n. flat_map (piece_at (w * g) (flat_map f xs)) (range_with_len 0 n)) one

  -- the same characters in pieces
  pub grouped_laid : (width : ℕ) → 0 < w → columns_place w g (length xs) ≤ width →
      grouped (w * g) (flat_map f xs) width ≡ laid_out (columns_place w g) (λ k. f (get_or xs k 0)) (length xs) width
  grouped_laid width pos fits =
      let n = length xs in
      let cells = flat_map f xs in
      let q = n / g in
      let r = n % g in
      let split : n ≡ g * q + r = omega (arith, div-add-mod n g) in
      let size : length cells ≡ w * n = cells_len f w even xs in
      let count : length cells / (w * g) ≡ q = ap (λ m. m / (w * g)) size ∙ mul-div-mul_left {m = w} n g pos in
      let place : w * g * q ≡ w * (g * q) = omega arith in
      let last : drop (w * g * q) cells ≡ flat_map f (drop (g * q) xs) = ap (λ m. drop m cells) place ∙ cells_drop f w even (g * q) xs in
      let rest : take r (drop (g * q) xs) ≡ drop (g * q) xs = take_all r (drop (g * q) xs) (omega (arith, length-drop (g * q) xs)) in
      let whole : front n ≡ flat_map (piece_at (w * g) cells) (range_with_len 0 q) ++ flat_map f (drop (g * q) xs) =
      ap front split ∙ front_within q r (omega (arith, some_group)) (omega arith) ∙ ap (λ t. front (g * q) ++ flat_map f t) rest
      ∙ ap (λ t. t ++ flat_map f (drop (g * q) xs)) (front_groups q (omega arith)) in
      let blank : width - (length cells + q) ≡ width - columns_place w g n = omega arith in
      rw (count, last, blank) (sym (append_assoc (flat_map (piece_at (w * g) cells) (range_with_len 0 q)) (flat_map f (drop (g * q) xs)) (replicate (width - columns_place w g n) 32)))
      ∙ ap (λ t. t ++ replicate (width - columns_place w g n) 32) (sym whole) ∙ sym (front_laid width n fits)

pub digits_even : (digits : Digits) (b : ℕ) → length (cell_of digits b) ≡ cell_width digits
digits_even (Hexadecimal upper) b = refl
digits_even Binary b = refl

pub digits_some : (digits : Digits) → 0 < cell_width digits
digits_some (Hexadecimal upper) = omega arith
digits_some Binary = omega arith

-- the digits in their columns
pub columns_are : (digits : Digits) (cols group : ℕ) (bytes cells : List ℕ) (field piece : ℕ) → 0 < group → columns_place (cell_width digits) group (length bytes) ≤ field →
    field ≡ columns_width (cell_width digits) cols group → piece ≡ cell_width digits * group → cells ≡ flat_map (cell_of digits) bytes → grouped piece cells field ≡ laid_columns digits cols group bytes
columns_are digits cols group bytes cells field piece some fits wide whole digits_are =
    let laid = grouped_laid (cell_of digits) (cell_width digits) group (digits_even digits) some bytes field (digits_some digits) fits in
    ap (λ n. grouped n cells field) whole ∙ ap (λ t. grouped (cell_width digits * group) t field) digits_are ∙ laid ∙ ap (λ n. columns digits group bytes n) wide

-- a line by its parts
pub line_whole : (digits : Digits) (cols group at : ℕ) (bytes cells address body : List ℕ) (field piece : ℕ) → 0 < group → columns_place (cell_width digits) group (length bytes) ≤ field →
    field ≡ columns_width (cell_width digits) cols group → address ≡ hex_text false 8 at → piece ≡ cell_width digits * group → cells ≡ flat_map (cell_of digits) bytes →
    body ≡ codes ": " ++ grouped piece cells field ++ codes " " ++ map shown_byte bytes ++ codes "\n" → address ++ body ≡ columns_line digits cols group at bytes
line_whole digits cols group at bytes cells address body field piece some fits wide is whole digits_are text =
    let laid = grouped_laid (cell_of digits) (cell_width digits) group (digits_even digits) some bytes field (digits_some digits) fits in
    ap (λ t. t ++ body) is ∙ ap (λ t. hex_text false 8 at ++ t) text
    ∙ ap (λ t. hex_text false 8 at ++ (codes ": " ++ t ++ codes " " ++ map shown_byte bytes ++ codes "\n"))
    (ap (λ n. grouped n cells field) whole ∙ ap (λ t. grouped (cell_width digits * group) t field) digits_are ∙ laid ∙ ap (λ n. columns digits group bytes n) wide)
    ∙ regroup (hex_text false 8 at) (codes ": ") (columns digits group bytes (columns_width (cell_width digits) cols group)) (codes " ") (map shown_byte bytes) (codes "\n")
  where
    regroup : (a b c d e f : List ℕ) → a ++ (b ++ c ++ d ++ e ++ f) ≡ a ++ b ++ c ++ d ++ e ++ f
    regroup a b c d e f = simp append_assoc

-- the same at the front of a list
pub line_parts : (digits : Digits) (cols group at front size : ℕ) (bytes cells address body tail : List ℕ) (field piece : ℕ) → 0 < group → columns_place (cell_width digits) group (length bytes) ≤ field →
    field ≡ columns_width (cell_width digits) cols group → length address ≡ front → address ≡ hex_text false 8 at → length body ≡ size → piece ≡ cell_width digits * group →
    cells ≡ flat_map (cell_of digits) bytes → body ≡ codes ": " ++ grouped piece cells field ++ codes " " ++ map shown_byte bytes ++ codes "\n" →
    take (front + size) (address ++ (body ++ tail)) ≡ columns_line digits cols group at bytes
line_parts digits cols group at front size bytes cells address body tail field piece some fits wide len is long whole digits_are text =
    ap (λ n. take (n + size) (address ++ (body ++ tail))) (sym len) ∙ take-append-add address (body ++ tail) size ∙ ap (λ t. address ++ t) (take_at body tail size long)
    ∙ line_whole digits cols group at bytes cells address body field piece some fits wide is whole digits_are text

-- the digits of the bytes fit into the field
pub place_fits : (p : Columns) (n : ℕ) → n ≤ p.cols → columns_place (cell_width p.digits) p.group n ≤ p.field
place_fits p n few =
    let w = cell_width p.digits in
    let a : w * n ≤ w * p.cols = mul-le-mul_left {m = n} {n = p.cols} w few in
    let b : n / p.group ≤ (p.cols + p.group - 1) / p.group = div_mono n (p.cols + p.group - 1) p.group p.some_group (omega (arith, p.some_group)) in
    omega (arith, p.wide)
