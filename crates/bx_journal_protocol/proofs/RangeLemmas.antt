-- Saved lines of ranges of an image, part by part.
use Rattle.std.proofs.Common.{◌≡◌, ◌⊎◌, ℕ, zero, suc, ◌+◌, ◌-◌, ◌*◌, ◌/◌, ◌<◌, ◌≤◌, min, List, [], ◌∷◌, ◌++◌, length, map, take, drop, refl, ap, sym, ◌∙◌, subst, arith, inl, inr, append_assoc, append-nil, length-append, length-take, length-drop, get_or, Result, Ok, Err}
use Rattle.std.specs.List.{range_with_len}
use Rattle.std.proofs.lemmas.List.{take-append-le, drop-append-le, at_drop_more}
use Rattle.std.proofs.Math.Seq.{take-add, drop-append-add}
use Rattle.bx_image.specs.Image.{zeros}
use Rattle.bx_image.proofs.FillLemmas.{length-zeros}
use Rattle.bx_journal_format.specs.Kept.{Run, run_of, kept_of}
use Rattle.bx_journal_format.proofs.ReadLoop.{drop_twice}
use Rattle.bx_journal_format.specs.Entry.{rows, rows_text, row, head_text}
use Rattle.bx_journal_format.specs.DumpLine.{saved_run_line}
use Rattle.bx_journal_format.specs.Text.{ended}
use Rattle.std.proofs.lemmas.Bool.{cases_lt}
use Rattle.bx_journal_format.proofs.WriterLemmas.{rows_split, rows_all, row_long, head_is}
use Rattle.bx_image.specs.declared.record.spans.Span.{Span}
use Rattle.bx_journal_protocol.specs.declared.write.head.Place.{Place}
use Rattle.bx_journal_protocol.specs.write.Ranges.{saved_lines_text, range_len, left_text, left_len, rest_text, rest_len, AreRanges, IsLeft, IsPlace, IsPlaceBehind, head_from, kept_over}
use Rattle.std.specs.Prelude.{flat_map, IfOk}
use Rattle.bx_image.specs.declared.record.Saved.{Saved}
use Rattle.bx_image.specs.Change.{HaveBytes, IsOf}
use Rattle.bx_image.proofs.Runs.{IsOf-runs}
use Rattle.bx_image.proofs.OverLemmas.{stand_over, runs_over}
use Rattle.bx_image.proofs.SpanLemmas.{AllWithin-StandOver}
use Rattle.bx_image.specs.Over.{run_over, saved_over, LieWithin}
use Rattle.bx_journal_format.specs.Line.{start_line, save_line}
use Rattle.bx_journal_format.specs.declared.format.version.Version.TheVariants.{Second}
use Rattle.bx_journal_protocol.proofs.Shapes.{run_same, text-append}

-- a run of these bytes
abbrev run_at : ℕ → List ℕ → Run
run_at at bytes = record { at = at; bytes = bytes }

-- rows that lie in the first of two parts
first_rows : (at n : ℕ) (b c : List ℕ) → length b ≡ 16 * n → (a k : ℕ) → a + k ≤ n
    → map (row (run_at at (b ++ c))) (range_with_len a k) ≡ map (row (run_at at b)) (range_with_len a k)
first_rows at n b c long a zero inside = refl
first_rows at n b c long a (suc k) inside =
    ap (λ (p : Run). p ∷ map (row (run_at at (b ++ c))) (range_with_len (a + 1) k)) (ap (run_at (at + 16 * a)) here)
    ∙ ap (λ ps. row (run_at at b) a ∷ ps) (first_rows at n b c long (a + 1) k (omega (arith, inside)))
  where
    here : take 16 (drop (16 * a) (b ++ c)) ≡ take 16 (drop (16 * a) b)
    here =
        let few : 16 * a ≤ length b = omega (arith, long, inside) in
        let most : 16 ≤ length (drop (16 * a) b) = omega (arith, long, inside, length-drop (16 * a) b) in
        ap (take 16) (drop-append-le (16 * a) b c few) ∙ take-append-le 16 (drop (16 * a) b) c most

-- and those that lie in the other
later_rows : (at n : ℕ) (b c : List ℕ) → length b ≡ 16 * n → (a k : ℕ)
    → map (row (run_at at (b ++ c))) (range_with_len (n + a) k) ≡ map (row (run_at (at + 16 * n) c)) (range_with_len a k)
later_rows at n b c long a zero = refl
later_rows at n b c long a (suc k) =
    ap (λ (p : Run). p ∷ map (row (run_at at (b ++ c))) (range_with_len ((n + a) + 1) k)) here
    ∙ ap (λ ps. row (run_at (at + 16 * n) c) a ∷ ps) (ap (λ j. map (row (run_at at (b ++ c))) (range_with_len j k)) next ∙ later_rows at n b c long (a + 1) k)
  where
    next : (n + a) + 1 ≡ n + (a + 1)
    next = omega arith

    place : at + 16 * (n + a) ≡ at + 16 * n + 16 * a
    place = omega arith

    from : 16 * (n + a) ≡ length b + 16 * a
    from = omega (arith, long)

    here : row (run_at at (b ++ c)) (n + a) ≡ row (run_at (at + 16 * n) c) a
    here =
        ap (λ p. run_at p (take 16 (drop (16 * (n + a)) (b ++ c)))) place
        ∙ ap (λ bytes. run_at (at + 16 * n + 16 * a) (take 16 bytes)) (ap (λ i. drop i (b ++ c)) from ∙ drop-append-add b c (16 * a))

-- the lines of bytes in two parts, the first with whole lines
pub rows_append : (at n : ℕ) (b c : List ℕ) → length b ≡ 16 * n
    → rows_text (rows (run_at at (b ++ c))) ≡ rows_text (rows (run_at at b)) ++ rows_text (rows (run_at (at + 16 * n) c))
rows_append at n b c long =
    let whole : Run = run_at at (b ++ c) in
    let m : ℕ = (length c + 15) / 16 in
    let count : n + m ≡ (length (b ++ c) + 15) / 16 = omega (arith, length-append b c, long) in
    let front : n ≡ (length b + 15) / 16 = omega (arith, long) in
    let none : n + 0 ≡ n = omega arith in
    sym (rows_all whole (n + m) count) ∙ rows_split whole n m
    ∙ ap (λ t. t ++ rows_text (map (row whole) (range_with_len n m))) (ap rows_text (first_rows at n b c long 0 n (omega arith)) ∙ rows_all (run_at at b) n front)
    ∙ ap (λ t. rows_text (rows (run_at at b)) ++ t)
    (ap (λ j. rows_text (map (row whole) (range_with_len j m))) (sym none) ∙ ap rows_text (later_rows at n b c long 0 m) ∙ rows_all (run_at (at + 16 * n) c) m refl)

pub rows_none : (at : ℕ) → rows_text (rows (run_at at [])) ≡ []
unfolding rows
rows_none at = refl

-- how long the lines are depends on no byte
pub long_as : (x : List ℕ) (at end : ℕ) → at ≤ end → end ≤ length x → length (saved_lines_text x at end) ≡ range_len at end
long_as x at end order within =
    run_same (run_at at (take (end - at) (drop at x))) (run_at at (zeros (end - at))) refl
    (omega (arith, length-take (end - at) (drop at x), length-drop at x, length-zeros (end - at), order, within))

pub long_of : (at n : ℕ) (bytes : List ℕ) → length bytes ≡ n → length (rows_text (rows (run_at at bytes))) ≡ range_len at (at + n)
long_of at n bytes long =
    run_same (run_at at bytes) (run_at at (zeros ((at + n) - at))) refl (omega (arith, length-zeros ((at + n) - at), long))

pub range_bytes : (x : List ℕ) (at mid end : ℕ) → at ≤ mid → mid ≤ end
    → take (end - at) (drop at x) ≡ take (mid - at) (drop at x) ++ take (end - mid) (drop mid x)
range_bytes x at mid end order more =
    let whole : end - at ≡ (mid - at) + (end - mid) = omega (arith, order, more) in
    let from : at + (mid - at) ≡ mid = omega (arith, order) in
    ap (λ n. take n (drop at x)) whole ∙ take-add (mid - at) (end - mid) (drop at x)
    ∙ ap (λ xs. take (mid - at) (drop at x) ++ take (end - mid) xs) (drop_twice at (mid - at) x ∙ ap (λ i. drop i x) from)

-- the lines of a range are those up to a place and those behind it, where whole lines are before it or it is the end
pub range_step : (x : List ℕ) (at mid end n : ℕ) → at ≤ mid → mid ≤ end → end ≤ length x → (mid ≡ at + 16 * n) ⊎ (mid ≡ end)
    → saved_lines_text x at end ≡ saved_lines_text x at mid ++ saved_lines_text x mid end
range_step x at mid end n order more within (inl lines) =
    let b : List ℕ = take (mid - at) (drop at x) in
    let c : List ℕ = take (end - mid) (drop mid x) in
    let long : length b ≡ 16 * n = omega (arith, length-take (mid - at) (drop at x), length-drop at x, order, more, within, lines) in
    ap (λ bytes. rows_text (rows (run_at at bytes))) (range_bytes x at mid end order more) ∙ rows_append at n b c long
    ∙ ap (λ p. rows_text (rows (run_at at b)) ++ rows_text (rows (run_at p c))) (sym lines)
range_step x at mid end n order more within (inr is) =
    let none : end - mid ≡ 0 = omega (arith, is) in
    sym (ap (λ m. saved_lines_text x at m) is) ∙ sym (append-nil (saved_lines_text x at mid))
    ∙ ap (λ t. saved_lines_text x at mid ++ t) (sym (ap (λ m. rows_text (rows (run_at mid (take m (drop mid x))))) none ∙ rows_none mid))

-- the same of their lengths
pub len_step : (at mid end n : ℕ) → at ≤ mid → mid ≤ end → (mid ≡ at + 16 * n) ⊎ (mid ≡ end) → range_len at end ≡ range_len at mid + range_len mid end
len_step at mid end n order more lines =
    let x : List ℕ = zeros end in
    let long : length x ≡ end = length-zeros end in
    let all : end ≤ length x = omega (arith, long) in
    let part : mid ≤ length x = omega (arith, long, more) in
    let both : at ≤ end = omega (arith, order, more) in
    sym (long_as x at end both all) ∙ ap length (range_step x at mid end n order more all lines) ∙ length-append (saved_lines_text x at mid) (saved_lines_text x mid end)
    ∙ omega (arith, long_as x at mid order part, long_as x mid end more all)

-- the less of what is left and of some whole lines
pub least_of : (at end lines n : ℕ) → at ≤ end → n ≡ min (end - at) (16 * lines) → (at + n ≡ at + 16 * lines) ⊎ (at + n ≡ end)
least_of at end lines n order is = elim (cases_lt (16 * lines) (end - at)) [
  | inl less ↦ inl (omega (arith, is, less, order))
  | inr more ↦ inr (omega (arith, is, more, order))
]

-- when a part of a range was put, the rest is left
pub filled : (x old new : List ℕ) (at n end lines : ℕ) → at ≤ at + n → at + n ≤ end → end ≤ length x → (at + n ≡ at + 16 * lines) ⊎ (at + n ≡ end)
    → new ≡ old ++ saved_lines_text x at (at + n) → new ++ saved_lines_text x (at + n) end ≡ old ++ saved_lines_text x at end
filled x old new at n end lines order more within lines_or is =
    ap (λ t. t ++ saved_lines_text x (at + n) end) is ∙ append_assoc old (saved_lines_text x at (at + n)) (saved_lines_text x (at + n) end)
    ∙ ap (λ t. old ++ t) (sym (range_step x at (at + n) end lines order more within lines_or))

pub filled_len : (old new at n end lines : ℕ) → at ≤ at + n → at + n ≤ end → (at + n ≡ at + 16 * lines) ⊎ (at + n ≡ end)
    → new ≡ old + range_len at (at + n) → new + range_len (at + n) end ≡ old + range_len at end
filled_len old new at n end lines order more lines_or is = omega (arith, is, len_step at (at + n) end lines order more lines_or)

-- some bytes have a line
pub len_some : (at n : ℕ) → 0 < n → 0 < range_len at (at + n)
unfolding rows
len_some at n some =
    let r : Run = run_at at (zeros ((at + n) - at)) in
    let count : (length r.bytes + 15) / 16 ≡ suc ((length r.bytes - 1) / 16) = omega (arith, length-zeros ((at + n) - at), some) in
    let k : ℕ = (length r.bytes - 1) / 16 in
    let first : List ℕ = ended (saved_run_line (row r 0).at (row r 0).bytes) in
    omega (
      arith,
      ap (λ m. length (rows_text (map (row r) (range_with_len 0 m)))) count,
      length-append first (rows_text (map (row r) (range_with_len 1 k))),
      row_long (row r 0).at (row r 0).bytes,
    )

range_none : (x : List ℕ) (end : ℕ) → saved_lines_text x end end ≡ []
range_none x end =
    let none : end - end ≡ 0 = omega arith in
    ap (λ m. rows_text (rows (run_at end (take m (drop end x))))) none ∙ rows_none end

len_none : (end : ℕ) → range_len end end ≡ 0
len_none end =
    let all : end ≤ length (zeros end) = omega (arith, length-zeros end) in
    let order : end ≤ end = omega arith in
    sym (long_as (zeros end) end end order all) ∙ ap length (range_none (zeros end) end)

beside_none : (a b : ℕ) → a ≡ 0 → b ≡ a + b
beside_none a b none = omega (arith, none)

-- what is left behind a part of a range
pub left_at : (x : List ℕ) (ranges : List Span) (r : Span) (p q : Place) (next : ℕ) → drop p.range ranges ≡ r ∷ drop (p.range + 1) ranges
    → r.at ≤ next → IsPlaceBehind r p next q → rest_text x ranges q ≡ saved_lines_text x next r.end ++ left_text x (drop (p.range + 1) ranges) 0
left_at x ranges r p q next here order (inl (is, to)) =
    let rest : List Span = drop (p.range + 1) ranges in
    ap (rest_text x ranges) to ∙ sym (ap (λ t. t ++ left_text x rest 0) (ap (λ n. saved_lines_text x n r.end) is ∙ range_none x r.end))
left_at x ranges r p q next here order (inr (less, to)) =
    let rest : List Span = drop (p.range + 1) ranges in
    let at : r.at + (next - r.at) ≡ next = omega (arith, order) in
    ap (rest_text x ranges) to ∙ ap (λ rs. left_text x rs (next - r.at)) here ∙ ap (λ n. saved_lines_text x n r.end ++ left_text x rest 0) at

pub left_len_at : (ranges : List Span) (r : Span) (p q : Place) (next : ℕ) → drop p.range ranges ≡ r ∷ drop (p.range + 1) ranges
    → r.at ≤ next → IsPlaceBehind r p next q → rest_len ranges q ≡ range_len next r.end + left_len (drop (p.range + 1) ranges) 0
left_len_at ranges r p q next here order (inl (is, to)) =
    let rest : List Span = drop (p.range + 1) ranges in
    ap (rest_len ranges) to ∙ beside_none (range_len next r.end) (left_len rest 0) (ap (λ n. range_len n r.end) is ∙ len_none r.end)
left_len_at ranges r p q next here order (inr (less, to)) =
    let rest : List Span = drop (p.range + 1) ranges in
    let at : r.at + (next - r.at) ≡ next = omega (arith, order) in
    ap (rest_len ranges) to ∙ ap (λ rs. left_len rs (next - r.at)) here ∙ ap (λ n. range_len n r.end + left_len rest 0) at

-- one more part of the lines was put
pub page_step : (x old mid new : List ℕ) (ranges : List Span) (r : Span) (p q : Place) (next : ℕ) → drop p.range ranges ≡ r ∷ drop (p.range + 1) ranges
    → r.at + p.done ≤ next → IsPlaceBehind r p next q → new ++ saved_lines_text x next r.end ≡ mid ++ saved_lines_text x (r.at + p.done) r.end
    → mid ++ rest_text x ranges p ≡ old → new ++ rest_text x ranges q ≡ old
page_step x old mid new ranges r p q next here order behind put before =
    let rest : List ℕ = left_text x (drop (p.range + 1) ranges) 0 in
    ap (λ t. new ++ t) (left_at x ranges r p q next here (omega (arith, order)) behind)
    ∙ sym (append_assoc new (saved_lines_text x next r.end) rest) ∙ ap (λ t. t ++ rest) put ∙ append_assoc mid (saved_lines_text x (r.at + p.done) r.end) rest
    ∙ ap (λ rs. mid ++ left_text x rs p.done) (sym here) ∙ before

pub page_len_step : (old mid new : ℕ) (ranges : List Span) (r : Span) (p q : Place) (next : ℕ) → drop p.range ranges ≡ r ∷ drop (p.range + 1) ranges
    → r.at + p.done ≤ next → IsPlaceBehind r p next q → new + range_len next r.end ≡ mid + range_len (r.at + p.done) r.end
    → mid + rest_len ranges p ≡ old → new + rest_len ranges q ≡ old
page_len_step old mid new ranges r p q next here order behind put before =
    omega (arith, left_len_at ranges r p q next here (omega (arith, order)) behind, put, before, ap (λ rs. left_len rs p.done) here)

pub next_range : (ranges : List Span) (i : ℕ) (d : Span) → i < length ranges → drop i ranges ≡ get_or ranges i d ∷ drop (i + 1) ranges
next_range ranges i d inside = at_drop_more (λ rs. rs) ranges i d inside

pub ranges_at : (len : ℕ) (ranges : List Span) (i : ℕ) → AreRanges len ranges → AreRanges len (drop i ranges)
ranges_at len ranges zero all = all
ranges_at len [] (suc i) all = tt
ranges_at len (r ∷ ranges) (suc i) all = ranges_at len ranges i all.2

-- the place behind a part is one
pub place_behind : (len : ℕ) (ranges : List Span) (r : Span) (p q : Place) (next : ℕ) → AreRanges len ranges → p.range < length ranges
    → drop p.range ranges ≡ r ∷ drop (p.range + 1) ranges → r.at ≤ next → IsPlaceBehind r p next q → IsPlace ranges q
place_behind len ranges r p q next all inside here order (inl (is, to)) =
    subst (IsPlace ranges) (sym to) (record { within = omega (arith, inside); left = first_left (drop (p.range + 1) ranges) (ranges_at len ranges (p.range + 1) all) })
  where
    first_left : (rs : List Span) → AreRanges len rs → IsLeft rs 0
    first_left [] all = refl
    first_left (r ∷ rs) all = omega (arith, all.0)
place_behind len ranges r p q next all inside here order (inr (less, to)) =
    subst (IsPlace ranges) (sym to) (record { within = omega (arith, inside); left = subst (λ rs. IsLeft rs (next - r.at)) (sym here) (omega (arith, order, less)) })

pub range_ends : (len : ℕ) (ranges rest : List Span) (i : ℕ) (r : Span) → AreRanges len ranges → drop i ranges ≡ r ∷ rest → r.end ≤ len
range_ends len ranges rest i r all here = (subst (AreRanges len) here (ranges_at len ranges i all)).1

pub are_ranges : (len : ℕ) (spans : List Span) → LieWithin len spans → AreRanges len spans
are_ranges len [] within = tt
are_ranges len (s ∷ spans) within =
    let first = within 0 s (omega arith) in
    (first.some, first.within, are_ranges len spans (λ k d h. within (suc k) d (omega (arith, h))))

-- the lines of all ranges are those of the runs over them
pub left_runs : (x : List ℕ) (spans : List Span) → left_text x spans 0 ≡ rows_text (flat_map rows (map (run_over {A = Unit {0}} x) spans))
left_runs x [] = refl
left_runs x (s ∷ spans) =
    let from : s.at + 0 ≡ s.at = omega arith in
    let rest : List Run = flat_map rows (map (run_over {A = Unit {0}} x) spans) in
    ap (λ a. saved_lines_text x a s.end ++ left_text x spans 0) from
    ∙ ap (λ t. saved_lines_text x s.at s.end ++ t) (left_runs x spans)
    ∙ sym (text-append (rows (run_over {A = Unit {0}} x s)) rest)

-- the first line of an entry and the lines of all ranges are its head, but for the save line
pub head_over : (number : ℕ) (x : List ℕ) (spans : List Span) (page line : List ℕ) (p : Place) → line ≡ start_line Second number (length x)
    → page ++ rest_text x spans p ≡ ended line ++ left_text x spans 0
    → head_from x spans p page number ≡ head_text number (kept_over x spans)
head_over number x spans page line p is all =
    ap (λ t. t ++ ended (save_line number)) (all ∙ ap (λ l. ended l ++ left_text x spans 0) is ∙ ap (λ t. ended (start_line Second number (length x)) ++ t) (left_runs x spans))
    ∙ sym (head_is number (kept_over x spans))

first_left : (len : ℕ) (rs : List Span) → AreRanges len rs → IsLeft rs 0
first_left len [] all = refl
first_left len (r ∷ rs) all = omega (arith, all.0)

pub place_first : (len : ℕ) (ranges : List Span) → AreRanges len ranges → IsPlace ranges (record { range = 0; done = 0 })
place_first len ranges all = record { within = omega arith; left = first_left len ranges all }

pub ok_more : {X E : Type 0} {P Q : X → Type 0} (r : Result X E) → IfOk r P → ((v : X) → P v → Q v) → IfOk r Q
ok_more (Ok v) p f = f v p
ok_more (Err e) p f = tt

-- what `touched_by` gives is what an entry of the change keeps
pub kept_as : {A : Type 0} (x : List ℕ) (spans : List Span) (s : Saved A) → saved_over x spans ≡ s → kept_of s ≡ kept_over x spans
kept_as {A = A} x spans s is = sym (ap kept_of is) ∙ ap (λ runs. record { len = length x; runs = runs }) (go spans)
  where
    go : (spans : List Span) → map run_of (map (run_over {A = A} x) spans) ≡ map (run_over {A = Unit {0}} x) spans
    go [] = refl
    go (s ∷ spans) = ap (λ runs. run_over {A = Unit {0}} x s ∷ runs) (go spans)

pub range_some : (len : ℕ) (ranges rest : List Span) (i : ℕ) (r : Span) → AreRanges len ranges → drop i ranges ≡ r ∷ rest → r.at < r.end
range_some len ranges rest i r all here = (subst (AreRanges len) here (ranges_at len ranges i all)).0

pub line_same : (at : ℕ) (a b : List ℕ) → length a ≡ length b → length (ended (saved_run_line at a)) ≡ length (ended (saved_run_line at b))
line_same at a b same = omega (arith, row_long at a, row_long at b, same)

pub left_len_more : (ranges : List Span) (k : ℕ) (d : Span) → k < length ranges
    → left_len (take (k + 1) ranges) 0 ≡ left_len (take k ranges) 0 + range_len (get_or ranges k d).at (get_or ranges k d).end
left_len_more [] k d inside = absurd (omega (arith, inside))
left_len_more (s ∷ ranges) zero d inside =
    let from : s.at + 0 ≡ s.at = omega arith in
    omega (arith, ap (λ a. range_len a s.end) from)
left_len_more (s ∷ ranges) (suc k) d inside =
    let count : suc k + 1 ≡ suc (k + 1) = omega arith in
    omega (arith, ap (λ n. left_len (take n (s ∷ ranges)) 0) count, left_len_more ranges k d (omega (arith, inside)))

pub ranges_more : (a b : ℕ) (ranges : List Span) → a ≤ b → AreRanges a ranges → AreRanges b ranges
ranges_more a b [] le all = tt
ranges_more a b (r ∷ ranges) le all = (all.0, omega (arith, all.1, le), ranges_more a b ranges le all.2)

-- what an entry keeps of an image that was looked at is of the image
pub kept_of_image : (x : List ℕ) (spans : List Span) → LieWithin (length x) spans → HaveBytes (kept_over x spans).runs → IsOf (kept_over x spans) x
kept_of_image x spans within bytes =
    IsOf-runs (kept_over x spans) x refl (runs_over (Unit {0}) x spans within) (AllWithin-StandOver (length x) spans (kept_over x spans).runs (stand_over (Unit {0}) x spans within) within) bytes
