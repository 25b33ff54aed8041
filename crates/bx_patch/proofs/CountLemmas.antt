-- How many lines a patch has.
use Rattle.std.proofs.Common.{◌≡◌, ℕ, zero, suc, ◌+◌, ◌-◌, ◌*◌, ◌/◌, ◌%◌, ◌^◌, ◌<◌, ◌≤◌, max, Bool, true, false, cond, eqb, List, [], ◌∷◌, ◌++◌, length, map, take, drop, replicate, slice_index, inl, inr, refl, sym, ap, subst, add-one, ⊎_elim, arith}
use Rattle.std.specs.Prelude.{bytes_eq, codes}
use Rattle.std.specs.List.{flat_map, range_with_len}
use Rattle.std.specs.Fmt.{decimal, digits, digits_onto, digit_glyph}
use Rattle.std.proofs.lemmas.Bool.{cases_eq}
use Rattle.std.proofs.lemmas.List.{length-append, length-drop, length-map, length-replicate, length-take}
use Rattle.std.proofs.lemmas.List.FromFn.{length-map-range_with_len}
use Rattle.bx_text.specs.Dump.{pair_of, shown_byte}
use Rattle.bx_text.specs.Field.{char_at, hex_text}
use Rattle.bx_text.specs.Fold.{line_bytes}
use Rattle.bx_text.proofs.FieldLemmas.{digits_onto-last, digits_onto-more, digits_start}
use Rattle.bx_image.specs.declared.record.spans.Span.{Span}
use Rattle.bx_read.specs.Text.{lines_of}
use Rattle.bx_read.specs.Window.{AreWholeLines}
use Rattle.bx_read.specs.private.Window.{newlines}
use Rattle.bx_read.proofs.WindowLemmas.{lines_count}
use Rattle.bx_patch.specs.declared.diff.row.Extent.{Extent}
use Rattle.bx_patch.specs.declared.diff.row.Extent.TheVariants.{Bytes, Rows}
use Rattle.bx_patch.specs.Diff.{counted}
use Rattle.bx_patch.specs.Text.{PatchLine, differs, headed, length_text, line_for, patch_lines, row_count, row_lines, rows_from, signed_line_text, span_lines, spans_from, with_place}
use Rattle.bx_patch.specs.private.Diff.{IsLengthHead}
use Rattle.bx_patch.proofs.LineLemmas.{few_digits, headed_whole}
use Rattle.bx_patch.proofs.PushLemmas.{flat_more}

-- newlines of a text in two parts
pub newlines_both : (a b : List ℕ) → newlines (a ++ b) ≡ newlines a + newlines b
newlines_both [] b = omega arith
newlines_both (c ∷ a) b = go (eqb c 10) refl (newlines_both a b)
  where
    go : (k : Bool) → eqb c 10 ≡ k → newlines (a ++ b) ≡ newlines a + newlines b → newlines (c ∷ (a ++ b)) ≡ newlines (c ∷ a) + newlines b
    go true e same = rw e (omega (arith, same))
    go false e same = rw e same

pub newlines_few : (t : List ℕ) → newlines t ≤ length t
newlines_few [] = omega arith
newlines_few (c ∷ t) = go (eqb c 10) refl (newlines_few t)
  where
    go : (k : Bool) → eqb c 10 ≡ k → newlines t ≤ length t → newlines (c ∷ t) ≤ suc (length t)
    go true e few = rw e (omega (arith, few))
    go false e few = rw e (omega (arith, few))

-- whole lines are as many
whole_count : (text : List ℕ) → AreWholeLines text → length (lines_of text) ≡ newlines text
whole_count text (inl none) = rw none refl
whole_count text (inr (front, is)) = rw is (lines_count front)

-- a line has few bytes
few_onto : (k n : ℕ) (acc : List ℕ) → length (digits_onto k 16 false n acc) ≤ k + 1 + length acc
few_onto zero n acc = omega arith
few_onto (suc k) n acc =
    ⊎_elim
    (λ z. omega (arith, ap length (digits_onto-last (suc k) k 16 false n acc (sym (add-one k)) z)))
    (λ z. omega (arith, ap length (digits_onto-more (suc k) k 16 false n acc (sym (add-one k)) z), few_onto k (n / 16) (digit_glyph false (n % 16) ∷ acc)))
    (cases_eq (n / 16) 0)

address_few : (at : ℕ) → length (hex_text false 8 at) ≤ 73
address_few at =
    let ds = digits 16 false at in
    let zeros : ℕ = 8 - length ds in
    omega (arith, length-append (replicate zeros 48) ds, length-replicate {A = ℕ} zeros 48, ap length (digits_start 64 16 false at refl), few_onto 64 at [])

parts_length : (address columns shown : List ℕ) →
    length (address ++ codes ": " ++ columns ++ codes " " ++ shown ++ codes "\n") ≡ length address + 2 + length columns + 1 + length shown + 1
parts_length address columns shown = simp length-append refl

line_few : (l : PatchLine) → length l.2 ≤ 16 → length (signed_line_text l) ≤ 200
line_few l few =
    let place = λ (i : ℕ). 2 * i + i / 2 in
    let columns = map (char_at place (λ i. pair_of false (slice_index l.2 i)) (length l.2)) (range_with_len 0 40) in
    omega (
      arith,
      few,
      parts_length (hex_text false 8 l.1) columns (map shown_byte l.2),
      address_few l.1,
      length-map-range_with_len (char_at place (λ i. pair_of false (slice_index l.2 i)) (length l.2)) 0 40,
      length-map l.2 shown_byte,
    )

one_few : (new : Bool) (at : ℕ) (bytes : List ℕ) → length bytes ≤ 16 → length (flat_map signed_line_text (line_for new at bytes)) ≤ 200
one_few new at [] few = omega arith
one_few new at (b ∷ bytes) few = omega (arith, length-append (signed_line_text (new, at, b ∷ bytes)) [], line_few (new, at, b ∷ bytes) few)

-- no more ranges than places
few_with : (at : ℕ) (spans : List Span) → length (with_place at spans) ≤ suc (length spans)
unfolding with_place
few_with at [] = omega arith
few_with at (s ∷ spans) = go (eqb s.at (suc at))
  where
    go : (b : Bool) → length (cond b (record { at = at; end = s.end } ∷ spans) (record { at = at; end = suc at } ∷ s ∷ spans)) ≤ suc (suc (length spans))
    go true = omega arith
    go false = omega arith

few_spans : (test : ℕ → Bool) (at n : ℕ) → length (spans_from test at n) ≤ n
unfolding spans_from
few_spans test at zero = omega arith
few_spans test at (suc n) = go (test at) (few_spans test (suc at) n)
  where
    go : (b : Bool) → length (spans_from test (suc at) n) ≤ n → length (cond b (with_place at (spans_from test (suc at) n)) (spans_from test (suc at) n)) ≤ suc n
    go true few = omega (arith, few, few_with at (spans_from test (suc at) n))
    go false few = omega (arith, few)

-- so have the lines of a row
module _ (at : ℕ) (x y : List ℕ) (few : length x ≤ 16) (less : length y ≤ 16) where
  span_few : (s : Span) → length (flat_map signed_line_text (span_lines at x y s)) ≤ 400
  span_few s =
      let old = take (s.end - s.at) (drop s.at x) in
      let new = take (s.end - s.at) (drop s.at y) in
      omega (
        arith,
        ap length (flat_more signed_line_text (line_for false (at + s.at) old) (line_for true (at + s.at) new)),
        length-append (flat_map signed_line_text (line_for false (at + s.at) old)) (flat_map signed_line_text (line_for true (at + s.at) new)),
        one_few false (at + s.at) old (omega (arith, few, length-take {A = ℕ} (s.end - s.at) (drop s.at x), length-drop {A = ℕ} s.at x)),
        one_few true (at + s.at) new (omega (arith, less, length-take {A = ℕ} (s.end - s.at) (drop s.at y), length-drop {A = ℕ} s.at y)),
      )

  spans_few : (spans : List Span) → length (flat_map signed_line_text (flat_map (span_lines at x y) spans)) ≤ 400 * length spans
  spans_few [] = omega arith
  spans_few (s ∷ spans) =
      let first = span_lines at x y s in
      let rest = flat_map (span_lines at x y) spans in
      omega (arith, ap length (flat_more signed_line_text first rest), length-append (flat_map signed_line_text first) (flat_map signed_line_text rest), span_few s, spans_few spans)

  row_few : (extent : Extent) → length (flat_map signed_line_text (row_lines extent at x y)) ≤ 6400
  row_few Bytes = omega (arith, spans_few (spans_from (differs x y) 0 16), few_spans (differs x y) 0 16)
  row_few Rows = go (bytes_eq x y)
    where
      go : (b : Bool) → length (flat_map signed_line_text (cond b [] (span_lines at x y (record { at = 0; end = 16 })))) ≤ 6400
      go true = omega arith
      go false = omega (arith, span_few (record { at = 0; end = 16 }))

row_short : (t : List ℕ) (k : ℕ) → length (line_bytes t k) ≤ 16
row_short t k = omega (arith, length-take {A = ℕ} 16 (drop (16 * k) t))

rows_few : (extent : Extent) (x y : List ℕ) (k n : ℕ) → length (flat_map signed_line_text (rows_from extent x y k n)) ≤ 6400 * n
rows_few extent x y k zero = omega arith
rows_few extent x y k (suc n) =
    let row = row_lines extent (16 * k) (line_bytes x k) (line_bytes y k) in
    let rest = rows_from extent x y (k + 1) n in
    omega (
      arith,
      ap length (flat_more signed_line_text row rest),
      length-append (flat_map signed_line_text row) (flat_map signed_line_text rest),
      row_few (16 * k) (line_bytes x k) (line_bytes y k) (row_short x k) (row_short y k) extent,
      rows_few extent x y (k + 1) n,
    )

headed_few : (head : List ℕ) (lines : List PatchLine) → length (headed head lines) ≤ length head + length (flat_map signed_line_text lines)
headed_few head [] = omega arith
headed_few head (l ∷ lines) = omega (arith, length-append head (flat_map signed_line_text (l ∷ lines)))

-- the line that tells the lengths is a first one
pub head_is : (old new : ℕ) (head : List ℕ) → old < 2 ^ 59 → new < 2 ^ 59 → head ≡ length_text old new ++ codes "\n" → IsLengthHead head
head_is old new head small little e =
    let long : length (length_text old new) ≡ 7 + (length (decimal old) + (4 + length (decimal new))) =
    omega (arith, length-append (decimal old) (codes " to " ++ decimal new)) in
    record {
      text = length_text old new;
      spelled = e;
      short = omega (arith, ap length e, length-append (length_text old new) (codes "\n"), long, few_digits old small, few_digits new little);
    }

-- the lines of images are counted
pub number_is : (extent : Extent) (head x y : List ℕ) (number : ℕ) → IsLengthHead head → max (length x) (length y) ≤ 2 ^ 48 →
    number ≡ counted (newlines (headed head (patch_lines extent x y))) → number ≡ length (lines_of (headed head (patch_lines extent x y)))
number_is extent head x y number is short count =
    let lines = patch_lines extent x y in
    let whole = subst (λ (h : List ℕ). AreWholeLines (headed h lines)) (sym is.spelled) (headed_whole is.text lines) in
    omega (arith, count, whole_count (headed head lines) whole, newlines_few (headed head lines), headed_few head lines, rows_few extent x y 0 (row_count x y), is.short, short)
