-- A patch that is written a window at a time.
use Rattle.std.proofs.Common.{◌≡◌, ℕ, zero, suc, ◌+◌, ◌-◌, ◌*◌, ◌/◌, ◌%◌, ◌<◌, ◌≤◌, max, min, Bool, false, cond, Option, List, [], ◌++◌, length, take, drop, refl, sym, ap, subst, ◌∙◌, append_assoc, arith}
use Rattle.std.specs.List.{flat_map, range_with_len}
use Rattle.std.specs.Prelude.{codes}
use Rattle.std.specs.Fmt.{decimal}
use Rattle.std.proofs.lemmas.List.{length-take, length-drop}
use Rattle.bx_text.specs.Fold.{line_bytes}
use Rattle.bx_patch.specs.declared.diff.fault.DiffFault.{DiffFault}
use Rattle.bx_patch.specs.declared.diff.row.Extent.{Extent}
use Rattle.bx_patch.specs.Text.{PatchLine, length_text, signed_line_text, with_end, headed, row_lines, rows_from, row_count, patch_lines, patch_text}
use Rattle.bx_patch.specs.Diff.{OnlyReads}
use Rattle.bx_patch.specs.private.Row.{window_lines}
use Rattle.bx_patch.specs.private.Diff.{HasPut, WritesUpTo, lengths_line, lines_of_window, lines_before}
use Rattle.bx_patch.proofs.PushLemmas.{flat_more, equal_rows}
use Rattle.bx_patch.proofs.RowLemmas.{nested_take}
use Rattle.bx_patch.proofs.WritingLemmas.{headed_prefix}

-- numbers that go along give the same
flat_along : {A : Type 0} (f g : ℕ → List A) (a b n : ℕ) → ((k : ℕ) → k < n → f (a + k) ≡ g (b + k)) → flat_map f (range_with_len a n) ≡ flat_map g (range_with_len b n)
flat_along f g a b zero same = refl
flat_along f g a b (suc n) same =
    let first : a + 0 ≡ a = omega arith in
    let other : b + 0 ≡ b = omega arith in
    ap (λ t. t ++ flat_map f (range_with_len (a + 1) n)) (ap f (sym first) ∙ same 0 (omega arith) ∙ ap g other)
    ∙ ap (λ t. g b ++ t) (flat_along f g (a + 1) (b + 1) n (λ k below. let x : a + 1 + k ≡ a + suc k = omega arith in let y : b + suc k ≡ b + 1 + k = omega arith in ap f x ∙ same (suc k) (omega arith) ∙ ap g y))

pub flat_split : {A : Type 0} (f : ℕ → List A) (a m n : ℕ) → flat_map f (range_with_len a (m + n)) ≡ flat_map f (range_with_len a m) ++ flat_map f (range_with_len (a + m) n)
flat_split f a zero n =
    let count : 0 + n ≡ n = omega arith in
    let place : a ≡ a + 0 = omega arith in
    ap (λ k. flat_map f (range_with_len a k)) count ∙ ap (λ p. flat_map f (range_with_len p n)) place
flat_split f a (suc m) n =
    let count : suc m + n ≡ suc (m + n) = omega arith in
    let place : a + 1 + m ≡ a + suc m = omega arith in
    ap (λ k. flat_map f (range_with_len a k)) count
    ∙ ap (λ t. f a ++ t) (flat_split f (a + 1) m n ∙ ap (λ p. flat_map f (range_with_len (a + 1) m) ++ flat_map f (range_with_len p n)) place)
    ∙ sym (append_assoc (f a) (flat_map f (range_with_len (a + 1) m)) (flat_map f (range_with_len (a + suc m) n)))

-- the rows of a window are those of the lists
window_is : (extent : Extent) (x y : List ℕ) (width k n : ℕ) → 16 * n ≤ width →
    rows_from extent x y k n ≡ window_lines extent (16 * k) (take width (drop (16 * k) x)) (take width (drop (16 * k) y)) n
window_is extent x y width k n fits =
    let a = take width (drop (16 * k) x) in
    let b = take width (drop (16 * k) y) in
    let f = λ (k : ℕ). row_lines extent (16 * k) (line_bytes x k) (line_bytes y k) in
    let g = λ (j : ℕ). row_lines extent (16 * k + 16 * j) (line_bytes a j) (line_bytes b j) in
    flat_along f g k 0 n (λ j below. row_is j below)
  where
    bytes_are : (t : List ℕ) (j : ℕ) → j < n → line_bytes t (k + j) ≡ line_bytes (take width (drop (16 * k) t)) (0 + j)
    bytes_are t j below =
        let place : 16 * (k + j) ≡ 16 * k + 16 * j = omega arith in
        let first : j ≡ 0 + j = omega arith in
        ap (λ p. take 16 (drop p t)) place ∙ sym (nested_take t (16 * k) width (16 * j) 16 (omega arith)) ∙ ap (line_bytes (take width (drop (16 * k) t))) first

    row_is : (j : ℕ) → j < n → row_lines extent (16 * (k + j)) (line_bytes x (k + j)) (line_bytes y (k + j))
        ≡ row_lines extent (16 * k + 16 * (0 + j)) (line_bytes (take width (drop (16 * k) x)) (0 + j)) (line_bytes (take width (drop (16 * k) y)) (0 + j))
    row_is j below =
        let place : 16 * (k + j) ≡ 16 * k + 16 * (0 + j) = omega arith in
        ap (λ p. row_lines extent p (line_bytes x (k + j)) (line_bytes y (k + j))) place
        ∙ ap (λ l. row_lines extent (16 * k + 16 * (0 + j)) l (line_bytes y (k + j))) (bytes_are x j below)
        ∙ ap (λ l. row_lines extent (16 * k + 16 * (0 + j)) (line_bytes (take width (drop (16 * k) x)) (0 + j)) l) (bytes_are y j below)

-- how many bytes the longer one of two has in a window
widest : (x y : List ℕ) (width at : ℕ) → max (length (take width (drop at x))) (length (take width (drop at y))) ≡ min width (max (length x) (length y) - at)
widest x y width at = omega (arith, length-take {A = ℕ} width (drop at x), length-drop {A = ℕ} at x, length-take {A = ℕ} width (drop at y), length-drop {A = ℕ} at y)

-- the rows up to an address, and those of a window there
pub rows_on : (extent : Extent) (x y : List ℕ) (at next : ℕ) → at % 32768 ≡ 0 → next ≡ at + min 32768 (max (length x) (length y) - at) →
    let a = take 32768 (drop at x) in let b = take 32768 (drop at y) in
    rows_from extent x y 0 ((next + 15) / 16) ≡ rows_from extent x y 0 ((at + 15) / 16) ++ window_lines extent at a b (row_count a b)
rows_on extent x y at next whole on =
    let k : ℕ = (at + 15) / 16 in
    let base : 16 * k ≡ at = omega arith in
    let a = take 32768 (drop at x) in
    let b = take 32768 (drop at y) in
    let n : ℕ = row_count a b in
    let wide = widest x y 32768 at in
    let count : (next + 15) / 16 ≡ k + n = omega arith in
    let few : 16 * n ≤ 32768 = omega arith in
    let f = λ (k : ℕ). row_lines extent (16 * k) (line_bytes x k) (line_bytes y k) in
    let place : 0 + k ≡ k = omega arith in
    ap (rows_from extent x y 0) count ∙ flat_split f 0 k n ∙ ap (λ p. rows_from extent x y 0 k ++ rows_from extent x y p n) place
    ∙ ap (λ t. rows_from extent x y 0 k ++ t) (window_is extent x y 32768 k n few ∙ ap (λ p. window_lines extent p (take 32768 (drop p x)) (take 32768 (drop p y)) n) base)

-- windows that are equal have no lines
pub equal_windows : (extent : Extent) (at : ℕ) (a b : List ℕ) (n : ℕ) → a ≡ b → flat_map signed_line_text (window_lines extent at a b n) ≡ []
equal_windows extent at a b n e =
    ap (λ b. flat_map signed_line_text (window_lines extent at a b n)) (sym e) ∙ rows_none 0 n
  where
    rows_none : (k n : ℕ) → flat_map signed_line_text (flat_map (λ k. row_lines extent (at + 16 * k) (line_bytes a k) (line_bytes a k)) (range_with_len k n)) ≡ []
    rows_none k zero = refl
    rows_none k (suc n) =
        flat_more signed_line_text (row_lines extent (at + 16 * k) (line_bytes a k) (line_bytes a k)) (flat_map (λ k. row_lines extent (at + 16 * k) (line_bytes a k) (line_bytes a k)) (range_with_len (k + 1) n))
        ∙ ap (λ t. t ++ flat_map signed_line_text (flat_map (λ k. row_lines extent (at + 16 * k) (line_bytes a k) (line_bytes a k)) (range_with_len (k + 1) n))) (equal_rows extent (at + 16 * k) (line_bytes a k) (line_bytes a k) refl)
        ∙ rows_none (k + 1) n

-- the rows before an address are the first ones of the patch
pub rows_front : (extent : Extent) (x y : List ℕ) (n : ℕ) → n ≤ row_count x y → patch_lines extent x y ≡ rows_from extent x y 0 n ++ rows_from extent x y n (row_count x y - n)
rows_front extent x y n few =
    let f = λ (k : ℕ). row_lines extent (16 * k) (line_bytes x k) (line_bytes y k) in
    let count : row_count x y ≡ n + (row_count x y - n) = omega arith in
    let place : 0 + n ≡ n = omega arith in
    ap (rows_from extent x y 0) count ∙ flat_split f 0 n (row_count x y - n) ∙ ap (λ p. rows_from extent x y 0 n ++ rows_from extent x y p (row_count x y - n)) place

pub lengths_are : (old new : ℕ) → lengths_line old new ≡ length_text old new ++ codes "\n"
lengths_are old new = ap (λ t. t ++ codes "\n") (append_assoc (codes "length " ++ decimal old) (codes " to ") (decimal new) ∙ append_assoc (codes "length ") (decimal old) (codes " to " ++ decimal new))

module _ (extent : Extent) (head : List ℕ) (number written : ℕ) (first now : Option (List ℕ)) (x y a b : List ℕ) (at next : ℕ) (old : a ≡ x) (new : b ≡ y)
    (inside : at < max (length x) (length y)) (whole : at % 32768 ≡ 0) (on : next ≡ at + min 32768 (max (length x) (length y) - at)) where
  lines_on : lines_before extent x y at ++ lines_of_window extent a b at ≡ lines_before extent x y next
  lines_on =
      ap (λ a. lines_before extent x y at ++ lines_of_window extent a b at) old ∙ ap (λ b. lines_before extent x y at ++ lines_of_window extent x b at) new ∙ sym (rows_on extent x y at next whole on)

  pub next_put : HasPut head (lines_before extent x y at ++ lines_of_window extent a b at) number written first now → HasPut head (lines_before extent x y next) number written first now
  next_put put = subst (λ (ls : List PatchLine). HasPut head ls number written first now) lines_on put

  pub next_part : (fault : DiffFault) → WritesUpTo first now (headed head (lines_before extent x y at ++ lines_of_window extent a b at)) fault →
      WritesUpTo first now (headed head (patch_lines extent x y)) fault
  next_part fault part =
      let n : ℕ = (next + 15) / 16 in
      let few : n ≤ row_count x y = omega arith in
      let here = subst (λ (ls : List PatchLine). WritesUpTo first now (headed head ls) fault) lines_on part in
      subst (λ (ls : List PatchLine). WritesUpTo first now (headed head ls) fault) (sym (rows_front extent x y n few))
      (headed_prefix fault head (lines_before extent x y next) (rows_from extent x y n (row_count x y - n)) first now here)

-- a comparison of two devices of these lengths, from their start
pub ended_is : (extent : Extent) (head : List ℕ) (x y : List ℕ) (old new : ℕ) → old ≡ length x → new ≡ length y → head ≡ length_text old new ++ codes "\n" →
    with_end (headed head (patch_lines extent x y)) ≡ patch_text extent x y
ended_is extent head x y old new e f h =
    ap (λ head. with_end (headed head (patch_lines extent x y))) (h ∙ ap (λ n. length_text n new ++ codes "\n") e ∙ ap (λ n. length_text (length x) n ++ codes "\n") f)

-- a device that was only read, and once more
pub reads_on : {D : Type 0} (faithful : D → Type 0) (image : D → List ℕ) (room failures : D → ℕ) (survives : D → List ℕ → Type 0) (failed : Bool) (first mid now : D) →
    OnlyReads faithful image room failures survives false first mid → OnlyReads faithful image room failures survives failed mid now →
    OnlyReads faithful image room failures survives failed first now
reads_on faithful image room failures survives failed first mid now a b =
    record {
      stays = λ h. b.stays (a.goes_on.faith.1 h) ∙ a.stays h;
      no_more = λ h x now. a.no_more h x (b.no_more (a.goes_on.faith.1 h) x now);
      goes_on = record {
        faith = (λ h. a.goes_on.faith.0 (b.goes_on.faith.0 h), λ h. b.goes_on.faith.1 (a.goes_on.faith.1 h));
        no_less_room = omega (arith, a.goes_on.no_less_room, b.goes_on.no_less_room);
        counted = b.goes_on.counted ∙ ap (λ n. cond failed (n + 1) n) a.goes_on.counted;
      };
    }

-- a device that wasn't called
pub reads_none : {D : Type 0} (faithful : D → Type 0) (image : D → List ℕ) (room failures : D → ℕ) (survives : D → List ℕ → Type 0) (now : D) →
    OnlyReads faithful image room failures survives false now now
reads_none faithful image room failures survives now =
    record { stays = λ h. refl; no_more = λ h x now. now; goes_on = record { faith = (λ h. h, λ h. h); no_less_room = omega arith; counted = refl } }
