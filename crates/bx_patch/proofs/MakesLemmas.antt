-- What the change of a patch makes.
use Rattle.std.proofs.Common.{◌≡◌, ◌⊎◌, ℕ, suc, ◌+◌, ◌-◌, ◌<◌, ◌≤◌, Bool, true, false, not, cond, eqb, Some, None, Option, List, [], ◌∷◌, ◌++◌, length, map, take, drop, get_or, slice_index, inl, inr, refl, sym, ap, subst, ◌∙◌, arith}
use Rattle.std.specs.Prelude.{IfSome, bytes_eq, codes}
use Rattle.std.specs.List.{All}
use Rattle.std.specs.Option.{option_map_or}
use Rattle.std.proofs.lemmas.Bool.{cases_lt, eqb-true}
use Rattle.std.proofs.lemmas.List.{length-take, length-drop, places}
use Rattle.std.proofs.lemmas.List.Elements.{All-cons, All-head, All-nil, All-tail}
use Rattle.std.proofs.lemmas.Slice.Eq.{bytes_eq-Decides}
use Rattle.bx_text.specs.declared.owned.pieces.Piece.{Piece}
use Rattle.bx_image.specs.Change.{effect, placed}
use Rattle.bx_image.specs.Image.{place, cut, end_of}
use Rattle.bx_image.proofs.Images.{same_image, length-cut, slice_index-cut, length-place, slice_index-place_within, slice_index-place_below, slice_index-place_above, end_of_le, slice_index_past}
use Rattle.bx_read.specs.Text.{lines_of}
use Rattle.bx_patch.specs.Patch.{Asked, HasPiece, Agrees, HasByteAt, new_length, patch_change, reversed, Pieces}
use Rattle.bx_patch.specs.declared.diff.row.Extent.{Extent}
use Rattle.bx_patch.specs.Text.{PatchLine, differs, patch_end, headed, length_text, row_count, patch_lines, patch_text}
use Rattle.bx_patch.specs.Grammar.{EndsWithin, IsInLengths, IsPatch}
use Rattle.bx_patch.specs.Laws.{FailedIsRefused, FrontIsRefused, HasNoEnd, IsShort, NothingIsChanged, PatchMakesNew, PatchReversed, PatchIsStrict, PatchTellsLength}
use Rattle.bx_patch.proofs.CutLemmas.{front_of_any_is_refused, one_request}
use Rattle.bx_patch.proofs.LineLemmas.{Each, IsFine, pieces_of, asked_by, headed_gives, headed_whole}
use Rattle.bx_patch.proofs.RowLemmas.{side, IsOf, Reach, reaches, rows_of}

-- each of the pieces is in a list
abbrev pub EachIn : List ℕ → Pieces → Type 0
EachIn t [] = Unit {0}
EachIn t (p ∷ ps) = HasPiece t p × EachIn t ps

pub side_in : (x y : List ℕ) (new : Bool) (ls : List PatchLine) → Each (IsOf x y) ls → EachIn (side new x y) (pieces_of new ls)
side_in x y new [] are = tt
side_in x y true ((true, at, bytes) ∷ ls) are = (are.0.has, side_in x y true ls are.1)
side_in x y true ((false, at, bytes) ∷ ls) are = side_in x y true ls are.1
side_in x y false ((true, at, bytes) ∷ ls) are = side_in x y false ls are.1
side_in x y false ((false, at, bytes) ∷ ls) are = (are.0.has, side_in x y false ls are.1)

pub side_cover : (new : Bool) (ls : List PatchLine) (i : ℕ) → Reach new ls i → HasByteAt (pieces_of new ls) i
side_cover new [] i h = absurd h
side_cover true ((true, at, bytes) ∷ ls) i (inl h) = inl (h.1, h.2)
side_cover true ((false, at, bytes) ∷ ls) i (inl h) = let e : false ≡ true = h.0 in cc
side_cover false ((true, at, bytes) ∷ ls) i (inl h) = let e : true ≡ false = h.0 in cc
side_cover false ((false, at, bytes) ∷ ls) i (inl h) = inl (h.1, h.2)
side_cover true ((true, at, bytes) ∷ ls) i (inr h) = inr (side_cover true ls i h)
side_cover true ((false, at, bytes) ∷ ls) i (inr h) = side_cover true ls i h
side_cover false ((true, at, bytes) ∷ ls) i (inr h) = side_cover false ls i h
side_cover false ((false, at, bytes) ∷ ls) i (inr h) = inr (side_cover false ls i h)

pub all_in : (t : List ℕ) (ps : Pieces) → EachIn t ps → All (HasPiece t) ps
all_in t [] each = λ k d inside. absurd (omega arith)
all_in t (p ∷ ps) each = All-cons (HasPiece t) p ps each.0 (all_in t ps each.1)

pub each_in : (t : List ℕ) (ps : Pieces) → All (HasPiece t) ps → EachIn t ps
each_in t [] all = tt
each_in t (p ∷ ps) all = (all 0 p (omega arith), each_in t ps (λ k d inside. all (suc k) d (omega arith)))

-- a piece that is in a list ends within it, and has its bytes
pub piece_end : (t : List ℕ) (at : ℕ) (bytes : List ℕ) → HasPiece t (at, bytes) → end_of at bytes ≤ length t
piece_end t at [] has = omega arith
piece_end t at (b ∷ bytes) has =
    omega (arith, ap length has, length-take {A = ℕ} (length (b ∷ bytes)) (drop at t), length-drop {A = ℕ} at t)

piece_within : (t : List ℕ) (at : ℕ) (bytes : List ℕ) → 0 < length bytes → HasPiece t (at, bytes) → at + length bytes ≤ length t
piece_within t at bytes some has =
    omega (arith, some, ap length has, length-take {A = ℕ} (length bytes) (drop at t), length-drop {A = ℕ} at t)

pub piece_byte : (t : List ℕ) (at : ℕ) (bytes : List ℕ) (i : ℕ) → HasPiece t (at, bytes) → at ≤ i → i < at + length bytes → slice_index bytes (i - at) ≡ slice_index t i
piece_byte t at bytes i has above below =
    let same : get_or (take (length bytes) (drop at t)) (i - at) 0 ≡ get_or bytes (i - at) 0 = ap (λ l. get_or l (i - at) 0) has in
    sym same ∙ grind (arith, places)

-- the pieces as writes
abbrev pub writes : {A : Type 0} → Pieces → List (Piece A)
writes ps = map (λ piece. record { at = piece.0; bytes = piece.1 }) ps

placed_length : (A : Type 0) (t : List ℕ) (ps : Pieces) (z : List ℕ) → EachIn t ps → length z ≡ length t → length (placed {A = A} (writes ps) z) ≡ length t
unfolding placed
placed_length A t [] z each long = long
placed_length A t (p ∷ ps) z each long =
    placed_length A t ps (place z p.0 p.1) each.1 (length-place z p.0 p.1 ∙ omega (arith, piece_end t p.0 p.1 each.0))

placed_byte : (A : Type 0) (t : List ℕ) (ps : Pieces) (z : List ℕ) (i : ℕ) → EachIn t ps → (slice_index z i ≡ slice_index t i) ⊎ HasByteAt ps i →
    slice_index (placed {A = A} (writes ps) z) i ≡ slice_index t i
unfolding placed
placed_byte A t [] z i each (inl same) = same
placed_byte A t [] z i each (inr none) = absurd none
placed_byte A t (p ∷ ps) z i each have = placed_byte A t ps (place z p.0 p.1) i each.1 (next have)
  where
    next : (slice_index z i ≡ slice_index t i) ⊎ HasByteAt (p ∷ ps) i → (slice_index (place z p.0 p.1) i ≡ slice_index t i) ⊎ HasByteAt ps i
    next (inr (inr later)) = inr later
    next (inr (inl here)) = inl (slice_index-place_within z p.0 p.1 i here.0 here.1 ∙ piece_byte t p.0 p.1 i each.0 here.0 here.1)
    next (inl same) = elim (cases_lt i p.0) [
      | inl below ↦ inl (slice_index-place_below z p.0 p.1 i below ∙ same)
      | inr above ↦ elim (cases_lt i (p.0 + length p.1)) [
        | inl within ↦ inl (slice_index-place_within z p.0 p.1 i above within ∙ piece_byte t p.0 p.1 i each.0 above within)
        | inr behind ↦ inl (slice_index-place_above z p.0 p.1 i behind ∙ same)
      ]
    ]

-- pieces of a list that cover what differs make the list
pub placed_makes : (A : Type 0) (t : List ℕ) (ps : Pieces) (z : List ℕ) → EachIn t ps → length z ≡ length t →
    ((i : ℕ) → i < length t → (slice_index z i ≡ slice_index t i) ⊎ HasByteAt ps i) → placed {A = A} (writes ps) z ≡ t
placed_makes A t ps z each long have =
    let len = placed_length A t ps z each long in
    same_image (placed {A = A} (writes ps) z) t len (λ i inside. placed_byte A t ps z i each (have i (omega arith)))

-- where two lists don't differ, they have one byte, or both have none
pub not_differs : (x y : List ℕ) (i : ℕ) → differs x y i ≡ false → take 1 (drop i x) ≡ take 1 (drop i y)
not_differs x y i e = (bytes_eq-Decides (take 1 (drop i x)) (take 1 (drop i y))).0 (back (bytes_eq (take 1 (drop i x)) (take 1 (drop i y))) e)
  where
    back : (b : Bool) → not b ≡ false → b ≡ true
    back true e = refl
    back false e = cc

first_byte : (x : List ℕ) (i n : ℕ) → 0 < n → get_or (take n (drop i x)) 0 0 ≡ slice_index x i
first_byte x i n some = grind (arith, places)

pub same_byte : (x y : List ℕ) (i : ℕ) → differs x y i ≡ false → slice_index x i ≡ slice_index y i
same_byte x y i e = sym (first_byte x i 1 (omega arith)) ∙ ap (λ l. get_or l 0 0) (not_differs x y i e) ∙ first_byte y i 1 (omega arith)

pub either_differs : (b : Bool) → (b ≡ true) ⊎ (b ≡ false)
either_differs true = inl refl
either_differs false = inr refl

-- the byte of an image that is brought to a length
unfoldable pub brought : (x : List ℕ) (old new : ℕ) → List ℕ
brought x old new = option_map_or (cut x) (new_length (old, new)) x

pub brought_length : (x : List ℕ) (old new : ℕ) → length x ≡ old → length (brought x old new) ≡ new
unfolding brought
brought_length x old new long = go (eqb old new) refl
  where
    go : (b : Bool) → eqb old new ≡ b → length (option_map_or (cut x) (cond b None (Some new)) x) ≡ new
    go true e = omega (arith, eqb-true old new e)
    go false e = length-cut x new

pub brought_byte : (x : List ℕ) (old new i : ℕ) → i < new → slice_index (brought x old new) i ≡ slice_index x i
unfolding brought
brought_byte x old new i inside = go (eqb old new)
  where
    go : (b : Bool) → slice_index (option_map_or (cut x) (cond b None (Some new)) x) i ≡ slice_index x i
    go true = refl
    go false = slice_index-cut x new i inside

-- from the other side to one
pub makes_side : (A : Type 0) (z t : List ℕ) (ps : Pieces) → EachIn t ps →
    ((i : ℕ) → i < length t → (slice_index z i ≡ slice_index t i) ⊎ HasByteAt ps i) →
    effect {A = A} (record { base = new_length (length z, length t); writes = writes ps }) z ≡ t
unfolding effect brought
makes_side A z t ps each have =
    placed_makes A t ps (brought z (length z) (length t)) each (brought_length z (length z) (length t) refl)
    (λ i inside. again i inside (have i inside))
  where
    again : (i : ℕ) → i < length t → (slice_index z i ≡ slice_index t i) ⊎ HasByteAt ps i → (slice_index (brought z (length z) (length t)) i ≡ slice_index t i) ⊎ HasByteAt ps i
    again i inside (inl same) = inl (brought_byte z (length z) (length t) i inside ∙ same)
    again i inside (inr cover) = inr cover

module _ (extent : Extent) (x y : List ℕ) (short : IsShort x) (little : IsShort y) where
  pub lines_are : Each (IsOf x y) (patch_lines extent x y)
  lines_are = rows_of x y (omega (arith, short.short)) (omega (arith, little.short)) short.bytes little.bytes extent 0 (row_count x y)

  pub all_fine : (ls : List PatchLine) → Each (IsOf x y) ls → Each IsFine ls
  all_fine [] are = tt
  all_fine (l ∷ ls) are = (are.0.fine, all_fine ls are.1)

  ends : (new : Bool) (ls : List PatchLine) → Each (IsOf x y) ls → All (EndsWithin (length (side new x y))) (pieces_of new ls)
  ends new [] are = All-nil (EndsWithin (length (side new x y)))
  ends true ((true, at, bytes) ∷ ls) are =
      All-cons (EndsWithin (length y)) (at, bytes) (pieces_of true ls) (piece_within y at bytes are.0.fine.some are.0.has) (ends true ls are.1)
  ends true ((false, at, bytes) ∷ ls) are = ends true ls are.1
  ends false ((true, at, bytes) ∷ ls) are = ends false ls are.1
  ends false ((false, at, bytes) ∷ ls) are =
      All-cons (EndsWithin (length x)) (at, bytes) (pieces_of false ls) (piece_within x at bytes are.0.fine.some are.0.has) (ends false ls are.1)

  lines_fit : (ls : List PatchLine) → Each (IsOf x y) ls → IsInLengths (asked_by (length x) (length y) ls)
  lines_fit [] are = tt
  lines_fit (l ∷ ls) are = (ends false (l ∷ ls) are, ends true (l ∷ ls) are)

  -- the text gives what its lines ask
  pub text_gives : IsPatch (patch_text extent x y) (asked_by (length x) (length y) (patch_lines extent x y))
  text_gives =
      let lines = headed (length_text (length x) (length y) ++ codes "\n") (patch_lines extent x y) in
      record {
        lines = lines;
        last = patch_end (length (lines_of lines));
        before = record {
          spelled = refl;
          whole = headed_whole (length_text (length x) (length y)) (patch_lines extent x y);
          gives = headed_gives (length x) (length y) (patch_lines extent x y) (omega (arith, short.short)) (omega (arith, little.short)) (all_fine (patch_lines extent x y) lines_are);
          fits = lines_fit (patch_lines extent x y) lines_are;
        };
        ends = inr refl;
      }

  -- each address is as before, or one of the written pieces has it
  pub changed : (i : ℕ) → i < length y → (slice_index x i ≡ slice_index y i) ⊎ HasByteAt (pieces_of true (patch_lines extent x y)) i
  changed i inside = elim (either_differs (differs x y i)) [
    | inl differ ↦ inr (side_cover true (patch_lines extent x y) i (reaches x y extent true i inside differ))
    | inr same ↦ inl (same_byte x y i same)
  ]

  pub kept : (i : ℕ) → i < length x → (slice_index y i ≡ slice_index x i) ⊎ HasByteAt (pieces_of false (patch_lines extent x y)) i
  kept i inside = elim (either_differs (differs x y i)) [
    | inl differ ↦ inr (side_cover false (patch_lines extent x y) i (reaches x y extent false i inside differ))
    | inr same ↦ inl (sym (same_byte x y i same))
  ]

module _ (extent : Extent) (x y : List ℕ) (none : patch_lines extent x y ≡ []) where
  no_difference : (new : Bool) (i : ℕ) → i < length (side new x y) → differs x y i ≡ false
  no_difference new i inside = elim (either_differs (differs x y i)) [
    | inl differ ↦ absurd (let P : List PatchLine → Type 0 = λ ls. Reach new ls i in subst P none (reaches x y extent new i inside differ))
    | inr same ↦ same
  ]

  not_longer : length x ≤ length y
  not_longer = elim (cases_lt (length y) (length x)) [
    | inl longer ↦ absurd (omega (arith, ap length (not_differs x y (length y) (no_difference false (length y) longer)), length-take {A = ℕ} 1 (drop (length y) x), length-drop {A = ℕ} (length y) x, length-take {A = ℕ} 1 (drop (length y) y), length-drop {A = ℕ} (length y) y))
    | inr fits ↦ fits
  ]

  not_shorter : length y ≤ length x
  not_shorter = elim (cases_lt (length x) (length y)) [
    | inl longer ↦ absurd (omega (arith, ap length (not_differs x y (length x) (no_difference true (length x) longer)), length-take {A = ℕ} 1 (drop (length x) y), length-drop {A = ℕ} (length x) y, length-take {A = ℕ} 1 (drop (length x) x), length-drop {A = ℕ} (length x) x))
    | inr fits ↦ fits
  ]

  pub no_lines : x ≡ y
  no_lines = same_image x y (omega (arith, not_longer, not_shorter)) (λ i inside. same_byte x y i (no_difference false i inside))

-- the patch agrees with the old one and makes the new one; the other way round as well
module _ (A : Type 0) (extent : Extent) (x y : List ℕ) (short : IsShort x) (little : IsShort y) where
  abbrev asks : List PatchLine → Asked
  asks ls = asked_by (length x) (length y) ls

  abbrev Makes : Asked → Type 0
  Makes p = Agrees p x × (effect {A = A} (patch_change p) x ≡ y)

  abbrev MakesBack : Asked → Type 0
  MakesBack p = Agrees (reversed p) y × (effect {A = A} (patch_change (reversed p)) y ≡ x)

  none_effect : (z : List ℕ) → effect {A = A} (record { base = None; writes = [] }) z ≡ z
  unfolding effect placed
  none_effect z = refl

  makes_by : (ls : List PatchLine) → patch_lines extent x y ≡ ls → Makes (asks ls)
  makes_by [] e = (record { long = tt; has = all_in x [] tt }, none_effect x ∙ no_lines extent x y e)
  makes_by (l ∷ ls) e =
      let are : Each (IsOf x y) (l ∷ ls) = subst (Each (IsOf x y)) e (lines_are extent x y short little) in
      let P : List PatchLine → Type 0 = λ ls. (i : ℕ) → i < length y → (slice_index x i ≡ slice_index y i) ⊎ HasByteAt (pieces_of true ls) i in (
        record { long = refl; has = all_in x (pieces_of false (l ∷ ls)) (side_in x y false (l ∷ ls) are) },
        makes_side A x y (pieces_of true (l ∷ ls)) (side_in x y true (l ∷ ls) are) (subst P e (changed extent x y short little)),
      )

  pub makes_new : Makes (asks (patch_lines extent x y))
  makes_new = makes_by (patch_lines extent x y) refl

  back_by : (ls : List PatchLine) → patch_lines extent x y ≡ ls → MakesBack (asks ls)
  back_by [] e = (record { long = tt; has = all_in y [] tt }, none_effect y ∙ sym (no_lines extent x y e))
  back_by (l ∷ ls) e =
      let are : Each (IsOf x y) (l ∷ ls) = subst (Each (IsOf x y)) e (lines_are extent x y short little) in
      let P : List PatchLine → Type 0 = λ ls. (i : ℕ) → i < length x → (slice_index y i ≡ slice_index x i) ⊎ HasByteAt (pieces_of false ls) i in (
        record { long = refl; has = all_in y (pieces_of true (l ∷ ls)) (side_in x y true (l ∷ ls) are) },
        makes_side A y x (pieces_of false (l ∷ ls)) (side_in x y false (l ∷ ls) are) (subst P e (kept extent x y short little)),
      )

  pub makes_back : MakesBack (asks (patch_lines extent x y))
  makes_back = back_by (patch_lines extent x y) refl

  pub is_asked : (p : Asked) → IsPatch (patch_text extent x y) p → asks (patch_lines extent x y) ≡ p
  is_asked p is = one_request (patch_text extent x y) (asks (patch_lines extent x y)) p (text_gives extent x y short little) is

pub patch_makes_new : (A : Type 0) → PatchMakesNew A
patch_makes_new A extent x y short little =
    let makes = makes_new A extent x y short little in
    (asked_by (length x) (length y) (patch_lines extent x y), text_gives extent x y short little, makes.0, makes.1)

pub patch_reversed : (A : Type 0) → PatchReversed A
patch_reversed A extent x y p short little is =
    let P : Asked → Type 0 = λ p. Agrees (reversed p) y × (effect {A = A} (patch_change (reversed p)) y ≡ x) in
    subst P (is_asked A extent x y short little p is) (makes_back A extent x y short little)

pub front_is_refused : FrontIsRefused
front_is_refused extent x y front rest short little e some =
    front_of_any_is_refused (patch_text extent x y) front rest (asked_by (length x) (length y) (patch_lines extent x y)) (text_gives extent x y short little) e some

pub failed_is_refused : FailedIsRefused
failed_is_refused extent x y written fault short little part =
    subst HasNoEnd (sym part.4) (front_is_refused extent x y part.0 part.1 short little part.2 part.3)

-- two lists that have the same pieces have the same bytes at their addresses
cover_same : (x z : List ℕ) (ps : Pieces) (i : ℕ) → EachIn x ps → EachIn z ps → HasByteAt ps i → slice_index z i ≡ slice_index x i
cover_same x z [] i a b none = absurd none
cover_same x z (p ∷ ps) i a b (inl here) = sym (piece_byte z p.0 p.1 i b.0 here.0 here.1) ∙ piece_byte x p.0 p.1 i a.0 here.0 here.1
cover_same x z (p ∷ ps) i a b (inr later) = cover_same x z ps i a.1 b.1 later

pub patch_is_strict : PatchIsStrict
patch_is_strict extent x y z p short little apart is agrees = by (patch_lines extent x y) refl (subst (λ (p : Asked). Agrees p z) (sym (is_asked ℕ extent x y short little p is)) agrees)
  where
    by : (ls : List PatchLine) → patch_lines extent x y ≡ ls → Agrees (asked_by (length x) (length y) ls) z →
        (length z ≡ length x) × ((i : ℕ) → differs x y i ≡ true → slice_index z i ≡ slice_index x i)
    by [] e agree = absurd (apart (no_lines extent x y e))
    by (l ∷ ls) e agree =
        let are : Each (IsOf x y) (l ∷ ls) = subst (Each (IsOf x y)) e (lines_are extent x y short little) in
        let ps = pieces_of false (l ∷ ls) in
        let P : List PatchLine → ℕ → Type 0 = λ ls i. Reach false ls i in (
          agree.long,
          λ i differ. elim (cases_lt i (length x)) [
            | inl inside ↦ cover_same x z ps i (side_in x y false (l ∷ ls) are) (each_in z ps agree.has) (side_cover false (l ∷ ls) i (subst (λ (ls : List PatchLine). Reach false ls i) e (reaches x y extent false i inside differ)))
            | inr past ↦ slice_index_past z i (omega (arith, agree.long)) ∙ sym (slice_index_past x i past)
          ],
        )

-- a patch that writes nothing and keeps the length
pub nothing_is_changed : (A : Type 0) → NothingIsChanged A
unfolding effect placed
nothing_is_changed A p x is =
    let By : Option ℕ → Pieces → List ℕ = λ base ps. placed {A = A} (writes ps) (option_map_or (cut x) base x) in
    ap (λ base. By base p.written) is.lengths ∙ ap (By None) is.written

-- pieces that end within a length leave an image of it as long
fit_length : (A : Type 0) (n : ℕ) (ps : Pieces) (z : List ℕ) → All (EndsWithin n) ps → length z ≡ n → length (placed {A = A} (writes ps) z) ≡ n
unfolding placed
fit_length A n [] z fits long = long
fit_length A n (p ∷ ps) z fits long =
    let first = All-head (EndsWithin n) p ps fits in
    fit_length A n ps (place z p.0 p.1) (All-tail (EndsWithin n) p ps fits) (length-place z p.0 p.1 ∙ omega (arith, long, first, end_of_le p.0 p.1))

pub tells : (A : Type 0) (l : Option (ℕ × ℕ)) (e w : Pieces) (x : List ℕ) → IsInLengths (record { lengths = l; expected = e; written = w }) →
    Agrees (record { lengths = l; expected = e; written = w }) x →
    IfSome l (λ lengths. length (effect {A = A} (patch_change (record { lengths = l; expected = e; written = w })) x) ≡ lengths.1)
unfolding effect brought
tells A None e w x fits agrees = tt
tells A (Some l) e w x fits agrees = fit_length A l.1 w (brought x l.0 l.1) fits.1 (brought_length x l.0 l.1 agrees.long)

pub patch_tells_length : (A : Type 0) → PatchTellsLength A
patch_tells_length A text x p is agrees = tells A p.lengths p.expected p.written x is.before.fits agrees
