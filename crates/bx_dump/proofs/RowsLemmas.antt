-- The items of a line from the digits of their bytes.
use Rattle.std.proofs.Common.{◌≡◌, ℕ, ◌<◌, false, List, [], ◌∷◌, ◌++◌, length, take, drop, replicate, refl, subst, arith}
use Rattle.std.specs.Prelude.{Bool, ◌==◌, codes, slice_set}
use Rattle.std.specs.List.{flat_map, range_with_len}
use borrow.Rule.Slice.PartMut.{put_mid}
use Rattle.std.proofs.lemmas.Bool.{ne_eqb}
use Rattle.std.proofs.lemmas.Simd.{pick_l_whole}
use lib.Lanes.{pick_l}
use Rattle.bx_text.specs.Dump.{pair_of}
use Rattle.bx_dump.specs.Laws.{items}
use Rattle.bx_dump.specs.private.Rows.{include_line}

-- the signs around the digits
abbrev pub signs : List ℕ
signs = 44 ∷ 10 ∷ 32 ∷ 48 ∷ 120 ∷ replicate 27 32

abbrev pub front_items : List ℕ
front_items =
    32 ∷ 33 ∷ 34 ∷ 34 ∷ 35 ∷ 36 ∷ 0 ∷ 1 ∷ 32 ∷ 34 ∷ 35 ∷ 36 ∷ 2 ∷ 3 ∷ 32 ∷ 34 ∷ 35 ∷ 36 ∷ 4 ∷ 5 ∷ 32 ∷ 34 ∷ 35 ∷ 36 ∷ 6 ∷ 7 ∷ 32 ∷ 34 ∷ 35 ∷ 36 ∷ 8 ∷ 9 ∷ []

abbrev pub middle_items : List ℕ
middle_items =
    32 ∷ 34 ∷ 35 ∷ 36 ∷ 10 ∷ 11 ∷ 32 ∷ 34 ∷ 35 ∷ 36 ∷ 12 ∷ 13 ∷ 32 ∷ 34 ∷ 35 ∷ 36 ∷ 14 ∷ 15 ∷ 32 ∷ 34 ∷ 35 ∷ 36 ∷ 16 ∷ 17 ∷ 32 ∷ 34 ∷ 35 ∷ 36 ∷ 18 ∷ 19 ∷ 32 ∷ 34 ∷ []

abbrev pub back_items : List ℕ
back_items = 35 ∷ 36 ∷ 20 ∷ 21 ∷ 32 ∷ 34 ∷ 35 ∷ 36 ∷ []

-- a line by the digits of its bytes
abbrev pub item_cells : List ℕ → List ℕ
item_cells cells =
    pick_l 0 (cells ++ signs) front_items ++ (pick_l 0 (cells ++ signs) middle_items ++ (pick_l 0 (cells ++ signs) back_items ++ take 2 (drop 22 cells)))

pub items_are : (bytes : List ℕ) → length bytes ≡ 16 → item_cells (flat_map (pair_of false) bytes) ≡ codes ",\n  " ++ items (take 12 bytes)
items_are bytes long = subst (λ l. item_cells (flat_map (pair_of false) l) ≡ codes ",\n  " ++ items (take 12 l)) (pick_l_whole 0 bytes 16 long) refl

-- a line behind another
pub row_behind : (at : ℕ) (bytes : List ℕ) → 0 < at → codes ",\n  " ++ items bytes ≡ include_line at bytes
row_behind at bytes some =
    let other : (at == 0) ≡ false = ne_eqb at 0 (λ e. omega arith) in
    rw other refl

-- a line of 30 bytes; two of them were put twice
abbrev pub IsThirty : Bool → List ℕ → List ℕ → Type 0
IsThirty upper bytes rest =
    slice_set (put_mid 28 32 (flat_map (pair_of upper) (take 16 bytes) ++ rest) (flat_map (pair_of upper) (drop 14 bytes))) 60 10 ≡ flat_map (pair_of upper) bytes ++ 10 ∷ []

pub thirty_are : (upper : Bool) (bytes rest : List ℕ) → length bytes ≡ 30 → length rest ≡ 29 → IsThirty upper bytes rest
thirty_are upper bytes rest long room =
    subst (λ l. IsThirty upper l rest) (pick_l_whole 0 bytes 30 long)
    (subst (λ r. IsThirty upper (pick_l 0 bytes (range_with_len 0 30)) r) (pick_l_whole 0 rest 29 room) refl)
