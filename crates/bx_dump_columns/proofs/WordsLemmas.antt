-- The little-endian numbers of 16 bytes, lane by lane.
use Rattle.std.proofs.Common.{◌≡◌, ℕ, ◌+◌, ◌*◌, ◌/◌, List, [], ◌∷◌, ◌++◌, length, refl, sym, subst, inl, inr}
use Rattle.std.specs.Prelude.{Bool}
use Rattle.std.specs.List.{flat_map}
use Rattle.std.proofs.lemmas.Simd.{pick_l_whole}
use lib.Lanes.{pick_l}
use Rattle.bx_text.specs.Dump.{pair_of}
use Rattle.bx_dump_columns.specs.Cells.{grouped}
use Rattle.bx_dump_columns.specs.Words.{IsUsualGroup, turned_groups, words_text}

-- what holds of two, four and eight
pub usual : (P : ℕ → Type 0) (group : ℕ) → IsUsualGroup group → P 2 → P 4 → P 8 → P group
usual P group is two four eight =
    elim is [
      | inl e ↦ subst P (sym e) two
      | inr (inl e) ↦ subst P (sym e) four
      | inr (inr e) ↦ subst P (sym e) eight
    ]

abbrev pub places_of_twos : List ℕ
places_of_twos = 1 ∷ 0 ∷ 3 ∷ 2 ∷ 5 ∷ 4 ∷ 7 ∷ 6 ∷ 9 ∷ 8 ∷ 11 ∷ 10 ∷ 13 ∷ 12 ∷ 15 ∷ 14 ∷ []

abbrev pub places_of_fours : List ℕ
places_of_fours = 3 ∷ 2 ∷ 1 ∷ 0 ∷ 7 ∷ 6 ∷ 5 ∷ 4 ∷ 11 ∷ 10 ∷ 9 ∷ 8 ∷ 15 ∷ 14 ∷ 13 ∷ 12 ∷ []

abbrev pub places_of_eights : List ℕ
places_of_eights = 7 ∷ 6 ∷ 5 ∷ 4 ∷ 3 ∷ 2 ∷ 1 ∷ 0 ∷ 15 ∷ 14 ∷ 13 ∷ 12 ∷ 11 ∷ 10 ∷ 9 ∷ 8 ∷ []

pub twos_turned : (v : List ℕ) → length v ≡ 16 → pick_l 0 (v ++ v) places_of_twos ≡ turned_groups 2 v
twos_turned v long = subst (λ l. pick_l 0 (l ++ l) places_of_twos ≡ turned_groups 2 l) (pick_l_whole 0 v 16 long) refl

pub fours_turned : (v : List ℕ) → length v ≡ 16 → pick_l 0 (v ++ v) places_of_fours ≡ turned_groups 4 v
fours_turned v long = subst (λ l. pick_l 0 (l ++ l) places_of_fours ≡ turned_groups 4 l) (pick_l_whole 0 v 16 long) refl

pub eights_turned : (v : List ℕ) → length v ≡ 16 → pick_l 0 (v ++ v) places_of_eights ≡ turned_groups 8 v
eights_turned v long = subst (λ l. pick_l 0 (l ++ l) places_of_eights ≡ turned_groups 8 l) (pick_l_whole 0 v 16 long) refl

-- the digits of the turned bytes in groups are the numbers
abbrev AreWords : Bool → List ℕ → ℕ → Type 0
AreWords upper bytes group =
    grouped (2 * group) (flat_map (pair_of upper) (turned_groups group bytes)) ((2 * group + 1) * (16 / group)) ≡ words_text upper group (16 / group) bytes

pub words_are : (upper : Bool) (bytes : List ℕ) (group : ℕ) → length bytes ≡ 16 → IsUsualGroup group → AreWords upper bytes group
words_are upper bytes group long is =
    usual (AreWords upper bytes) group is
    (subst (λ l. AreWords upper l 2) (pick_l_whole 0 bytes 16 long) refl)
    (subst (λ l. AreWords upper l 4) (pick_l_whole 0 bytes 16 long) refl)
    (subst (λ l. AreWords upper l 8) (pick_l_whole 0 bytes 16 long) refl)
