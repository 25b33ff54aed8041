-- Pieces in order: those that a search leaves out don't reach into the window.
use Rattle.std.proofs.Common.{◌≡◌, ◌⊎◌, ℕ, zero, suc, ◌+◌, ◌<◌, ◌≤◌, inl, inr, false, List, [], ◌∷◌, length, take, drop, get_or, refl, ap, subst, sym, arith}
use Rattle.std.specs.List.{AllWithin}
use Rattle.std.proofs.lemmas.Bool.{cases_lt, cases_Bool}
use Rattle.std.proofs.lemmas.Bool.Decides.{nat_tests}
use Rattle.std.proofs.lemmas.List.{get_or_default, get_or-drop, length-drop}
use Rattle.std.proofs.lemmas.List.Folds.{list_any_none}
use Rattle.std.proofs.lemmas.List.Sorted.{IsNonDecreasingBy-take}
use Rattle.bx_text.specs.declared.owned.pieces.Piece.{Piece}
use Rattle.bx_image.specs.Change.{placed}
use Rattle.bx_image.specs.Image.{is_within, place}
use Rattle.bx_image.specs.private.Change.{is_covered}
use Rattle.bx_patch.specs.private.preview.Order.{AreByPlace}
use Rattle.bx_patch.specs.private.preview.Window.{IsWindow}
use Rattle.bx_patch.proofs.ChangedWindow.{piece_before, piece_behind}

-- first some pieces are placed, then the rest
placed_split : {A : Type 0} (n : ℕ) (ps : List (Piece A)) (y : List ℕ) → placed ps y ≡ placed (drop n ps) (placed (take n ps) y)
unfolding placed
placed_split zero ps y = refl
placed_split (suc n) [] y = refl
placed_split (suc n) (p ∷ ps) y = placed_split n ps (place y p.at p.bytes)

-- pieces that end before a window
front_kept : {A : Type 0} (window : List ℕ) (at n : ℕ) (ps : List (Piece A)) (y : List ℕ) → AllWithin (λ p. p.at + length p.bytes ≤ at) ps 0 n → n ≤ length ps
    → IsWindow window at y → IsWindow window at (placed (take n ps) y)
unfolding placed
front_kept window at zero ps y ended most win = win
front_kept window at (suc n) [] y ended most win = win
front_kept {A = A} window at (suc n) (p ∷ ps) y ended most win =
    front_kept window at n ps (place y p.at p.bytes) (λ k d low high. ended (suc k) d (omega arith) (omega (arith, high))) (omega (arith, most))
    (piece_before window y p.bytes at p.at (ended 0 p (omega arith) (omega arith)) win)

-- pieces that begin behind it
rest_kept : {A : Type 0} (window : List ℕ) (at : ℕ) (ps : List (Piece A)) (y : List ℕ) → AllWithin (λ p. at + length window ≤ p.at) ps 0 (length ps)
    → IsWindow window at y → IsWindow window at (placed ps y)
unfolding placed
rest_kept window at [] y behind win = win
rest_kept window at (p ∷ ps) y behind win =
    rest_kept window at ps (place y p.at p.bytes) (λ k d low high. behind (suc k) d (omega arith) (omega (arith, high)))
    (piece_behind window y p.bytes at p.at (behind 0 p (omega arith) (omega arith)) win)

-- so only those that reach into it are put
pub reached : {A : Type 0} (old new : List ℕ) (at begun ended : ℕ) (ps : List (Piece A)) (y : List ℕ) → length new ≡ length old → begun ≤ length ps
    → ended ≤ length (take begun ps) → AllWithin (λ p. at + length old ≤ p.at) ps begun (length ps)
    → AllWithin (λ p. p.at + length p.bytes ≤ at) (take begun ps) 0 ended
    → ((z : List ℕ) → IsWindow old at z → IsWindow new at (placed (drop ended (take begun ps)) z)) → IsWindow old at y → IsWindow new at (placed ps y)
reached {A = A} old new at begun ended ps y long most least behind before put win =
    let first = take begun ps in
    let P : List ℕ → Type 0 = λ z. IsWindow new at z in
    let put_now = subst P (sym (placed_split ended first y)) (put (placed (take ended first) y) (front_kept old at ended first y before least win)) in
    subst P (sym (placed_split begun ps y)) (rest_kept new at (drop begun ps) (placed first y) there put_now)
  where
    there : AllWithin (λ (p : Piece A). at + length new ≤ p.at) (drop begun ps) 0 (length (drop begun ps))
    there k d low high =
        let Q : Piece A → Type 0 = λ p. at + length new ≤ p.at in
        subst Q (sym (get_or-drop begun ps k d)) (rw long (behind (begun + k) d (omega arith) (omega (arith, high, length-drop {A = Piece A} begun ps))))

-- what is in order still is where a part is taken
pub ordered_front : {A : Type 0} (n : ℕ) (ps : List (Piece A)) → AreByPlace ps → AreByPlace (take n ps)
ordered_front n ps is = (IsNonDecreasingBy-take (λ p. p.at) n ps is.0, IsNonDecreasingBy-take (λ p. p.at + length p.bytes) n ps is.1)

-- an address outside of a piece
pub outside : (at : ℕ) (bytes : List ℕ) (j : ℕ) → (j < at) ⊎ (at + length bytes ≤ j) → is_within at bytes j ≡ false
outside at bytes j out = elim (cases_Bool (is_within at bytes j)) [
  | inl within ↦ absurd (grind (arith, nat_tests))
  | inr without ↦ without
]

-- an address behind the end of all pieces
pub none_behind : {A : Type 0} (ps : List (Piece A)) (n at j : ℕ) → length ps ≤ n → AllWithin (λ p. p.at + length p.bytes ≤ at) ps 0 n → at ≤ j → is_covered ps j ≡ false
none_behind {A = A} ps n at j all ended above = list_any_none (λ p. is_within p.at p.bytes j) ps (λ k d h.
    let end = ended k d (omega arith) (omega (arith, h, all)) in
    outside (get_or ps k d).at (get_or ps k d).bytes j (inr (omega (arith, end, above))))

-- and one before the next piece
pub none_before : {A : Type 0} (ps : List (Piece A)) (n : ℕ) (p : Piece A) (at j : ℕ) → AreByPlace ps → n < length ps → p ≡ get_or ps n p
    → AllWithin (λ p. p.at + length p.bytes ≤ at) ps 0 n → at ≤ j → j < p.at → is_covered ps j ≡ false
none_before {A = A} ps n p at j order within read ended above below = list_any_none (λ p. is_within p.at p.bytes j) ps (λ k d h. elim (cases_lt k n) [
  | inl front ↦
      let end = ended k d (omega arith) front in
      outside (get_or ps k d).at (get_or ps k d).bytes j (inr (omega (arith, end, above)))
  | inr rest ↦
      let start = order.0 n k p rest h in
      let next : p.at ≤ (get_or ps n p).at = omega (arith, ap (λ (q : Piece A). q.at) read) in
      let same : get_or ps k p ≡ get_or ps k d = get_or_default ps k p d h in
      outside (get_or ps k d).at (get_or ps k d).bytes j (inl (omega (arith, start, next, below, ap (λ (q : Piece A). q.at) same)))
])
