-- How much of pieces an image has.
use Rattle.std.proofs.Common.{◌≡◌, ◌≢◌, ℕ, zero, suc, ◌+◌, ◌-◌, ◌<◌, ◌≤◌, inl, inr, min, Bool, true, false, not, Option, None, Some, List, [], ◌∷◌, ◌++◌, length, get_or, map, take, drop, refl, sym, ap, subst, ◌∙◌, arith}
use Rattle.std.specs.Prelude.{bytes_eq, IfSome}
use Rattle.std.specs.List.{All}
use Rattle.std.specs.Option.{option_map}
use Rattle.std.proofs.Math.Seq.{take-add}
use Rattle.std.proofs.lemmas.Bool.{cases_lt}
use Rattle.std.proofs.lemmas.List.{drop_all, drop_more, length-take, length-drop}
use Rattle.std.proofs.lemmas.List.Elements.{All-cons, All-nil}
use Rattle.std.proofs.lemmas.Slice.Eq.{bytes_eq-Decides}
use Rattle.bx_image.specs.Cached.{HasCached}
use Rattle.bx_image.specs.declared.cached.Cached.{Cached}
use Rattle.bx_text.specs.declared.owned.pieces.Piece.{Piece}
use Rattle.bx_read.specs.Text.{contents}
use Rattle.bx_patch.specs.declared.other.Other.TheVariants.{Length, Bytes}
use Rattle.bx_patch.specs.declared.read.lengths.PatchLengths.{PatchLengths}
use Rattle.bx_patch.specs.Other.{DiffersFirst, HasFirstBytes, IsFirstOther, OtherDisagrees, has_other}
use Rattle.bx_patch.specs.Patch.{HasPiece, Pieces}
use Rattle.bx_patch.specs.Text.{differs}
use Rattle.bx_patch.specs.private.Other.{FindsAmong}
use Rattle.bx_patch.proofs.RowLemmas.{nested_take}

pub drop_twice : (n m : ℕ) (xs : List ℕ) → drop m (drop n xs) ≡ drop (n + m) xs
drop_twice zero m xs = ap (λ k. drop k xs) (omega arith)
drop_twice (suc n) m [] = drop_none m ∙ sym (drop_none (suc n + m))
  where
    drop_none : (k : ℕ) → drop {A = ℕ} k [] ≡ []
    drop_none zero = refl
    drop_none (suc k) = refl
drop_twice (suc n) m (x ∷ xs) =
    let count : suc n + m ≡ suc (n + m) = omega arith in
    drop_twice n m xs ∙ ap (λ k. drop k (x ∷ xs)) (sym count)

-- a byte of a page is one of the image
page_place : (x page : List ℕ) (k : Cached) (at n j : ℕ) → take k.count page ≡ take k.count (drop k.at x) → HasCached k at n → j < n
    → take 1 (drop j (take n (drop (at - k.at) page))) ≡ take 1 (drop (at + j) x)
page_place x page k at n j are has small =
    let m : ℕ = (at - k.at) + j in
    let behind = has.0 in
    let inside = has.1 in
    let place : 0 + m ≡ m = omega arith in
    let there : k.at + m ≡ at + j = omega arith in
    nested_take page (at - k.at) n j 1 (omega arith)
    ∙ ap (λ i. take 1 (drop i page)) (sym place) ∙ sym (nested_take page 0 k.count m 1 (omega arith))
    ∙ ap (λ l. take 1 (drop m l)) are
    ∙ nested_take x k.at k.count m 1 (omega arith) ∙ ap (λ i. take 1 (drop i x)) there

-- the bytes of a page at an address, beside those of a piece
module _ (x page bytes : List ℕ) (k : Cached) (at n : ℕ) (are : take k.count page ≡ take k.count (drop k.at x)) (has : HasCached k at n) where
  abbrev seen : List ℕ
  seen = take ((at - k.at) + n - (at - k.at)) (drop (at - k.at) page)

  seen_is : seen ≡ take n (drop (at - k.at) page)
  seen_is = let cut : (at - k.at) + n - (at - k.at) ≡ n = omega arith in ap (λ m. take m (drop (at - k.at) page)) cut

  place_is : (j : ℕ) → j < n → differs seen bytes j ≡ has_other x (at, bytes) j
  place_is j small =
      ap (λ l. differs l bytes j) seen_is
      ∙ ap (λ a. not (bytes_eq a (take 1 (drop j bytes)))) (page_place x page k at n j are has small)

  pub page_has : (same : ℕ) → same ≤ min (length seen) (length bytes) → ((j : ℕ) → j < same → differs seen bytes j ≡ false) → HasFirstBytes x (at, bytes) same
  page_has same most agree j below =
      let few : same ≤ n = omega (arith, most, ap length seen_is, length-take {A = ℕ} n (drop (at - k.at) page)) in
      sym (place_is j (omega arith)) ∙ agree j below

  pub page_other : k.count ≤ length page → 0 < n → (same : ℕ) → (same < min (length seen) (length bytes) → differs seen bytes same ≡ true) → same ≡ 0 → 0 < length bytes
      → has_other x (at, bytes) 0 ≡ true
  page_other inside some same other none longer =
      let reach = has.1 in
      let behind = has.0 in
      let long : 0 < min (length seen) (length bytes) =
      omega (arith, longer, ap length seen_is, length-take {A = ℕ} n (drop (at - k.at) page), length-drop {A = ℕ} (at - k.at) page) in
      let P : ℕ → Type 0 = λ s. s < min (length seen) (length bytes) → differs seen bytes s ≡ true in
      sym (place_is 0 some) ∙ subst P none other long

-- behind its end an image has no byte of a piece
pub none_there : (x bytes : List ℕ) (at : ℕ) → length x ≤ at → 0 < length bytes → has_other x (at, bytes) 0 ≡ true
none_there x [] at past some = absurd (omega arith)
none_there x (b ∷ bytes) at past some =
    let end : at + 0 ≡ at = omega arith in
    ap (λ l. not (bytes_eq (take 1 l) (b ∷ []))) (ap (λ i. drop i x) end ∙ drop_all at x past)

-- the rest of a piece, behind its first bytes
rest_is : (x bytes : List ℕ) (at done j : ℕ) → has_other x (at + done, drop done bytes) j ≡ has_other x (at, bytes) (done + j)
rest_is x bytes at done j =
    let place : at + done + j ≡ at + (done + j) = omega arith in
    ap (λ i. not (bytes_eq (take 1 (drop i x)) (take 1 (drop j (drop done bytes))))) place
    ∙ ap (λ l. not (bytes_eq (take 1 (drop (at + (done + j)) x)) (take 1 l))) (drop_twice done j bytes)

pub has_more : (x now bytes rest : List ℕ) (at done same : ℕ) → now ≡ x → rest ≡ drop done bytes → HasFirstBytes x (at, bytes) done → HasFirstBytes now (at + done, rest) same
    → HasFirstBytes x (at, bytes) (done + same)
has_more x now bytes rest at done same is behind before more j below = elim (cases_lt j done) as (λ _. has_other x (at, bytes) j ≡ false) [
  | inl early ↦ before j early
  | inr late ↦
      let place : done + (j - done) ≡ j = omega arith in
      let P : List ℕ → Type 0 = λ y. has_other y (at + done, rest) (j - done) ≡ false in
      let Q : List ℕ → Type 0 = λ r. has_other x (at + done, r) (j - done) ≡ false in
      ap (has_other x (at, bytes)) (sym place) ∙ sym (rest_is x bytes at done (j - done)) ∙ subst Q behind (subst P is (more (j - done) (omega arith)))
]

is_equal : (a b : List ℕ) → not (bytes_eq a b) ≡ false → a ≡ b
is_equal a b e = (bytes_eq-Decides a b).0 (back (bytes_eq a b) e)
  where
    back : (b : Bool) → not b ≡ false → b ≡ true
    back true e = refl
    back false e = cc

pub is_same : (a b : List ℕ) → a ≡ b → not (bytes_eq a b) ≡ false
is_same a b e = ap not ((bytes_eq-Decides a b).1 e)

-- an image that has each byte of a piece has the piece
pub whole_piece : (x bytes : List ℕ) (at : ℕ) → HasFirstBytes x (at, bytes) (length bytes) → HasPiece x (at, bytes)
whole_piece x [] at has = refl
whole_piece x (b ∷ bytes) at has =
    let first : take 1 (drop at x) ≡ b ∷ [] =
    let end : at + 0 ≡ at = omega arith in
    ap (λ i. take 1 (drop i x)) (sym end) ∙ is_equal (take 1 (drop (at + 0) x)) (b ∷ []) (has 0 (omega arith)) in
    let next : HasPiece x (at + 1, bytes) = whole_piece x bytes (at + 1) (λ j below.
    let place : at + 1 + j ≡ at + suc j = omega arith in
    ap (λ i. not (bytes_eq (take 1 (drop i x)) (take 1 (drop j bytes)))) place ∙ has (suc j) (omega arith)) in
    let count : suc (length bytes) ≡ 1 + length bytes = omega arith in
    ap (λ n. take n (drop at x)) count ∙ take-add 1 (length bytes) (drop at x) ∙ ap (λ t. t ++ take (length bytes) (drop 1 (drop at x))) first
    ∙ ap (λ l. (b ∷ []) ++ take (length bytes) l) (drop_twice at 1 x) ∙ ap (λ t. (b ∷ []) ++ t) next

-- and the other way round
piece_has : (x bytes : List ℕ) (at j : ℕ) → j < length bytes → HasPiece x (at, bytes) → has_other x (at, bytes) j ≡ false
piece_has x bytes at j small has =
    is_same (take 1 (drop (at + j) x)) (take 1 (drop j bytes))
    (sym (nested_take x at (length bytes) j 1 (omega arith)) ∙ ap (λ l. take 1 (drop j l)) has)

-- one piece more that the image has
pub among_more : {A : Type 0} (x : List ℕ) (pieces : List (Piece A)) (i : ℕ) (piece : Piece A) → i < length pieces → HasPiece x (piece.at, piece.bytes)
    → drop i pieces ≡ piece ∷ drop (i + 1) pieces
    → ((a : Option ℕ) → FindsAmong x (contents (drop i pieces)) a → FindsAmong x (contents pieces) a)
    → (a : Option ℕ) → FindsAmong x (contents (drop (i + 1) pieces)) a → FindsAmong x (contents pieces) a
among_more {A = A} x pieces i piece within has next leads a found =
    let P : List (Piece A) → Type 0 = λ l. FindsAmong x (contents l) a in
    leads a (subst P (sym next) (step a found))
  where
    step : (a : Option ℕ) → FindsAmong x (contents (drop (i + 1) pieces)) a → FindsAmong x (contents (piece ∷ drop (i + 1) pieces)) a
    step None all = All-cons (HasPiece x) (piece.at, piece.bytes) (contents (drop (i + 1) pieces)) has all
    step (Some at) later = inr (has, later)

-- the pieces up to one that the image hasn't
pub among_here : {A : Type 0} (x now bytes : List ℕ) (pieces : List (Piece A)) (i same : ℕ) (piece : Piece A) → now ≡ x → bytes ≡ piece.bytes → i < length pieces → piece ≡ get_or pieces i piece
    → ((a : Option ℕ) → FindsAmong x (contents (drop i pieces)) a → FindsAmong x (contents pieces) a)
    → same < length bytes → HasFirstBytes now (piece.at, bytes) same → (same < length bytes → has_other now (piece.at, bytes) same ≡ true)
    → FindsAmong x (contents pieces) (Some (piece.at + same))
among_here {A = A} x now bytes pieces i same piece is text within here leads small has other =
    let next : drop i pieces ≡ piece ∷ drop (i + 1) pieces = drop_more pieces i piece within ∙ ap (λ p. p ∷ drop (i + 1) pieces) (sym here) in
    let P : List (Piece A) → Type 0 = λ l. FindsAmong x (contents l) (Some (piece.at + same)) in
    let Q : List ℕ → Type 0 = λ y. DiffersFirst y (piece.at, bytes) same in
    let R : List ℕ → Type 0 = λ b. DiffersFirst x (piece.at, b) same in
    leads (Some (piece.at + same)) (subst P (sym next) (inl (same, subst R text (subst Q is (small, has, other small)), refl)))

-- one piece more that the image has
pub among_next : {A : Type 0} (x now bytes : List ℕ) (pieces : List (Piece A)) (i same : ℕ) (piece : Piece A) → now ≡ x → bytes ≡ piece.bytes → i < length pieces → piece ≡ get_or pieces i piece
    → ((a : Option ℕ) → FindsAmong x (contents (drop i pieces)) a → FindsAmong x (contents pieces) a)
    → same ≤ length bytes → length bytes ≤ same → HasFirstBytes now (piece.at, bytes) same
    → (a : Option ℕ) → FindsAmong x (contents (drop (i + 1) pieces)) a → FindsAmong x (contents pieces) a
among_next {A = A} x now bytes pieces i same piece is text within here leads most least has =
    let next : drop i pieces ≡ piece ∷ drop (i + 1) pieces = drop_more pieces i piece within ∙ ap (λ p. p ∷ drop (i + 1) pieces) (sym here) in
    let all : same ≡ length bytes = omega arith in
    let P : ℕ → Type 0 = λ n. HasFirstBytes now (piece.at, bytes) n in
    let Q : List ℕ → Type 0 = λ y. HasPiece y (piece.at, bytes) in
    let R : List ℕ → Type 0 = λ b. HasPiece x (piece.at, b) in
    among_more x pieces i piece within (subst R text (subst Q is (whole_piece now bytes piece.at (subst P all has)))) next leads

-- behind the last piece nothing was found
pub among_none : {A : Type 0} (x : List ℕ) (pieces : List (Piece A)) (i : ℕ) → length pieces ≤ i
    → ((a : Option ℕ) → FindsAmong x (contents (drop i pieces)) a → FindsAmong x (contents pieces) a) → FindsAmong x (contents pieces) None
among_none {A = A} x pieces i past leads =
    let P : List (Piece A) → Type 0 = λ l. FindsAmong x (contents l) None in
    leads None (subst P (sym (drop_all i pieces past)) (All-nil (HasPiece x)))

-- the pieces that a patch writes, as a change has them
pub written_pieces : {A : Type 0} (pieces : List (Piece A)) → pieces ≡ map (λ (piece : ℕ × List ℕ). let p : Piece A = record { at = piece.0; bytes = piece.1 } in p) (contents pieces)
written_pieces [] = refl
written_pieces (piece ∷ pieces) = ap (λ rest. piece ∷ rest) (written_pieces pieces)

-- the lengths that a patch states
abbrev stated : Option PatchLengths → Option (ℕ × ℕ)
stated lengths = option_map (λ lengths. (lengths.old, lengths.new)) lengths

pub is_long : (lengths : Option PatchLengths) (x : List ℕ) (len : ℕ) → len ≡ length x → IfSome lengths (λ lengths. len ≡ lengths.old)
    → IfSome (stated lengths) (λ lengths. length x ≡ lengths.0)
is_long None x len is same = tt
is_long (Some lengths) x len is same = sym is ∙ same

pub is_other_length : (lengths : Option PatchLengths) (x : List ℕ) (len n : ℕ) → len ≡ length x → (l : PatchLengths) × (lengths ≡ Some l) × (n ≡ l.old) × (len ≢ n)
    → (l : ℕ × ℕ) × (stated lengths ≡ Some l) × (n ≡ l.0) × (length x ≢ n)
is_other_length lengths x len n is (l, has, told, unlike) = ((l.old, l.new), ap stated has, told, λ e. unlike (is ∙ e))

-- an image that has anything otherwise doesn't agree
first_disagrees : (x : List ℕ) (pieces : Pieces) (at : ℕ) → IsFirstOther x pieces at → All (HasPiece x) pieces → ⊥
first_disagrees x [] at other all = other
first_disagrees x (piece ∷ pieces) at (inl (i, (small, has, other), is)) all =
    let same = piece_has x piece.1 piece.0 i small (all 0 piece (omega arith)) in
    let bad : false ≡ true = sym same ∙ other in cc
first_disagrees x (piece ∷ pieces) at (inr (has, later)) all = first_disagrees x pieces at later (λ k d within. all (suc k) d (omega arith))

pub other_disagrees : OtherDisagrees
other_disagrees p x (Length n) (lengths, is, told, unlike) agrees =
    let P : Option (ℕ × ℕ) → Type 0 = λ o. IfSome o (λ lengths. length x ≡ lengths.0) in
    unlike (subst P is agrees.long ∙ sym told)
other_disagrees p x (Bytes at) (long, first) agrees = first_disagrees x p.expected at first agrees.has
