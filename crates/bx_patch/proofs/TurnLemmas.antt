-- A patch that is turned round.
use Rattle.std.proofs.Common.{◌≡◌, ◌⊎◌, ℕ, ◌+◌, ◌-◌, ◌<◌, ◌≤◌, eqb, Bool, true, false, cond, Option, None, Some, List, [], ◌∷◌, length, take, drop, slice_index, inl, inr, refl, ap, subst, ◌∙◌, arith}
use Rattle.std.specs.List.{All}
use Rattle.std.proofs.lemmas.Bool.{cases_lt}
use Rattle.std.proofs.lemmas.Bool.Decides.{nat_tests}
use Rattle.std.proofs.lemmas.List.{length-take, length-drop, places}
use Rattle.bx_image.specs.Change.{effect, placed}
use Rattle.bx_image.specs.Image.{place, end_of}
use Rattle.bx_image.proofs.Images.{same_image, length-place, slice_index-place_within, slice_index-place_below, slice_index-place_above}
use Rattle.bx_patch.specs.Grammar.{IsInLengths}
use Rattle.bx_patch.specs.Laws.{TurnedMakesOld}
use Rattle.bx_patch.specs.Patch.{Agrees, AreInOrder, Asked, HasPiece, Pieces, HasByteAt, TurnsRound, new_length, patch_change, reversed}
use Rattle.bx_patch.proofs.MakesLemmas.{EachIn, all_in, brought, brought_byte, each_in, makes_side, piece_end, tells, writes}

-- a place that isn't reached keeps its byte
other_byte : (A : Type 0) (ps : Pieces) (z : List ℕ) (i : ℕ) → (HasByteAt ps i → ⊥) → slice_index (placed {A = A} (writes ps) z) i ≡ slice_index z i
unfolding placed
other_byte A [] z i apart = refl
other_byte A (p ∷ ps) z i apart =
    other_byte A ps (place z p.0 p.1) i (λ later. apart (inr later)) ∙ elim (cases_lt i p.0) [
      | inl below ↦ slice_index-place_below z p.0 p.1 i below
      | inr above ↦ elim (cases_lt i (p.0 + length p.1)) [ inl within ↦ absurd (apart (inl (above, within))) | inr behind ↦ slice_index-place_above z p.0 p.1 i behind ]
    ]

-- pieces in order reach no place in front of them
pub not_before : (from : ℕ) (ps : Pieces) (i : ℕ) → AreInOrder from ps → i < from → HasByteAt ps i → ⊥
not_before from [] i order less h = h
not_before from (p ∷ ps) i order less (inl here) = omega (arith, here.0, order.0, less)
not_before from (p ∷ ps) i order less (inr later) = not_before (p.0 + length p.1) ps i order.1 (omega (arith, order.0, less)) later

-- how long an image is in which pieces are placed
keeps_length : (A : Type 0) (n : ℕ) (ps : Pieces) (z : List ℕ) → ((i : ℕ) → HasByteAt ps i → i < n) → length z ≡ n → length (placed {A = A} (writes ps) z) ≡ n
unfolding placed
keeps_length A n [] z inside long = long
keeps_length A n (p ∷ ps) z inside long =
    keeps_length A n ps (place z p.0 p.1) (λ i later. inside i (inr later)) (length-place z p.0 p.1 ∙ omega (arith, long, ends p.1 (λ i here. inside i (inl here))))
  where
    ends : (bytes : List ℕ) → ((i : ℕ) → (p.0 ≤ i) × (i < p.0 + length bytes) → i < n) → end_of p.0 bytes ≤ n
    ends [] inside = omega arith
    ends (b ∷ bytes) inside = omega (arith, inside (p.0 + length bytes) (omega arith, omega arith))

longer : (A : Type 0) (ps : Pieces) (z : List ℕ) → length z ≤ length (placed {A = A} (writes ps) z)
unfolding placed
longer A [] z = omega arith
longer A (p ∷ ps) z = omega (arith, longer A ps (place z p.0 p.1), length-place z p.0 p.1)

-- an image has a piece whose bytes it has, one by one
has_bytes : (t : List ℕ) (at : ℕ) (bytes : List ℕ) → end_of at bytes ≤ length t → ((i : ℕ) → at ≤ i → i < at + length bytes → slice_index t i ≡ slice_index bytes (i - at)) → HasPiece t (at, bytes)
has_bytes t at bytes fits are = same_image (take (length bytes) (drop at t)) bytes (len bytes fits) by
  where
    len : (bytes : List ℕ) → end_of at bytes ≤ length t → length (take (length bytes) (drop at t)) ≡ length bytes
    len [] fits = omega (arith, length-take {A = ℕ} 0 (drop at t))
    len (b ∷ bytes) fits = omega (arith, fits, length-take {A = ℕ} (length (b ∷ bytes)) (drop at t), length-drop {A = ℕ} at t)

    by : (i : ℕ) → i < length (take (length bytes) (drop at t)) → slice_index (take (length bytes) (drop at t)) i ≡ slice_index bytes i
    by i inside =
        let small : i < length bytes = omega (arith, inside, length-take {A = ℕ} (length bytes) (drop at t)) in
        let first : slice_index (take (length bytes) (drop at t)) i ≡ slice_index t (at + i) = grind (arith, places) in
        let back : (at + i) - at ≡ i = omega arith in
        first ∙ are (at + i) (omega arith) (omega (arith, small)) ∙ ap (λ k. slice_index bytes k) back

-- pieces that were placed in order are there
own_pieces : (A : Type 0) (from : ℕ) (ps : Pieces) (z : List ℕ) → AreInOrder from ps → EachIn (placed {A = A} (writes ps) z) ps
unfolding placed
own_pieces A from [] z order = tt
own_pieces A from (p ∷ ps) z order = (
  has_bytes (placed {A = A} (writes ps) (place z p.0 p.1)) p.0 p.1 (omega (arith, longer A ps (place z p.0 p.1), length-place z p.0 p.1))
      (λ i above below. other_byte A ps (place z p.0 p.1) i (not_before (p.0 + length p.1) ps i order.1 below) ∙ slice_index-place_within z p.0 p.1 i above below),
  own_pieces A (p.0 + length p.1) ps (place z p.0 p.1) order.1,
)

-- a place of pieces that are in an image is one of the image
reached_inside : (t : List ℕ) (ps : Pieces) (i : ℕ) → EachIn t ps → HasByteAt ps i → i < length t
reached_inside t [] i each h = absurd h
reached_inside t (p ∷ ps) i each (inr later) = reached_inside t ps i each.1 later
reached_inside t (p ∷ ps) i each (inl here) = by p.1 here.0 here.1 each.0
  where
    by : (bytes : List ℕ) → p.0 ≤ i → i < p.0 + length bytes → HasPiece t (p.0, bytes) → i < length t
    by [] above below has = absurd (omega (arith, above, below))
    by (b ∷ bytes) above below has = omega (arith, below, piece_end t p.0 (b ∷ bytes) has)

is_reached : (ps : Pieces) (i : ℕ) → HasByteAt ps i ⊎ (HasByteAt ps i → ⊥)
is_reached [] i = inr (λ h. h)
is_reached (p ∷ ps) i = elim (is_reached ps i) [
  | inl later ↦ inl (inr later)
  | inr none ↦ elim (cases_lt i p.0) [
    | inl below ↦ inr (λ h. elim h [ inl here ↦ absurd (omega (arith, here.0, below)) | inr later ↦ none later ])
    | inr above ↦ elim (cases_lt i (p.0 + length p.1)) [
      | inl within ↦ inl (inl (above, within))
      | inr behind ↦ inr (λ h. elim h [ inl here ↦ absurd (omega (arith, here.1, behind)) | inr later ↦ none later ])
    ]
  ]
]

-- no length is set where both are the same
none_same : (n m : ℕ) → n ≡ m → new_length (n, m) ≡ None
none_same n m e = go (eqb n m) refl
  where
    go : (b : Bool) → eqb n m ≡ b → cond b None (Some m) ≡ None
    go true t = refl
    go false f = let h : eqb n m ≡ true = grind (arith, nat_tests, e) in cc

-- turned round, the patch makes the old image of the new one
abbrev Turned : (A : Type 0) → List ℕ → Pieces → Pieces → Option (ℕ × ℕ) → Type 0
Turned A x e w l =
    let p : Asked = record { lengths = l; expected = e; written = w } in
    let y = effect {A = A} (patch_change p) x in Agrees (reversed p) y × (effect {A = A} (patch_change (reversed p)) y ≡ x)

module _ (A : Type 0) (x : List ℕ) (e w : Pieces) (has : All (HasPiece x) e) (order : AreInOrder 0 w) where
  -- the change back, from an image of this length
  back : (y : List ℕ) → ((i : ℕ) → i < length x → (slice_index y i ≡ slice_index x i) ⊎ HasByteAt e i) →
      effect {A = A} (record { base = new_length (length y, length x); writes = writes e }) y ≡ x
  back y have = makes_side A y x e (each_in x e has) have

  turned_alike : ((i : ℕ) → HasByteAt w i → HasByteAt e i) → Turned A x e w None
  unfolding effect
  turned_alike told =
      let y : List ℕ = placed {A = A} (writes w) x in
      let long : length y ≡ length x = keeps_length A (length x) w x (λ i here. reached_inside x e i (each_in x e has) (told i here)) refl in
      let have : (i : ℕ) → i < length x → (slice_index y i ≡ slice_index x i) ⊎ HasByteAt e i =
      λ i inside. elim (is_reached e i) [ inl here ↦ inr here | inr none ↦ inl (other_byte A w x i (λ here. none (told i here))) ] in
      let P : Option ℕ → Type 0 = λ b. effect {A = A} (record { base = b; writes = writes e }) y ≡ x in (
        record { long = tt; has = all_in y w (own_pieces A 0 w x order) },
        subst P (none_same (length y) (length x) long) (back y have),
      )

  turned_lengths : (l : ℕ × ℕ) → length x ≡ l.0 → length (placed {A = A} (writes w) (brought x l.0 l.1)) ≡ l.1 → ((i : ℕ) → (i < l.0) × (i < l.1) → HasByteAt w i → HasByteAt e i) →
      ((i : ℕ) → (l.1 ≤ i) × (i < l.0) → HasByteAt e i) → Turned A x e w (Some l)
  unfolding effect brought
  turned_lengths l first long told cut =
      let z : List ℕ = brought x l.0 l.1 in
      let y : List ℕ = placed {A = A} (writes w) z in
      let have : (i : ℕ) → i < length x → (slice_index y i ≡ slice_index x i) ⊎ HasByteAt e i =
      λ i inside. elim (is_reached e i) [
        | inl here ↦ inr here
        | inr none ↦ elim (cases_lt i l.1) [
          | inl below ↦ inl (other_byte A w z i (λ here. none (told i (omega (arith, inside, first), below) here)) ∙ brought_byte x l.0 l.1 i below)
          | inr behind ↦ absurd (none (cut i (behind, omega (arith, inside, first))))
        ]
      ] in
      let P : ℕ → ℕ → Type 0 = λ n m. effect {A = A} (record { base = new_length (n, m); writes = writes e }) y ≡ x in (
        record { long = long; has = all_in y w (own_pieces A 0 w z order) },
        subst (λ (n : ℕ). P n l.0) long (subst (λ (m : ℕ). P (length y) m) first (back y have)),
      )

turned : (A : Type 0) (x : List ℕ) (l : Option (ℕ × ℕ)) (e w : Pieces) → IsInLengths (record { lengths = l; expected = e; written = w }) →
    Agrees (record { lengths = l; expected = e; written = w }) x → TurnsRound (record { lengths = l; expected = e; written = w }) → Turned A x e w l
unfolding effect brought
turned A x None e w fits agrees turns = turned_alike A x e w agrees.has turns.new_order (λ i here. turns.told i tt here)
turned A x (Some l) e w fits agrees turns =
    turned_lengths A x e w agrees.has turns.new_order l agrees.long (tells A (Some l) e w x fits agrees) (λ i below here. turns.told i below here) (λ i cut. turns.cut i cut)

pub turned_makes_old : (A : Type 0) → TurnedMakesOld A
turned_makes_old A text x p is agrees turns = turned A x p.lengths p.expected p.written is.before.fits agrees turns
