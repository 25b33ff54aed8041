-- An index of pieces: those that it doesn't name in a window don't reach into it.
use Rattle.std.proofs.Common.{◌≡◌, ℕ, zero, suc, ◌+◌, ◌-◌, ◌*◌, ◌/◌, ◌<◌, ◌≤◌, inl, inr, false, List, [], length, take, drop, get_or, ap, subst, sym, ◌∙◌, arith}
use Rattle.std.specs.List.{AllWithin, Contains}
use Rattle.std.specs.List.Sorted.{IsNonDecreasing}
use Rattle.std.proofs.lemmas.Bool.{cases_lt}
use Rattle.std.proofs.lemmas.List.{get_or_default, get_or-take, get_or-drop, length-take, length-drop}
use Rattle.std.proofs.lemmas.List.Folds.{list_any_none}
use Rattle.bx_text.specs.declared.owned.pieces.Piece.{Piece}
use Rattle.bx_image.specs.Change.{placed}
use Rattle.bx_image.specs.Image.{is_within, place}
use Rattle.bx_image.specs.private.Change.{is_covered}
use Rattle.bx_image.proofs.Changes.{placed_more, placed_all}
use Rattle.bx_patch.specs.preview.Index.{IsIndexOf, key_of}
use Rattle.bx_patch.specs.private.preview.Window.{AreFoundFor, IsOutside, IsWindow}
use Rattle.bx_patch.proofs.ChangedWindow.{piece_before, piece_behind}
use Rattle.bx_patch.proofs.ChangesOrder.{outside}

-- what an index has of a window stands between the names below it and those behind
pub found_all : (keys : List ℕ) (first end low high k : ℕ) → AllWithin (λ x. end ≤ x) keys high (length keys)
    → AllWithin (λ x. x < first) (take high keys) 0 low → first ≤ k → k < end → Contains keys k → Contains (drop low (take high keys)) k
found_all keys first end low high k rest below above less (q, inside, is) = (q - low, within, there)
  where
    before : q < high
    before = elim (cases_lt q high) [
      | inl b ↦ b
      | inr over ↦ absurd (omega (arith, rest q k over inside, is, less))
    ]

    front : get_or (take high keys) q k ≡ k
    front = get_or-take high keys q k before ∙ is

    behind : low ≤ q
    behind = elim (cases_lt q low) [
      | inl b ↦ absurd (omega (arith, below q k (omega arith) b, front, above))
      | inr over ↦ over
    ]

    within : q - low < length (drop low (take high keys))
    within = omega (arith, inside, before, behind, length-drop low (take high keys), length-take high keys)

    at_q : low + (q - low) ≡ q
    at_q = omega (arith, behind)

    there : get_or (drop low (take high keys)) (q - low) k ≡ k
    there = get_or-drop low (take high keys) (q - low) k ∙ ap (λ m. get_or (take high keys) m k) at_q ∙ front

-- a piece before the one that is named next is outside
pub skipped : {A : Type 0} (names : List ℕ) (first : ℕ) (ps : List (Piece A)) (at n m index done number : ℕ) → AreFoundFor names first ps at n → IsNonDecreasing names
    → m ≡ n → number + first ≡ get_or names index 0 → AllWithin (λ x. x < first + length ps → x < first + done) names 0 index
    → (k : ℕ) (d : Piece A) → done ≤ k → k < number → k < length ps → IsOutside at m (get_or ps k d)
skipped {A = A} names first ps at n m index done number found rise same read passed k d low high inside = elim (found k d inside) [
  | inl out ↦ subst (λ c. IsOutside at c (get_or ps k d)) (sym same) out
  | inr has ↦ absurd (has (λ (q, within, is). elim (cases_lt q index) [
    | inl before ↦ omega (arith, passed q (first + k) (omega arith) before (omega (arith, is, inside)), is, low)
    | inr behind ↦ omega (arith, rise index q (first + k) behind within, is, high, read, get_or_default names index (first + k) 0 (omega (arith, behind, within)))
  ]))
]

-- the names so far, with one more
pub passed_more : (names : List ℕ) (first len done next index number : ℕ) → index < length names → number + first ≡ get_or names index 0 → done ≤ next
    → (number < len → number < next) → AllWithin (λ x. x < first + len → x < first + done) names 0 index
    → AllWithin (λ x. x < first + len → x < first + next) names 0 (index + 1)
passed_more names first len done next index number within read more behind passed k d low high small = elim (cases_lt k index) [
  | inl before ↦ omega (arith, passed k d low before small, more)
  | inr last ↦
      let same : k ≡ index = omega (arith, last, high) in
      let this : get_or names k d ≡ number + first = ap (λ m. get_or names m d) same ∙ get_or_default names index d 0 within ∙ sym read in
      omega (arith, this, small, behind (omega (arith, this, small)))
]

-- behind the last name there is none
pub skipped_rest : {A : Type 0} (names : List ℕ) (first : ℕ) (ps : List (Piece A)) (at n m index done : ℕ) → AreFoundFor names first ps at n
    → m ≡ n → length names ≤ index → AllWithin (λ x. x < first + length ps → x < first + done) names 0 index
    → (k : ℕ) (d : Piece A) → done ≤ k → k < length ps → IsOutside at m (get_or ps k d)
skipped_rest {A = A} names first ps at n m index done found same all passed k d low inside = elim (found k d inside) [
  | inl out ↦ subst (λ c. IsOutside at c (get_or ps k d)) (sym same) out
  | inr has ↦ absurd (has (λ (q, within, is).
      omega (arith, passed q (first + k) (omega arith) (omega (arith, within, all)) (omega (arith, is, inside)), is, low)))
]

-- a piece outside of a window
outside_kept : {A : Type 0} (window : List ℕ) (at n : ℕ) (p : Piece A) (z : List ℕ) → n ≡ length window → IsOutside at n p → IsWindow window at z
    → IsWindow window at (place z p.at p.bytes)
outside_kept window at n p z long (inl behind) win = piece_behind window z p.bytes at p.at (omega (arith, behind, long)) win
outside_kept window at n p z long (inr before) win = piece_before window z p.bytes at p.at before win

-- pieces outside of a window are in it already
pub advance : {A : Type 0} (window : List ℕ) (at n : ℕ) (ps : List (Piece A)) (count done stop : ℕ) (x z : List ℕ) → n ≡ length window → stop ≡ done + count
    → stop ≤ length ps → ((k : ℕ) (d : Piece A) → done ≤ k → k < stop → IsOutside at n (get_or ps k d)) → IsWindow window at z → placed (drop done ps) z ≡ x
    → (y : List ℕ) × IsWindow window at y × (placed (drop stop ps) y ≡ x)
advance window at n ps zero done stop x z long same most out win leads =
    let here : done ≡ stop = omega (arith, same) in
    (z, win, subst (λ m. placed (drop m ps) z ≡ x) here leads)
advance {A = A} window at n ps (suc count) done stop x z long same most out win leads =
    advance window at n ps count (done + 1) stop x (place z p.at p.bytes) long (omega (arith, same)) most (λ k d low high. out k d (omega (arith, low)) high)
    (outside_kept window at n p z long (out done none (omega arith) below) win) (sym (placed_more ps done p z within read) ∙ leads)
  where
    none : Piece A
    none = record { at = 0; bytes = [] }

    p : Piece A
    p = get_or ps done none

    below : done < stop
    below = omega (arith, same)

    within : done < length ps
    within = omega (arith, below, most)

    read : p ≡ get_or ps done p
    read = get_or_default ps done none p within

-- one more piece is put behind those outside of the window
pub put_one : {A : Type 0} (window next : List ℕ) (at n : ℕ) (ps : List (Piece A)) (done i : ℕ) (piece : Piece A) (x z : List ℕ) → n ≡ length window → done ≤ i
    → i < length ps → piece ≡ get_or ps i piece → ((k : ℕ) (d : Piece A) → done ≤ k → k < i → k < length ps → IsOutside at n (get_or ps k d))
    → ((y : List ℕ) → IsWindow window at y → IsWindow next at (place y piece.at piece.bytes)) → IsWindow window at z → placed (drop done ps) z ≡ x
    → (y : List ℕ) × IsWindow next at y × (placed (drop (i + 1) ps) y ≡ x)
put_one window next at n ps done i piece x z long least inside read out put win leads =
    let (y, now, left) = advance window at n ps (i - done) done i x z long (omega (arith, least)) (omega (arith, inside))
    (λ k d low high. out k d low high (omega (arith, high, inside))) win leads in
    (place y piece.at piece.bytes, put y now, sym (placed_more ps i piece y inside read) ∙ left)

-- and at the end all are
pub put_rest : {A : Type 0} (window : List ℕ) (at n : ℕ) (ps : List (Piece A)) (done : ℕ) (x z : List ℕ) → n ≡ length window → done ≤ length ps
    → ((k : ℕ) (d : Piece A) → done ≤ k → k < length ps → IsOutside at n (get_or ps k d)) → IsWindow window at z → placed (drop done ps) z ≡ x → IsWindow window at x
put_rest window at n ps done x z long most out win leads =
    let (y, now, left) = advance window at n ps (length ps - done) done (length ps) x z long (omega (arith, most)) (omega arith) out win leads in
    subst (λ w. IsWindow window at w) (sym (placed_all ps (length ps) y (omega arith)) ∙ left) now

-- what an index has is found
pub found_for : {A : Type 0} (keys found : List ℕ) (ps : List (Piece A)) (window at n : ℕ) → IsIndexOf keys ps → window * 32768 ≤ at → at + n ≤ window * 32768 + 32768
    → ((k : ℕ) → window * 1073741824 ≤ k → k < window * 1073741824 + 1073741824 → Contains keys k → Contains found k) → AreFoundFor found (window * 1073741824) ps at n
found_for {A = A} keys found ps window at n index least most all i d inside = elim (cases_lt (get_or ps i d).at (at + n)) [
  | inr behind ↦ inl (inl behind)
  | inl begun ↦ elim (cases_lt at ((get_or ps i d).at + length (get_or ps i d).bytes)) [
    | inr before ↦ inl (inr before)
    | inl reaches ↦ inr (λ none. index.2 i d window inside (omega (arith, begun, most), omega (arith, least, reaches)) (λ has.
        none (all (key_of window i) (omega arith) (omega (arith, inside, index.0)) has)))
  ]
]

-- no piece has an address before the first window that one meets
pub none_met : {A : Type 0} (keys : List ℕ) (ps : List (Piece A)) (at count j stop : ℕ) → IsIndexOf keys ps → at ≤ j
    → AllWithin (λ x. x < at / 32768 * 1073741824) keys 0 count
    → ((q : ℕ) (d : ℕ) → count ≤ q → q < length keys → stop ≤ get_or keys q d) → (j / 32768 * 1073741824 + 1073741824 ≤ stop)
    → is_covered ps j ≡ false
none_met {A = A} keys ps at count j stop index above below least before = list_any_none (λ p. is_within p.at p.bytes j) ps (λ i d inside.
    elim (cases_lt j (get_or ps i d).at) [
      | inl less ↦ outside (get_or ps i d).at (get_or ps i d).bytes j (inl less)
      | inr begun ↦ elim (cases_lt j ((get_or ps i d).at + length (get_or ps i d).bytes)) [
        | inr ended ↦ outside (get_or ps i d).at (get_or ps i d).bytes j (inr ended)
        | inl covered ↦ absurd (index.2 i d (j / 32768) inside (omega (arith, begun), omega (arith, covered)) (λ (q, within, is). elim (cases_lt q count) [
          | inl early ↦ omega (arith, below q (key_of (j / 32768) i) (omega arith) early, is, above)
          | inr late ↦ omega (arith, least q (key_of (j / 32768) i) late within, is, before, inside, index.0)
        ]))
      ]
    ])
