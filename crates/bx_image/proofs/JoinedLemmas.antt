-- Writes that go on with one another do what one write does.
use Rattle.std.proofs.Common.{◌≡◌, ◌↔◌, ℕ, suc, ◌+◌, ◌≤◌, ◌||◌, ◌&&◌, Bool, true, false, Option, inl, inr, List, [], ◌∷◌, ◌++◌, length, slice_index, refl, ap, sym, ◌∙◌, subst, arith}
use Rattle.std.specs.List.{All}
use Rattle.std.specs.Prelude.{IfSome, nat_lt, None, Some, if◌then◌else◌}
use Rattle.std.proofs.lemmas.Bool.Decides.{nat_tests}
use Rattle.std.proofs.lemmas.List.{length-append}
use Rattle.std.proofs.lemmas.List.Elements.{All-cons}
use Rattle.bx_text.specs.declared.owned.pieces.Piece.{Piece}
use Rattle.bx_image.specs.declared.change.Change.{Change}
use Rattle.bx_image.specs.Change.{placed, effect, touches, Fits, kept_byte, saved}
use Rattle.bx_image.specs.private.Change.{cut_to, is_covered}
use Rattle.bx_image.specs.Image.{place, end_of, is_within}
use Rattle.bx_image.specs.Joined.{AreJoined, JoinedIsSame}
use Rattle.bx_image.proofs.Files.{place_next}
use Rattle.bx_image.proofs.Records.{saved-maximal, saved-same}

-- the image
placed_joined : {A : Type 0} (runs pieces : List (Piece A)) (x : List ℕ) → AreJoined runs pieces → placed runs x ≡ placed pieces x
unfolding placed
placed_joined runs [] x is = rw is refl
placed_joined {A = A} runs (piece ∷ pieces) x (later, are, inl alone) =
    rw alone (placed_joined later pieces (place x piece.at piece.bytes) are)
placed_joined {A = A} runs (piece ∷ pieces) x (later, are, inr (bytes, rest, first, whole)) =
    let before = place x piece.at piece.bytes in
    let next : placed later before ≡ placed rest (place before (piece.at + length piece.bytes) bytes) = rw first refl in
    rw whole (ap (placed rest) (sym (place_next x piece.bytes bytes piece.at)) ∙ sym next ∙ placed_joined later pieces before are)

-- an address in the one or in the other
within_both : (at : ℕ) (front back : List ℕ) (i : ℕ) → is_within at (front ++ back) i ≡ (is_within at front i || is_within (at + length front) back i)
within_both at front back i = grind (arith, nat_tests, length-append front back)

or_or : (a b c : Bool) → ((a || b) || c) ≡ (a || (b || c))
or_or true b c = refl
or_or false b c = refl

covered_joined : {A : Type 0} (runs pieces : List (Piece A)) (i : ℕ) → AreJoined runs pieces → is_covered runs i ≡ is_covered pieces i
covered_joined runs [] i is = rw is refl
covered_joined {A = A} runs (piece ∷ pieces) i (later, are, inl alone) =
    rw alone (ap (λ b. is_within piece.at piece.bytes i || b) (covered_joined later pieces i are))
covered_joined {A = A} runs (piece ∷ pieces) i (later, are, inr (bytes, rest, first, whole)) =
    let here = is_within piece.at piece.bytes i in
    let next = is_within (piece.at + length piece.bytes) bytes i in
    let behind : is_covered later i ≡ (next || is_covered rest i) = rw first refl in
    rw whole (ap (λ b. b || is_covered rest i) (within_both piece.at piece.bytes bytes i) ∙ or_or here next (is_covered rest i)
    ∙ ap (λ b. here || b) (sym behind ∙ covered_joined later pieces i are))

ends_both : (at : ℕ) (front back : List ℕ) (limit : ℕ) → (end_of at (front ++ back) ≤ limit) ↔ ((end_of at front ≤ limit) × (end_of (at + length front) back ≤ limit))
ends_both at [] [] limit = (λ h. (h, h), λ h. h.0)
ends_both at [] (b ∷ back) limit = (λ h. (omega arith, omega (arith, h)), λ h. omega (arith, h.1))
ends_both at (f ∷ front) [] limit =
    let long = length-append front [] in
    (λ h. (omega (arith, h, long), omega arith), λ h. omega (arith, h.0, long))
ends_both at (f ∷ front) (b ∷ back) limit =
    let long = length-append front (b ∷ back) in
    (λ h. (omega (arith, h, long), omega (arith, h, long)), λ h. omega (arith, h.1, long))

module _ {A : Type 0} (limit : ℕ) where
  abbrev Ends : Piece A → Type 0
  Ends w = end_of w.at w.bytes ≤ limit

  first_of : (w : Piece A) (ws : List (Piece A)) → All Ends (w ∷ ws) → Ends w
  first_of w ws all = all 0 w (omega arith)

  rest_of : (w : Piece A) (ws : List (Piece A)) → All Ends (w ∷ ws) → All Ends ws
  rest_of w ws all = λ k d inside. all (suc k) d (omega (arith, inside))

  ends_joined : (runs pieces : List (Piece A)) → AreJoined runs pieces → (All Ends runs ↔ All Ends pieces)
  ends_joined runs [] is = rw is (λ h. h, λ h. h)
  ends_joined runs (piece ∷ pieces) (later, are, inl alone) =
      let same = ends_joined later pieces are in
      rw alone (
        λ h. All-cons Ends piece pieces (first_of piece later h) (same.0 (rest_of piece later h)),
        λ h. All-cons Ends piece later (first_of piece pieces h) (same.1 (rest_of piece pieces h)),
      )
  ends_joined runs (piece ∷ pieces) (later, are, inr (bytes, rest, first, whole)) =
      let same = ends_joined later pieces are in
      let next : Piece A = record { at = piece.at + length piece.bytes; bytes = bytes } in
      let run : Piece A = record { at = piece.at; bytes = piece.bytes ++ bytes } in
      let both = ends_both piece.at piece.bytes bytes limit in
      rw whole (
        (λ h.
            let parts = both.0 (first_of run rest h) in
            let behind : All Ends later = subst (All Ends) (sym first) (All-cons Ends next rest parts.1 (rest_of run rest h)) in
            All-cons Ends piece pieces parts.0 (same.0 behind)),
        (λ h.
            let behind : All Ends (next ∷ rest) = subst (All Ends) first (same.1 (rest_of piece pieces h)) in
            All-cons Ends run rest (both.1 (first_of piece pieces h, first_of next rest behind)) (rest_of next rest behind)),
      )

touches_joined : {A : Type 0} (c d : Change A) (i : ℕ) → c.base ≡ d.base → AreJoined c.writes d.writes → touches c i ≡ touches d i
unfolding touches
touches_joined c d i base are = rw (base, covered_joined c.writes d.writes i are) refl

effect_joined : {A : Type 0} (c d : Change A) (x : List ℕ) → c.base ≡ d.base → AreJoined c.writes d.writes → effect c x ≡ effect d x
unfolding effect
effect_joined c d x base are = rw base (placed_joined c.writes d.writes (cut_to d.base x) are)

fits_joined : {A : Type 0} (c d : Change A) (len limit : ℕ) → c.base ≡ d.base → AreJoined c.writes d.writes → (Fits c len limit ↔ Fits d len limit)
fits_joined {A = A} c d len limit base are =
    let same = ends_joined limit c.writes d.writes are in
    let Within : Option ℕ → Type 0 = λ o. IfSome o (λ n. n ≤ limit) in (
      λ fit. record { len_fits = fit.len_fits; base_fits = subst Within base fit.base_fits; writes_fit = same.0 fit.writes_fit },
      λ fit. record { len_fits = fit.len_fits; base_fits = subst Within (sym base) fit.base_fits; writes_fit = same.1 fit.writes_fit },
    )

len_of : {A : Type 0} (c : Change A) (x : List ℕ) → (saved c x).len ≡ length x
unfolding saved
len_of c x = refl

saved_joined : {A : Type 0} (c d : Change A) (x : List ℕ) → ((i : ℕ) → touches c i ≡ touches d i) → saved c x ≡ saved d x
saved_joined {A = A} c d x touch =
    let maximal = saved-maximal c x in
    let bytes : (i : ℕ) → kept_byte c x i ≡ kept_byte d x i = λ i. ap (λ t. if nat_lt i (length x) && t then Some (slice_index x i) else None) (touch i) in
    saved-same d x (saved c x) (len_of c x) (record { same = λ i. maximal.same i ∙ bytes i; some = maximal.some; gaps = maximal.gaps })

pub joined_is_same : (A : Type 0) → JoinedIsSame A
joined_is_same A c d base are =
    let touch : (i : ℕ) → touches c i ≡ touches d i = λ i. touches_joined c d i base are in
    record {
      same_effect = λ x. effect_joined c d x base are;
      same_fit = λ len limit. fits_joined c d len limit base are;
      same_touch = touch;
      same_record = λ x. saved_joined c d x touch;
    }
