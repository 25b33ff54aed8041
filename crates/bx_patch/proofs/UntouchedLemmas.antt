-- Addresses that changes don't touch: the image behind them has the same byte there.
use Rattle.std.proofs.Common.{◌≡◌, ◌⊎◌, ℕ, ◌+◌, ◌<◌, ◌≤◌, inl, inr, false, List, [], ◌∷◌, length, drop, get_or, slice_index, refl, sym, ap, ◌∙◌, subst, arith}
use Rattle.std.specs.Prelude.{◌||◌}
use Rattle.std.proofs.lemmas.List.{at_drop_more, drop_all, drop_more}
use Rattle.bx_text.specs.declared.owned.pieces.Piece.{Piece}
use Rattle.bx_image.specs.declared.change.Change.{Change}
use Rattle.bx_image.specs.Change.{effect, touches}
use Rattle.bx_image.specs.Image.{is_within}
use Rattle.bx_image.specs.private.Change.{is_covered, is_cut_off}
use Rattle.bx_image.proofs.Records.{KeepsUntouched-effect}
use Rattle.bx_patch.specs.Text.{differs}
use Rattle.bx_patch.proofs.SameLemmas.{same_at}
use Rattle.bx_patch.specs.preview.Changed.{AreBeforeAndBehind, effects}
use Rattle.bx_patch.specs.private.preview.Untouched.{AreUntouched}

-- one more piece
pub written_more : {A : Type 0} (ps : List (Piece A)) (i : ℕ) (p : Piece A) (j : ℕ) → i < length ps → p ≡ get_or ps i p → is_within p.at p.bytes j ≡ false
    → is_covered (drop i ps) j ≡ is_covered (drop (i + 1) ps) j
written_more {A = A} ps i p j h read out =
    at_drop_more (λ rest. is_covered rest j) ps i p h
    ∙ ap (λ b. b || is_covered (drop (i + 1) ps) j) (ap (λ (q : Piece A). is_within q.at q.bytes j) (sym read) ∙ out)

-- no more pieces
pub written_all : {A : Type 0} (ps : List (Piece A)) (i j : ℕ) → length ps ≤ i → is_covered (drop i ps) j ≡ false
written_all ps i j h = rw (drop_all i ps h) refl

-- one more change
pub untouched_more : {A : Type 0} (cs : List (Change A)) (i : ℕ) (c : Change A) (j : ℕ) → i < length cs → c ≡ get_or cs i c → touches c j ≡ false
    → AreUntouched (drop (i + 1) cs) j → AreUntouched (drop i cs) j
unfolding AreUntouched
untouched_more {A = A} cs i c j h read out rest = subst (λ (cs : List (Change A)). AreUntouched cs j) (sym (drop_more cs i c h))
    (subst (λ (d : Change A). AreUntouched (d ∷ drop (i + 1) cs) j) read (out, rest))

-- no more changes
pub untouched_all : {A : Type 0} (cs : List (Change A)) (i j : ℕ) → length cs ≤ i → AreUntouched (drop i cs) j
unfolding AreUntouched
untouched_all {A = A} cs i j h = subst (λ (rest : List (Change A)). AreUntouched rest j) (sym (drop_all i cs h)) tt

-- whether a change touches an address
pub touches_none : {A : Type 0} (c : Change A) (j : ℕ) → is_cut_off c.base j ≡ false → is_covered c.writes j ≡ false → touches c j ≡ false
unfolding touches
touches_none c j below out = rw (below, out) refl

-- an address that no change touches keeps its byte
kept_behind : {A : Type 0} (cs : List (Change A)) (x : List ℕ) (j : ℕ) → j < length x → AreUntouched cs j
    → (j < length (effects cs x)) × (slice_index (effects cs x) j ≡ slice_index x j)
unfolding effects AreUntouched
kept_behind [] x j inside out = (inside, refl)
kept_behind (c ∷ cs) x j inside out =
    let keeps = KeepsUntouched-effect c x in
    let rest = kept_behind cs (effect c x) j (keeps.there j inside out.0) out.1 in
    (rest.0, rest.1 ∙ keeps.same j inside out.0)

-- so the two don't differ there, whichever is the old one
pub same_behind : {A : Type 0} (cs : List (Change A)) (before : ℕ) (x y : List ℕ) (j : ℕ) → AreBeforeAndBehind cs before x y ⊎ AreBeforeAndBehind cs before y x → j < before → AreUntouched cs j
    → differs x y j ≡ false
same_behind cs before x y j (inl is) below out =
    let inside : j < length x = omega (arith, is.before_is) in
    let kept = kept_behind cs x j inside out in
    rw is.behind (same_at x (effects cs x) j inside kept.0 (sym kept.1))
same_behind cs before x y j (inr is) below out =
    let inside : j < length y = omega (arith, is.before_is) in
    let kept = kept_behind cs y j inside out in
    rw is.behind (same_at (effects cs y) y j kept.0 inside kept.1)

-- the same of changes, a length and an image that are equal to these
pub still_behind : {A : Type 0} (cs ds : List (Change A)) (before told : ℕ) (x z y : List ℕ) → ds ≡ cs → told ≡ before → x ≡ z → AreBeforeAndBehind cs before x y
    → AreBeforeAndBehind ds told z y
still_behind cs ds before told x z y changes lengths same is = record {
  before_is = lengths ∙ is.before_is ∙ ap length same;
  behind = is.behind ∙ ap (effects cs) same ∙ ap (λ cs. effects cs z) (sym changes);
}
