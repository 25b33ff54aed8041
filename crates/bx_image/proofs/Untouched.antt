-- What a change doesn't touch is found after a loss of power.
use Rattle.std.proofs.Common.{◌≡◌, ◌<◌, ℕ, min, Option, None, Some, List, length, get_or, subst, ◌∙◌, refl, arith}
use Rattle.bx_text.specs.declared.owned.pieces.Piece.{Piece}
use Rattle.bx_image.specs.declared.change.Change.{Change}
use Rattle.bx_image.specs.Change.{KeepsUntouched}
use Rattle.bx_image.specs.Power.{Only, NoMore, Follows, KeepsOutside, KeepsBelow, AllKeepUntouched}
use Rattle.bx_image.specs.private.Change.{KeepsBelowBase}
use Rattle.bx_image.proofs.Changes.{KeepsUntouched_refl, untouched_outside, untouched_below}
use Rattle.bx_image.proofs.Images.{is_outside}

pub AllKeepUntouched_none : {A : Type 0} (c : Change A) (x : List ℕ) (P Q : List ℕ → Type 0) → NoMore P Q → Only x P → AllKeepUntouched c x Q
AllKeepUntouched_none c x P Q less only y there = rw (only y (less y there)) (KeepsUntouched_refl c x)

pub AllKeepUntouched_less : {A : Type 0} (c : Change A) (x : List ℕ) (P Q : List ℕ → Type 0) → NoMore P Q → AllKeepUntouched c x P → AllKeepUntouched c x Q
AllKeepUntouched_less c x P Q less kept y there = kept y (less y there)

KeepsUntouched_outside : {A : Type 0} (c : Change A) (x y z : List ℕ) (k : ℕ) (w : Piece A) → k < length c.writes → w ≡ get_or c.writes k w → KeepsUntouched c x y
    → KeepsOutside w.at (length w.bytes) y z → KeepsUntouched c x z
KeepsUntouched_outside c x y z k w h read kept out = record {
  there = λ i old no. (out i (kept.there i old no) (is_outside w.at w.bytes i (untouched_outside c i k w no h read))).0;
  same = λ i old no. (out i (kept.there i old no) (is_outside w.at w.bytes i (untouched_outside c i k w no h read))).1 ∙ kept.same i old no;
}

-- one more write of the change
pub AllKeepUntouched_write : {A : Type 0} (c : Change A) (x : List ℕ) (P Q : List ℕ → Type 0) (k : ℕ) (w : Piece A) → k < length c.writes → w ≡ get_or c.writes k w
    → AllKeepUntouched c x P → Follows (KeepsOutside w.at (length w.bytes)) P Q → AllKeepUntouched c x Q
AllKeepUntouched_write c x P Q k w h read kept step y there = on (step y there)
  where
    on : (z : List ℕ) × P z × KeepsOutside w.at (length w.bytes) z y → KeepsUntouched c x y
    on (z, before, out) = KeepsUntouched_outside c x z y k w h read (kept z before) out

-- the cut to the base
pub AllKeepUntouched_base : {A : Type 0} (c : Change A) (x : List ℕ) (P Q : List ℕ → Type 0) → Only x P → Follows (KeepsBelowBase c.base (length x)) P Q → AllKeepUntouched c x Q
AllKeepUntouched_base c x P Q only step y there = go c.base refl (step y there)
  where
    below : (n : ℕ) → c.base ≡ Some n → KeepsBelow (min n (length x)) x y → KeepsUntouched c x y
    below n is keeps = record {
      there = λ i old no. let low = untouched_below c i n no is in (keeps i old (omega arith)).0;
      same = λ i old no. let low = untouched_below c i n no is in (keeps i old (omega arith)).1;
    }

    go : (base : Option ℕ) → c.base ≡ base → (z : List ℕ) × P z × KeepsBelowBase base (length x) z y → KeepsUntouched c x y
    go None is (z, before, same) = rw (same, only z before) (KeepsUntouched_refl c x)
    go (Some n) is (z, before, keeps) = below n is (let T : List ℕ → Type 0 = λ w. KeepsBelow (min n (length x)) w y in subst T (only z before) keeps)
