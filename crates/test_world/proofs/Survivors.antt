-- What may be found of contents that are as they are, or as they were synced.
use Rattle.std.proofs.Common.{◌≡◌, ◌⊎◌, ◌∙◌, ◌<◌, ◌≤◌, ℕ, min, List, ◌++◌, length, take, slice_index, refl, sym, subst, inl, inr, arith, length-append, length-take}
use Rattle.std.proofs.lemmas.List.{get_or-take, get_or_append_left}
use Rattle.bx_image.specs.Power.{FadesBehind, FadesFrom, Follows, IsFaded}
use Rattle.bx_image.proofs.Survivors.{FadesFrom-NoMore}

-- a step from what was there leads to what is there, and leaves what was synced
pub follows_two : (step : List ℕ → List ℕ → Type 0) (old new synced : List ℕ) → ((x : List ℕ) → step x x) → step old new
    → Follows step (λ c. (c ≡ old) ⊎ (c ≡ synced)) (λ c. (c ≡ new) ⊎ (c ≡ synced))
follows_two step old new synced same made c (inl is) = (old, inl refl, subst (step old) (sym is) made)
follows_two step old new synced same made c (inr is) = (c, inr is, same c)

longer : (text bytes rest : List ℕ) (n : ℕ) → IsFaded n (text ++ bytes ++ rest) text → IsFaded n (text ++ bytes ++ rest) (text ++ bytes)
longer text bytes rest n f = record {
  kept = (let kept = f.kept in omega (arith, kept, length-append text bytes));
  no_longer = omega (arith, length-append (text ++ bytes) rest);
  front = λ i below. same i (let kept = f.kept in omega (arith, below, kept, length-append text bytes));
  bytes = λ i below. inl (same i below);
}
  where
    same : (i : ℕ) → i < length (text ++ bytes) → slice_index (text ++ bytes) i ≡ slice_index (text ++ bytes ++ rest) i
    same i below = sym (get_or_append_left (text ++ bytes) rest 0 i below)

-- with bytes behind it a text fades as it did
pub behind_two : (text bytes new synced : List ℕ) → new ≡ text ++ bytes
    → FadesBehind text bytes (λ c. (c ≡ text) ⊎ (c ≡ synced)) (λ c. (c ≡ new) ⊎ (c ≡ synced))
behind_two text bytes new synced made = record {
  fade = λ n rest all c found. elim found [
    | inl is ↦ rw (is, made) (longer text bytes rest n (all text (inl refl)))
    | inr is ↦ all c (inr is)
  ];
}

shorter : (n m : ℕ) (text whole : List ℕ) → IsFaded m whole text → n ≤ length text → IsFaded (min m n) whole (take n text)
shorter n m text whole f fits = record {
  kept = (let kept = f.kept in omega (arith, kept, fits, length-take n text));
  no_longer = (let short = f.no_longer in omega (arith, short, fits, length-take n text));
  front = λ i below. get_or-take n text i 0 (omega (arith, below)) ∙ f.front i (omega (arith, below));
  bytes = λ i below. elim (f.bytes i (omega (arith, below, length-take n text))) [
    | inl is ↦ inl (get_or-take n text i 0 (omega (arith, below, length-take n text)) ∙ is)
    | inr is ↦ inr (get_or-take n text i 0 (omega (arith, below, length-take n text)) ∙ is)
  ];
}

-- and so does one that is cut
pub from_two : (n : ℕ) (text new synced : List ℕ) → n ≤ length text → new ≡ take n text
    → FadesFrom n (λ c. (c ≡ text) ⊎ (c ≡ synced)) (λ c. (c ≡ new) ⊎ (c ≡ synced))
from_two n text new synced fits made = record {
  fade = λ m whole all c found. elim found [
    | inl is ↦ rw (is, made) (shorter n m text whole (all text (inl refl)) fits)
    | inr is ↦ (FadesFrom-NoMore n (λ c. (c ≡ text) ⊎ (c ≡ synced)) (λ c. (c ≡ text) ⊎ (c ≡ synced)) (λ d there. there)).fade m whole all c (inr is)
  ];
}
