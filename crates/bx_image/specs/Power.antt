-- What may be found of an image or a text after a loss of power.
use Rattle.std.specs.Prelude.{◌≡◌, ◌⊎◌, ◌<◌, ◌≤◌, ◌+◌, ◌++◌, ℕ, min, List, length, slice_index}
use Rattle.bx_image.specs.declared.change.Change.{Change}
use Rattle.bx_image.specs.Change.{KeepsUntouched}

-- this content is found, and no other
abbrev pub Only : List ℕ → (List ℕ → Type 0) → Type 0
Only x survives = (c : List ℕ) → survives c → c ≡ x

-- whatever is found now was found before
abbrev pub NoMore : (List ℕ → Type 0) → (List ℕ → Type 0) → Type 0
NoMore old new = (c : List ℕ) → new c → old c

-- whatever is found now comes by one step from what was found before
abbrev pub Follows : (List ℕ → List ℕ → Type 0) → (List ℕ → Type 0) → (List ℕ → Type 0) → Type 0
Follows step old new = (c : List ℕ) → new c → (d : List ℕ) × old d × step d c

-- each byte outside the n bytes at an address is there as it was
abbrev pub KeepsOutside : ℕ → ℕ → List ℕ → List ℕ → Type 0
KeepsOutside at n old new = (i : ℕ) → i < length old → (i < at) ⊎ (at + n ≤ i) → (i < length new) × (slice_index new i ≡ slice_index old i)

-- each of the first n bytes is there as it was
abbrev pub KeepsBelow : ℕ → List ℕ → List ℕ → Type 0
KeepsBelow n old new = (i : ℕ) → i < length old → i < n → (i < length new) × (slice_index new i ≡ slice_index old i)

-- what is left of a text: its first n bytes; behind them it ends anywhere, and each byte is as it was, or zero
pub record IsFaded (n : ℕ) (text c : List ℕ) : Type 0 where
  pub kept : n ≤ length c
  pub no_longer : length c ≤ length text
  pub front : (i : ℕ) → i < n → slice_index c i ≡ slice_index text i
  pub bytes : (i : ℕ) → i < length c → (slice_index c i ≡ slice_index text i) ⊎ (slice_index c i ≡ 0)

-- whatever is found is what is left of the text
abbrev pub AllFade : ℕ → List ℕ → (List ℕ → Type 0) → Type 0
AllFade n text survives = (c : List ℕ) → survives c → IsFaded n text c

-- with bytes behind it a text fades as it did, whatever follows: what was left of all that is left of it now
pub record FadesBehind (text bytes : List ℕ) (old new : List ℕ → Type 0) : Type 0 where
  pub fade : (n : ℕ) (rest : List ℕ) → AllFade n (text ++ bytes ++ rest) old → AllFade n (text ++ bytes ++ rest) new

-- cut to n bytes, no more of them is sure than was
pub record FadesFrom (n : ℕ) (old new : List ℕ → Type 0) : Type 0 where
  pub fade : (m : ℕ) (longer : List ℕ) → AllFade m longer old → AllFade (min m n) longer new

-- whatever is found, each old byte that the change doesn't touch is there
abbrev pub AllKeepUntouched : {A : Type 0} → Change A → List ℕ → (List ℕ → Type 0) → Type 0
AllKeepUntouched c x survives = (y : List ℕ) → survives y → KeepsUntouched c x y

-- from an image on the disk, so it is with whatever is found then
abbrev pub KeepsOnDisk : {A : Type 0} → Change A → List ℕ → (List ℕ → Type 0) → (List ℕ → Type 0) → Type 0
KeepsOnDisk c x old new = Only x old → AllKeepUntouched c x new
