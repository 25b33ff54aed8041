-- A file behind a write-back cache: what it has, and what may be found of it after a loss of power.
use Rattle.std.specs.Prelude.{◌≡◌, ◌≤◌, ℕ, min, List, [], ◌∷◌, ◌++◌, length}
use Rattle.bx_image.specs.Image.{place, cut}
use Rattle.bx_image.specs.Power.{AllFade, IsFaded, KeepsBelow, KeepsOutside}
use Rattle.test_cache.specs.declared.unsynced.Unsynced.{Unsynced}
use Rattle.test_cache.specs.declared.unsynced.Unsynced.TheVariants.{Write, Resize}

-- the content behind one change
abbrev pub after_one : Unsynced → List ℕ → List ℕ
after_one (Write at bytes) x = place x at bytes.items
after_one (Resize n) x = cut x n

-- the content behind the changes since the last sync; the newest of them comes first
abbrev pub content_of : List ℕ → List Unsynced → List ℕ
content_of synced [] = synced
content_of synced (change ∷ earlier) = after_one change (content_of synced earlier)

-- What may be found once bytes were written at an address of x: it comes from what might be found before by a change of the
-- range alone, and behind a write at the end it has faded as far as that had, and no further.
pub record MayBeWritten (at : ℕ) (bytes x : List ℕ) (old : List ℕ → Type 0) (c : List ℕ) : Type 0 where
  pub outside : (d : List ℕ) × old d × KeepsOutside at (length bytes) d c
  pub fades : at ≡ length x → (n : ℕ) (rest : List ℕ) → AllFade n (x ++ bytes ++ rest) old → IsFaded n (x ++ bytes ++ rest) c

-- What may be found once the length of x was after_one to n.
pub record MayBeResized (n : ℕ) (x : List ℕ) (old : List ℕ → Type 0) (c : List ℕ) : Type 0 where
  pub below : (d : List ℕ) × old d × KeepsBelow (min n (length x)) d c
  pub fades : n ≤ length x → (m : ℕ) (longer : List ℕ) → AllFade m longer old → IsFaded (min m n) longer c

-- what may be found behind one change
abbrev pub MayFollow : Unsynced → List ℕ → (List ℕ → Type 0) → List ℕ → Type 0
MayFollow (Write at bytes) x old c = MayBeWritten at bytes.items x old c
MayFollow (Resize n) x old c = MayBeResized n x old c

-- what may be found behind the changes since the last sync: nothing else than what was synced, where there is none
abbrev pub MayBeFound : List ℕ → List Unsynced → List ℕ → Type 0
MayBeFound synced [] c = c ≡ synced
MayBeFound synced (change ∷ earlier) c = MayFollow change (content_of synced earlier) (MayBeFound synced earlier) c
