-- Laws of patches.
use Rattle.std.specs.Prelude.{◌≡◌, ◌≢◌, ◌↔◌, ℕ, ◌+◌, ◌<◌, ◌≤◌, IsTrue, IfSome, Some, List, [], ◌++◌, length, slice_index, codes}
use Rattle.std.specs.List.{All}
use Rattle.bx_image.specs.declared.change.TheConstants.{MAX_LEN}
use Rattle.bx_image.specs.Change.{effect}
use Rattle.bx_patch.specs.declared.diff.row.Extent.{Extent}
use Rattle.bx_patch.specs.declared.diff.row.Extent.TheVariants.{Bytes}
use Rattle.bx_patch.specs.Diff.{WritesPrefix}
use Rattle.bx_patch.specs.declared.diff.fault.DiffFault.{DiffFault}
use Rattle.bx_patch.specs.Patch.{Asked, Agrees, ChangesNothing, TurnsRound, patch_change, reversed}
use Rattle.bx_patch.specs.declared.read.fault.PatchFault.TheVariants.{NoEnd}
use Rattle.bx_patch.specs.Text.{differs, patch_text}
use Rattle.bx_patch.specs.Grammar.{IsPatch}
use Rattle.bx_patch.specs.Fault.{IsFaultOfPatch}

-- bytes, and no more of them than an image can have
pub record IsShort (x : List ℕ) : Type 0 where
  pub bytes : All (λ b. b < 256) x
  pub short : length x ≤ MAX_LEN

-- A text is the patch of no two requests.
abbrev pub PatchIsUnique : Type 0
PatchIsUnique = (text : List ℕ) (p q : Asked) → IsPatch text p → IsPatch text q → p ≡ q

-- The text of the patch from x to y is one, it agrees with x, and its change makes y of x, bytes and length.
abbrev pub PatchMakesNew : (A : Type 0) → Type 0
PatchMakesNew A = (extent : Extent) (x y : List ℕ) → IsShort x → IsShort y
    → (p : Asked) × IsPatch (patch_text extent x y) p × Agrees p x × (effect {A = A} (patch_change p) x ≡ y)

-- The other way round it agrees with y, and makes x of it.
abbrev pub PatchReversed : (A : Type 0) → Type 0
PatchReversed A = (extent : Extent) (x y : List ℕ) (p : Asked) → IsShort x → IsShort y → IsPatch (patch_text extent x y) p
    → Agrees (reversed p) y × (effect {A = A} (patch_change (reversed p)) y ≡ x)

-- Where the patch from x to another y agrees with an image, that has x's length, and x's byte at each address where the two differ.
abbrev pub PatchIsStrict : Type 0
PatchIsStrict = (extent : Extent) (x y z : List ℕ) (p : Asked) → IsShort x → IsShort y → x ≢ y → IsPatch (patch_text extent x y) p → Agrees p z
    → (length z ≡ length x) × ((i : ℕ) → IsTrue (differs x y i) → slice_index z i ≡ slice_index x i)

-- Equal lists of bytes have a text of the last line alone, and others have another one.
abbrev pub EqualIsEmpty : Type 0
EqualIsEmpty = (extent : Extent) (x y : List ℕ) → patch_text extent x y ≡ codes "end 0\n" ↔ (x ≡ y)

-- The text isn't read as a patch: what is wrong with it is that it has no end.
abbrev pub HasNoEnd : List ℕ → Type 0
HasNoEnd text = IsFaultOfPatch text NoEnd × ((p : Asked) → IsPatch text p → ⊥)

-- No front of a patch is a patch, even where a single byte is missing.
abbrev pub FrontOfAnyIsRefused : Type 0
FrontOfAnyIsRefused = (text front rest : List ℕ) (p : Asked) → IsPatch text p → text ≡ front ++ rest → 0 < length rest → HasNoEnd front

-- So no front of the patch from x to y is a patch.
abbrev pub FrontIsRefused : Type 0
FrontIsRefused = (extent : Extent) (x y front rest : List ℕ) → IsShort x → IsShort y → patch_text extent x y ≡ front ++ rest → 0 < length rest → HasNoEnd front

-- What a failed write of the patch from x to y left is no patch either.
abbrev pub FailedIsRefused : Type 0
FailedIsRefused = (extent : Extent) (x y written : List ℕ) (fault : DiffFault) → IsShort x → IsShort y
    → WritesPrefix (Some []) (Some written) (patch_text extent x y) fault → HasNoEnd written

-- An image that agrees with a patch that tells lengths has the new one behind its change.
abbrev pub PatchTellsLength : (A : Type 0) → Type 0
PatchTellsLength A = (text x : List ℕ) (p : Asked) → IsPatch text p → Agrees p x
    → IfSome p.lengths (λ lengths. length (effect {A = A} (patch_change p) x) ≡ lengths.1)

-- A patch that changes nothing makes of each image the same image.
abbrev pub NothingIsChanged : (A : Type 0) → Type 0
NothingIsChanged A = (p : Asked) (x : List ℕ) → ChangesNothing p → effect {A = A} (patch_change p) x ≡ x

-- the two differ at each address of a piece
abbrev pub DiffersAll : List ℕ → List ℕ → ℕ × List ℕ → Type 0
DiffersAll x y piece = (i : ℕ) → piece.0 ≤ i → i < piece.0 + length piece.1 → IsTrue (differs x y i)

-- The patch from x to y names no address at which the two are equal.
abbrev pub PatchIsLeast : Type 0
PatchIsLeast = (x y : List ℕ) (p : Asked) → IsShort x → IsShort y → IsPatch (patch_text Bytes x y) p
    → All (DiffersAll x y) p.expected × All (DiffersAll x y) p.written

-- A patch that can be turned round makes the old image of the new one, whichever image it was that agreed with it.
abbrev pub TurnedMakesOld : (A : Type 0) → Type 0
TurnedMakesOld A = (text x : List ℕ) (p : Asked) → IsPatch text p → Agrees p x → TurnsRound p
    → let y = effect {A = A} (patch_change p) x in Agrees (reversed p) y × (effect {A = A} (patch_change (reversed p)) y ≡ x)

-- The patch from x to y can be turned round.
abbrev pub PatchTurnsRound : Type 0
PatchTurnsRound = (extent : Extent) (x y : List ℕ) (p : Asked) → IsShort x → IsShort y → IsPatch (patch_text extent x y) p → TurnsRound p
