-- The first byte of a journal, which is on the disk before any other.
use Rattle.std.specs.Prelude.{◌≡◌, ◌⊎◌, ◌≤◌, ℕ, List, length}
use Rattle.bx_journal_store.specs.declared.store.TextStore.{Ghosts as StoreViews}
use Rattle.bx_image.specs.Power.{IsFaded, Only}
use Rattle.bx_journal_format.specs.read.Faded.{HasFirst}

-- whatever is found is the text, or no longer than a byte
abbrev pub AllKeptOrShort : List ℕ → (List ℕ → Type 0) → Type 0
AllKeptOrShort text survives = (c : List ℕ) → survives c → (c ≡ text) ⊎ (length c ≤ 1)

-- whatever is found of a text has its first byte, or no byte behind it
abbrev pub AllHaveFirst : List ℕ → (List ℕ → Type 0) → Type 0
AllHaveFirst text survives = (c : List ℕ) → survives c → HasFirst text c

-- whatever is found of a text that is cut to n bytes is what is left of it, with its first byte or no byte behind it
abbrev pub AllLeft : ℕ → List ℕ → (List ℕ → Type 0) → Type 0
AllLeft n text survives = (c : List ℕ) → survives c → IsFaded n text c × HasFirst text c

-- where a text is faithful, and on the disk as it is, this holds
abbrev pub WhereSettled : {T : Type 0} → StoreViews T → T → Type 0 → Type 0
WhereSettled t s holds = t.faithful s → Only (t.text s) (t.survives s) → holds
