-- The phases of a change and of an undo.
use Rattle.std.specs.Prelude.{◌⊎◌, ℕ, List, ◌≡◌, ◌<◌, ◌≤◌, ◌+◌, None, [], flat_map, Result, OnErr}
use Rattle.bx_journal_format.specs.Text.{Between, Entry, Ending, Reads, split}
use Rattle.bx_journal_model.specs.Stack.{StandsFor, IsSound, Recovers, stack_of, HaveLengths}
use Rattle.bx_journal_format.specs.Kept.{Kept, kept_of, with_runs}
use Rattle.bx_image.specs.declared.change.Change.{Change}
use Rattle.bx_image.specs.Change.{byte_in, restore, saved}
use Rattle.bx_journal_format.specs.declared.format.version.Version.{Version}
use Rattle.bx_journal_format.specs.declared.format.version.Version.TheVariants.{Second}
use Rattle.bx_journal_format.specs.Entry.{rows}

-- the pair stands for the stack, and is sound
pub record IsAtRest (text x : List ℕ) (stack : List (List ℕ)) : Type 0 where
  pub stands : StandsFor text x stack
  pub sound : IsSound text x (record { entries = stands.entries; stage = Between })

-- after a fault: the one stack or the other
abbrev pub RecoversEither : List ℕ → List ℕ → List (List ℕ) → List (List ℕ) → Type 0
RecoversEither text x old new = Recovers text x old ⊎ Recovers text x new

-- The text ends with the save line of an entry that keeps s, and restoring s gives the image of the stack's top. The pair is sound.
pub record IsOpen (v : Version) (s : Kept) (text x : List ℕ) (stack : List (List ℕ)) : Type 0 where
  pub entries : List Entry
  pub reads : Reads text (record { entries = entries; stage = Ending v s })
  pub whole : (split text).rest ≡ []
  pub sound : IsSound text x (record { entries = entries; stage = Ending v s })
  pub lengths : HaveLengths entries (restore s x)
  pub stack_is : stack ≡ stack_of entries (restore s x)

-- a record as the lines in which it was written give it
abbrev pub as_read : Kept → Kept
as_read s = record { len = s.len; runs = with_runs [] (flat_map rows s.runs) }

-- the text is open on what the change takes from x
abbrev pub IsOpenFor : {A : Type 0} → Change A → List ℕ → List ℕ → List ℕ → List (List ℕ) → Type 0
IsOpenFor c x text y stack = IsOpen Second (as_read (kept_of (saved c x))) text y stack

-- a pair that is open on what the change takes from x stays so
abbrev pub StaysOpenFor : {A : Type 0} → Change A → List ℕ → List ℕ → Type 0
StaysOpenFor c x y = (text : List ℕ) (stack : List (List ℕ)) → IsOpenFor c x text x stack → IsOpenFor c x text y stack

-- and opening finds its stack
abbrev pub RecoversOpenFor : {A V E : Type 0} → Change A → List ℕ → List ℕ → Result V E → Type 0
RecoversOpenFor c x y result = (text : List ℕ) (stack : List (List ℕ)) → IsOpenFor c x text x stack → OnErr result (Recovers text y stack)

-- a pair that is open on a record stays so
abbrev pub StaysOpen : Kept → List ℕ → List ℕ → Type 0
StaysOpen s x y = (v : Version) (text : List ℕ) (stack : List (List ℕ)) → IsOpen v s text x stack → IsOpen v s text y stack

-- the record names each of n addresses from one on, as far as its length goes
abbrev pub IsPartOf : Kept → ℕ → ℕ → Type 0
IsPartOf s at n = (i : ℕ) → at ≤ i → i < at + n → i < s.len → byte_in s.runs i ≡ None → ⊥

-- the record names each address from a length on up to its own
abbrev pub IsCutOf : Kept → ℕ → Type 0
IsCutOf s n = (i : ℕ) → n ≤ i → i < s.len → byte_in s.runs i ≡ None → ⊥
