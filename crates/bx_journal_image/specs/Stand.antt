-- What is found of an image beside two finished texts.
use Rattle.std.specs.Prelude.{ℕ, ◌≡◌, ◌≢◌, ◌⊎◌, ◌+◌, ◌-◌, min, Option, None, Some, List, [], ◌++◌, length, drop}
use Rattle.bx_journal_image.specs.declared.line.digest.Digest.{Digest}
use Rattle.bx_journal_image.specs.declared.finding.rest.AtRest.{AtRest}
use Rattle.bx_journal_image.specs.declared.finding.rest.Last.{Last}
use Rattle.bx_journal_image.specs.Blocks.{HasLongLine}
use Rattle.bx_journal_image.specs.Digest.{image_digest}
use Rattle.bx_journal_image.specs.Entry.{IsBefore, IsLastEntryAt}
use Rattle.bx_journal_image.specs.Ranges.{EndsIn}
use Rattle.bx_journal_image.specs.Written.{appended_bytes, saved_bytes}

-- the digest of what the image x has where the entry at a place of a text wrote, which restores this length
abbrev pub entry_digest : List ℕ → List ℕ → ℕ → Option ℕ → Digest
entry_digest x text at before = image_digest (saved_bytes x (drop at text) ++ appended_bytes x before)

-- a line of that entry can't be read in windows of 64 KiB
abbrev pub HasLongEntry : List ℕ → ℕ → Type 0
HasLongEntry text at = HasLongLine 65536 at (at + min 4456448 (length text - at)) text

-- that digest; none only where a line can't be read
abbrev pub IsDigested : List ℕ → List ℕ → ℕ → Option ℕ → Option Digest → Type 0
IsDigested x text at before None = HasLongEntry text at
IsDigested x text at before (Some digest) = digest ≡ entry_digest x text at before

-- a text ends with an entry of the newer form: its number, the length that it restores, and the digest of what the image x has where it wrote
pub record IsEndingIn (x text : List ℕ) (last : Last) : Type 0 where
  pub at : ℕ
  pub number : EndsIn text last.number
  pub entry : IsLastEntryAt text at
  pub before : IsBefore (drop at text) last.before
  pub digest : last.digest ≡ entry_digest x text at last.before

-- what is found of a text without entries
abbrev pub no_entry : Last
no_entry = record { number = 0; before = None; digest = image_digest [] }

-- what is found of a text; none only where it isn't empty, and doesn't end so, or a line of its last entry can't be read
abbrev pub IsLastRead : List ℕ → List ℕ → Option Last → Type 0
IsLastRead x text None = (text ≢ []) × (((n : ℕ) → EndsIn text n → ⊥) ⊎ ((at : ℕ) × IsLastEntryAt text at × HasLongEntry text at))
IsLastRead x text (Some last) = ((text ≡ []) × (last ≡ no_entry)) ⊎ IsEndingIn x text last

-- what is found of the last change that stands
abbrev pub last_made : AtRest → Last
last_made found = record { number = found.standing.changes; before = found.before; digest = found.standing.last }

-- and of the one that was undone last
abbrev pub last_undone : AtRest → Last
last_undone found = record { number = found.standing.undone; before = found.after; digest = found.standing.next }

-- what is found of the image x beside a journal and a redo text
pub record StandsAtRest (x journal redo : List ℕ) (found : AtRest) : Type 0 where
  pub length : found.standing.length ≡ length x
  pub made : IsLastRead x journal (Some (last_made found))
  pub undone : IsLastRead x redo (Some (last_undone found))

-- none only where one of the texts can't be read so
abbrev pub IsStandOf : List ℕ → List ℕ → List ℕ → Option AtRest → Type 0
IsStandOf x journal redo None = IsLastRead x journal None ⊎ IsLastRead x redo None
IsStandOf x journal redo (Some found) = StandsAtRest x journal redo found
