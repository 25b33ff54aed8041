-- The line of an image before a command's first write.
use Rattle.std.specs.Prelude.{ℕ, ◌≡◌, ◌⊎◌, ◌-◌, ◌^◌, ◌<◌, ◌≤◌, Option, None, Some, List, length, replicate}
use Rattle.bx_journal_format.specs.Text.{split}
use Rattle.bx_journal_model.specs.declared.mark.Mark.{Mark}
use Rattle.bx_journal_read.specs.declared.scan.torn.Torn.{Torn}
use Rattle.bx_journal_read.specs.scan.Recovery.{IsTornIn}
use Rattle.bx_journal_image.specs.declared.advice.Standing.{Standing}
use Rattle.bx_journal_image.specs.declared.line.form.ImageLine.{ImageLine}
use Rattle.bx_journal_image.specs.declared.sealing.seal.Span.{Span}
use Rattle.bx_journal_image.specs.Blocks.{AreStruck, AreTrueMarks, AreWholeMarks, HasLongLine, mark_at, ranges_in}
use Rattle.bx_journal_image.specs.Entry.{HasOlder, LinesTell}
use Rattle.bx_journal_image.specs.Unfinished.{HasLongSavedLine, LeavesImage, touched_at}

-- a line has what was found of the texts, the length of the image x, and these lengths of what a command makes
pub record IsLineOf (x : List ℕ) (now : Standing) (foreign : ℕ) (span : Span) (line : ImageLine) : Type 0 where
  pub changes : line.changes ≡ now.changes
  pub undone : line.undone ≡ now.undone
  pub length : line.length ≡ length x
  pub last : line.last ≡ now.last
  pub next : line.next ≡ now.next
  pub others : line.others ≡ foreign
  pub least : line.least ≡ span.least
  pub most : line.most ≡ span.most

-- such a line, with the digest of each block: so it says nothing wrong of the image
pub record IsSealOf (x : List ℕ) (now : Standing) (others : ℕ) (span : Span) (sealed : ImageLine) : Type 0 where
  pub line : IsLineOf x now others span sealed
  pub whole : AreWholeMarks x sealed.marks
  pub right : AreTrueMarks x sealed.marks

-- any length
abbrev pub any_length : Span
any_length = record { least = 0; most = 2 ^ 64 - 1 }

-- what is known of the blocks of the image x, without those that a saved line of a text touches: all else, where no line is too long
pub record AreStepsMarks (x text : List ℕ) (marks : List (Option ℕ)) : Type 0 where
  pub known : List (Option ℕ)
  pub right : AreTrueMarks x known
  pub struck : AreStruck (length x) (ranges_in (split text).lines) known marks
  pub all : AreWholeMarks x known ⊎ HasLongLine 65536 0 (length text) text

-- a length lies within a span
abbrev pub IsInSpan : Span → ℕ → Type 0
IsInSpan span l = (span.least ≤ l) × (l ≤ span.most)

-- each length of 64 bits does
abbrev pub HasAll : Span → Type 0
HasAll span = (span.least ≡ 0) × (2 ^ 64 - 1 ≤ span.most)

-- a span was widened by lines: just so that it has each length that one tells, and by one that begins an entry of the older form to all
pub record Widens (lines : List (List ℕ)) (old new : Span) : Type 0 where
  pub low : new.least ≤ old.least
  pub high : old.most ≤ new.most
  pub each : (l : ℕ) → LinesTell lines l → IsInSpan new l
  pub older : HasOlder lines → HasAll new
  pub least : (new.least ≡ old.least) ⊎ LinesTell lines new.least ⊎ HasOlder lines
  pub most : (new.most ≡ old.most) ⊎ LinesTell lines new.most ⊎ HasOlder lines

-- not all lengths are known that the entries of a text restore: one is of the older form, or a line is too long
abbrev pub HasUntold : List ℕ → Type 0
HasUntold text = HasOlder (split text).lines ⊎ HasLongLine 65536 0 (length text) text

-- between which lengths steps by the entries of a text leave an image of n bytes: its own and each that a line tells, and no others but
-- those between, where all are known
pub record IsStepsSpan (n : ℕ) (text : List ℕ) (span : Span) : Type 0 where
  pub own : IsInSpan span n
  pub each : (l : ℕ) → LinesTell (split text).lines l → IsInSpan span l
  pub older : HasOlder (split text).lines → HasAll span
  pub least : (span.least ≡ n) ⊎ LinesTell (split text).lines span.least ⊎ HasUntold text
  pub most : (span.most ≡ n) ⊎ LinesTell (split text).lines span.most ⊎ HasUntold text

-- such a line before steps that the entries of a text tell
pub record IsStepsSealOf (x text : List ℕ) (now : Standing) (others : ℕ) (sealed : ImageLine) : Type 0 where
  pub span : Span
  pub line : IsLineOf x now others span sealed
  pub lengths : IsStepsSpan (length x) text span
  pub marks : AreStepsMarks x text sealed.marks

-- the line that says nothing of an image
abbrev pub bare_line : ImageLine
bare_line = record {
  changes = 2 ^ 32 - 1;
  undone = 0;
  length = 0;
  last = record { high = 0; low = 0 };
  next = record { high = 0; low = 0 };
  others = 0;
  least = 0;
  most = 2 ^ 64 - 1;
  marks = replicate 32 None;
}

-- the line on the image that a line is on, on no texts, of any length, and of these blocks
abbrev pub open_line : ImageLine → List (Option ℕ) → ImageLine
open_line line marks = record line { changes = 2 ^ 32 - 1; least = 0; most = 2 ^ 64 - 1; marks = marks }

-- nothing is known of a block
abbrev pub AreUnknown : List (Option ℕ) → Type 0
AreUnknown marks = (i : ℕ) → i < 32 → mark_at marks i ≡ None

-- what is known of a line's blocks where the change at a mark of a text was taken back: of those that it may touch nothing; of none where its record can't be read
abbrev pub AreKeptAt : ImageLine → List ℕ → Mark → List (Option ℕ) → Type 0
AreKeptAt line text mark marks = AreStruck line.length (touched_at text mark) line.marks marks ⊎ (HasLongSavedLine text mark × AreUnknown marks)

-- so behind the recovery of a text
pub record IsKeptBehind (line : ImageLine) (text : List ℕ) (marks : List (Option ℕ)) : Type 0 where
  pub torn : Torn
  pub mark : Mark
  pub unfinished : IsTornIn text torn
  pub marked : torn.mark ≡ Some mark
  pub kept : AreKeptAt line text mark marks

-- so, or the recovery writes nothing to the image
abbrev pub AreKeptBehind : ImageLine → List ℕ → List (Option ℕ) → Type 0
AreKeptBehind line text marks = (LeavesImage text × (marks ≡ line.marks)) ⊎ IsKeptBehind line text marks

-- the line before a command that first recovers what is unfinished in a text: what a line that was found tells behind the recovery
pub record IsOpenSealOf (line : ImageLine) (text : List ℕ) (sealed : ImageLine) : Type 0 where
  pub marks : List (Option ℕ)
  pub is : sealed ≡ open_line line marks
  pub kept : AreKeptBehind line text marks

-- without a line that was found it tells nothing
abbrev pub IsOpenSeal : Option ImageLine → List ℕ → ImageLine → Type 0
IsOpenSeal None text sealed = sealed ≡ bare_line
IsOpenSeal (Some line) text sealed = IsOpenSealOf line text sealed
