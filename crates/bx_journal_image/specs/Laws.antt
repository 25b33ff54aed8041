-- What is never refused.
use Rattle.std.specs.Prelude.{ℕ, ◌≡◌, ◌+◌, ◌<◌, ◌≤◌, List, ◌++◌, length, Option, true, false}
use Rattle.bx_journal_image.specs.declared.line.form.ImageLine.{ImageLine}
use Rattle.bx_journal_image.specs.declared.advice.Standing.{Standing}
use Rattle.bx_journal_image.specs.Digest.{image_digest}
use Rattle.bx_journal_image.specs.declared.judging.judge.Verdict.{Verdict}
use Rattle.bx_journal_image.specs.declared.judging.judge.Verdict.TheVariants.{Other}
use Rattle.bx_journal_image.specs.declared.line.ranges.Range.{Range}
use Rattle.bx_journal_image.specs.Blocks.{AreTrueMarks, AreStruck, DiffersWithin, IsInBlock, IsJudged, IsOther}
use Rattle.bx_journal_image.specs.Advice.{is_older, is_redo_refused, is_undo_refused, on_no_texts}

-- An undo that leaves the changes for another image alone is refused only where the bytes differ from those that the line was written on, or the texts are
-- older than the line.
abbrev pub RefusedOnlyIfChanged : Type 0
RefusedOnlyIfChanged = (line : ImageLine) (now : Standing) (count : ℕ) (left found : List ℕ) → line.last ≡ image_digest left → now.last ≡ image_digest found
    → line.others + count ≤ now.changes → is_undo_refused line now count ≡ true → left ≡ found → is_older line now ≡ true

-- the same of a redo
abbrev pub RedoRefusedOnlyIfChanged : Type 0
RedoRefusedOnlyIfChanged = (line : ImageLine) (now : Standing) (count : ℕ) (left found : List ℕ) → line.next ≡ image_digest left → now.next ≡ image_digest found
    → is_redo_refused line now count ≡ true → left ≡ found → is_older line now ≡ true

-- Nothing that a stopped command leaves is older than its line. An undo, which alone takes changes from a journal one by one, puts a line on no texts before;
-- behind any other as many changes stand as its line counts, or the history is dropped.
pub record NothingStoppedIsOlder : Type 0 where
  pub undo : (line : ImageLine) (before now : Standing) → line.changes ≡ (on_no_texts before).changes → is_older line now ≡ false
  pub others : (line : ImageLine) (now : Standing) → line.changes ≤ now.changes → is_older line now ≡ false
  pub dropped : (line : ImageLine) (now : Standing) → now.changes ≡ 0 → now.undone ≡ 0 → is_older line now ≡ false

-- Of texts that are older each undo and each redo of some changes is refused.
abbrev pub OlderIsRefused : Type 0
OlderIsRefused = (line : ImageLine) (now : Standing) (count : ℕ) → is_older line now ≡ true → 0 < count
    → (count ≤ now.changes → is_undo_refused line now count ≡ true) × (count ≤ now.undone → is_redo_refused line now count ≡ true)

-- The right image is never refused: let a line say nothing wrong of the image x, and let the blocks that some ranges touch be struck. Then an image that
-- differs from x within these ranges, and whose length is between the line's two, isn't another one.
abbrev pub NeverRefusesTheRightImage : Type 0
NeverRefusesTheRightImage = (x y : List ℕ) (ranges : List Range) (line : ImageLine) (kept : List (Option ℕ)) → line.length ≡ length x
    → AreTrueMarks x line.marks
    → AreStruck line.length ranges line.marks kept → DiffersWithin ranges x y → line.least ≤ length y → length y ≤ line.most → IsJudged line kept y Other → ⊥

-- Another image is refused: one of a length that isn't between them, and one that has a block that no range touches, and that isn't the one that its mark tells.
abbrev pub RefusesAnother : Type 0
RefusesAnother = (line : ImageLine) (y : List ℕ) (ranges : List Range) (kept : List (Option ℕ)) (verdict : Verdict)
    → AreStruck line.length ranges line.marks kept
    → IsOther line ranges y → IsJudged line kept y verdict → verdict ≡ Other

-- Of an image below 128 KiB each byte is in a block.
abbrev pub SmallAreWhole : Type 0
SmallAreWhole = (n a : ℕ) → n < 131072 → a < n → IsInBlock n a

-- So it is where blocks were struck before the command, as for a command of several steps: let the marks say nothing wrong of the image x, let those be struck
-- that some ranges touch, and the line have what is left, and let then those be struck that others touch. An image that differs from x within both isn't another one.
abbrev pub NeverRefusesBehindSteps : Type 0
NeverRefusesBehindSteps = (x y : List ℕ) (before touched : List Range) (marks kept : List (Option ℕ)) (line : ImageLine) → line.length ≡ length x
    → AreTrueMarks x marks
    → AreStruck line.length before marks line.marks → AreStruck line.length touched line.marks kept → DiffersWithin (before ++ touched) x y
    → line.least ≤ length y → length y ≤ line.most → IsJudged line kept y Other → ⊥
