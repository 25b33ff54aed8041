-- What is said of an image whose journal has something unfinished, before that is recovered.
use Rattle.std.specs.Prelude.{◌≡◌, ◌⊎◌, ◌<◌, ◌≤◌, ◌^◌, ℕ, Option, None, Some, List, ◌∷◌, length}
use Rattle.bx_image.specs.Change.{restore}
use Rattle.bx_image.specs.declared.change.TheConstants.{MAX_LEN}
use Rattle.bx_journal_format.specs.Kept.{Kept}
use Rattle.bx_journal_format.specs.Shown.{shown}
use Rattle.bx_journal_format.specs.Text.{Ending, Reading, Reads, split}
use Rattle.bx_journal_format.specs.declared.format.version.Version.{Version}
use Rattle.bx_journal_model.specs.declared.mark.Mark.{Mark}
use Rattle.bx_journal_read.specs.declared.scan.torn.Torn.{Torn}
use Rattle.bx_journal_model.specs.Redo.{IsClean}
use Rattle.bx_journal_read.specs.scan.Recovery.{IsTornIn}
use Rattle.bx_journal_read.specs.scan.Windows.{rest_to}
use Rattle.bx_journal_image.specs.declared.judging.judge.Verdict.{Verdict}
use Rattle.bx_journal_image.specs.declared.judging.judge.Verdict.TheVariants.{Other, Untold}
use Rattle.bx_journal_image.specs.declared.line.form.ImageLine.{ImageLine}
use Rattle.bx_journal_image.specs.declared.line.ranges.Range.{Range}
use Rattle.bx_journal_image.specs.Blocks.{AreTrueMarks, AreStruck, HasLongLine, IsJudged, ranges_in, rest_from}

-- what a change may touch whose record stands at a mark of a text: what its saved lines name, and all behind the length that it restores
abbrev pub touched_at : List ℕ → Mark → List Range
touched_at text mark = rest_from mark.len ∷ ranges_in (split (rest_to mark.saved mark.lines text)).lines

-- what the image x is by a line, without the blocks that a change may touch whose record stands at a mark of a text
pub record IsJudgedWithout (line : ImageLine) (text : List ℕ) (mark : Mark) (x : List ℕ) (verdict : Verdict) : Type 0 where
  pub kept : List (Option ℕ)
  pub struck : AreStruck line.length (touched_at text mark) line.marks kept
  pub judged : IsJudged line kept x verdict

-- the record's lines can't be read in windows of 64 KiB: one is longer
abbrev pub HasLongSavedLine : List ℕ → Mark → Type 0
HasLongSavedLine text mark = HasLongLine 65536 mark.lines mark.saved text

-- the blocks of a line without those that such a change may touch; none only where its record's lines can't be read
abbrev pub IsStruckAt : ImageLine → List ℕ → Mark → Option (List (Option ℕ)) → Type 0
IsStruckAt line text mark None = HasLongSavedLine text mark
IsStruckAt line text mark (Some kept) = AreStruck line.length (touched_at text mark) line.marks kept

-- so, or nothing is known of it
abbrev pub IsJudgedAt : ImageLine → List ℕ → Mark → List ℕ → Verdict → Type 0
IsJudgedAt line text mark x verdict = ((verdict ≡ Untold) × HasLongSavedLine text mark) ⊎ IsJudgedWithout line text mark x verdict

-- without a line nothing is known of it
abbrev pub IsJudgedBy : Option ImageLine → List ℕ → Mark → List ℕ → Verdict → Type 0
IsJudgedBy None text mark x verdict = verdict ≡ Untold
IsJudgedBy (Some line) text mark x verdict = IsJudgedAt line text mark x verdict

-- something is unfinished in a text, and its record stands at a mark: recovery writes to the image, which is judged
pub record IsOpenJudged (line : Option ImageLine) (text x : List ℕ) (verdict : Verdict) : Type 0 where
  pub torn : Torn
  pub mark : Mark
  pub unfinished : IsTornIn text torn
  pub marked : torn.mark ≡ Some mark
  pub judged : IsJudgedBy line text mark x verdict

-- nothing is unfinished in it, or what is has no record: recovery writes nothing to the image
abbrev pub LeavesImage : List ℕ → Type 0
LeavesImage text = IsClean text ⊎ ((torn : Torn) × IsTornIn text torn × (torn.mark ≡ None))

-- what is said of an image beside a journal's text
abbrev pub IsUnfinishedJudged : Option ImageLine → List ℕ → List ℕ → Option Verdict → Type 0
IsUnfinishedJudged line text x None = LeavesImage text
IsUnfinishedJudged line text x (Some verdict) = IsOpenJudged line text x verdict

-- The right image is never refused: a line says nothing wrong of the image x, as it was when the line was written; a journal's text has an unfinished
-- change behind its save line; restoring its record makes the same image of y, which is found, as of x; and y has a length between the line's two. Then y
-- isn't judged to be another one.
abbrev pub NeverRefusesWhatIsRecovered : Type 0
NeverRefusesWhatIsRecovered = (x y text : List ℕ) (r : Reading) (v : Version) (s : Kept) (line : ImageLine) → Reads (shown text) r
    → r.stage ≡ Ending v s → s.len ≤ MAX_LEN
    → length x < 2 ^ 64 → line.length ≡ length x → AreTrueMarks x line.marks → restore s y ≡ restore s x → line.least ≤ length y → length y ≤ line.most
    → IsUnfinishedJudged (Some line) text y (Some Other) → ⊥
