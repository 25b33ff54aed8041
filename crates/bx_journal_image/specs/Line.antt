-- The line that a journal's third text has.
use Rattle.std.specs.Prelude.{ℕ, ◌≡◌, ◌^◌, ◌<◌, Option, None, Some, IfSome, List, [], ◌++◌, length, slice_index_or, codes}
use Rattle.std.specs.List.{flat_map}
use Rattle.bx_journal_format.specs.Hex.{hex_digits}
use Rattle.bx_journal_image.specs.declared.line.form.ImageLine.{ImageLine}

-- a word, and a number in `width` lower-case digits
abbrev pub field : List ℕ → ℕ → ℕ → List ℕ
field word width n = word ++ hex_digits width n

-- what is known of a block
abbrev pub mark_text : Option ℕ → List ℕ
mark_text None = codes " --------"
mark_text (Some n) = field (codes " ") 8 n

-- what is known of all
abbrev pub marks_text : List (Option ℕ) → List ℕ
marks_text marks = flat_map mark_text marks

-- the line: how many changes stand and are undone, the image's length, both digests, how many of the oldest changes stand for another image,
-- the least and the greatest length, and the blocks
unfoldable pub image_line : ImageLine → List ℕ
image_line l = field (codes "image3 ") 8 l.changes ++ field (codes " ") 8 l.undone ++ field (codes " ") 16 l.length
    ++ field (codes " ") 16 l.last.high ++ field [] 16 l.last.low ++ field (codes " ") 16 l.next.high ++ field [] 16 l.next.low
    ++ field (codes " ") 8 l.others ++ field (codes " ") 16 l.least ++ field (codes " ") 16 l.most ++ marks_text l.marks ++ codes "\n"

-- a digest has places enough
abbrev pub FitsMark : Option ℕ → Type 0
FitsMark m = IfSome m (λ n. n < 16 ^ 8)

-- so have those of 32 blocks
pub record AreFitMarks (ms : List (Option ℕ)) : Type 0 where
  pub count : length ms ≡ 32
  pub each : (i : ℕ) → i < 32 → FitsMark (slice_index_or ms i None)

-- its numbers have places enough
pub record FitsPlaces (l : ImageLine) : Type 0 where
  pub changes : l.changes < 16 ^ 8
  pub undone : l.undone < 16 ^ 8
  pub length : l.length < 16 ^ 16
  pub last_high : l.last.high < 16 ^ 16
  pub last_low : l.last.low < 16 ^ 16
  pub next_high : l.next.high < 16 ^ 16
  pub next_low : l.next.low < 16 ^ 16
  pub others : l.others < 16 ^ 8
  pub least : l.least < 16 ^ 16
  pub most : l.most < 16 ^ 16
  pub marks : AreFitMarks l.marks
