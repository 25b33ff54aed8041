-- Ranges of an image, whose saved lines go into a page part by part.
use Rattle.std.specs.Prelude.{◌≡◌, ◌⊎◌, ◌<◌, ◌≤◌, ℕ, ◌+◌, ◌-◌, List, [], ◌∷◌, ◌++◌, length, take, drop}
use Rattle.bx_image.specs.Image.{zeros}
use Rattle.bx_image.specs.Over.{saved_over}
use Rattle.bx_journal_format.specs.Kept.{Kept}
use Rattle.bx_journal_format.specs.Entry.{rows, rows_text}
use Rattle.bx_journal_format.specs.Line.{save_line}
use Rattle.bx_journal_format.specs.Text.{ended}
use Rattle.bx_image.specs.declared.record.spans.Span.{Span}
use Rattle.bx_journal_protocol.specs.declared.write.head.Place.{Place}

-- the saved lines of the bytes from an address up to another
abbrev pub saved_lines_text : List ℕ → ℕ → ℕ → List ℕ
saved_lines_text x at end = rows_text (rows (record { at = at; bytes = take (end - at) (drop at x) }))

-- how long they are, whatever the bytes are
abbrev pub range_len : ℕ → ℕ → ℕ
range_len at end = length (rows_text (rows (record { at = at; bytes = zeros (end - at) })))

-- the saved lines of ranges, where a number of bytes of the first are done
abbrev pub left_text : List ℕ → List Span → ℕ → List ℕ
left_text x [] done = []
left_text x (r ∷ ranges) done = saved_lines_text x (r.at + done) r.end ++ left_text x ranges 0

abbrev pub left_len : List Span → ℕ → ℕ
left_len [] done = 0
left_len (r ∷ ranges) done = range_len (r.at + done) r.end + left_len ranges 0

-- those from a place on
abbrev pub rest_text : List ℕ → List Span → Place → List ℕ
rest_text x ranges p = left_text x (drop p.range ranges) p.done

abbrev pub rest_len : List Span → Place → ℕ
rest_len ranges p = left_len (drop p.range ranges) p.done

-- each range has an address, and ends within a length
abbrev pub AreRanges : ℕ → List Span → Type 0
AreRanges len [] = Unit {0}
AreRanges len (r ∷ ranges) = (r.at < r.end) × (r.end ≤ len) × AreRanges len ranges

-- less than the first range is done, or nothing is left
abbrev pub IsLeft : List Span → ℕ → Type 0
IsLeft [] done = done ≡ 0
IsLeft (r ∷ ranges) done = r.at + done < r.end

-- a place in one of the ranges, or at the end of all
pub record IsPlace (ranges : List Span) (p : Place) : Type 0 where
  pub within : p.range ≤ length ranges
  pub left : IsLeft (drop p.range ranges) p.done

-- the place behind the bytes of a range up to an address
abbrev pub IsPlaceBehind : Span → Place → ℕ → Place → Type 0
IsPlaceBehind r p next q =
    ((next ≡ r.end) × (q ≡ record { range = p.range + 1; done = 0 })) ⊎ ((next < r.end) × (q ≡ record { range = p.range; done = next - r.at }))

-- an entry's head: the bytes that wait in a page, the lines from a place on, and the save line
abbrev pub head_from : List ℕ → List Span → Place → List ℕ → ℕ → List ℕ
head_from x ranges p page number = (page ++ rest_text x ranges p) ++ ended (save_line number)

-- what an entry keeps of an image: its length, and its bytes in these ranges
abbrev pub kept_over : List ℕ → List Span → Kept
kept_over x spans = saved_over {A = Unit {0}} x spans
