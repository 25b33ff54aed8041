-- How long the line is that a note may be.
use Rattle.std.proofs.Common.{◌≡◌, ℕ, ◌+◌, ◌*◌, ◌<◌, List, [], ◌∷◌, ◌++◌, Option, None, Some, length, refl, ap, arith, length-append}
use Rattle.std.specs.Prelude.{codes}
use Rattle.bx_journal_format.proofs.HexLemmas.{length-hex_digits}
use Rattle.bx_journal_format.specs.Hex.{hex_digits}
use Rattle.bx_journal_image.specs.Line.{FitsPlaces, field, image_line, mark_text, marks_text}
use Rattle.bx_journal_image.specs.declared.line.form.ImageLine.{ImageLine}
use Rattle.bx_world.specs.World.{IsFrontRead}

field_length : (word : List ℕ) (width n : ℕ) → length (field word width n) ≡ length word + width
field_length word width n = omega (arith, length-append word (hex_digits width n), length-hex_digits width n)

mark_length : (m : Option ℕ) → length (mark_text m) ≡ 9
mark_length None = refl
mark_length (Some n) = field_length (codes " ") 8 n

marks_length : (ms : List (Option ℕ)) → length (marks_text ms) ≡ 9 * length ms
marks_length [] = refl
marks_length (m ∷ ms) = omega (arith, length-append (mark_text m) (marks_text ms), mark_length m, marks_length ms)

twelve : (a b c d e f g h i j k l : List ℕ) → length (a ++ b ++ c ++ d ++ e ++ f ++ g ++ h ++ i ++ j ++ k ++ l)
    ≡ length a + length b + length c + length d + length e + length f + length g + length h + length i + length j + length k + length l
twelve a b c d e f g h i j k l =
    omega (
      arith,
      length-append (a ++ b ++ c ++ d ++ e ++ f ++ g ++ h ++ i ++ j ++ k) l,
      length-append (a ++ b ++ c ++ d ++ e ++ f ++ g ++ h ++ i ++ j) k,
      length-append (a ++ b ++ c ++ d ++ e ++ f ++ g ++ h ++ i) j,
      length-append (a ++ b ++ c ++ d ++ e ++ f ++ g ++ h) i,
      length-append (a ++ b ++ c ++ d ++ e ++ f ++ g) h,
      length-append (a ++ b ++ c ++ d ++ e ++ f) g,
      length-append (a ++ b ++ c ++ d ++ e) f,
      length-append (a ++ b ++ c ++ d) e,
      length-append (a ++ b ++ c) d,
      length-append (a ++ b) c,
      length-append a b,
    )

-- a line that fits has as many bytes as any
pub line_length : (l : ImageLine) → FitsPlaces l → length (image_line l) ≡ 439
unfolding image_line
line_length l fits =
    omega (
      arith,
      twelve (field (codes "image3 ") 8 l.changes) (field (codes " ") 8 l.undone) (field (codes " ") 16 l.length) (field (codes " ") 16 l.last.high)
          (field [] 16 l.last.low) (field (codes " ") 16 l.next.high) (field [] 16 l.next.low) (field (codes " ") 8 l.others) (field (codes " ") 16 l.least)
          (field (codes " ") 16 l.most) (marks_text l.marks) (codes "\n"),
      field_length (codes "image3 ") 8 l.changes,
      field_length (codes " ") 8 l.undone,
      field_length (codes " ") 16 l.length,
      field_length (codes " ") 16 l.last.high,
      field_length [] 16 l.last.low,
      field_length (codes " ") 16 l.next.high,
      field_length [] 16 l.next.low,
      field_length (codes " ") 8 l.others,
      field_length (codes " ") 16 l.least,
      field_length (codes " ") 16 l.most,
      marks_length l.marks,
      fits.marks.count,
    )

-- a note that is longer is none
pub no_line : (n : ℕ) (buf note : List ℕ) → 439 < n → IsFrontRead n 440 buf note → (l : ImageLine) → FitsPlaces l → note ≡ image_line l → ⊥
no_line n buf note more read l fits is = absurd (omega (arith, more, read.all, ap length is, line_length l fits))
