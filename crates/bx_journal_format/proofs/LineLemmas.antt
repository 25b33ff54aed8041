-- The lines that are written read as what they were made of.
use Rattle.std.proofs.Common.{◌≡◌, ℕ, ◌+◌, ◌^◌, ◌<◌, ◌≤◌, Bool, true, false, List, ◌++◌, length, length-drop, take, drop, refl, arith, length-append, Some, None, rules}
use Rattle.std.specs.Prelude.{◌==◌, codes, if◌then◌else◌, option_and_then}
use Rattle.std.specs.List.{list_all}
use Rattle.std.specs.Str.{bytes_eq}
use Rattle.std.proofs.lemmas.Grind.{common_steps}
use Rattle.std.proofs.lemmas.List.Folds.{list_all-append}
use Rattle.std.proofs.lemmas.Slice.Eq.{bytes_eq-Decides}
use Rattle.std.proofs.Math.Seq.{take-append_seam, drop-append_seam}
use Rattle.bx_image.specs.declared.change.TheConstants.{MAX_LEN}
use Rattle.bx_journal_format.specs.declared.format.version.Version.{Version}
use Rattle.bx_journal_format.specs.declared.format.version.Version.TheVariants.{First, Second}
use Rattle.bx_journal_format.specs.Hex.{hex_digits, number_after, number_of}
use Rattle.bx_journal_format.specs.Line.{address_width, start_head, start_line, save_line, end_head, end_line, after_prefix, at_most, length_in, after_in, start_size}
use Rattle.bx_text.specs.Ascii.{is_printable}
use Rattle.bx_journal_format.specs.Text.{is_short}
use Rattle.bx_journal_format.specs.read.Plain.{HasNoNewline}
use Rattle.bx_journal_format.proofs.Splits.{plain-append}
use Rattle.bx_journal_format.proofs.HexLemmas.{length-hex_digits, number_of-hex_digits, plain-hex_digits, printable-hex_digits}

pub bytes_eq-same : (a : List ℕ) → bytes_eq a a ≡ true
bytes_eq-same a = grind (arith, common_steps, bytes_eq-Decides a a)

pub behind_front : (front line : List ℕ) → after_prefix front (front ++ line) ≡ Some line
behind_front front line = rw (take-append_seam front line, bytes_eq-same front, drop-append_seam front line) refl

pub at_most-Some : (n limit : ℕ) → n ≤ limit → at_most limit (Some n) ≡ Some n
at_most-Some n limit h = grind (arith, common_steps)

pub start_reads : (v : Version) (n len : ℕ) → len ≤ MAX_LEN → len < 16 ^ address_width v → length_in v n (start_line v n len) ≡ Some len
unfolding length_in start_line
start_reads v n len most fits =
    rw (behind_front (start_head v n) (hex_digits (address_width v) len), number_of-hex_digits (address_width v) len fits) (at_most-Some len MAX_LEN most)

pub first_not_second : (n m len : ℕ) → length_in First m (start_line Second n len) ≡ None
unfolding length_in start_line start_head hex_digits
first_not_second n m len = refl

pub end_reads : (n after : ℕ) → after ≤ MAX_LEN → after_in Second n (end_line Second n after) ≡ Some (Some after)
unfolding after_in end_line
end_reads n after most =
    let fits : after < 16 ^ 16 = omega arith in
    rw (behind_front (end_head Second n) (hex_digits 16 after), number_of-hex_digits 16 after fits, at_most-Some after MAX_LEN most) refl

plain_word : (word : List ℕ) (n : ℕ) (w : ℕ) → HasNoNewline word → HasNoNewline (word ++ hex_digits w n)
plain_word word n w h = plain-append word (hex_digits w n) h (plain-hex_digits w n)

pub plain_start : (n len : ℕ) → HasNoNewline (start_line Second n len)
unfolding start_line start_head
plain_start n len = plain_word (codes "change2 " ++ hex_digits 8 n ++ codes " ") len 16
    (plain-append (codes "change2 " ++ hex_digits 8 n) (codes " ") (plain_word (codes "change2 ") n 8 (search rules)) (search rules))

pub plain_save : (n : ℕ) → HasNoNewline (save_line n)
unfolding save_line
plain_save n = plain_word (codes "save ") n 8 (search rules)

pub plain_end : (n after : ℕ) → HasNoNewline (end_line Second n after)
unfolding end_line end_head
plain_end n after = plain_word (codes "done2 " ++ hex_digits 8 n ++ codes " ") after 16
    (plain-append (codes "done2 " ++ hex_digits 8 n) (codes " ") (plain_word (codes "done2 ") n 8 (search rules)) (search rules))

-- a text of these bytes that print and are few
short_of : (line : List ℕ) → length line ≤ 75 → list_all is_printable line ≡ true → is_short line ≡ true
short_of line few prints = grind (arith, common_steps)

words_print : (a : List ℕ) (n w : ℕ) (b : List ℕ) → list_all is_printable a ≡ true → list_all is_printable b ≡ true → list_all is_printable (a ++ hex_digits w n ++ b) ≡ true
words_print a n w b p q = rw (list_all-append is_printable (a ++ hex_digits w n) b, list_all-append is_printable a (hex_digits w n), p, printable-hex_digits w n, q) refl

words_len : (a : List ℕ) (n w : ℕ) (b : List ℕ) → length (a ++ hex_digits w n ++ b) ≡ length a + w + length b
words_len a n w b = omega (arith, length-append (a ++ hex_digits w n) b, length-append a (hex_digits w n), length-hex_digits w n)

pub short_start : (n len : ℕ) → is_short (start_line Second n len) ≡ true
unfolding start_line start_head
short_start n len = short_of (codes "change2 " ++ hex_digits 8 n ++ codes " " ++ hex_digits 16 len)
    (omega (arith, words_len (codes "change2 ") n 8 (codes " "), length-append (codes "change2 " ++ hex_digits 8 n ++ codes " ") (hex_digits 16 len), length-hex_digits 16 len))
    (rw (list_all-append is_printable (codes "change2 " ++ hex_digits 8 n ++ codes " ") (hex_digits 16 len), words_print (codes "change2 ") n 8 (codes " ") refl refl, printable-hex_digits 16 len) refl)

pub short_end : (n after : ℕ) → is_short (end_line Second n after) ≡ true
unfolding end_line end_head
short_end n after = short_of (codes "done2 " ++ hex_digits 8 n ++ codes " " ++ hex_digits 16 after)
    (omega (arith, words_len (codes "done2 ") n 8 (codes " "), length-append (codes "done2 " ++ hex_digits 8 n ++ codes " ") (hex_digits 16 after), length-hex_digits 16 after))
    (rw (list_all-append is_printable (codes "done2 " ++ hex_digits 8 n ++ codes " ") (hex_digits 16 after), words_print (codes "done2 ") n 8 (codes " ") refl refl, printable-hex_digits 16 after) refl)

pub short_save : (n : ℕ) → is_short (save_line n) ≡ true
unfolding save_line
short_save n = short_of (codes "save " ++ hex_digits 8 n)
    (omega (arith, length-append (codes "save ") (hex_digits 8 n), length-hex_digits 8 n))
    (rw (list_all-append is_printable (codes "save ") (hex_digits 8 n), printable-hex_digits 8 n) refl)

pub head_size : (v : Version) (n : ℕ) → length (start_head v n) + address_width v ≡ start_size v
unfolding start_head
head_size First n = omega (arith, length-append (codes "change ") (hex_digits 8 n ++ codes " "), length-append (hex_digits 8 n) (codes " "), length-hex_digits 8 n)
head_size Second n = omega (arith, length-append (codes "change2 ") (hex_digits 8 n ++ codes " "), length-append (hex_digits 8 n) (codes " "), length-hex_digits 8 n)

other_width : (width : ℕ) (text : List ℕ) → (length text ≡ width → ⊥) → number_of width text ≡ None
other_width width text apart = by (length text == width) refl
  where
    by : (b : Bool) → length text == width ≡ b → (if b then number_after 0 text else None) ≡ None
    by false is = refl
    by true is = absurd (apart (same (length text) width is))
      where
        same : (m n : ℕ) → m == n ≡ true → m ≡ n
        same m n e = grind (arith, common_steps)

some_digits : (v : Version) → 0 < address_width v
some_digits First = omega arith
some_digits Second = omega arith

-- a line of another length begins no entry
pub other_size : (v : Version) (n : ℕ) (line : List ℕ) → (length line ≡ start_size v → ⊥) → length_in v n line ≡ None
unfolding length_in
other_size v n line apart = by (bytes_eq (take (length (start_head v n)) line) (start_head v n))
  where
    by : (b : Bool) → at_most MAX_LEN (option_and_then (number_of (address_width v)) (if b then Some (drop (length (start_head v n)) line) else None)) ≡ None
    by false = refl
    by true =
        rw (other_width (address_width v) (drop (length (start_head v n)) line) (λ h. apart (omega (arith, h, length-drop (length (start_head v n)) line, head_size v n, some_digits v)))) refl
