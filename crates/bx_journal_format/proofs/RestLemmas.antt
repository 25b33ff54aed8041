-- The unfinished end of a text: it prints, and no entry has ended in it.
use Rattle.std.proofs.Common.{◌≡◌, ℕ, suc, ◌&&◌, ◌||◌, Bool, true, false, eqb, List, [], ◌∷◌, ◌++◌, length, drop, codes, Some, inl, inr, refl, ap, sym, subst, ◌∙◌, append_assoc}
use Rattle.std.specs.Prelude.{nat_le}
use Rattle.std.specs.List.{list_all}
use Rattle.std.proofs.lemmas.List.Folds.{list_all-append}
use Rattle.std.proofs.lemmas.Bool.{and_parts, and_from, and_left, and_right, or_from, false_from_ne_true, both_ways}
use Rattle.bx_text.specs.Ascii.{is_printable}
use Rattle.bx_journal_format.specs.Hex.{hex_digits}
use Rattle.bx_journal_format.specs.Line.{start_line, start_head, save_line, end_line}
use Rattle.bx_journal_format.specs.Text.{ended, text_of_lines, split, is_short, Entry, Stage, Between, Saving, Ending, Reading, Reads, IsRest, IsPrefix, start, after_lines}
use Rattle.bx_journal_format.specs.Shown.{begins_with, ends_line, has_end, is_text_byte}
use Rattle.bx_journal_format.specs.declared.format.version.Version.{Version}
use Rattle.bx_journal_format.specs.declared.format.version.Version.TheVariants.{First, Second}
use Rattle.bx_journal_format.specs.read.Plain.{HasNoNewline}
use Rattle.bx_journal_format.specs.count.Mark.{IsMark}
use Rattle.bx_journal_format.proofs.Splits.{AllPlain}
use Rattle.bx_journal_format.proofs.Foreign.{lines_plain as split_plain}
use Rattle.bx_journal_format.proofs.HexLemmas.{printable-hex_digits}
use Rattle.bx_journal_format.proofs.LineLemmas.{short_save}
use Rattle.bx_journal_format.proofs.CalmLemmas.{word, AllUnended, begins_line, calm_line, line_plain, lines_plain, lines_unended, on_behind}
use Rattle.bx_journal_format.proofs.CleanLemmas.{end_prints}

start_prints : (v : Version) (n len : ℕ) → list_all is_printable (start_line v n len) ≡ true
unfolding start_line start_head
start_prints First n len =
    rw (list_all-append is_printable (codes "change " ++ hex_digits 8 n ++ codes " ") (hex_digits 8 len), list_all-append is_printable (codes "change " ++ hex_digits 8 n) (codes " "), list_all-append is_printable (codes "change ") (hex_digits 8 n), printable-hex_digits 8 n, printable-hex_digits 8 len) refl
start_prints Second n len =
    rw (list_all-append is_printable (codes "change2 " ++ hex_digits 8 n ++ codes " ") (hex_digits 16 len), list_all-append is_printable (codes "change2 " ++ hex_digits 8 n) (codes " "), list_all-append is_printable (codes "change2 ") (hex_digits 8 n), printable-hex_digits 8 n, printable-hex_digits 16 len) refl

front_prints : (t l : List ℕ) → IsPrefix t l → list_all is_printable l ≡ true → list_all is_printable t ≡ true
front_prints t l front prints =
    (and_parts (list_all is_printable t) (list_all is_printable front.0) (sym (list_all-append is_printable t front.0) ∙ sym (ap (list_all is_printable) front.1) ∙ prints)).0

short_prints : (l : List ℕ) → is_short l ≡ true → list_all is_printable l ≡ true
short_prints l short = (and_parts (nat_le (length l) 75) (list_all is_printable l) short).1

rest_prints : (es : List Entry) (stage : Stage) (rest : List ℕ) → IsRest es stage rest → list_all is_printable rest ≡ true
rest_prints es Between rest (inl none) = ap (list_all is_printable) none
rest_prints es Between rest (inr is) = front_prints rest (start_line is.0 (suc (length es)) is.1) is.6 (start_prints is.0 (suc (length es)) is.1)
rest_prints es (Saving v s) rest (inl is) = front_prints rest (save_line (suc (length es))) is.1 (short_prints (save_line (suc (length es))) (short_save (suc (length es))))
rest_prints es (Saving v s) rest (inr is) = short_prints rest is.1
rest_prints es (Ending v s) rest is = front_prints rest (end_line v (suc (length es)) is.0) is.2 (end_prints v (suc (length es)) is.0)

-- a text of short lines and such an end has bytes of a text alone
pub sound_plain : (text : List ℕ) (r : Reading) → text_of_lines (split text).lines ++ (split text).rest ≡ text → list_all is_short (split text).lines ≡ true → Reads text r → list_all is_text_byte text ≡ true
sound_plain text r whole short reads =
    ap (list_all is_text_byte) (sym whole) ∙ list_all-append is_text_byte (text_of_lines (split text).lines) (split text).rest
    ∙ and_from (list_all is_text_byte (text_of_lines (split text).lines)) (list_all is_text_byte (split text).rest) (lines_plain (split text).lines short)
    (line_plain (split text).rest (rest_prints r.entries r.stage (split text).rest reads.rest))

plain_ends : (rest : List ℕ) → HasNoNewline rest → ends_line rest ≡ false
unfolding ends_line
plain_ends [] plain = refl
plain_ends (b ∷ rest) plain = by (eqb b 0) refl (plain_ends rest plain.1)
  where
    by : (none : Bool) → eqb b 0 ≡ none → ends_line rest ≡ false → ends_line (b ∷ rest) ≡ false
    by true e later = rw (plain.0, e) refl
    by false e later = rw (plain.0, e) later

plain_calm : (rest : List ℕ) → HasNoNewline rest → has_end rest ≡ false
unfolding has_end
plain_calm [] plain = refl
plain_calm (b ∷ rest) plain = rw (plain.0) (plain_calm rest plain.1)

rest_lines_calm : (ls : List (List ℕ)) (rest : List ℕ) → AllPlain ls → AllUnended ls → HasNoNewline rest → has_end (10 ∷ (text_of_lines ls ++ rest)) ≡ false
unfolding has_end begins_with
rest_lines_calm [] rest plain none end =
    or_from (begins_with word rest && ends_line rest) (has_end rest) (ap (λ e. begins_with word rest && e) (plain_ends rest end) ∙ and_right (begins_with word rest) false refl) (plain_calm rest end)
rest_lines_calm (l ∷ ls) rest plain none end =
    let more : List ℕ = text_of_lines ls ++ rest in
    let whole : text_of_lines (l ∷ ls) ++ rest ≡ l ++ 10 ∷ (text_of_lines ls ++ rest) = append_assoc (ended l) (text_of_lines ls) rest ∙ append_assoc l (10 ∷ []) (text_of_lines ls ++ rest) in
    let first : begins_with word (text_of_lines (l ∷ ls) ++ rest) ≡ false =
    false_from_ne_true _ (λ is. both_ways (begins_with word l) none.0 (begins_line word l (text_of_lines ls ++ rest) (refl, (refl, (refl, (refl, tt)))) (subst (λ t. begins_with word t ≡ true) whole is))) in
    let later : has_end (text_of_lines (l ∷ ls) ++ rest) ≡ false = ap has_end whole ∙ calm_line l (text_of_lines ls ++ rest) plain.0 ∙ rest_lines_calm ls rest plain.1 none.1 end in
    or_from (begins_with word (text_of_lines (l ∷ ls) ++ rest) && ends_line (text_of_lines (l ∷ ls) ++ rest)) (has_end (text_of_lines (l ∷ ls) ++ rest))
    (and_left (begins_with word (text_of_lines (l ∷ ls) ++ rest)) (ends_line (text_of_lines (l ∷ ls) ++ rest)) first) later

or_second : (a b : Bool) → (a || b) ≡ false → b ≡ false
or_second true b e = absurd (both_ways true e refl)
or_second false b e = e

-- what stands behind a mark, with what is unfinished at its end
pub unfinished_calm : (text : List ℕ) (n : ℕ) (r q : Reading) → IsMark text n r → after_lines start (split text).lines ≡ Some q → length q.entries ≡ length r.entries
    → text_of_lines (split (drop n text)).lines ++ (split (drop n text)).rest ≡ drop n text → HasNoNewline (split (drop n text)).rest → has_end (drop n text) ≡ false
unfolding has_end
unfinished_calm text n r q mark reads same whole plain =
    let ls : List (List ℕ) = (split (drop n text)).lines in
    let rest : List ℕ = (split (drop n text)).rest in
    let calm : has_end (10 ∷ (text_of_lines (split (drop n text)).lines ++ (split (drop n text)).rest)) ≡ false =
    rest_lines_calm (split (drop n text)).lines (split (drop n text)).rest (split_plain (drop n text)) (lines_unended (split (drop n text)).lines r q (on_behind text n r q mark reads) same) plain in
    ap has_end (sym whole) ∙ or_second (begins_with word (text_of_lines (split (drop n text)).lines ++ (split (drop n text)).rest) && ends_line (text_of_lines (split (drop n text)).lines ++ (split (drop n text)).rest)) (has_end (text_of_lines (split (drop n text)).lines ++ (split (drop n text)).rest)) calm
