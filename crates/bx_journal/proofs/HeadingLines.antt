-- A heading is one line.
use Rattle.std.proofs.Common.{◌≡◌, ◌≢◌, ◌+◌, ℕ, zero, suc, eqb, Bool, true, false, Option, None, Some, List, [], ◌∷◌, ◌++◌, length, refl, arith, All}
use Rattle.std.specs.Prelude.{◌==◌, ◌/◌, ◌%◌, ◌-◌, codes, decimal, flat_map, if◌then◌else◌, nat_lt}
use Rattle.std.proofs.lemmas.List.Elements.{All-append, All-cons, All-drop, All-nil}
use Rattle.core.specs.Fmt.{digit_glyph, digits, digits_onto}
use Rattle.bx_journal_format.specs.Kept.{Kept, Run}
use Rattle.bx_journal_format.specs.Ranges.{range_text, ranges_text}
use Rattle.bx_journal_format.specs.Text.{Entry}
use Rattle.bx_journal_read.specs.declared.show.way.Direction.{Direction}
use Rattle.bx_journal_read.specs.declared.show.way.Direction.TheVariants.{Undo, Redo}
use Rattle.bx_journal_format.specs.count.Rows.{saved_length}
use Rattle.bx_journal_read.specs.show.Showing.{after_text}
use Rattle.bx_journal_read.specs.show.ShownSteps.{bytes_text, keeps_length, length_words, way_word, writes_text}

-- no newline is in a text
abbrev pub IsOneLine : List ℕ → Type 0
IsOneLine text = All (λ c. c ≢ 10) text

-- whether that is so
abbrev pub one_line : List ℕ → Bool
one_line [] = true
one_line (c ∷ text) = if eqb c 10 then false else one_line text

pub looked : (text : List ℕ) → one_line text ≡ true → IsOneLine text
looked [] is = All-nil (λ c. c ≢ 10)
looked (c ∷ text) is = by (eqb c 10) refl (looked text) is
  where
    by : (b : Bool) → eqb c 10 ≡ b → (one_line text ≡ true → IsOneLine text) → (if b then false else one_line text) ≡ true → IsOneLine (c ∷ text)
    by true e more is = absurd cc
    by false e more is = All-cons (λ c. c ≢ 10) c text (λ same. let k : eqb 10 10 ≡ false = rw same at e in cc) (more is)

pub joined : (x y : List ℕ) → IsOneLine x → IsOneLine y → IsOneLine (x ++ y)
joined x y one other = All-append (λ c. c ≢ 10) x y one other

either : (b : Bool) (x y : List ℕ) → IsOneLine x → IsOneLine y → IsOneLine (if b then x else y)
either true x y one other = one
either false x y one other = other

-- numbers have digits alone
digit : (d : ℕ) → digit_glyph false d ≢ 10
digit d = by (nat_lt d 10)
  where
    by : (b : Bool) → (if b then 48 + d else 87 + d) ≢ 10
    by true same = absurd (omega (arith, same))
    by false same = absurd (omega (arith, same))

digits_in : (k n : ℕ) (acc : List ℕ) → IsOneLine acc → IsOneLine (digits_onto k 10 false n acc)
digits_in zero n acc rest = rest
digits_in (suc k) n acc rest =
    let more : IsOneLine (digit_glyph false (n % 10) ∷ acc) = All-cons (λ c. c ≢ 10) (digit_glyph false (n % 10)) acc (digit (n % 10)) rest in
    either (n / 10 == 0) (digit_glyph false (n % 10) ∷ acc) (digits_onto k 10 false (n / 10) (digit_glyph false (n % 10) ∷ acc)) more
    (digits_in k (n / 10) (digit_glyph false (n % 10) ∷ acc) more)

pub number : (n : ℕ) → IsOneLine (decimal n)
unfolding digits
number n = digits_in 64 n [] (All-nil (λ c. c ≢ 10))

-- and so have ranges
range : (run : Run) → IsOneLine (range_text run)
range run =
    let first = codes "," ++ decimal run.at in
    let last = decimal (run.at + length run.bytes - 1) in
    either (length run.bytes == 0) [] (first ++ codes "-" ++ last) (All-nil (λ c. c ≢ 10))
    (joined (first ++ codes "-") last (joined first (codes "-") (joined (codes ",") (decimal run.at) (looked (codes ",") refl) (number run.at)) (looked (codes "-") refl))
    (number (run.at + length run.bytes - 1)))

ranges : (runs : List Run) → IsOneLine (flat_map range_text runs)
ranges [] = All-nil (λ c. c ≢ 10)
ranges (run ∷ runs) = joined (range_text run) (flat_map range_text runs) (range run) (ranges runs)

-- what a step writes, and what it makes of the length
bytes_in : (n : ℕ) → IsOneLine (bytes_text n)
bytes_in n = either (n == 1) (codes "1 byte") (decimal n ++ codes " bytes") (looked (codes "1 byte") refl)
    (joined (decimal n) (codes " bytes") (number n) (looked (codes " bytes") refl))

writes : (s : Kept) → IsOneLine (writes_text s)
writes s =
    let count = bytes_text (saved_length s) in
    either (saved_length s == 0) (codes "no bytes") (count ++ codes " at " ++ ranges_text s.runs) (looked (codes "no bytes") refl)
    (joined (count ++ codes " at ") (ranges_text s.runs) (joined count (codes " at ") (bytes_in (saved_length s)) (looked (codes " at ") refl))
    (All-drop (λ c. c ≢ 10) 1 (flat_map range_text s.runs) (ranges s.runs)))

after_in : (after : Option ℕ) → IsOneLine (after_text after)
after_in None = looked (codes "-") refl
after_in (Some n) = number n

lengths : (after : Option ℕ) (len : ℕ) → IsOneLine (length_words after len)
lengths after len =
    let front = codes "length " ++ after_text after in
    either (keeps_length after len) (codes "keeps length " ++ decimal len) (front ++ codes " to " ++ decimal len)
    (joined (codes "keeps length ") (decimal len) (looked (codes "keeps length ") refl) (number len))
    (joined (front ++ codes " to ") (decimal len)
    (joined front (codes " to ") (joined (codes "length ") (after_text after) (looked (codes "length ") refl) (after_in after)) (looked (codes " to ") refl)) (number len))

way_in : (way : Direction) → IsOneLine (way_word way)
way_in Undo = looked (codes "undo") refl
way_in Redo = looked (codes "redo") refl

-- the number of a change in a heading
pub change_in : (n : ℕ) → IsOneLine (codes "# change " ++ decimal n)
change_in n = joined (codes "# change ") (decimal n) (looked (codes "# change ") refl) (number n)

-- a heading without its newline
abbrev pub head : Direction → ℕ → Entry → List ℕ
head way n e = codes "# change " ++ decimal n ++ codes ": " ++ way_word way ++ codes " writes " ++ writes_text e.saved ++ codes ", " ++ length_words e.after e.saved.len

pub head_in : (way : Direction) (n : ℕ) (e : Entry) → IsOneLine (head way n e)
head_in way n e =
    let first = codes "# change " ++ decimal n in
    let word = first ++ codes ": " ++ way_word way in
    let what = word ++ codes " writes " ++ writes_text e.saved in
    joined (what ++ codes ", ") (length_words e.after e.saved.len)
    (joined what (codes ", ")
    (joined (word ++ codes " writes ") (writes_text e.saved)
    (joined word (codes " writes ") (joined (first ++ codes ": ") (way_word way) (joined first (codes ": ") (change_in n) (looked (codes ": ") refl)) (way_in way))
    (looked (codes " writes ") refl)) (writes e.saved)) (looked (codes ", ") refl)) (lengths e.after e.saved.len)
