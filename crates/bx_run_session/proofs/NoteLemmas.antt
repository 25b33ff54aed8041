-- The note, and the line that it has.
use Rattle.std.proofs.Common.{◌≡◌, ◌⊎◌, ◌↔◌, ◌∙◌, Bool, true, false, ℕ, ◌+◌, ◌*◌, ◌<◌, ◌≤◌, List, [], ◌∷◌, ◌++◌, length, length-append, Option, Some, None, take, refl, sym, ap, subst, inl, inr, arith}
use Rattle.std.specs.Prelude.{IfNone, IfSome, codes, min}
use Rattle.std.proofs.lemmas.List.{length-take, take_all, take_min}
use Rattle.bx_journal_format.proofs.HexLemmas.{length-hex_digits}
use Rattle.bx_journal_format.specs.Hex.{hex_digits}
use Rattle.bx_journal_image.specs.declared.line.form.ImageLine.{ImageLine}
use Rattle.bx_journal.specs.RecoveryOutcome.{RecoveryOutcome}
use Rattle.bx_world.specs.World.{IsFrontRead}
use Rattle.bx_world.specs.declared.files.unopened.OpenError.{OpenError}
use Rattle.bx_run_session.specs.session.Guarded.{NoteSays}
use Rattle.bx_run_session.specs.session.Named.{ClearsNote}
use Rattle.bx_journal_image.specs.Line.{FitsPlaces, field, image_line, mark_text, marks_text}

more : (a b : List ℕ) (m n : ℕ) → length a ≡ m → length b ≡ n → length (a ++ b) ≡ m + n
more a b m n one other = omega (arith, length-append a b, one, other)

field_is : (word : List ℕ) (m width n : ℕ) → length word ≡ m → length (field word width n) ≡ m + width
field_is word m width n long = more word (hex_digits width n) m width long (length-hex_digits width n)

mark_long : (m : Option ℕ) → length (mark_text m) ≡ 9
mark_long None = refl
mark_long (Some n) = field_is (codes " ") 1 8 n refl

marks_long : (ms : List (Option ℕ)) → length (marks_text ms) ≡ 9 * length ms
marks_long [] = refl
marks_long (m ∷ ms) = omega (arith, more (mark_text m) (marks_text ms) 9 (9 * length ms) (mark_long m) (marks_long ms))

-- the line has 439 bytes
pub line_long : (l : ImageLine) → FitsPlaces l → length (image_line l) ≡ 439
unfolding image_line
line_long l fits =
    let marks = marks_long l.marks in
    let count = fits.marks.count in
    let all : length (marks_text l.marks) ≡ 288 = omega (arith, marks, count) in
    let s1 = field (codes "image3 ") 8 l.changes in
    let s2 = s1 ++ field (codes " ") 8 l.undone in
    let s3 = s2 ++ field (codes " ") 16 l.length in
    let s4 = s3 ++ field (codes " ") 16 l.last.high in
    let s5 = s4 ++ field [] 16 l.last.low in
    let s6 = s5 ++ field (codes " ") 16 l.next.high in
    let s7 = s6 ++ field [] 16 l.next.low in
    let s8 = s7 ++ field (codes " ") 8 l.others in
    let s9 = s8 ++ field (codes " ") 16 l.least in
    let s10 = s9 ++ field (codes " ") 16 l.most in
    let l2 : length s2 ≡ 24 = more s1 (field (codes " ") 8 l.undone) 15 9 (field_is (codes "image3 ") 7 8 l.changes refl) (field_is (codes " ") 1 8 l.undone refl) in
    let l3 : length s3 ≡ 41 = more s2 (field (codes " ") 16 l.length) 24 17 l2 (field_is (codes " ") 1 16 l.length refl) in
    let l4 : length s4 ≡ 58 = more s3 (field (codes " ") 16 l.last.high) 41 17 l3 (field_is (codes " ") 1 16 l.last.high refl) in
    let l5 : length s5 ≡ 74 = more s4 (field [] 16 l.last.low) 58 16 l4 (field_is [] 0 16 l.last.low refl) in
    let l6 : length s6 ≡ 91 = more s5 (field (codes " ") 16 l.next.high) 74 17 l5 (field_is (codes " ") 1 16 l.next.high refl) in
    let l7 : length s7 ≡ 107 = more s6 (field [] 16 l.next.low) 91 16 l6 (field_is [] 0 16 l.next.low refl) in
    let l8 : length s8 ≡ 116 = more s7 (field (codes " ") 8 l.others) 107 9 l7 (field_is (codes " ") 1 8 l.others refl) in
    let l9 : length s9 ≡ 133 = more s8 (field (codes " ") 16 l.least) 116 17 l8 (field_is (codes " ") 1 16 l.least refl) in
    let l10 : length s10 ≡ 150 = more s9 (field (codes " ") 16 l.most) 133 17 l9 (field_is (codes " ") 1 16 l.most refl) in
    more (s10 ++ marks_text l.marks) (codes "\n") 438 1 (more s10 (marks_text l.marks) 150 288 l10 all) refl

-- a text that is longer isn't the line
pub longer_says : (note bytes : List ℕ) → bytes ≡ take 440 note → 439 < length bytes → NoteSays note None
longer_says note bytes is long line fits same =
    let whole = line_long line fits in
    let all : length note ≡ 439 = ap length same ∙ whole in
    let few = ap length is ∙ length-take 440 note in
    omega (arith, all, few, long)

whole_of : (note bytes : List ℕ) → bytes ≡ take 440 note → length bytes ≤ 439 → note ≡ bytes
whole_of note bytes is few =
    let taken = ap length is ∙ length-take 440 note in
    let short : length note ≤ 440 = omega (arith, taken, few) in
    sym (is ∙ take_all 440 note short)

-- and what one that isn't says is what it reads as
pub short_says : (note bytes : List ℕ) (line : Option ImageLine) → bytes ≡ take 440 note → length bytes ≤ 439 → IfSome line (λ l. bytes ≡ image_line l)
    → IfNone line ((l : ImageLine) → FitsPlaces l → bytes ≡ image_line l → ⊥) → NoteSays note line
short_says note bytes (Some line) is few some none = whole_of note bytes is few ∙ some
short_says note bytes None is few some none = λ line fits same. none line fits (sym (whole_of note bytes is few) ∙ same)

-- what was read of the note
pub front_is : (n : ℕ) (buf note : List ℕ) → IsFrontRead n 440 buf note → take n buf ≡ take 440 note
front_is n buf note read = read.front ∙ takes n note read.all
  where
    takes : (n : ℕ) (note : List ℕ) → n ≡ min 440 (length note) → take n note ≡ take 440 note
    takes n note is = rw is (take_min 440 note)

-- the line that is said is the note
pub line_said : (note : List ℕ) (line : Option ImageLine) → NoteSays note line → IfSome line (λ l. note ≡ image_line l)
line_said note None says = tt
line_said note (Some l) says = says

-- nothing is read of a note exactly where it has no bytes
none_read : (n room : ℕ) (buf note : List ℕ) → IsFrontRead n room buf note → note ≡ [] → n ≡ 0
none_read n room buf note read none =
    let all : n ≡ min room 0 = subst (λ (b : List ℕ). n ≡ min room (length b)) none read.all in
    min_none room n all
  where
    min_none : (room n : ℕ) → n ≡ min room 0 → n ≡ 0
    min_none room n all = grind (arith, all)

bytes_none : (n room : ℕ) (buf note : List ℕ) → IsFrontRead n room buf note → 0 < room → n ≡ 0 → note ≡ []
bytes_none n room buf [] read some none = refl
bytes_none n room buf (b ∷ note) read some none =
    let all : n ≡ min room (length (b ∷ note)) = read.all in
    absurd (grind (arith, all, some, none))

-- whether a line that is put goes again, by what was read
pub goes_read : (n room : ℕ) (buf note : List ℕ) (alone goes : Bool) (counted : Type 0) → IsFrontRead n room buf note
    → ((goes ≡ true) ↔ ((n ≡ 0) ⊎ (alone ≡ true))) → (note ≡ []) ⊎ (alone ≡ true) → (goes ≡ true) ⊎ counted
goes_read n room buf note alone goes counted read is (inl none) = inl (is.1 (inl (none_read n room buf note read none)))
goes_read n room buf note alone goes counted read is (inr one) = inl (is.1 (inr one))

pub lone_read : (n room : ℕ) (buf note : List ℕ) (alone goes : Bool) → IsFrontRead n room buf note → 0 < room
    → ((goes ≡ true) ↔ ((n ≡ 0) ⊎ (alone ≡ true))) → goes ≡ true → (note ≡ []) ⊎ (alone ≡ true)
lone_read n room buf note alone goes read some is that = elim (is.0 that) [
  | inl none ↦ inl (bytes_none n room buf note read some none)
  | inr one ↦ inr one
]

-- what a task leaves of the note it leaves behind steps that keep the note and count nothing
pub clears_kept : (whole refused : Type 0) (u : Option OpenError) (how : Option RecoveryOutcome) (missing : Bool) (before r s : ℕ) (old mid new : List ℕ)
    → (refused → whole) → s ≡ r → new ≡ mid → ClearsNote whole u how missing (before < r) old mid → ClearsNote refused u how missing (before < s) old new
clears_kept whole refused u how missing before r s old mid new is count same clears =
    rw (count, same) (record { unbegun = clears.unbegun; cleared = λ w. clears.cleared (is w) })

-- and between steps that keep the note
pub clears_behind : (whole : Type 0) (u : Option OpenError) (how : Option RecoveryOutcome) (made missing : Bool) (first before r s : ℕ) (old begun mid new : List ℕ)
    → made ≡ missing → first ≤ before → r ≤ s → begun ≡ old → new ≡ mid → ClearsNote whole u how made (before < r) begun mid
    → ClearsNote whole u how missing (first < s) old new
clears_behind whole u how made missing first before r s old begun mid new is least most was same clears =
    rw (← is, ← was, same) (record {
      unbegun = clears.unbegun;
      cleared = λ w un some. elim (clears.cleared w un some) [
        | inl kept ↦ inl kept
        | inr gone ↦ elim gone [
          | inl none ↦ inr (inl none)
          | inr counted ↦ inr (inr (omega (arith, counted, least, most)))
        ]
      ];
    })
