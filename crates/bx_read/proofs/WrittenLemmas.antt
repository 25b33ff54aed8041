-- A line that is written.
use Rattle.std.proofs.Common.{◌≡◌, ◌≢◌, ℕ, zero, suc, ◌+◌, ◌-◌, ◌/◌, ◌%◌, ◌^◌, ◌<◌, ◌≤◌, Bool, true, false, ◌&&◌, cond, leb, ltb, List, [], ◌∷◌, ◌++◌, length, get_or, map, replicate, refl, arith, ap}
use Rattle.std.specs.Fmt.{digits, digit_glyph}
use Rattle.std.specs.Prelude.{codes}
use Rattle.std.specs.List.{All, range_with_len}
use Rattle.std.proofs.lemmas.List.Elements.{All-append, All-map}
use Rattle.std.proofs.lemmas.List.FromFn.{length-map-range_with_len}
use Rattle.std.proofs.lemmas.Bool.{leb-true, ltb-true}
use Rattle.std.proofs.lemmas.Bool.Decides.{nat_tests}
use Rattle.std.proofs.lemmas.List.{length-append, length-replicate, length-map, get_or_append_left}
use Rattle.bx_text.specs.Field.{char_at, hex_text}
use Rattle.bx_text.specs.Dump.{pair_of, shown_byte}
use Rattle.bx_text.specs.private.Dump.{default_line, hex_place, hex_columns, hex_width}
use Rattle.bx_read.specs.Digits.{is_hex}
use Rattle.bx_read.specs.Laws.{DumpLineReadsBack, WrittenLineReadsBack, IsWritten, dump_line_text, wide_line_text}
use Rattle.bx_read.proofs.GrammarLemmas.{and_true}
use Rattle.bx_read.proofs.PieceLemmas.{piece_of}
use Rattle.bx_read.proofs.PackedLemmas.{glyph_hex}
use Rattle.bx_read.proofs.AddressLemmas.{all_hex, digits-zeros, length-hex}
use Rattle.bx_read.proofs.LineLemmas.{line_reads, each_small}
use Rattle.std.proofs.lemmas.Fmt.{digits_is_IsNumeral}

abbrev Prints : ℕ → Type 0
Prints c = (32 ≤ c) × (c ≤ 126)

pub hex_range : (c : ℕ) → is_hex c ≡ true → (48 ≤ c) × (c ≤ 102)
hex_range c is = (grind (arith, nat_tests), grind (arith, nat_tests))

hex_prints : (c : ℕ) → is_hex c ≡ true → Prints c
hex_prints c is = let r = hex_range c is in (omega (arith, r.0), omega (arith, r.1))

shown_prints : (b : ℕ) → Prints (shown_byte b)
shown_prints b = go (leb 32 b && leb b 126) refl
  where
    go : (t : Bool) → (leb 32 b && leb b 126) ≡ t → Prints (cond t b 46)
    go true e = let both = and_true (leb 32 b) (leb b 126) e in (leb-true 32 b both.0, leb-true b 126 both.1)
    go false e = (omega arith, omega arith)

-- each character of a field prints where each of its texts does
char_prints : (place : ℕ → ℕ) (text : ℕ → List ℕ) → ((i : ℕ) → All Prints (text i)) → (n p : ℕ) → Prints (char_at place text n p)
char_prints place text each zero p = (omega arith, omega arith)
char_prints place text each (suc n) p = go (leb (place n) p && ltb p (place n + length (text n))) refl (char_prints place text each n p)
  where
    go : (t : Bool) → (leb (place n) p && ltb p (place n + length (text n))) ≡ t → Prints (char_at place text n p) →
        Prints (cond t (get_or (text n) (p - place n) 0) (char_at place text n p))
    go true e before =
        let both = and_true (leb (place n) p) (ltb p (place n + length (text n))) e in
        each n (p - place n) 0 (omega (arith, leb-true (place n) p both.0, ltb-true p (place n + length (text n)) both.1))
    go false e before = before

pair_prints : (upper : Bool) (b : ℕ) → b < 256 → All Prints (pair_of upper b)
pair_prints upper b small zero d inside = hex_prints (digit_glyph upper (b / 16)) (glyph_hex upper (b / 16) (omega arith))
pair_prints upper b small (suc zero) d inside = hex_prints (digit_glyph upper (b % 16)) (glyph_hex upper (b % 16) (omega arith))
pair_prints upper b small (suc (suc k)) d inside = absurd (omega arith)

columns_print : (upper : Bool) (group : ℕ) (bytes : List ℕ) (width : ℕ) → ((i : ℕ) → get_or bytes i 0 < 256) → All Prints (hex_columns upper group bytes width)
columns_print upper group bytes width small =
    let place = hex_place group in
    let text = λ (i : ℕ). pair_of upper (get_or bytes i 0) in
    All-map Prints (char_at place text (length bytes)) (range_with_len 0 width)
    (λ k d inside. char_prints place text (λ i. pair_prints upper (get_or bytes i 0) (small i)) (length bytes) (get_or (range_with_len 0 width) k d))

columns_length : (bytes : List ℕ) (width : ℕ) → length (hex_columns false 2 bytes width) ≡ width
columns_length bytes width = length-map-range_with_len (char_at (hex_place 2) (λ i. pair_of false (get_or bytes i 0)) (length bytes)) 0 width

-- an address below 2 ^ 62, with the zeros in front
address_prints : (at : ℕ) → at < 2 ^ 62 → All Prints (hex_text false 8 at)
address_prints at small k d inside =
    let ds = digits 16 false at in
    let numeral = digits_is_IsNumeral 16 false (omega arith) (omega arith) at (omega arith) in
    let zeros : ℕ = 8 - length ds in
    hex_prints (get_or (hex_text false 8 at) k d) (all_hex (replicate zeros 48 ++ ds) (digits-zeros zeros ds numeral.0.1) k d inside)

-- how long it is
address_length : (at : ℕ) → at < 2 ^ 62 → length (hex_text false 8 at) ≤ 16
address_length at small =
    let ds = digits 16 false at in
    let zeros : ℕ = 8 - length ds in
    let few = length-hex 15 at (omega arith) in
    omega (arith, length-append (replicate zeros 48) ds, length-replicate {A = ℕ} zeros 48, few)

-- a line by its parts
module _ (address columns shown : List ℕ) where
  abbrev line : List ℕ
  line = address ++ (58 ∷ 32 ∷ []) ++ columns ++ (32 ∷ []) ++ shown

  line_length : length line ≡ length address + 2 + length columns + 1 + length shown
  line_length = simp length-append refl

  line_prints : All Prints address → All Prints columns → All Prints shown → All Prints line
  line_prints a c s =
      All-append Prints (address ++ (58 ∷ 32 ∷ []) ++ columns ++ (32 ∷ [])) shown
      (All-append Prints (address ++ (58 ∷ 32 ∷ []) ++ columns) (32 ∷ [])
      (All-append Prints (address ++ (58 ∷ 32 ∷ [])) columns (All-append Prints address (58 ∷ 32 ∷ []) a two) c) one) s
    where
      two : All Prints (58 ∷ 32 ∷ [])
      two zero d h = (omega arith, omega arith)
      two (suc zero) d h = (omega arith, omega arith)
      two (suc (suc k)) d h = absurd (omega arith)

      one : All Prints (32 ∷ [])
      one zero d h = (omega arith, omega arith)
      one (suc k) d h = absurd (omega arith)

wide_prints : (upper : Bool) (cols group at : ℕ) (bytes : List ℕ) → All (λ b. b < 256) bytes → at < 2 ^ 62 → All Prints (wide_line_text upper cols group at bytes)
wide_prints upper cols group at bytes all small =
    line_prints (hex_text false 8 at) (hex_columns upper group bytes (hex_width cols group)) (map shown_byte bytes)
    (address_prints at small) (columns_print upper group bytes (hex_width cols group) (each_small bytes all))
    (All-map Prints shown_byte bytes (λ k d inside. shown_prints (get_or bytes k d)))

-- what prints is no newline
one_line : (text : List ℕ) → All Prints text → All (λ c. c ≢ 10) text
one_line text prints k d inside e = absurd (omega (arith, (prints k d inside).0, e))

-- no front begins with another byte than the whole
first_of : (front rest line : List ℕ) → line ≡ front ++ rest → 0 < length line → is_hex (get_or line 0 0) ≡ true → get_or front 0 0 ≢ 115
first_of [] rest line e some is = λ h. absurd (omega (arith, h))
first_of (c ∷ front) rest line e some is = λ h.
    let same : get_or line 0 0 ≡ c = ap (λ l. get_or l 0 0) e in
    let range = hex_range (get_or line 0 0) is in
    absurd (omega (arith, same, range.1, h))

pub written_line : WrittenLineReadsBack
written_line at bytes some few all small =
    let width : ℕ = 40 in
    let text = dump_line_text at bytes in
    let is = line_reads false 16 2 at bytes (omega arith) some few (omega arith) all small in
    let prints : All Prints text = wide_prints false 16 2 at bytes all small in
    let first : is_hex (get_or text 0 0) ≡ true =
    rw (is.1.spelled, get_or_append_left is.1.digits (58 ∷ 32 ∷ (is.0 ++ is.1.tail)) 0 0 is.1.some_digits) (is.1.address 0 0 is.1.some_digits) in
    let len : length text ≡ length (hex_text false 8 at) + 2 + length (hex_columns false 2 bytes width) + 1 + length (map shown_byte bytes) =
    line_length (hex_text false 8 at) (hex_columns false 2 bytes width) (map shown_byte bytes) in (
      refl,
      record {
        reads = piece_of text at is.0 bytes is.1;
        short = omega (arith, len, address_length at small, columns_length bytes width, length-map bytes shown_byte);
        printing = prints;
        no_newline = one_line text prints;
        front = λ front rest e. first_of front rest text e (omega (arith, len)) first;
      },
    )

-- the same of a line of an image
pub written : (at : ℕ) (bytes : List ℕ) → 0 < length bytes → length bytes ≤ 16 → All (λ b. b < 256) bytes → at + length bytes ≤ 2 ^ 48 - 1 →
    (default_line at bytes ≡ dump_line_text at bytes ++ codes "\n") × IsWritten (dump_line_text at bytes) at bytes
written at bytes some few all fits = written_line at bytes some few all (omega arith)

pub reads_back : DumpLineReadsBack
reads_back upper cols group at bytes pos some few wide all small =
    let text = wide_line_text upper cols group at bytes in
    let is = line_reads upper cols group at bytes pos some few wide all small in
    (refl, (is.0, is.1), piece_of text at is.0 bytes is.1, one_line text (wide_prints upper cols group at bytes all small))
