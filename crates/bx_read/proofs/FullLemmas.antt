-- Lines of xxd's default form, part by part.
use Rattle.std.proofs.Common.{◌≡◌, ◌≢◌, ℕ, ◌^◌, ◌<◌, Bool, true, false, ◌&&◌, cond, eqb, Some, List, [], ◌∷◌, ◌++◌, length, get_or, take, drop, refl, arith, sym, ap, ◌∙◌, append_assoc, inr}
use Rattle.std.specs.Option.{option_map}
use Rattle.std.specs.List.{All}
use Rattle.std.specs.Str.Parse.{digits_value}
use Rattle.std.proofs.lemmas.List.{length-append, take-append-drop}
use Rattle.std.proofs.lemmas.List.Elements.{All-cons, All-nil, All-append}
use Rattle.bx_read.specs.private.Full.{IsFull}
use Rattle.std.proofs.lemmas.Bool.{eqb-true}
use Rattle.bx_read.specs.Digits.{is_hex, pairs_of, pair_value}
use Rattle.bx_read.proofs.GrammarLemmas.{and_true, guard_some, unmap}
use Rattle.bx_read.specs.Line.{line_piece}
use Rattle.bx_read.specs.Grammar.{IsLine}
use Rattle.bx_read.proofs.PieceLemmas.{piece_of as line_gives}

pub joined : (n : ℕ) (xs a b : List ℕ) → a ≡ take n xs → b ≡ drop n xs → xs ≡ a ++ b
joined n xs a b e f = sym (take-append-drop n xs) ∙ ap (λ l. l ++ drop n xs) (sym e) ∙ ap (λ l. a ++ l) (sym f)

pub two_of : (xs : List ℕ) (a b : ℕ) → length xs ≡ 2 → get_or xs 0 0 ≡ a → get_or xs 1 0 ≡ b → xs ≡ a ∷ b ∷ []
two_of [] a b l e f = absurd (omega arith)
two_of (x ∷ []) a b l e f = absurd (omega arith)
two_of (x ∷ y ∷ []) a b l e f = rw (e, f) refl
two_of (x ∷ y ∷ z ∷ xs) a b l e f = absurd (omega arith)

pub first_of : (xs : List ℕ) (a : ℕ) → 0 < length xs → get_or xs 0 0 ≡ a → xs ≡ a ∷ drop 1 xs
first_of [] a some e = absurd (omega arith)
first_of (x ∷ xs) a some e = ap (λ y. y ∷ xs) e

abbrev pub Other : ℕ → Type 0
Other c = c ≢ 10

hex_other : (c : ℕ) → is_hex c ≡ true → Other c
hex_other c is = λ e. let h : is_hex 10 ≡ true = rw e at is in cc

space_other : Other 32
space_other = λ e. absurd (omega arith)

-- pairs have no newline
pairs_other : (hex bytes : List ℕ) → pairs_of hex ≡ Some bytes → All Other hex
pairs_other [] bytes h = cc
pairs_other (c ∷ []) bytes h = cc
pairs_other (c ∷ d ∷ []) bytes h =
    let both = and_true (is_hex c) (is_hex d) (guard_some (is_hex c && is_hex d) (Some (pair_value c d ∷ [])) bytes h).0 in
    All-cons Other c (d ∷ []) (hex_other c both.0) (All-cons Other d [] (hex_other d both.1) (All-nil Other))
pairs_other (c ∷ d ∷ n ∷ rest) bytes h =
    let o = cond (eqb n 32) (pairs_of rest) (pairs_of (n ∷ rest)) in
    let inner = guard_some (is_hex c && is_hex d) (option_map (λ more. pair_value c d ∷ more) o) bytes h in
    let both = and_true (is_hex c) (is_hex d) inner.0 in
    let more = unmap (λ more. pair_value c d ∷ more) o bytes inner.1 in
    All-cons Other c (d ∷ n ∷ rest) (hex_other c both.0)
    (All-cons Other d (n ∷ rest) (hex_other d both.1) (either (eqb n 32) refl more.1 (pairs_other rest more.0) (pairs_other (n ∷ rest) more.0)))
  where
    either : (b : Bool) → eqb n 32 ≡ b → {m : List ℕ} → cond b (pairs_of rest) (pairs_of (n ∷ rest)) ≡ Some m →
        (pairs_of rest ≡ Some m → All Other rest) → (pairs_of (n ∷ rest) ≡ Some m → All Other (n ∷ rest)) → All Other (n ∷ rest)
    either true is e spaced whole = All-cons Other n rest (λ k. space_other (sym (eqb-true n 32 is) ∙ k)) (spaced e)
    either false is e spaced whole = whole e

-- a line by its parts, and what it gives
abbrev pub HasParts : List ℕ → List ℕ → List ℕ → List ℕ → Type 0
HasParts line address columns shown = line ≡ address ++ 58 ∷ 32 ∷ (columns ++ 32 ∷ 32 ∷ shown)

by_parts : (line address columns shown bytes : List ℕ) (at : ℕ) → All (λ c. is_hex c ≡ true) address → length address ≡ 8 → at ≡ digits_value 16 address → at < 2 ^ 32
    → pairs_of columns ≡ Some bytes → length bytes ≡ 16 → HasParts line address columns shown → IsLine line at columns bytes
by_parts line address columns shown bytes at digits eight value small pairs sixteen spelled = record {
  digits = address;
  tail = 32 ∷ 32 ∷ shown;
  spelled = spelled;
  address = digits;
  some_digits = omega arith;
  few_digits = omega arith;
  value = value;
  small = omega arith;
  pairs = pairs;
  few_pairs = omega arith;
  ends = inr (inr (shown, refl));
}

-- a whole line in a text
module _ (address columns shown rest bytes : List ℕ) (at : ℕ) (digits : All (λ c. is_hex c ≡ true) address) (eight : length address ≡ 8) (value : at ≡ digits_value 16 address) (small : at < 2 ^ 32)
    (wide : length columns ≡ 39) (pairs : pairs_of columns ≡ Some bytes) (sixteen : length bytes ≡ 16) (last : length shown ≡ 16) (other : All Other shown) where
  line : List ℕ
  line = address ++ 58 ∷ 32 ∷ (columns ++ 32 ∷ 32 ∷ shown)

  line_long : length line ≡ 67
  unfolding line
  line_long = omega (arith, length-append address (58 ∷ 32 ∷ (columns ++ 32 ∷ 32 ∷ shown)), length-append columns (32 ∷ 32 ∷ shown))

  line_other : All Other line
  unfolding line
  line_other =
      All-append Other address (58 ∷ 32 ∷ (columns ++ 32 ∷ 32 ∷ shown)) (λ k d inside. hex_other (get_or address k d) (digits k d inside))
      (All-cons Other 58 (32 ∷ (columns ++ 32 ∷ 32 ∷ shown)) (λ e. absurd (omega arith))
      (All-cons Other 32 (columns ++ 32 ∷ 32 ∷ shown) space_other
      (All-append Other columns (32 ∷ 32 ∷ shown) (pairs_other columns bytes pairs) (All-cons Other 32 (32 ∷ shown) space_other (All-cons Other 32 shown space_other other)))))

  pub full_is : (text : List ℕ) → text ≡ address ++ 58 ∷ 32 ∷ (columns ++ 32 ∷ 32 ∷ (shown ++ 10 ∷ rest)) → IsFull text at bytes
  unfolding line
  full_is text spelled = record {
    line = line;
    rest = rest;
    hex = columns;
    spelled = spelled ∙ simp append_assoc;
    long = line_long;
    whole = line_other;
    is = by_parts line address columns shown bytes at digits eight value small pairs sixteen refl;
  }

pub full_gives : (line address columns shown bytes : List ℕ) (at : ℕ) → All (λ c. is_hex c ≡ true) address → length address ≡ 8 → at ≡ digits_value 16 address → at < 2 ^ 32
    → pairs_of columns ≡ Some bytes → length bytes ≡ 16 → HasParts line address columns shown → line_piece line ≡ Some (at, bytes)
full_gives line address columns shown bytes at digits eight value small pairs sixteen spelled =
    line_gives line at columns bytes (by_parts line address columns shown bytes at digits eight value small pairs sixteen spelled)

pub in_parts : (text address colon columns gap shown r1 r2 r3 : List ℕ) → text ≡ address ++ r1 → r1 ≡ colon ++ r2 → r2 ≡ columns ++ r3 → r3 ≡ gap ++ shown →
    colon ≡ 58 ∷ 32 ∷ [] → gap ≡ 32 ∷ 32 ∷ [] → text ≡ address ++ 58 ∷ 32 ∷ (columns ++ 32 ∷ 32 ∷ shown)
in_parts text address colon columns gap shown r1 r2 r3 a b c d f g = rw (a, b, c, d, f, g) refl

pub in_order : (text address colon columns gap shown r1 r2 r3 r4 r5 rest : List ℕ) → text ≡ address ++ r1 → r1 ≡ colon ++ r2 → r2 ≡ columns ++ r3 → r3 ≡ gap ++ r4 → r4 ≡ shown ++ r5 →
    colon ≡ 58 ∷ 32 ∷ [] → gap ≡ 32 ∷ 32 ∷ [] → r5 ≡ 10 ∷ rest → text ≡ address ++ 58 ∷ 32 ∷ (columns ++ 32 ∷ 32 ∷ (shown ++ 10 ∷ rest))
in_order text address colon columns gap shown r1 r2 r3 r4 r5 rest a b c d e f g h = rw (a, b, c, d, e, f, g, h) refl
