-- What a saved line gives, from what it gives as a line of a dump.
use Rattle.std.proofs.Common.{◌≡◌, ℕ, ◌+◌, ◌<◌, ◌≤◌, min, Bool, true, false, List, length, length-take, take, refl, ap, sym, ◌∙◌, arith, Option, Some, None}
use Rattle.std.specs.Prelude.{◌&&◌, nat_le, if◌then◌else◌, MatchOption, option_map}
use Rattle.std.proofs.lemmas.Grind.{common_steps}
use Rattle.bx_read.specs.Line.{line_piece}
use Rattle.bx_read.specs.Digits.{pairs_of}
use Rattle.bx_journal_format.specs.Kept.{Run}
use Rattle.bx_journal_format.specs.declared.format.line.SavedLine.{SavedLine}
use Rattle.bx_journal_format.specs.DumpLine.{run_of_line}
use Rattle.bx_journal_format.specs.Line.{saved_in}

pub saved_reads : (len : ℕ) (line : List ℕ) (p : Run) → run_of_line line ≡ Some p → length p.bytes ≤ 16 → p.at + length p.bytes ≤ len → saved_in len line ≡ Some p
unfolding saved_in
saved_reads len line p is few within = rw is (fits (nat_le (length p.bytes) 16) (nat_le (p.at + length p.bytes) len) (grind (arith, common_steps)) (grind (arith, common_steps)))
  where
    fits : (a b : Bool) → a ≡ true → b ≡ true → (if a && b then Some p else None) ≡ Some p
    fits a b e f = rw (e, f) refl

pub saved_stops : (len : ℕ) (line : List ℕ) (p : Run) → run_of_line line ≡ Some p → ((length p.bytes ≤ 16) → len < p.at + length p.bytes) → saved_in len line ≡ None
unfolding saved_in
saved_stops len line p is past = rw is (fails (nat_le (length p.bytes) 16) (nat_le (p.at + length p.bytes) len) (both (length p.bytes) (p.at + length p.bytes) past))
  where
    fails : (a b : Bool) → (a && b) ≡ false → (if a && b then Some p else None) ≡ None
    fails a b e = rw e refl

    both : (n m : ℕ) → (n ≤ 16 → len < m) → (nat_le n 16 && nat_le m len) ≡ false
    both n m past = grind (arith, common_steps)

pub saved_none : (len : ℕ) (line : List ℕ) → line_piece line ≡ None → saved_in len line ≡ None
unfolding saved_in run_of_line
saved_none len line is = rw is refl

-- a line of a dump, by its address and its pairs
pub piece_by : (line hex bytes : List ℕ) (at : ℕ) → line_piece line ≡ option_map (λ bytes. (at, bytes)) (pairs_of hex) → pairs_of hex ≡ Some bytes → run_of_line line ≡ Some (record { at = at; bytes = bytes })
unfolding run_of_line
piece_by line hex bytes at is pairs = rw (is, pairs) refl

-- a line of at most 16 bytes, where it is tested whether it lies within the length
pub saved_by : (len : ℕ) (line : List ℕ) (s : SavedLine) (r : Option SavedLine) → run_of_line line ≡ Some (record { at = s.at; bytes = take s.count s.bytes }) → s.count ≤ length s.bytes → s.count ≤ 16
    → MatchOption r (len < s.at + s.count) (λ l. (l ≡ s) × (s.at + s.count ≤ len))
    → MatchOption r (saved_in len line ≡ None) (λ l. saved_in len line ≡ Some (record { at = l.at; bytes = take l.count l.bytes }))
saved_by len line s None is room few past =
    let size : length (take s.count s.bytes) ≡ s.count = length-take s.count s.bytes ∙ lesser s.count (length s.bytes) room in
    saved_stops len line (record { at = s.at; bytes = take s.count s.bytes }) is (λ h. omega (arith, size, past))
  where
    lesser : (m n : ℕ) → m ≤ n → min m n ≡ m
    lesser m n le = omega arith
saved_by len line s (Some l) is room few fits =
    let size : length (take s.count s.bytes) ≡ s.count = length-take s.count s.bytes ∙ lesser s.count (length s.bytes) room in
    saved_reads len line (record { at = s.at; bytes = take s.count s.bytes }) is (omega (arith, size)) (omega (arith, size, fits.1))
    ∙ ap (λ (x : SavedLine). Some (record { at = x.at; bytes = take x.count x.bytes })) (sym fits.0)
  where
    lesser : (m n : ℕ) → m ≤ n → min m n ≡ m
    lesser m n le = omega arith
