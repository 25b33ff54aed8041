-- A line of a dump gives no more bytes than it has.
use Rattle.std.proofs.Common.{◌≡◌, ℕ, ◌≤◌, Bool, true, false, eqb, List, [], ◌∷◌, ◌++◌, length, refl, ap, sym, ◌∙◌, arith, Some, None, length-append, Result, Ok, Err}
use Rattle.std.specs.Prelude.{◌==◌, ◌&&◌, option_map, if◌then◌else◌}
use Rattle.bx_read.specs.Digits.{is_hex, pair_value, pairs_of}
use Rattle.bx_read.specs.Grammar.{IsLine}
use Rattle.bx_read.specs.Line.{read_line, line_piece}
use Rattle.bx_read.specs.declared.fault.ReadFault.{ReadFault}
use Rattle.bx_read.proofs.GrammarLemmas.{guard_some, read_line-found}
use Rattle.bx_read.proofs.PieceLemmas.{piece_err, piece_of as line_gives}
use Rattle.bx_journal_format.specs.Kept.{Run}
use Rattle.bx_journal_format.specs.DumpLine.{run_of_line}
use Rattle.bx_journal_format.proofs.Inverse.{map_some}

some_long : (a b : List ℕ) → Some a ≡ Some b → length b ≡ length a
some_long a b e = let same : a ≡ b = cc in ap length (sym same)

pairs_short : (hex bytes : List ℕ) → pairs_of hex ≡ Some bytes → length bytes ≤ length hex
pairs_short [] bytes e = absurd (cc)
pairs_short (high ∷ []) bytes e = absurd (cc)
pairs_short (high ∷ low ∷ []) bytes e =
    omega (arith, some_long (pair_value high low ∷ []) bytes (guard_some (is_hex high && is_hex low) (Some (pair_value high low ∷ [])) bytes e).1)
pairs_short (high ∷ low ∷ next ∷ rest) bytes e =
    by (eqb next 32) (pairs_short rest) (pairs_short (next ∷ rest)) (guard_some (is_hex high && is_hex low) (option_map (λ more. pair_value high low ∷ more) (if next == 32 then pairs_of rest else pairs_of (next ∷ rest))) bytes e).1
  where
    by : (space : Bool) → ((more : List ℕ) → pairs_of rest ≡ Some more → length more ≤ length rest) → ((more : List ℕ) → pairs_of (next ∷ rest) ≡ Some more → length more ≤ length (next ∷ rest))
        → option_map (λ more. pair_value high low ∷ more) (if space then pairs_of rest else pairs_of (next ∷ rest)) ≡ Some bytes → length bytes ≤ length (high ∷ low ∷ next ∷ rest)
    by true here there e = let m = map_some (λ more. pair_value high low ∷ more) (pairs_of rest) bytes e in omega (arith, here m.0 m.1, ap length m.2)
    by false here there e = let m = map_some (λ more. pair_value high low ∷ more) (pairs_of (next ∷ rest)) bytes e in omega (arith, there m.0 m.1, ap length m.2)

line_short : (text hex bytes : List ℕ) (at : ℕ) → IsLine text at hex bytes → length bytes ≤ length text
line_short text hex bytes at l =
    omega (arith, pairs_short hex bytes l.pairs, ap length l.spelled, length-append l.digits (58 ∷ 32 ∷ (hex ++ l.tail)), length-append hex l.tail)

read_short : (text : List ℕ) (read : ℕ × List ℕ) → line_piece text ≡ Some read → length read.1 ≤ length text
read_short text read is = by (read_line 1 text) refl
  where
    by : (r : Result (ℕ × List ℕ) ReadFault) → read_line 1 text ≡ r → length read.1 ≤ length text
    by (Err fault) e = let none : None ≡ Some read = sym (piece_err 1 text fault e) ∙ is in absurd (cc)
    by (Ok v) e =
        let found = read_line-found 1 text v.0 v.1 e in
        let given : Some (v.0, found.0) ≡ Some read = sym (line_gives text v.0 v.1 found.0 found.1) ∙ is in
        let same : (v.0, found.0) ≡ read = cc in
        omega (arith, line_short text v.1 found.0 v.0 found.1, ap (λ (p : ℕ × List ℕ). length p.1) same)

pub piece_short : (line : List ℕ) (p : Run) → run_of_line line ≡ Some p → length p.bytes ≤ length line
unfolding run_of_line
piece_short line p e =
    let read = map_some (λ (r : ℕ × List ℕ). record { at = r.0; bytes = r.1 }) (line_piece line) p e in
    omega (arith, read_short line read.0 read.1, ap (λ (q : Run). length q.bytes) read.2)
