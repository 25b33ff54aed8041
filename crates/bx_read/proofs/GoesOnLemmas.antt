-- Full lines that go on with a run, one after another.
use Rattle.std.proofs.Common.{◌≡◌, ℕ, ◌+◌, ◌-◌, ◌≤◌, Some, Result, Ok, List, ◌∷◌, ◌++◌, length, drop, refl, arith, sym, ap, subst, ◌∙◌}
use Rattle.std.proofs.lemmas.List.{length-append, length-drop}
use Rattle.bx_read.specs.Digits.{pairs_of}
use Rattle.bx_read.specs.private.Full.{IsFull}
use Rattle.bx_read.specs.private.NextLine.{joined_of}
use Rattle.bx_read.specs.private.Rows.{GoesOnWith}
use Rattle.bx_read.specs.Text.{ReadLine, lines_of, answers, gathered, piece_then}
use Rattle.bx_read.specs.declared.fault.ReadFault.{ReadFault}
use Rattle.bx_read.proofs.FullLines.{full_coming}
use Rattle.bx_read.proofs.RunLemmas.{joins}

pub goes_none : (text : List ℕ) (at : ℕ) (bytes : List ℕ) → GoesOnWith text text 0 at bytes bytes
goes_none text at bytes = record {
  joins = λ p. ap (λ n. joined_of (piece_then (at, bytes) (gathered (answers n (lines_of text))))) (none p);
  fewer = λ p. subst (λ n. length (answers n (lines_of text)) ≤ length (answers p (lines_of text))) (none p) (omega arith);
  shorter = omega arith;
}
  where
    none : (p : ℕ) → p ≡ p + 0
    none p = omega arith

-- a line in front, by what it gives
line_joins : (at next : ℕ) (x y hex : List ℕ) (number : ℕ) (later : List (Result ReadLine ReadFault)) → pairs_of hex ≡ Some y → next ≡ at + length x →
    joined_of (piece_then (at, x) (gathered (Ok (next, hex, number) ∷ later))) ≡ joined_of (piece_then (at, x ++ y) (gathered later))
line_joins at next x y hex number later pairs here = rw pairs (joins at next x y (gathered later) here)

pub goes_more : (text rest after : List ℕ) (count at : ℕ) (old x longer bytes : List ℕ) → GoesOnWith text rest count at old x → IsFull rest (at + length x) bytes
    → after ≡ drop 68 rest → longer ≡ x ++ bytes → GoesOnWith text after (count + 1) at old longer
goes_more text rest after count at old x longer bytes so full cut more = record {
  joins = λ p.
      let next : (p + count) + 1 ≡ p + (count + 1) = omega arith in
      let line = full_coming (p + count) (at + length x) rest after bytes full cut in
      so.joins p
      ∙ ap (λ a. joined_of (piece_then (at, x) (gathered a))) line.2
      ∙ line_joins at (at + length x) x bytes line.0 (p + count) (answers ((p + count) + 1) (lines_of after)) line.1 refl
      ∙ ap (λ b. joined_of (piece_then (at, b) (gathered (answers ((p + count) + 1) (lines_of after))))) (sym more)
      ∙ ap (λ n. joined_of (piece_then (at, longer) (gathered (answers n (lines_of after))))) next;
  fewer = λ p.
      let next : (p + count) + 1 ≡ p + (count + 1) = omega arith in
      let line = full_coming (p + count) (at + length x) rest after bytes full cut in
      let one = ap length line.2 in
      let so_far = so.fewer p in
      subst (λ n. length (answers n (lines_of after)) ≤ length (answers p (lines_of text))) next (omega arith);
  shorter =
      let cut_len : length after ≡ length rest - 68 = ap length cut ∙ length-drop 68 rest in
      let whole : length rest ≡ 68 + length full.rest = omega (arith, ap length full.spelled, length-append full.line (10 ∷ full.rest), full.long) in
      let so_far = so.shorter in
      omega arith;
}
