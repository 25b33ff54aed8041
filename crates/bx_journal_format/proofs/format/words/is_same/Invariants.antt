use Rattle.std.proofs.Common.{◌≡◌, ℕ, ◌<◌, true, false, get_or}
use Rattle.bx_journal_format.proofs.format.words.is_same.Given as goal

-- the texts are the same so far, or differ
abbrev pub invariant-loop-i : goal.invariant-loop-i
invariant-loop-i l = record {
  kept : l.same ≡ true → (k : ℕ) → k < l.i → get_or l.text k 0 ≡ get_or l.other k 0;
  apart : l.same ≡ false → l.text ≡ l.other → ⊥;
}
