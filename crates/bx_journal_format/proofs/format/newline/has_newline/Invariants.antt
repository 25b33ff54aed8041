use Rattle.std.proofs.Common.{◌≡◌, ℕ, ◌<◌, false, get_or}
use Rattle.bx_journal_format.proofs.format.newline.has_newline.Given as goal

-- none so far, where none was found
abbrev pub invariant-loop-byte : goal.invariant-loop-byte
invariant-loop-byte l = l.found ≡ false → (k : ℕ) → k < l.byte-index → get_or l.bytes k 0 ≡ 10 → ⊥
