use Rattle.std.proofs.Common.{◌≡◌, ◌<◌, ℕ, length, Some}
use Rattle.bx_journal_image.specs.Blocks.{block_digest, mark_at}
use Rattle.bx_journal_image.proofs.judging.judge.mark_bytes.Given as goal

-- the digests of the blocks so far
abbrev pub invariant-loop-block : goal.invariant-loop-block
invariant-loop-block l = record {
  marks : (p : ℕ) → p < l.block → mark_at l.marks p ≡ Some (block_digest (length l.bytes) p l.bytes);
  long : length l.marks ≡ 32;
}
