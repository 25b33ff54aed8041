use Rattle.std.proofs.Common.{◌≡◌, ◌<◌, ℕ, length, false, Some}
use Rattle.bx_image.specs.Cached.{OnlyReadsImage}
use Rattle.bx_journal_image.specs.Blocks.{block_digest, mark_at}
use Rattle.bx_journal_image.proofs.judging.judge.mark_all.Given as goal

-- the digests of the blocks so far
abbrev pub invariant-loop-k : goal.invariant-loop-k
invariant-loop-k g l = record {
  reads : OnlyReadsImage g.D.Device false l.fn.image l.image;
  marks : g.D.Device.faithful l.fn.image → (p : ℕ) → p < l.k → mark_at l.marks p ≡ Some (block_digest l.total p (g.D.Device.image l.fn.image));
  long : length l.marks ≡ 32;
  room : length l.room ≡ 4096;
}
