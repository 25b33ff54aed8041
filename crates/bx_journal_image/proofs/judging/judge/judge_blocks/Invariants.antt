use Rattle.std.proofs.Common.{◌≡◌, ◌≢◌, length, false}
use Rattle.bx_image.specs.Cached.{OnlyReadsImage}
use Rattle.bx_journal_image.specs.Blocks.{AreRead}
use Rattle.bx_journal_image.specs.declared.judging.judge.Verdict.TheVariants.{Other}
use Rattle.bx_journal_image.proofs.judging.judge.judge_blocks.Given as goal

-- what the blocks so far are: none is another one
abbrev pub invariant-loop-i : goal.invariant-loop-i
invariant-loop-i g l = record {
  reads : OnlyReadsImage g.D.Device false l.fn.image l.image;
  long : g.D.Device.faithful l.fn.image → l.len ≡ length (g.D.Device.image l.fn.image);
  read : g.D.Device.faithful l.fn.image → AreRead l.i l.total l.marks (g.D.Device.image l.fn.image) l.verdict;
  none : l.verdict ≢ Other;
  room : length l.room ≡ 4096;
}
