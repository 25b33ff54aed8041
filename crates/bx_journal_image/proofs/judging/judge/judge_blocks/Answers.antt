use Rattle.std.proofs.Common.{◌≡◌, ◌≢◌, ◌∙◌, ℕ, List, arith, subst}
use Rattle.bx_image.proofs.Devices.{GoesOn_then}
use Rattle.bx_image.proofs.Survivors.{NoMore_then}
use Rattle.bx_journal_image.specs.Blocks.{AreRead, IsBlockRead, mark_at}
use Rattle.bx_journal_image.specs.declared.judging.judge.Verdict.TheVariants.{Same, Other}
use Rattle.bx_journal_image.proofs.JudgeLemmas.{read_same, read_untold}
use Rattle.bx_journal_image.proofs.judging.judge.judge_blocks.Goals.{in-Same, in-Untold}
use Rattle.bx_journal_image.proofs.judging.judge.judge_blocks.Goals as goal

not_other : Same ≢ Other
not_other e = absurd (cc)

pub loop-i-preserved : goal.loop-i-preserved
loop-i-preserved g c =
    let before = c.loop-i.invariant in
    let now = c.in_ok-judge_block.ensures in
    record {
      reads = record {
        image = λ faithful. now.reads.image (before.reads.goes_on.faith.1 faithful) ∙ before.reads.image faithful;
        survives = λ faithful. NoMore_then _ _ _ (before.reads.survives faithful) (now.reads.survives (before.reads.goes_on.faith.1 faithful));
        goes_on = GoesOn_then _ _ _ _ _ _ _ before.reads.goes_on now.reads.goes_on;
      };
      long = before.long;
      read = λ faithful.
          let x : List ℕ = g.D.Device.image c.args.image.now in
          let block : IsBlockRead c.args.total (mark_at c.args.marks.now c.loop-i.i) c.loop-i.i x c.in_ok-judge_block.field-0 =
          subst (λ (y : List ℕ). IsBlockRead c.args.total (mark_at c.args.marks.now c.loop-i.i) c.loop-i.i y c.in_ok-judge_block.field-0) (before.reads.image faithful) (now.read (before.reads.goes_on.faith.1 faithful)) in
          elim c.match-branch-3.branch [
            | in-Same w ↦ rw w.verdict-is (read_same c.loop-i.i c.args.total c.args.marks.now x c.loop-i.verdict (before.read faithful) before.none (rw w.in-Same.is at block))
            | in-Untold w ↦ rw w.verdict-is (read_untold c.loop-i.i c.args.total c.args.marks.now x c.loop-i.verdict (before.read faithful) before.none (rw w.in-Untold.is at block))
          ];
      none = elim c.match-branch-3.branch [ in-Same w ↦ rw w.verdict-is not_other | in-Untold w ↦ rw w.verdict-is before.none ];
      room = now.room;
    }

pub returns-clause-verdict : goal.returns-clause-verdict
returns-clause-verdict g c = λ faithful.
    let last : c.loop-i.i ≡ 32 = omega (arith, c.loop-i-test.false, c.loop-i.auto.i-end) in
    subst (λ (k : ℕ). AreRead k c.args.total c.args.marks.now (g.D.Device.image c.args.image.now) c.loop-i.verdict) last (c.loop-i.invariant.read faithful)
