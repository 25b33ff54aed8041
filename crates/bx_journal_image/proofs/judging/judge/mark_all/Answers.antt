use Rattle.std.proofs.Common.{◌≡◌, Some, arith, length, sym, ap, ◌∙◌}
use Rattle.std.proofs.lemmas.List.{length-set}
use Rattle.bx_image.proofs.Devices.{GoesOn_then}
use Rattle.bx_image.proofs.Survivors.{NoMore_then}
use Rattle.bx_journal_image.specs.Blocks.{block_digest}
use Rattle.bx_journal_image.proofs.BlockLaws.{block_within}
use Rattle.bx_journal_image.proofs.MarkLemmas.{marked_more}
use Rattle.bx_journal_image.proofs.judging.judge.mark_all.Goals as goal

pub read_block-requires-clause-range : goal.read_block-requires-clause-range
read_block-requires-clause-range g c = λ faithful.
    let before = c.loop-k.invariant.reads in
    let start = before.goes_on.faith.0 faithful in
    let long : c.args.total ≡ length (g.D.Device.image c.loop-k.image) = c.requires.long start ∙ ap length (sym (before.image start)) in
    omega (arith, long, block_within c.args.total c.loop-k.k (omega (arith, c.loop-k-test.true)))

pub loop-k-preserved : goal.loop-k-preserved
loop-k-preserved g c =
    let before = c.loop-k.invariant in
    let now = c.in_ok-read_block.ensures in
    record {
      reads = record {
        image = λ faithful. now.reads.image (before.reads.goes_on.faith.1 faithful) ∙ before.reads.image faithful;
        survives = λ faithful. NoMore_then _ _ _ (before.reads.survives faithful) (now.reads.survives (before.reads.goes_on.faith.1 faithful));
        goes_on = GoesOn_then _ _ _ _ _ _ _ before.reads.goes_on now.reads.goes_on;
      };
      marks = λ faithful p below.
          let start = before.reads.image faithful in
          let digest : c.in_ok-read_block.field-0 ≡ block_digest c.args.total c.loop-k.k (g.D.Device.image c.args.image.now) =
          now.digest (before.reads.goes_on.faith.1 faithful) ∙ ap (block_digest c.args.total c.loop-k.k) start in
          marked_more (λ q. Some (block_digest c.args.total q (g.D.Device.image c.args.image.now))) c.loop-k.marks c.loop-k.k (Some c.in_ok-read_block.field-0) p
          before.long (omega (arith, c.loop-k-test.true)) (before.marks faithful) (ap Some digest) below;
      long = length-set c.loop-k.marks c.loop-k.k (Some c.in_ok-read_block.field-0) ∙ before.long;
      room = now.room;
    }
