use Rattle.std.proofs.Common.{◌∙◌, ◌+◌, max, drop, ap, refl, arith}
use Rattle.bx_read.specs.Text.{contents}
use Rattle.bx_patch.specs.private.Turn.{run_from}
use Rattle.bx_patch.proofs.WalkLemmas.{run_ends, run_goes, run_stops, small_at}
use Rattle.bx_patch.proofs.read.turn.run_on.Goals as goal

pub loop-next-init : goal.loop-next-init
loop-next-init g c = record { run = refl; within = c.requires.within }

pub returns-then-piece-end-clause-run : goal.returns-then-piece-end-clause-run
returns-then-piece-end-clause-run g c =
    run_stops c.args.pieces.now c.loop-next.next c.loop-next.end c.index-pieces-next.result (omega (arith, c.loop-next-test.true)) c.index-pieces-next.is (omega (arith, c.if-piece-end.true))
    ∙ c.loop-next.invariant.run

pub end_of-requires : goal.end_of-requires
end_of-requires g c = small_at c.args.pieces.now c.loop-next.next c.index-pieces-next.result c.requires.small (omega (arith, c.loop-next-test.true)) c.index-pieces-next.is

pub loop-next-preserved : goal.loop-next-preserved
loop-next-preserved g c =
    let pieces = c.args.pieces.now in
    record {
      run = ap (λ end. run_from (contents (drop (c.loop-next.next + 1) pieces)) end) (c.max-end.ensures ∙ ap (λ k. max c.loop-next.end k) c.end_of.ensures)
          ∙ run_goes pieces c.loop-next.next c.loop-next.end c.index-pieces-next.result c.loop-next-test.true c.index-pieces-next.is c.if-piece-end.false ∙ c.loop-next.invariant.run;
      within = omega (arith, c.loop-next-test.true);
    }

pub returns-clause-run : goal.returns-clause-run
returns-clause-run g c = run_ends c.args.pieces.now c.loop-next.next c.loop-next.end (omega (arith, c.loop-next-test.false)) ∙ c.loop-next.invariant.run
