use Rattle.std.proofs.Common.{◌∙◌, ℕ, drop, ap, refl, arith}
use Rattle.bx_read.specs.Text.{contents}
use Rattle.bx_patch.specs.Patch.{Pieces}
use Rattle.bx_patch.specs.private.Turn.{run_from}
use Rattle.bx_patch.proofs.WalkLemmas.{each_ends, each_goes, each_stops, small_at}
use Rattle.bx_patch.proofs.read.turn.reach_all.Goals as goal

pub loop-i-init : goal.loop-i-init
loop-i-init g c = record { each = refl; within = omega arith }

pub end_of-requires : goal.end_of-requires
end_of-requires g c = small_at c.args.inner.now c.loop-i.i c.index-inner-i.result c.requires.inner (omega (arith, c.loop-i-test.true)) c.index-inner-i.is

pub returns-then-run-min : goal.returns-then-run-min
returns-then-run-min g c =
    let outer = c.args.outer.now in
    let before : Pieces × ℕ = (contents (drop c.loop-i.run.next outer), c.loop-i.run.end) in
    let run : Pieces × ℕ = (contents (drop c.run_on-run.result.next outer), c.run_on-run.result.end) in
    each_stops c.args.below before run c.args.inner.now c.loop-i.i c.index-inner-i.result (omega (arith, c.loop-i-test.true)) c.index-inner-i.is
    (c.run_on-run.ensures.run ∙ ap (λ at. run_from before.0 at) c.max.ensures) (omega (arith, c.if-run-min.true, c.min.ensures, c.end_of.ensures)) ∙ c.loop-i.invariant.each

pub loop-i-preserved : goal.loop-i-preserved
loop-i-preserved g c =
    let outer = c.args.outer.now in
    let before : Pieces × ℕ = (contents (drop c.loop-i.run.next outer), c.loop-i.run.end) in
    let run : Pieces × ℕ = (contents (drop c.run_on-run.result.next outer), c.run_on-run.result.end) in
    record {
      each = each_goes c.args.below before run c.args.inner.now c.loop-i.i c.index-inner-i.result (omega (arith, c.loop-i-test.true)) c.index-inner-i.is
          (c.run_on-run.ensures.run ∙ ap (λ at. run_from before.0 at) c.max.ensures) (omega (arith, c.if-run-min.false, c.min.ensures, c.end_of.ensures)) ∙ c.loop-i.invariant.each;
      within = c.run_on-run.ensures.within;
    }

pub returns : goal.returns
returns g c =
    each_ends c.args.below (contents (drop c.loop-i.run.next c.args.outer.now), c.loop-i.run.end) c.args.inner.now c.loop-i.i (omega (arith, c.loop-i-test.false)) ∙ c.loop-i.invariant.each
