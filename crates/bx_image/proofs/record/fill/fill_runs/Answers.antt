use Rattle.std.proofs.Common.{◌∙◌, ◌<◌, ℕ, length, arith, rules}
use Rattle.bx_image.proofs.Devices.{GoesOn_refl, GoesOn_then}
use Rattle.bx_image.proofs.FillLemmas.{HaveShape-refl, LieBelow-shape, below_at, length-shape, shape_set, runs_set, bytes_set}
use Rattle.bx_image.proofs.Survivors.{NoMore_then}
use Rattle.bx_image.proofs.record.fill.fill_runs.Goals as goal

pub loop-run-init : goal.loop-run-init
loop-run-init g c = record {
  shape = HaveShape-refl c.args.runs.now;
  bytes = tt;
  read = λ faithful. tt;
  image = λ faithful. search rules;
  survives = λ faithful y there. there;
  goes_on = GoesOn_refl _ _ _ _;
}

pub fill_run-requires-clause-range : goal.fill_run-requires-clause-range
fill_run-requires-clause-range g c faithful =
    let kept = c.loop-run.invariant in
    let first = kept.goes_on.faith.0 faithful in
    let limit : ℕ = length (g.D.Device.image c.args.device.now) in
    let inside : c.loop-run.run-index < length c.loop-run.runs = omega (arith, c.loop-run-test.true, length-shape c.args.runs.now c.loop-run.runs kept.shape) in
    rw (kept.image first) (below_at limit c.loop-run.runs c.loop-run.run-index c.run-item.result inside (LieBelow-shape limit c.args.runs.now c.loop-run.runs kept.shape (c.requires.range first)))

pub returns-in_err-fill_run-clause-shape : goal.returns-in_err-fill_run-clause-shape
returns-in_err-fill_run-clause-shape g c =
    let kept = c.loop-run.invariant in
    let inside : c.loop-run.run-index < length c.loop-run.runs = omega (arith, c.loop-run-test.true, length-shape c.args.runs.now c.loop-run.runs kept.shape) in
    shape_set c.args.runs.now c.loop-run.runs c.loop-run.run-index c.run-item.result c.fill_run.new.run kept.shape inside c.fill_run.ensures.at c.fill_run.ensures.len

pub loop-run-preserved : goal.loop-run-preserved
loop-run-preserved g c =
    let kept = c.loop-run.invariant in
    let run = c.in_ok-fill_run.ensures in
    let k : ℕ = c.loop-run.run-index in
    let inside : c.loop-run.run-index < length c.loop-run.runs = omega (arith, c.loop-run-test.true, length-shape c.args.runs.now c.loop-run.runs kept.shape) in
    record {
      shape = shape_set c.args.runs.now c.loop-run.runs k c.run-item.result c.fill_run.new.run kept.shape inside run.at run.len;
      bytes = bytes_set c.loop-run.runs k c.fill_run.new.run inside kept.bytes run.bytes;
      read = λ faithful. runs_set (g.D.Device.image c.args.device.now) c.loop-run.runs k c.fill_run.new.run inside (kept.read faithful) (rw (kept.image faithful) at run.read (kept.goes_on.faith.1 faithful));
      image = λ faithful. run.image (kept.goes_on.faith.1 faithful) ∙ kept.image faithful;
      survives = λ faithful. NoMore_then _ _ _ (kept.survives faithful) (run.survives (kept.goes_on.faith.1 faithful));
      goes_on = GoesOn_then _ _ _ _ _ _ _ kept.goes_on run.goes_on;
    }
