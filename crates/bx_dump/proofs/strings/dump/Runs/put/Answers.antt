use Rattle.std.proofs.Common.{◌≡◌, ◌+◌, ◌-◌, ◌≤◌, length, take, drop, arith, refl, ◌∙◌}
use Rattle.std.proofs.lemmas.List.{length-take-le}
use Rattle.bx_text.proofs.KnownLemmas.{take-put_mid_more, part_more}
use Rattle.bx_dump.specs.private.Scan.{pending, scan_run}
use Rattle.bx_dump.proofs.ScanLemmas.{scan_text-none, scan_run-stays, scan_step, run_step, cost_step, cost_fits, pending_most}
use Rattle.bx_dump.proofs.strings.dump.Runs.put.Goals as goal

pub loop-done-init : goal.loop-done-init
loop-done-init c =
    let self = c.args.self.now in
    record {
      inside = omega arith;
      least = refl;
      offsets = refl;
      size = c.requires.size;
      within = c.requires.within;
      cost = omega (arith, pending_most self.least self.count, c.requires.within, c.requires.few);
      text = λ run kept. scan_text-none self.least self.offsets c.args.at run;
      kept = λ run kept. rw (← scan_run-stays run) kept;
    }

pub loop-done-preserved : goal.loop-done-preserved
loop-done-preserved c =
    let before = c.loop-done.invariant in
    let next = c.step-step.ensures in
    let self = c.args.self.now in
    let o = self.offsets in
    let bytes = c.args.bytes.now in
    let done = c.loop-done.done in
    let taken = c.step-step.result.taken in
    let used = c.loop-done.used in
    let page = c.loop-done.page in
    let rest = take (length bytes - done) (drop done bytes) in
    let part = take taken rest in
    let cost = cost_step o used (pending c.loop-done.self.least c.loop-done.self.count) c.step-step.result.used (pending c.step-step.new.self.least c.step-step.new.self.count) done taken next.some before.cost (rw before.offsets at next.cost) in
    let size : length (take done bytes) ≡ done = length-take-le done bytes before.inside in
    let inside : done + taken ≤ length bytes = omega (arith, next.taken, c.loop-done-test.true) in
    let join = part_more bytes done taken next.taken in
    let fits = cost_fits o (done + taken) (length bytes) inside in
    let room : used + c.step-step.result.used ≤ length page = omega (arith, cost, fits, c.requires.room, c.loop-done.auto.page) in
    let more = take-put_mid_more page c.step-step.new.page used (length page - used) c.step-step.result.used (omega (arith, room)) (omega (arith, room, c.step-step.auto.page)) in
    record {
      inside = inside;
      least = next.least ∙ before.least;
      offsets = next.offsets ∙ before.offsets;
      size = next.size;
      within = next.within;
      cost = cost;
      text = λ run kept.
          let was = before.kept run kept in
          let now = rw (before.least, before.offsets) at (next.text (scan_run run (take done bytes)) was) in
          more ∙ scan_step self.least o c.args.at done taken run bytes part size join (take used page) (take c.step-step.result.used c.step-step.new.page) (before.text run kept) now;
      kept = λ run kept.
          let was = before.kept run kept in
          rw (← run_step self.least o c.args.at done taken run bytes part size join) (next.kept (scan_run run (take done bytes)) was);
    }
