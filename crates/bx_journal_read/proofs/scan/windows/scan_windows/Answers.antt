use Rattle.std.proofs.Common.{◌∙◌, length, ap, refl, arith}
use Rattle.bx_journal_read.proofs.ScanLemmas.{reached_of}
use Rattle.bx_journal_model.proofs.TextReads.{read_behind, read_none}
use Rattle.bx_journal_read.proofs.TextWalks.{read_led, read_reached}
use Rattle.bx_journal_read.proofs.scan.windows.scan_windows.Goals as goal

pub loop-ends-init : goal.loop-ends-init
loop-ends-init g c = record {
  reached = record { led = c.requires.led; below = c.requires.below };
  window = refl;
  reads = read_none g.T.TextStore c.args.store.now;
}

pub take_step-requires-clause-led : goal.take_step-requires-clause-led
take_step-requires-clause-led g c =
    let inv = c.loop-ends.invariant in
    (c.args.scan, read_led g.T.TextStore inv.reads (g.S.Scan.Leads c.args.scan) c.loop-ends.at c.loop-ends.scan inv.reached.led)

pub loop-ends-preserved : goal.loop-ends-preserved
loop-ends-preserved g c =
    let T = g.T.TextStore in
    let inv = c.loop-ends.invariant in
    let now = c.in_ok-step.ensures in
    let led = read_led T inv.reads (g.S.Scan.Leads c.args.scan) c.loop-ends.at c.loop-ends.scan inv.reached.led in
    record {
      reached = read_reached T inv.reads (g.S.Scan.Leads c.args.scan) c.args.len c.in-Some.next (reached_of _ c.in_ok-step.step c.in-Ok.found c.in-Some.next c.in-Ok.is c.in-Some.is (now.reached c.args.scan led));
      window = now.window ∙ inv.window;
      reads = read_behind T inv.reads now.reads;
    }
