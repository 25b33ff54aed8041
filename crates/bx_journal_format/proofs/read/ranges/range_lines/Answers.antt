use Rattle.std.proofs.Common.{◌+◌, length, drop, refl, ap, ◌∙◌, arith, length-drop, string_bytes}
use Rattle.bx_journal_format.proofs.RangeSteps.{ranges_next, ranges_none}
use Rattle.bx_journal_format.proofs.ReadLoop.{drop_twice}
use Rattle.bx_journal_format.proofs.TallyLemmas.{IsFirstLine}
use Rattle.bx_journal_format.proofs.read.ranges.range_lines.Goals as goal

pub loop-i-init : goal.loop-i-init
loop-i-init g c =
    let none = ranges_none c.args.len c.args.window.now c.args.from (string_bytes c.args.text.now) in
    record { leads = none.0; whole = none.1; left = refl; within = omega arith; below = c.requires }

pub loop-i-preserved : goal.loop-i-preserved
loop-i-preserved g c =
    let f = c.in-Some.ensures.found in
    let inv = c.loop-i.invariant in
    let line : IsFirstLine c.loop-i.rest.now c.in-Some.i = record { below = f.0; plain = f.1; is = f.2 } in
    let long = length-drop c.loop-i.taken c.args.window.now in
    let next = ranges_next c.args.len c.args.window.now c.loop-i.rest.now c.loop-i.taken c.in-Some.i c.args.from c.loop-i.ranging c.in_ok-ranging.ranging (string_bytes c.args.text.now)
    (string_bytes c.loop-i.text) (string_bytes c.range_one.new.text) inv.leads inv.whole inv.left line c.in_ok-ranging.ensures.added in
    record {
      leads = next.0;
      whole = next.1;
      left = c.split_at.ensures.back ∙ ap (drop (c.in-Some.i + 1)) inv.left ∙ drop_twice c.loop-i.taken (c.in-Some.i + 1) c.args.window.now;
      within = omega (arith, f.0, inv.within, ap length inv.left, long);
      below = c.in_ok-ranging.ensures.within;
    }
