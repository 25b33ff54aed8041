use Rattle.std.proofs.Common.{◌+◌, length, drop, refl, ap, ◌∙◌, arith, length-drop}
use Rattle.bx_journal_format.proofs.ReadLoop.{drop_twice}
use Rattle.bx_journal_format.proofs.TallyLemmas.{IsFirstLine}
use Rattle.bx_journal_read.specs.show.Differences.{made_line}
use Rattle.bx_journal_read.proofs.AddedLemmas.{added_next, added_none}
use Rattle.bx_journal_read.proofs.show.lines.push_lines.Goals as goal

pub loop-rest-init : goal.loop-rest-init
loop-rest-init g c = record {
  added = added_none (made_line c.args.before) c.args.window.now c.args.text.now.items;
  left = refl;
  within = omega arith;
}

pub loop-rest-preserved : goal.loop-rest-preserved
loop-rest-preserved g c =
    let f = c.in-Some.ensures.found in
    let inv = c.loop-rest.invariant in
    let line : IsFirstLine c.loop-rest.rest.now c.in-Some.i = record { below = f.0; plain = f.1; is = f.2 } in
    let long = length-drop c.loop-rest.taken c.args.window.now in
    record {
      added = added_next (made_line c.args.before) c.args.window.now c.loop-rest.rest.now c.loop-rest.taken c.in-Some.i
          c.args.text.now.items c.loop-rest.text.items c.push_made.new.text.items inv.added inv.left line c.in_ok-push_made.ensures;
      left = c.split_at.ensures.back ∙ ap (drop (c.in-Some.i + 1)) inv.left ∙ drop_twice c.loop-rest.taken (c.in-Some.i + 1) c.args.window.now;
      within = omega (arith, f.0, inv.within, ap length inv.left, long);
    }
