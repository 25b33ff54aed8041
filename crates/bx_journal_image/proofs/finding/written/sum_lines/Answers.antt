use Rattle.std.proofs.Common.{◌+◌, ◌∙◌, ap, arith, drop, flat_map, length, length-drop, refl, subst, sym, take}
use Rattle.std.proofs.lemmas.List.{drop-drop}
use Rattle.bx_image.proofs.CacheLemmas.{cache_again}
use Rattle.bx_journal_format.specs.Text.{split}
use Rattle.bx_journal_format.proofs.TallyLemmas.{IsFirstLine}
use Rattle.bx_journal_image.specs.Written.{Sums, at_line}
use Rattle.bx_journal_image.proofs.BlockLemmas.{lines_taken, taken_on}
use Rattle.bx_journal_image.proofs.LookLemmas.{reads_none, reads_then}
use Rattle.bx_journal_image.proofs.WrittenLemmas.{lines_next, sums_none, sums_same}
use Rattle.bx_journal_image.proofs.finding.written.sum_lines.Goals as goal

pub loop-i-init : goal.loop-i-init
unfolding split
loop-i-init g c = record {
  sums = λ h. sums_none c.args.sum.now;
  cache = c.requires.cache;
  within = omega arith;
  left = refl;
  whole = refl;
  page = refl;
  reads = reads_none g.D.Device c.args.image.now;
}

pub loop-i-preserved : goal.loop-i-preserved
loop-i-preserved g c =
    let found = c.in-Some.ensures.found in
    let inv = c.loop-i.invariant in
    let now = c.in_ok-now.ensures in
    let x = g.D.Device.image c.args.image.now in
    let line : IsFirstLine c.loop-i.rest.now c.in-Some.i = record { below = found.0; plain = found.1; is = found.2 } in
    record {
      sums = λ h. lines_next x c.args.text.now c.loop-i.rest.now c.loop-i.taken c.in-Some.i c.args.sum.now c.loop-i.sum c.sum_line.new.sum inv.whole inv.left line (inv.sums h)
          (subst (λ y. Sums c.loop-i.sum c.sum_line.new.sum (at_line y (take c.in-Some.i c.loop-i.rest.now))) (inv.reads.image h) (now.sums (inv.reads.goes_on.faith.1 h)));
      cache = cache_again (g.D.Device.faithful c.loop-i.image) (g.D.Device.faithful c.args.image.now) (g.D.Device.image c.loop-i.image) x c.sum_line.new.page c.in_ok-now.now
          inv.reads.goes_on.faith.1 (λ h. sym (inv.reads.image h)) now.cache;
      within = omega (arith, found.0, inv.within, ap length c.split_at.ensures.back, length-drop (c.in-Some.i + 1) c.loop-i.rest.now);
      left = c.split_at.ensures.back ∙ ap (drop (c.in-Some.i + 1)) inv.left ∙ drop-drop (c.in-Some.i + 1) c.loop-i.taken c.args.text.now;
      whole = taken_on c.args.text.now c.loop-i.rest.now c.loop-i.taken c.in-Some.i inv.left inv.whole found.0 found.1 found.2;
      page = now.room ∙ inv.page;
      reads = reads_then g.D.Device inv.reads now.reads;
    }

pub returns-clause-sums : goal.returns-clause-sums
returns-clause-sums g c = λ h.
    let inv = c.loop-i.invariant in
    sums_same c.args.sum.now c.loop-i.sum _ _
    (ap (flat_map (at_line (g.D.Device.image c.args.image.now))) (lines_taken c.args.text.now c.loop-i.rest.now c.loop-i.taken inv.left inv.whole c.in_default.ensures.none)) (inv.sums h)

pub returns-clause-lines : goal.returns-clause-lines
returns-clause-lines g c = lines_taken c.args.text.now c.loop-i.rest.now c.loop-i.taken c.loop-i.invariant.left c.loop-i.invariant.whole c.in_default.ensures.none
