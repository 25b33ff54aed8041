use Rattle.std.proofs.Common.{◌≡◌, ◌+◌, ◌<◌, ◌++◌, ◌∙◌, None, drop, get_or, sym, arith}
use Rattle.std.proofs.lemmas.List.{ext_get_or, length-set}
use Rattle.bx_journal_image.specs.Line.{marks_text}
use Rattle.bx_journal_image.proofs.MarkLemmas.{marked_more, marks_step}
use Rattle.bx_journal_image.proofs.line.form.marks_before.Goals as goal

pub loop-i-preserved : goal.loop-i-preserved
loop-i-preserved c =
    let before = c.loop-i.invariant in
    let found = c.mark_before-found in
    record {
      long = length-set c.loop-i.marks c.loop-i.i found.result.mark ∙ before.long;
      so_far = λ ms more fits is.
          let so_far = before.so_far ms more fits is in
          let few : c.loop-i.i < 32 = omega (arith, c.loop-i-test.true) in
          let here = found.ensures (get_or ms c.loop-i.i None) (marks_text (drop (c.loop-i.i + 1) ms) ++ more) (fits.each c.loop-i.i few)
          (marks_step ms c.loop-i.i more c.loop-i.rest.now (omega (arith, few, fits.count)) so_far.0) in
          (here.1, λ p below. marked_more (λ q. get_or ms q None) c.loop-i.marks c.loop-i.i found.result.mark p before.long few so_far.1 here.0 below);
    }

pub returns : goal.returns
returns c = λ ms more fits is.
    let last : c.loop-i.i ≡ 32 = omega (arith, c.loop-i-test.false, c.loop-i.auto.i-end) in
    let inv = c.loop-i.invariant in
    ext_get_or None c.loop-i.marks ms (inv.long ∙ sym fits.count) (λ p below. (inv.so_far ms more fits is).1 p (omega (arith, below, inv.long, last)))
