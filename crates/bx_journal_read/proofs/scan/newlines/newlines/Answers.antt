use Rattle.std.proofs.Common.{◌≡◌, get_or, refl, ◌∙◌, arith}
use Rattle.std.proofs.lemmas.Grind.{common_steps}
use Rattle.bx_journal_format.specs.Text.{split}
use Rattle.bx_journal_read.proofs.NewlineLemmas.{newline_more, newline_same}
use Rattle.bx_journal_read.proofs.scan.newlines.newlines.Goals.{then-byte-eq10, else-byte-eq10}
use Rattle.bx_journal_read.proofs.scan.newlines.newlines.Goals as goal

pub loop-byte-init : goal.loop-byte-init
unfolding split
loop-byte-init c = record { counted = refl; most = omega arith }

pub loop-byte-preserved : goal.loop-byte-preserved
loop-byte-preserved c =
    elim c.if-byte-eq10.branch [
      | then-byte-eq10 w ↦
          let ten : get_or c.args.text.now c.loop-byte.byte-index 0 ≡ 10 = grind (arith, common_steps) in
          let one = newline_more c.args.text.now c.loop-byte.byte-index c.loop-byte.count c.loop-byte-test.true ten c.loop-byte.invariant.counted in
          record { counted = w.count-is ∙ one; most = omega (arith, w.count-is, c.loop-byte.invariant.most) }
      | else-byte-eq10 w ↦
          let apart : get_or c.args.text.now c.loop-byte.byte-index 0 ≡ 10 → ⊥ = λ e. absurd (grind (arith, common_steps)) in
          let same = newline_same c.args.text.now c.loop-byte.byte-index c.loop-byte.count c.loop-byte-test.true apart c.loop-byte.invariant.counted in
          record { counted = w.count-is ∙ same; most = omega (arith, w.count-is, c.loop-byte.invariant.most) }
    ]
