use Rattle.std.proofs.Common.{arith}
use Rattle.std.proofs.lemmas.List.Elements.{AllWithin-more, at_read}
use Rattle.bx_patch.specs.private.preview.Order.{AreByPlace}
use Rattle.bx_patch.proofs.preview.order.all_ordered.Goals as goal

pub loop-change-init : goal.loop-change-init
loop-change-init g c = record { ordered = λ k d low high. absurd (omega (arith, high)) }

pub loop-change-preserved : goal.loop-change-preserved
loop-change-preserved g c =
    let changes = c.args.changes.now in
    let is : AreByPlace c.change-item.result.writes = rw (← c.as_slice.ensures) (c.are_ordered.ensures c.if-not-are_ordered.false) in
    record {
      ordered = AllWithin-more (λ c. AreByPlace c.writes) changes 0 c.loop-change.change-index c.loop-change.invariant.ordered
          (at_read changes (λ c. AreByPlace c.writes) c.loop-change.change-index c.change-item.result c.loop-change-test.true c.change-item.is is);
    }

pub returns : goal.returns
returns g c _ k d h = c.loop-change.invariant.ordered k d (omega arith) (omega (arith, h, c.loop-change-test.false))
