use Rattle.std.proofs.Common.{◌+◌, ◌-◌, length, refl, arith}
use Rattle.std.proofs.lemmas.List.{get_or_read_under}
use Rattle.std.proofs.lemmas.List.Sorted.{all_adjacent_more, IsNonDecreasingBy-from_all_adjacent}
use Rattle.bx_patch.specs.private.preview.Order.{IsNotBefore}
use Rattle.bx_patch.proofs.preview.order.are_ordered.Goals as goal

pub loop-i-init : goal.loop-i-init
loop-i-init g c = record { ordered = λ k d h. absurd (omega (arith, h)) }

pub loop-i-preserved : goal.loop-i-preserved
loop-i-preserved g c =
    let pieces = c.args.pieces.now in
    let is : IsNotBefore c.index-pieces-i.result c.index-pieces-i-in-loop-i.result = c.is_not_before.ensures c.if-not-is_not_before.false in
    record {
      ordered = all_adjacent_more pieces (λ x y. IsNotBefore y x) c.loop-i.i (omega (arith, c.loop-i.auto.i)) c.loop-i.invariant.ordered (λ d.
          let this = get_or_read_under pieces c.loop-i.i (length pieces) _ d c.index-pieces-i.is c.loop-i-test.true refl in
          let last = get_or_read_under pieces (c.loop-i.i - 1) (length pieces) _ d c.index-pieces-i-in-loop-i.is (omega (arith, c.loop-i-test.true)) refl in
          rw (← this, ← last) is);
    }

pub returns : goal.returns
returns g c _ =
    let pieces = c.args.pieces.now in (
      IsNonDecreasingBy-from_all_adjacent (λ p. p.at) pieces (λ k d h. (c.loop-i.invariant.ordered k d (omega (arith, h, c.loop-i-test.false))).0),
      IsNonDecreasingBy-from_all_adjacent (λ p. p.at + length p.bytes) pieces (λ k d h. (c.loop-i.invariant.ordered k d (omega (arith, h, c.loop-i-test.false))).1),
    )
