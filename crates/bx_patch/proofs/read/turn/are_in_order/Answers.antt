use Rattle.std.proofs.Common.{◌≡◌, ◌+◌, false, true, ℕ, drop, refl, sym, subst, arith}
use Rattle.std.specs.Prelude.{◌↔◌}
use Rattle.bx_read.specs.Text.{contents}
use Rattle.bx_patch.specs.Patch.{AreInOrder}
use Rattle.bx_patch.proofs.WalkLemmas.{order_ends, order_goes, order_stops, small_at}
use Rattle.bx_patch.proofs.read.turn.are_in_order.Goals as goal

pub loop-i-init : goal.loop-i-init
loop-i-init g c = (λ h. h, λ h. h)

pub returns-then-piece-end : goal.returns-then-piece-end
returns-then-piece-end g c = (
  λ is. let no : false ≡ true = is in cc,
  λ order. absurd (order_stops (AreInOrder 0 (contents c.args.pieces.now)) c.args.pieces.now c.loop-i.i c.loop-i.end c.loop-i.invariant c.index-pieces-i.result (omega (arith, c.loop-i-test.true))
      c.index-pieces-i.is c.if-piece-end.true order),
)

pub end_of-end-requires : goal.end_of-end-requires
end_of-end-requires g c = small_at c.args.pieces.now c.loop-i.i c.index-pieces-i.result c.requires (omega (arith, c.loop-i-test.true)) c.index-pieces-i.is

pub loop-i-preserved : goal.loop-i-preserved
loop-i-preserved g c =
    let pieces = c.args.pieces.now in
    let X = AreInOrder 0 (contents pieces) in
    subst (λ (end : ℕ). AreInOrder end (contents (drop (c.loop-i.i + 1) pieces)) ↔ X) (sym c.end_of-end.ensures)
    (order_goes X pieces c.loop-i.i c.loop-i.end c.loop-i.invariant c.index-pieces-i.result (omega (arith, c.loop-i-test.true)) c.index-pieces-i.is c.if-piece-end.false)

pub returns : goal.returns
returns g c = (λ is. order_ends (AreInOrder 0 (contents c.args.pieces.now)) c.args.pieces.now c.loop-i.i c.loop-i.end c.loop-i.invariant (omega (arith, c.loop-i-test.false)), λ order. refl)
