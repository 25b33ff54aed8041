use Rattle.std.proofs.Common.{[], arith}
use Rattle.bx_image.proofs.Changes.{base_le-effect, placed_onto, KeepsUntouched_base}
use Rattle.bx_image.proofs.Untouched.{AllKeepUntouched_base}
use Rattle.bx_image.proofs.change.begin.Goals as goal

pub set_base-requires-clause-room : goal.set_base-requires-clause-room
set_base-requires-clause-room g c =
    base_le-effect c.args.change.now [] _ (omega (arith, c.requires.room, c.in_ok-replaces_tail.ensures.goes_on.no_less_room))

pub returns-clause-leads : goal.returns-clause-leads
returns-clause-leads g c faithful =
    let still = c.in_ok-replaces_tail.ensures.goes_on.faith.1 faithful in
    placed_onto c.set_base.result c.args.change.now _ _ (rw (← c.in_ok-replaces_tail.ensures.image faithful) (c.set_base.ensures.ok still))

pub returns-clause-kept : goal.returns-clause-kept
returns-clause-kept g c faithful =
    let still = c.in_ok-replaces_tail.ensures.goes_on.faith.1 faithful in
    KeepsUntouched_base c.set_base.result c.args.change.now _ _ (rw (← c.in_ok-replaces_tail.ensures.image faithful) (c.set_base.ensures.ok still)) (rw (← c.in_ok-replaces_tail.ensures.image faithful) (c.set_base.ensures.failed still))

pub returns-clause-survives : goal.returns-clause-survives
returns-clause-survives g c faithful only =
    let looked = c.in_ok-replaces_tail.ensures in
    AllKeepUntouched_base c.args.change.now _ _ _ (λ y there. only y (looked.survives faithful y there)) (rw (← looked.image faithful) (c.set_base.ensures.survives (looked.goes_on.faith.1 faithful)))
