use Rattle.std.proofs.Common.{subst}
use Rattle.bx_world.specs.World.{SystemState, held}
use Rattle.bx_run_report.specs.report.Stepped.{HoldsImage}
use Rattle.bx_run_report.proofs.Failing.{failed_twice}
use Rattle.bx_run_report.proofs.Held.{held_by, hidden_named}
use Rattle.bx_run_report.proofs.report.stepped.show_patch.Goals as goal

pub returns-clause-shows : goal.returns-clause-shows
returns-clause-shows g c old =
    let P : SystemState → Type 0 = λ w. HoldsImage g.W.Image.Device (held w c.args.names.now.image) c.in-Ok-lend_alone.again in
    let look = c.in-Ok.ensures.faith.1 old in
    let bytes = held_by c.args.names.now.image _ _ (rw c.as_str.ensures at (c.in-Ok-lend_alone.ensures.bytes look)) in
    let copy = subst P (c.in-Ok.ensures.same old) (c.in-Ok-lend_alone.ensures.faithful look, bytes) in
    rw c.close-2.ensures.outcome (c.patch_on-seen.ensures.shows _ _ _ (c.in-Ok.ensures.held old) copy)

pub returns-clause-stops : goal.returns-clause-stops
returns-clause-stops g c old =
    let P : SystemState → Type 0 = λ w. HoldsImage g.W.Image.Device (held w c.args.names.now.image) c.in-Ok-lend_alone.again in
    let look = c.in-Ok.ensures.faith.1 old in
    let bytes = held_by c.args.names.now.image _ _ (rw c.as_str.ensures at (c.in-Ok-lend_alone.ensures.bytes look)) in
    let copy = subst P (c.in-Ok.ensures.same old) (c.in-Ok-lend_alone.ensures.faithful look, bytes) in
    rw c.close-2.ensures.outcome (hidden_named c.args.names.now _ (g.W.World.state c.args.world.now) _ _ _ _
    (c.patch_on-seen.ensures.stops _ _ _ (c.in-Ok.ensures.held old) copy))

pub returns-clause-failed : goal.returns-clause-failed
returns-clause-failed g c old =
    let lent = c.into_devices.ensures.faith.1 old in
    let both = c.lend_alone.ensures.faith.1 lent in
    failed_twice c.patch_on-seen.result.0.outcome c.close-2.result _ _ _ _ _ _ _ c.close-2.ensures.outcome (c.in-Ok.ensures.calm old)
    (c.in-Ok-lend_alone.ensures.calm lent) (c.close_again.ensures.counted both) (c.close-2.ensures.counted (c.close_again.ensures.faith.1 both))
    (c.patch_on-seen.ensures.failed (c.in-Ok-lend_alone.ensures.faithful lent))
