use Rattle.std.proofs.Common.{◌≡◌, ◌∙◌, ◌<◌}
use Rattle.bx_world.proofs.Readable.{pair_open, pair_unready}
use Rattle.bx_world.proofs.files.reading.redo.open_redo_to_forget.Goals as goal

pub returns-in-Err-are_ready-clause-why : goal.returns-in-Err-are_ready-clause-why
returns-in-Err-are_ready-clause-why g c old =
    let look = c.look_at_pair.ensures.faith.1 old in
    let opened = c.open_pair.ensures.faith.1 look in
    let first = (c.look_at_pair.ensures.seen old).same in
    let second : g.W.World.state c.open_pair.new.world ≡ g.W.World.state c.args.world.now = (c.open_pair.ensures.seen look).same ∙ first in
    let named = rw first at (c.in-Ok.ensures.named look) in
    let fit = pair_open c.args.names.now _ (g.W.World.state c.args.world.now) (c.in_default.ensures.fit old) named in
    let calm : g.W.World.refusals c.open_pair.new.world ≡ g.W.World.refusals c.args.world.now =
    c.in-Ok.ensures.calm look ∙ c.in_default.ensures.calm old in
    let is = rw calm at (c.in-Err-are_ready.ensures.why opened (rw second fit)) in
    rw c.as_redo.ensures (pair_unready c.args.names.now (g.W.World.refusals c.args.world.now < g.W.World.refusals c.are_ready.new.world)
    (g.W.World.state c.args.world.now) _ named c.in-Err-are_ready.unopened is)
