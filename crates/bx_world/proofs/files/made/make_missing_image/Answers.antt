use Rattle.std.proofs.Common.{◌<◌, arith}
use Rattle.bx_world.proofs.FileReasons.{made_before}
use Rattle.bx_world.proofs.files.made.make_missing_image.Goals as goal

pub returns-in-Ok-make_image-clause-reasons : goal.returns-in-Ok-make_image-clause-reasons
returns-in-Ok-make_image-clause-reasons g c old mounted before least most last u below above =
    let looked = c.look.ensures.faith.1 old in
    let made = rw (c.look.ensures.same old, c.as_str-name.ensures) at (c.in-Ok-make_image.ensures.made looked) in
    made_before c.args.names.now mounted (before < last) (least < most) _ _ _ (λ name n e. g.met.W.World.within c.args.world.now name n old e)
    made (c.in-Ok-make_image.ensures.fit looked) u (λ less. omega (arith, less, below, above))
