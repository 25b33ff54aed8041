use Rattle.std.proofs.Common.{◌≡◌, Err, arith}
use Rattle.std.proofs.lemmas.Grind.{common_steps}
use Rattle.std.proofs.lemmas.Result.{err_from_is_err_and}
use Rattle.bx_world.proofs.FileReasons.{image_beside}
use Rattle.bx_world.proofs.files.open.look_beside_made.Goals as goal

pub returns-in_err-stat-clause-why : goal.returns-in_err-stat-clause-why
returns-in_err-stat-clause-why g c old least below =
    let found = err_from_is_err_and c.from_residual.result c.from_residual.ensures.1 in
    let is : c.from_residual.result ≡ Err c.in_err-stat.field-0.0 = grind (arith, common_steps, found.1, found.2) in
    rw is (image_beside c.args.names.now ((g.W.World.state c.args.world.now).stat (g.W.World.number c.args.image.now.file)) _ (g.W.World.state c.args.world.now) c.in_err-stat.field-0.0
    (c.in_err-stat.ensures.why old least below))
