use Rattle.std.proofs.Common.{◌≡◌, Err, arith}
use Rattle.std.proofs.lemmas.Grind.{common_steps}
use Rattle.std.proofs.lemmas.Result.{err_from_is_err_and}
use Rattle.bx_world.proofs.FileReasons.{journal_beside, redo_beside}
use Rattle.bx_world.proofs.files.look.look_beside.Goals as goal

pub returns-in_err-look_at_text-clause-why : goal.returns-in_err-look_at_text-clause-why
returns-in_err-look_at_text-clause-why g c old least below =
    let found = err_from_is_err_and c.from_residual.result c.from_residual.ensures.1 in
    let is : c.from_residual.result ≡ Err c.in_err-look_at_text.field-0.0 = grind (arith, common_steps, found.1, found.2) in
    let why = rw (c.as_str.ensures) at (c.in_err-look_at_text.ensures.why old least below) in
    rw is (journal_beside c.args.names.now c.args.image _ (g.W.World.state c.args.world.now) _ why)

pub returns-in-Err-clause-why : goal.returns-in-Err-clause-why
returns-in-Err-clause-why g c old least below =
    let there = c.look_at_text.ensures.faith.1 old in
    let more = c.look_at_text.ensures.counted old in
    let why = rw (c.look_at_text.ensures.same old, c.as_str-2.ensures) at (c.in-Err.ensures.why there least (omega (arith, more, below))) in
    redo_beside c.args.names.now c.args.image _ (g.W.World.state c.args.world.now) _ why
