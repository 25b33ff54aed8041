use Rattle.std.proofs.Common.{◌≡◌, Err, arith}
use Rattle.std.proofs.lemmas.Grind.{common_steps}
use Rattle.std.proofs.lemmas.Result.{err_from_is_err_and}
use Rattle.bx_world.proofs.FileReasons.{refused_missing}
use Rattle.bx_world.proofs.files.opened.open_or_make_image.Goals as goal

pub returns-in_err-file-in-Err-Missing-clause-why : goal.returns-in_err-file-in-Err-Missing-clause-why
returns-in_err-file-in-Err-Missing-clause-why g c old least below =
    let looked = c.open_image_there.ensures.faith.1 old in
    let more = c.open_image_there.ensures.counted old in
    let found = err_from_is_err_and c.from_residual-in_err-file-in-Err-Missing.result c.from_residual-in_err-file-in-Err-Missing.ensures.1 in
    let is : c.from_residual-in_err-file-in-Err-Missing.result ≡ Err c.in_err-file-in-Err-Missing.field-0.0 = grind (arith, common_steps, found.1, found.2) in
    rw is (refused_missing _ _ c.in_err-file-in-Err-Missing.field-0.0
    (c.in_err-file-in-Err-Missing.ensures.why looked least (omega (arith, more, below))))
