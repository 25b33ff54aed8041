use Rattle.std.proofs.Common.{◌≡◌, Err, arith}
use Rattle.std.proofs.lemmas.Grind.{common_steps}
use Rattle.std.proofs.lemmas.Result.{err_from_is_err_and}
use Rattle.bx_world.proofs.FileReasons.{other_reason}
use Rattle.bx_world.proofs.files.ready.are_ready.Goals as goal

pub returns-in_err-keep_names-clause-why : goal.returns-in_err-keep_names-clause-why
returns-in_err-keep_names-clause-why g c old least below fit =
    let three = c.are_three.ensures.faith.1 old in
    let more = c.are_three.ensures.counted old in
    let found = err_from_is_err_and c.from_residual-in_err-keep_names.result c.from_residual-in_err-keep_names.ensures.1 in
    let is : c.from_residual-in_err-keep_names.result ≡ Err c.in_err-keep_names.field-0.0 = grind (arith, common_steps, found.1, found.2) in
    rw is (other_reason _ _ c.in_err-keep_names.field-0.0.why (c.in_err-keep_names.ensures.why three least (omega (arith, more, below))))
