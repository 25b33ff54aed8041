use Rattle.std.proofs.Common.{◌≡◌, ◌∙◌, Err, arith}
use Rattle.std.proofs.lemmas.Grind.{common_steps}
use Rattle.std.proofs.lemmas.Result.{err_from_is_err_and}
use Rattle.bx_world.proofs.FileReasons.{fit_reason}
use Rattle.bx_world.proofs.files.ready.are_fit.Goals as goal

pub returns-in_err-look_again_at_text-clause-why : goal.returns-in_err-look_again_at_text-clause-why
returns-in_err-look_again_at_text-clause-why g c old least below fit =
    let looked = c.look_again.ensures.faith.1 old in
    let more = c.look_again.ensures.counted old in
    let found = err_from_is_err_and c.from_residual-in_err-look_again_at_text.result c.from_residual-in_err-look_again_at_text.ensures.1 in
    let is : c.from_residual-in_err-look_again_at_text.result ≡ Err c.in_err-look_again_at_text.field-0.0 = grind (arith, common_steps, found.1, found.2) in
    rw is (fit_reason _ _ _ c.in_err-look_again_at_text.field-0.0 (rw (c.look_again.ensures.same old, c.in_ok-stat.ensures.told old) fit.journal)
    (c.in_err-look_again_at_text.ensures.why looked least (omega (arith, more, below))))

pub returns-in_err-look_again_at_text-2-clause-why : goal.returns-in_err-look_again_at_text-2-clause-why
returns-in_err-look_again_at_text-2-clause-why g c old least below fit =
    let looked = c.look_again.ensures.faith.1 old in
    let second = c.look_again_at_text.ensures.faith.1 looked in
    let first_more = c.look_again.ensures.counted old in
    let second_more = c.look_again_at_text.ensures.counted looked in
    let found = err_from_is_err_and c.from_residual-in_err-look_again_at_text-2.result c.from_residual-in_err-look_again_at_text-2.ensures.1 in
    let is : c.from_residual-in_err-look_again_at_text-2.result ≡ Err c.in_err-look_again_at_text-2.field-0.0 = grind (arith, common_steps, found.1, found.2) in
    rw is (fit_reason _ _ _ c.in_err-look_again_at_text-2.field-0.0
    (rw (c.look_again_at_text.ensures.same looked ∙ c.look_again.ensures.same old, c.in_ok-stat.ensures.told old) fit.redo)
    (c.in_err-look_again_at_text-2.ensures.why second least (omega (arith, first_more, second_more, below))))
