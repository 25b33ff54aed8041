use Rattle.std.proofs.Common.{◌≡◌, ◌∙◌, Err, arith}
use Rattle.std.proofs.lemmas.Grind.{common_steps}
use Rattle.std.proofs.lemmas.Result.{err_from_is_err_and}
use Rattle.bx_world.proofs.FileReasons.{journal_looked, redo_looked}
use Rattle.bx_world.proofs.files.look.look_at_all.Goals as goal

pub returns-in_err-is_there-clause-why : goal.returns-in_err-is_there-clause-why
returns-in_err-is_there-clause-why g c old count below =
    let looked = c.look_at_image.ensures.faith.1 old in
    let least = c.look_at_image.ensures.counted old in
    let found = err_from_is_err_and c.from_residual-in_err-is_there.result c.from_residual-in_err-is_there.ensures.1 in
    let is : c.from_residual-in_err-is_there.result ≡ Err c.in_err-is_there.field-0.0 = grind (arith, common_steps, found.1, found.2) in
    let fit = rw (c.as_str.ensures) at (c.in_ok-image.ensures.fit old) in
    let why = rw (c.look_at_image.ensures.same old, c.as_str-2.ensures) at (c.in_err-is_there.ensures.why looked count (omega (arith, least, below))) in
    rw is (journal_looked c.args.names.now c.args.mounted c.args.makes _ (g.W.World.state c.args.world.now) _ _ _ fit
    (λ more. more) why)

pub returns-in-Err-clause-why : goal.returns-in-Err-clause-why
returns-in-Err-clause-why g c old count below =
    let looked = c.look_at_image.ensures.faith.1 old in
    let there = c.look_at_text.ensures.faith.1 looked in
    let first = c.look_at_image.ensures.counted old in
    let second = c.look_at_text.ensures.counted looked in
    let fit = rw (c.as_str.ensures) at (c.in_ok-image.ensures.fit old) in
    let why = rw (c.look_at_text.ensures.same looked ∙ c.look_at_image.ensures.same old, c.as_str-3.ensures)
    at (c.in-Err.ensures.why there count (omega (arith, first, second, below))) in
    redo_looked c.args.names.now c.args.mounted c.args.makes _ (g.W.World.state c.args.world.now) _ _ _ fit (λ more. more) why
