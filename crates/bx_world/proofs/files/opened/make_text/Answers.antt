use Rattle.std.proofs.Common.{◌≡◌, Err, arith}
use Rattle.std.proofs.lemmas.Grind.{common_steps}
use Rattle.std.proofs.lemmas.Result.{err_from_is_err_and}
use Rattle.bx_world.proofs.Making.{made_later, opened_made}
use Rattle.bx_world.proofs.files.opened.make_text.Goals as goal

pub lock_made-requires-clause-made : goal.lock_made-requires-clause-made
lock_made-requires-clause-made g c made =
    let old = c.make_text.ensures.faith.0 made in
    made_later _ _ _ _ (c.in_ok-file.ensures.made old) (g.met.W.World.begun _ old)

pub lock_made-requires-clause-named : goal.lock_made-requires-clause-named
lock_made-requires-clause-named g c made =
    let old = c.make_text.ensures.faith.0 made in
    (c.in_ok-file.ensures.made old).named

pub returns-in_err-lock_made-clause-err : goal.returns-in_err-lock_made-clause-err
returns-in_err-lock_made-clause-err g c old =
    let made = c.make_text.ensures.faith.1 old in
    let found = err_from_is_err_and c.from_residual-in_err-lock_made.result c.from_residual-in_err-lock_made.ensures.1 in
    let is : c.from_residual-in_err-lock_made.result ≡ Err c.in_err-lock_made.field-0.0 = grind (arith, common_steps, found.1, found.2) in
    let opened = opened_made _ _ _ _ (c.in_ok-file.ensures.made old) in
    rw is (c.in_err-lock_made.ensures.left made _ (λ name n e. g.met.W.World.within _ name n old e) opened.files)
