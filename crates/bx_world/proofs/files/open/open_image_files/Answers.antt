use Rattle.std.proofs.Common.{◌≡◌, ◌≤◌, Err, refl, arith}
use Rattle.std.proofs.lemmas.Grind.{common_steps}
use Rattle.std.proofs.lemmas.Result.{err_from_is_err_and}
use Rattle.bx_world.proofs.Making.{fresh_later}
use Rattle.bx_world.proofs.FileReasons.{image_may, none_is_fit}
use Rattle.bx_world.proofs.Taken.{left_then}
use Rattle.bx_world.proofs.Three.{all_opened, fit_there}
use Rattle.bx_world.proofs.files.open.open_image_files.Goals as goal

pub returns-in_err-image-clause-why : goal.returns-in_err-image-clause-why
returns-in_err-image-clause-why g c old =
    let look = c.look_at_all.ensures.faith.1 old in
    let least = c.look_at_all.ensures.counted old in
    let found = err_from_is_err_and c.from_residual-in_err-image.result c.from_residual-in_err-image.ensures.1 in
    let is : c.from_residual-in_err-image.result ≡ Err c.in_err-image.field-0.0 = grind (arith, common_steps, found.1, found.2) in
    let why = rw (c.look_at_all.ensures.same old, c.as_str.ensures) at (c.in_err-image.ensures.why look (g.W.World.refusals c.args.world.now) least) in
    rw is (image_may c.args.names.now c.args.mounted c.args.makes _ (g.W.World.state c.args.world.now) _ _ _ (none_is_fit _)
    (λ below. below) why)

pub open_texts-requires-clause-fit : goal.open_texts-requires-clause-fit
open_texts-requires-clause-fit g c opening =
    let look = c.open_image.ensures.faith.0 opening in
    let old = c.look_at_all.ensures.faith.0 look in
    let opened = rw (c.as_str.ensures) at (c.in_ok-image.ensures.ok look) in
    fit_there c.args.names.now c.args.mounted _ _ _ _ (rw (c.look_at_all.ensures.same old) (c.in_ok-look_at_all.ensures.fit old)) opened.file.under
    (c.in_ok-image.ensures.stays look)

pub unmake_image-requires-clause-made : goal.unmake_image-requires-clause-made
unmake_image-requires-clause-made g c refused is =
    let opening = c.open_texts.ensures.faith.0 refused in
    let look = c.open_image.ensures.faith.0 opening in
    let left = c.in-Err.ensures.err opening in
    rw left.streams.before (fresh_later _ _ _ _ (c.in_ok-image.ensures.ok look).file.files (is, refl) (g.met.W.World.begun _ look))

pub unmake_image-requires-clause-named : goal.unmake_image-requires-clause-named
unmake_image-requires-clause-named g c refused =
    let opening = c.open_texts.ensures.faith.0 refused in
    let look = c.open_image.ensures.faith.0 opening in
    let opened = rw (c.as_str.ensures) at (c.in_ok-image.ensures.ok look) in
    (c.in-Err.ensures.err opening).still _ _ opened.file.under.named

pub returns-in-Ok-clause-ok : goal.returns-in-Ok-clause-ok
returns-in-Ok-clause-ok g c old =
    let look = c.look_at_all.ensures.faith.1 old in
    let opening = c.open_image.ensures.faith.1 look in
    let opened = rw (c.look_at_all.ensures.same old, c.as_str.ensures) at (c.in_ok-image.ensures.ok look) in
    rw (c.files_of.ensures) (all_opened c.args.names.now c.args.mounted c.args.makes _ _ _ _ _ opened (c.in-Ok.ensures.ok opening)
    (c.in_ok-look_at_all.ensures.fit old))

pub returns-in-Err-clause-err : goal.returns-in-Err-clause-err
returns-in-Err-clause-err g c old =
    let look = c.look_at_all.ensures.faith.1 old in
    let opening = c.open_image.ensures.faith.1 look in
    let refused = c.open_texts.ensures.faith.1 opening in
    let opened = c.in_ok-image.ensures.ok look in
    rw (← c.look_at_all.ensures.same old) (c.unmake_image.ensures.left refused _ (λ name n e. g.met.W.World.within _ name n look e)
    (left_then _ _ _ _ opened.file.files (c.in-Err.ensures.err opening)))

pub returns-in-Err-clause-why : goal.returns-in-Err-clause-why
returns-in-Err-clause-why g c old =
    let look = c.look_at_all.ensures.faith.1 old in
    let opening = c.open_image.ensures.faith.1 look in
    let refused = c.open_texts.ensures.faith.1 opening in
    let opened = rw (c.as_str.ensures) at (c.in_ok-image.ensures.ok look) in
    let first = c.look_at_all.ensures.counted old in
    let second = c.open_image.ensures.counted look in
    let least : g.W.World.refusals c.args.world.now ≤ g.W.World.refusals c.open_image.new.world = omega (arith, first, second) in
    rw (← c.look_at_all.ensures.same old, c.unmake_image.ensures.counted refused)
    (c.in-Err.ensures.why opening (g.W.World.refusals c.args.world.now) least _ (λ name n e. g.met.W.World.within _ name n look e) opened)
