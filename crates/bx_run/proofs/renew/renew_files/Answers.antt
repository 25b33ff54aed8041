use Rattle.std.proofs.Common.{◌∙◌, refl, arith}
use Rattle.bx_world.specs.World.{number_if}
use Rattle.bx_world.specs.files.Files.{AreAllThere}
use Rattle.bx_world.specs.declared.files.unopened.OpenError.{OpenError}
use Rattle.bx_world.specs.declared.files.unopened.FileRole.TheVariants.{Image}
use Rattle.bx_world.specs.declared.files.unopened.OpenFailure.TheVariants.{System}
use Rattle.bx_run.specs.run.Outcome.{first_unopened}
use Rattle.bx_run_model.specs.RunState.{RunState, run_state_beside}
use Rattle.bx_run.proofs.Cleared.{cleared_image, cleared_kept, cleared_streams, fit_before, kept_leaves, left_contents, made_named, made_number, made_streams, may_before, nothing_cleared, same_contents, tells_before, tells_between}
use Rattle.bx_run.proofs.RenewalLess.{renewal_less}
use Rattle.bx_run.proofs.Unmade.{keeps_unmade_files, nothing_unmade, renews_unmade, survives_unmade, tells_unmade}
use Rattle.bx_run.proofs.renew.renew_files.Goals as goal

pub take_steps-renewed-requires-clause-free : goal.take_steps-renewed-requires-clause-free
take_steps-renewed-requires-clause-free g c begun =
    let mid = c.make_missing_image.ensures.faith.0 begun in
    let old = c.keep_locks.ensures.faith.0 mid in
    (made_streams c.args.names.now.image _ _ _ (c.in-Ok.ensures.made mid)).lent ∙ rw (c.keep_locks.ensures.same old) (c.requires.free old)

pub finish-requires-clause-made : goal.finish-requires-clause-made
finish-requires-clause-made g c ended =
    let begun = c.take_steps-renewed.ensures.faith.0 ended in
    let mid = c.make_missing_image.ensures.faith.0 begun in
    made_number c.args.names.now.image _ (g.W.World.state c.keep_locks.new.self) (g.W.World.state c.make_missing_image.new.world)
    (g.W.World.state c.take_steps-renewed.new.world) (c.in-Ok.ensures.made mid) (g.met.W.World.begun c.keep_locks.new.self mid)
    (tells_before c.take_steps-renewed.result (g.W.World.state c.make_missing_image.new.world) (g.W.World.state c.take_steps-renewed.new.world)
    (c.take_steps-renewed.ensures.streams begun))

pub finish-requires-clause-named : goal.finish-requires-clause-named
finish-requires-clause-named g c ended =
    let begun = c.take_steps-renewed.ensures.faith.0 ended in
    let mid = c.make_missing_image.ensures.faith.0 begun in
    made_named c.args.names.now _ _ _ _ (c.in-Ok.ensures.made mid) (c.take_steps-renewed.ensures.others begun)

pub returns-in-Err-clause-does : goal.returns-in-Err-clause-does
returns-in-Err-clause-does g c old written =
    let mid = c.keep_locks.ensures.faith.1 old in
    let u : OpenError = record { which = Image; why = System c.in-Err.refusal } in
    let first : RunState = run_state_beside g.W.World.state g.W.World.refusals g.W.World.note written c.keep_locks.new.self in
    let last : RunState = run_state_beside g.W.World.state g.W.World.refusals g.W.World.note written c.make_missing_image.new.world in
    let behind = c.make_missing_image.ensures.faith.1 mid in
    rw (c.unmade.ensures, c.pass_locks.ensures.same behind, c.pass_locks.ensures.counted behind, c.pass_locks.ensures.note behind)
    (rw (← c.keep_locks.ensures.same old, ← c.keep_locks.ensures.counted old, ← c.keep_locks.ensures.note old)
    (renews_unmade g.R.Read.remaining c.args.names.now c.args.guard c.args.task u first last (c.in-Err.ensures.err mid)
    (c.make_missing_image.ensures.note mid) (c.in-Err.ensures.why mid c.args.guard.mounted)))

pub returns-in-Err-clause-survives : goal.returns-in-Err-clause-survives
returns-in-Err-clause-survives g c old =
    let mid = c.keep_locks.ensures.faith.1 old in
    let u : OpenError = record { which = Image; why = System c.in-Err.refusal } in
    let behind = c.make_missing_image.ensures.faith.1 mid in
    rw (c.unmade.ensures, c.pass_locks.ensures.same behind, ← c.keep_locks.ensures.same old)
    (survives_unmade g.R.Read.remaining c.args.names.now c.args.guard c.args.task u (g.W.World.state c.keep_locks.new.self)
    (g.W.World.state c.make_missing_image.new.world) (g.W.World.survives c.args.world.now) (g.W.World.survives c.pass_locks.new.self)
    (λ n low x left. c.keep_locks.ensures.survives old n x (c.make_missing_image.ensures.survives mid n low x (c.pass_locks.ensures.survives behind n x left))))

pub returns-in-Err-clause-unopened : goal.returns-in-Err-clause-unopened
returns-in-Err-clause-unopened g c old =
    let mid = c.keep_locks.ensures.faith.1 old in
    let u : OpenError = record { which = Image; why = System c.in-Err.refusal } in
    let behind = c.make_missing_image.ensures.faith.1 mid in
    rw (c.unmade.ensures, c.pass_locks.ensures.same behind, ← c.keep_locks.ensures.same old) (nothing_unmade u (System c.in-Err.refusal)
    (g.W.World.state c.keep_locks.new.self) (g.W.World.state c.make_missing_image.new.world) refl (c.in-Err.ensures.err mid))

pub returns-in-Err-clause-why_unopened : goal.returns-in-Err-clause-why_unopened
returns-in-Err-clause-why_unopened g c old =
    let mid = c.keep_locks.ensures.faith.1 old in
    let behind = c.make_missing_image.ensures.faith.1 mid in
    rw (c.unmade.ensures, c.pass_locks.ensures.counted behind, ← c.keep_locks.ensures.same old, ← c.keep_locks.ensures.counted old)
    (c.in-Err.ensures.why mid c.args.guard.mounted)

pub returns-in-Err-clause-others : goal.returns-in-Err-clause-others
returns-in-Err-clause-others g c old =
    let mid = c.keep_locks.ensures.faith.1 old in
    let behind = c.make_missing_image.ensures.faith.1 mid in
    rw (c.pass_locks.ensures.same behind, ← c.keep_locks.ensures.same old) (keeps_unmade_files c.args.names.now (g.W.World.state c.keep_locks.new.self)
    (g.W.World.state c.make_missing_image.new.world) (λ name n e. g.met.W.World.within c.keep_locks.new.self name n mid e) (c.in-Err.ensures.err mid))

pub returns-in-Err-clause-streams : goal.returns-in-Err-clause-streams
returns-in-Err-clause-streams g c old =
    let mid = c.keep_locks.ensures.faith.1 old in
    let u : OpenError = record { which = Image; why = System c.in-Err.refusal } in
    let behind = c.make_missing_image.ensures.faith.1 mid in
    rw (c.unmade.ensures, c.pass_locks.ensures.same behind, ← c.keep_locks.ensures.same old) (tells_unmade u (g.W.World.state c.keep_locks.new.self)
    (g.W.World.state c.make_missing_image.new.world) (c.in-Err.ensures.err mid))

pub returns-clause-does : goal.returns-clause-does
returns-clause-does g c old written =
    let mid = c.keep_locks.ensures.faith.1 old in
    let begun = c.make_missing_image.ensures.faith.1 mid in
    let ended = c.take_steps-renewed.ensures.faith.1 begun in
    let steps = c.take_steps-renewed.ensures in
    let names = c.args.names.now in
    let renewed = c.take_steps-renewed.result in
    let made = number_if g.W.World.number c.in-Ok.made in
    let makes = c.in-Ok.ensures.made mid in
    let clears = c.finish.ensures.clears ended in
    let within : AreAllThere (g.W.World.state c.keep_locks.new.self) = λ name n e. g.met.W.World.within c.keep_locks.new.self name n mid e in
    let first : RunState = run_state_beside g.W.World.state g.W.World.refusals g.W.World.note written c.make_missing_image.new.world in
    let last : RunState = run_state_beside g.W.World.state g.W.World.refusals g.W.World.note written c.take_steps-renewed.new.world in
    let behind = c.finish.ensures.faith.1 ended in
    rw (c.pass_locks-2.ensures.same behind, c.pass_locks-2.ensures.counted behind, c.pass_locks-2.ensures.note behind)
    (rw (← c.keep_locks.ensures.same old, ← c.keep_locks.ensures.counted old, ← c.keep_locks.ensures.note old) (record {
      made = made;
      begun = first;
      ended = last;
      makes = makes;
      same = same_contents made renewed names _ _ _ _ within makes clears;
      noted = c.make_missing_image.ensures.note mid;
      does = steps.does begun written;
      clears = clears;
      left = left_contents made renewed names _ _ _ _ within makes clears;
      note_left = c.finish.ensures.note ended;
      image = λ refused. cleared_image made renewed names _ _ _ _ within makes clears (steps.others begun) refused (c.in-Ok.ensures.there mid);
      kept = kept_leaves g.R.Read.remaining names c.args.guard c.args.task renewed first last _ _ (steps.does begun written)
          (λ refused files. c.finish.ensures.left ended refused _ _ within makes files);
    }))

pub returns-clause-survives : goal.returns-clause-survives
returns-clause-survives g c old =
    let mid = c.keep_locks.ensures.faith.1 old in
    let begun = c.make_missing_image.ensures.faith.1 mid in
    let ended = c.take_steps-renewed.ensures.faith.1 begun in
    let behind = c.finish.ensures.faith.1 ended in
    rw (c.pass_locks-2.ensures.same behind, ← c.keep_locks.ensures.same old) (record {
      made = number_if g.W.World.number c.in-Ok.made;
      begun = g.W.World.state c.make_missing_image.new.world;
      ended = g.W.World.state c.take_steps-renewed.new.world;
      makes = c.in-Ok.ensures.made mid;
      clears = c.finish.ensures.clears ended;
      survives = renewal_less g.R.Read.remaining c.args.names.now c.args.task c.take_steps-renewed.result (g.W.World.state c.keep_locks.new.self).there _ _
          (g.W.World.survives c.args.world.now) (g.W.World.survives c.make_missing_image.new.world) (g.W.World.survives c.take_steps-renewed.new.world)
          (g.W.World.survives c.pass_locks-2.new.self)
          (λ n low x there. c.keep_locks.ensures.survives old n x (c.make_missing_image.ensures.survives mid n low x there))
          (λ n x left. c.finish.ensures.survives ended n x (c.pass_locks-2.ensures.survives behind n x left)) (c.take_steps-renewed.ensures.survives begun);
    })

pub returns-clause-unopened : goal.returns-clause-unopened
returns-clause-unopened g c old =
    let mid = c.keep_locks.ensures.faith.1 old in
    let begun = c.make_missing_image.ensures.faith.1 mid in
    let ended = c.take_steps-renewed.ensures.faith.1 begun in
    let within : AreAllThere (g.W.World.state c.keep_locks.new.self) = λ name n e. g.met.W.World.within c.keep_locks.new.self name n mid e in
    let behind = c.finish.ensures.faith.1 ended in
    rw (c.pass_locks-2.ensures.same behind, ← c.keep_locks.ensures.same old) (nothing_cleared _ c.take_steps-renewed.result _ _ _ _
    (c.take_steps-renewed.ensures.unopened begun) (c.take_steps-renewed.ensures.refused begun)
    (λ refused files. c.finish.ensures.left ended refused _ _ within (c.in-Ok.ensures.made mid) files))

pub returns-clause-why_unopened : goal.returns-clause-why_unopened
returns-clause-why_unopened g c old =
    let mid = c.keep_locks.ensures.faith.1 old in
    let begun = c.make_missing_image.ensures.faith.1 mid in
    let ended = c.take_steps-renewed.ensures.faith.1 begun in
    let behind = c.finish.ensures.faith.1 ended in
    rw (c.pass_locks-2.ensures.counted behind, ← c.keep_locks.ensures.same old, ← c.keep_locks.ensures.counted old)
    (may_before (first_unopened c.take_steps-renewed.result) c.args.names.now c.args.guard.mounted (g.W.World.refusals c.keep_locks.new.self)
    (g.W.World.refusals c.make_missing_image.new.world) (g.W.World.refusals c.take_steps-renewed.new.world) (g.W.World.refusals c.finish.new.world)
    (g.W.World.state c.keep_locks.new.self) (g.W.World.state c.make_missing_image.new.world) (c.in-Ok.ensures.reasons mid)
    (c.make_missing_image.ensures.counted mid) (c.finish.ensures.counted ended) (c.take_steps-renewed.ensures.why_unopened begun))

pub returns-clause-fit : goal.returns-clause-fit
returns-clause-fit g c old none =
    let mid = c.keep_locks.ensures.faith.1 old in
    let begun = c.make_missing_image.ensures.faith.1 mid in
    let ended = c.take_steps-renewed.ensures.faith.1 begun in
    rw (← c.keep_locks.ensures.same old) (fit_before _ c.take_steps-renewed.result c.args.names.now _ _ _ _
    (λ name n e. g.met.W.World.within c.keep_locks.new.self name n mid e) (c.in-Ok.ensures.made mid) (c.finish.ensures.clears ended) c.args.guard.mounted
    (c.take_steps-renewed.ensures.fit begun none))

pub returns-clause-others : goal.returns-clause-others
returns-clause-others g c old =
    let mid = c.keep_locks.ensures.faith.1 old in
    let begun = c.make_missing_image.ensures.faith.1 mid in
    let ended = c.take_steps-renewed.ensures.faith.1 begun in
    let behind = c.finish.ensures.faith.1 ended in
    rw (c.pass_locks-2.ensures.same behind, ← c.keep_locks.ensures.same old) (cleared_kept _ c.take_steps-renewed.result c.args.names.now _ _ _ _
    (λ name n e. g.met.W.World.within c.keep_locks.new.self name n mid e) (c.in-Ok.ensures.made mid) (c.finish.ensures.clears ended)
    (c.take_steps-renewed.ensures.others begun))

pub returns-clause-streams : goal.returns-clause-streams
returns-clause-streams g c old =
    let mid = c.keep_locks.ensures.faith.1 old in
    let begun = c.make_missing_image.ensures.faith.1 mid in
    let ended = c.take_steps-renewed.ensures.faith.1 begun in
    let behind = c.finish.ensures.faith.1 ended in
    rw (c.pass_locks-2.ensures.same behind, ← c.keep_locks.ensures.same old) (tells_between _ c.take_steps-renewed.result c.args.names.now _ _ _ _
    (λ name n e. g.met.W.World.within c.keep_locks.new.self name n mid e) (c.in-Ok.ensures.made mid) (c.finish.ensures.clears ended)
    (c.take_steps-renewed.ensures.streams begun))

pub returns-clause-free : goal.returns-clause-free
returns-clause-free g c old =
    let mid = c.keep_locks.ensures.faith.1 old in
    let begun = c.make_missing_image.ensures.faith.1 mid in
    let ended = c.take_steps-renewed.ensures.faith.1 begun in
    let behind = c.finish.ensures.faith.1 ended in
    rw (c.pass_locks-2.ensures.same behind) ((cleared_streams c.take_steps-renewed.result _ _ _ (c.finish.ensures.clears ended)).lent
    ∙ c.take_steps-renewed.ensures.free begun)

pub returns-clause-failed : goal.returns-clause-failed
returns-clause-failed g c old is =
    let mid = c.keep_locks.ensures.faith.1 old in
    let kept = c.keep_locks.ensures.counted old in
    let begun = c.make_missing_image.ensures.faith.1 mid in
    let ended = c.take_steps-renewed.ensures.faith.1 begun in
    let first = c.make_missing_image.ensures.counted mid in
    let failed = c.take_steps-renewed.ensures.failed begun is in
    let last = c.finish.ensures.counted ended in
    let behind = c.finish.ensures.faith.1 ended in
    let passed = c.pass_locks-2.ensures.counted behind in
    omega (arith, kept, first, failed, last, passed)
