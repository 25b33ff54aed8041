use Rattle.std.proofs.Common.{◌∙◌}
use Rattle.std.specs.Prelude.{◌<◌, false}
use Rattle.bx_run_session.specs.session.Moves.{stepped, task_of}
use Rattle.bx_run_session.specs.session.Named.{MayRefuseTask}
use Rattle.bx_run_session.proofs.Answered.{why_kept}
use Rattle.bx_run_session.proofs.Lines.{done_behind, failed_behind, found_behind, keeps_then, leads_back, moved_before, moved_behind, moved_less, others_kept, read_behind, settled_kept, spares_behind, stopped_behind, tells_alone, tells_behind, unopened_kept}
use Rattle.bx_run_session.proofs.Failing.{failed_told}
use Rattle.bx_run_session.proofs.NoteLemmas.{clears_kept}
use Rattle.bx_run_session.proofs.session.moves.move_changes.Goals as goal

pub returns-clause-done : goal.returns-clause-done
returns-clause-done g c old s holds =
    let moved = c.moved_by-moved.ensures in
    let behind = moved.faith.1 old in
    let told = c.tell_recovered.ensures.faith.1 behind in
    let line = c.tell_number-outcome.ensures in
    done_behind _ _ _ _ _ _ _ _ _ (moved.done old s holds) (c.tell_recovered.ensures.files behind) (line.files told) (moved.silent old).output
    (c.tell_recovered.ensures.output behind) (line.done told) (line.refused told)

pub returns-clause-stopped : goal.returns-clause-stopped
returns-clause-stopped g c old s holds =
    let moved = c.moved_by-moved.ensures in
    let behind = moved.faith.1 old in
    let told = c.tell_recovered.ensures.faith.1 behind in
    let line = c.tell_number-outcome.ensures in
    stopped_behind _ _ _ _ _ _ _ _ _ _ _ ((moved.how old).none s holds) (moved.done old s holds) (moved.refused old s holds)
    (c.tell_recovered.ensures.files behind) (line.files told) (moved.silent old).output (c.tell_recovered.ensures.output behind)
    (c.tell_recovered.ensures.errors behind) (line.lost told) (line.refused told)

pub returns-clause-how : goal.returns-clause-how
returns-clause-how g c old =
    let moved = c.moved_by-moved.ensures in
    let told = c.tell_recovered.ensures.faith.1 (moved.faith.1 old) in
    tells_behind _ _ _ _ _ _ (c.tell_number-outcome.ensures.refused told) (moved.how old)

pub returns-clause-spares : goal.returns-clause-spares
returns-clause-spares g c old =
    let moved = c.moved_by-moved.ensures in
    let behind = moved.faith.1 old in
    let told = c.tell_recovered.ensures.faith.1 behind in
    let line = c.tell_number-outcome.ensures in
    spares_behind _ _ _ _ _ _ _ _ _ (moved.spares old) (c.tell_recovered.ensures.files behind) (c.tell_recovered.ensures.output behind)
    (c.tell_recovered.ensures.errors behind) (line.lost told) (line.refused told)

pub returns-clause-survives : goal.returns-clause-survives
returns-clause-survives g c old =
    let moved = c.moved_by-moved.ensures in
    let behind = moved.faith.1 old in
    let told = c.tell_recovered.ensures.faith.1 behind in
    let line = c.tell_number-outcome.ensures in
    let first = c.tell_recovered.ensures.survives behind in
    let second = line.survives told in
    let keeps = keeps_then _ _ _ (c.tell_recovered.ensures.files behind) (line.files told) in
    record {
      holds = λ s holds has t leads x text redo there text_there redo_there.
          (moved.survives old).holds s holds (moved_before _ _ _ _ (line.refused told) has) t (leads_back _ _ _ _ keeps leads) x text redo
          (first t.image x (second t.image x there)) (first t.journal text (second t.journal text text_there))
          (first t.redo redo (second t.redo redo redo_there));
      finds = λ s found has t leads.
          moved_less c.args.count c.args.way s c.moved_by-moved.result.how _ _ _ _ _ _ (λ x there. first t.image x (second t.image x there))
          (λ x there. first t.journal x (second t.journal x there)) (λ x there. first t.redo x (second t.redo x there))
          ((moved.survives old).finds s found (moved_before _ _ _ _ (line.refused told) has) t (leads_back _ _ _ _ keeps leads));
      refused = λ unmoved is n below x there. (moved.survives old).refused
          (λ has. unmoved (moved_behind _ _ _ _ _ (line.lost told) (line.refused told) has)) is n below x (first n x (second n x there));
      settled = λ unmoved other t leads.
          settled_kept c.args.names.now _ _ _ _ _ _ _ _ keeps (λ x there. first t.image x (second t.image x there))
          (λ x there. first t.journal x (second t.journal x there)) (λ x there. first t.redo x (second t.redo x there))
          ((moved.survives old).settled (λ has. unmoved (moved_behind _ _ _ _ _ (line.lost told) (line.refused told) has)) other t
          (leads_back _ _ _ _ keeps leads));
    }

pub returns-clause-unopened : goal.returns-clause-unopened
returns-clause-unopened g c old =
    let moved = c.moved_by-moved.ensures in
    let behind = moved.faith.1 old in
    let told = c.tell_recovered.ensures.faith.1 behind in
    unopened_kept _ _ _ _ _ _ _ _ (moved.unopened old) (c.tell_recovered.ensures.files behind) (c.tell_recovered.ensures.output behind)
    (c.tell_recovered.ensures.errors behind) (c.tell_number-outcome.ensures.refused told)

pub returns-clause-why_unopened : goal.returns-clause-why_unopened
returns-clause-why_unopened g c old =
    let moved = c.moved_by-moved.ensures in
    let behind = moved.faith.1 old in
    let told = c.tell_recovered.ensures.faith.1 behind in
    why_kept _ _ _ _ (λ count u. MayRefuseTask c.args.guard false (g.W.World.note c.args.world.now) (task_of c.args.way c.args.count) c.args.names.now
    (g.W.World.refusals c.args.world.now < count) (g.W.World.state c.args.world.now) u)
    (c.tell_recovered.ensures.noted behind) (c.tell_number-outcome.ensures.noted told) (moved.why_unopened old)

pub returns-clause-recovered : goal.returns-clause-recovered
returns-clause-recovered g c old s found is_opened =
    let moved = c.moved_by-moved.ensures in
    let behind = moved.faith.1 old in
    let told = c.tell_recovered.ensures.faith.1 behind in
    let line = c.tell_number-outcome.ensures in
    found_behind _ _ _ _ _ _ _ _ _ _ _ (moved.recovered old s found is_opened) (c.tell_recovered.ensures.files behind) (line.files told)
    (moved.silent old).output (c.tell_recovered.ensures.output behind) (line.done told) (line.lost told) (line.refused told)

pub returns-clause-others : goal.returns-clause-others
returns-clause-others g c old =
    let moved = c.moved_by-moved.ensures in
    let behind = moved.faith.1 old in
    let told = c.tell_recovered.ensures.faith.1 behind in
    others_kept _ _ _ _ (moved.others old) (keeps_then _ _ _ (c.tell_recovered.ensures.files behind) (c.tell_number-outcome.ensures.files told))

pub returns-clause-free : goal.returns-clause-free
returns-clause-free g c old =
    let moved = c.moved_by-moved.ensures in
    let behind = moved.faith.1 old in
    let told = c.tell_recovered.ensures.faith.1 behind in
    (c.tell_number-outcome.ensures.files told).lent ∙ (c.tell_recovered.ensures.files behind).lent ∙ (moved.silent old).lent ∙ c.requires.free old

pub returns-clause-stands : goal.returns-clause-stands
returns-clause-stands g c old =
    let moved = c.moved_by-moved.ensures in
    let behind = moved.faith.1 old in
    let told = c.tell_recovered.ensures.faith.1 behind in
    let line = c.tell_number-outcome.ensures in
    read_behind _ _ _ _ _ _ _ _ _ _ (moved.stands old) (c.tell_recovered.ensures.files behind) (line.files told) (moved.silent old).output
    (c.tell_recovered.ensures.output behind) (line.done told) (line.refused told)

pub returns-clause-told : goal.returns-clause-told
returns-clause-told g c old =
    let moved = c.moved_by-moved.ensures in
    let behind = moved.faith.1 old in
    let told = c.tell_recovered.ensures.faith.1 behind in
    let line = c.tell_number-outcome.ensures in (
      tells_alone _ _ _ _ _ (moved.silent old).errors (c.tell_recovered.ensures.errors behind) (line.errors told),
      line.handed told _ (c.tell_recovered.ensures.handed behind),
      λ s holds.
          failed_behind c.args.names.now c.args.count (stepped c.args.way s) _ _ _ _ _ _ _ _ (moved.refused old s holds) (line.failed told) (line.refused told),
    )

pub returns-clause-counted : goal.returns-clause-counted
returns-clause-counted g c old =
    let moved = c.moved_by-moved.ensures in
    let behind = moved.faith.1 old in
    let told = c.tell_recovered.ensures.faith.1 behind in
    let line = c.tell_number-outcome.ensures in
    let count = line.noted told ∙ c.tell_recovered.ensures.noted behind in (
      failed_told c.moved_by-moved.result.outcome c.tell_number-outcome.result _ _ _ _ _ _ _ (line.lost told) (line.refused told) count (moved.counted old).0,
      clears_kept _ _ _ _ _ _ _ _ _ _ _ (λ unmoved has. unmoved (moved_behind _ _ _ _ _ (line.lost told) (line.refused told) has)) count
          (line.note told ∙ c.tell_recovered.ensures.note behind) (moved.counted old).1,
    )
