use Rattle.bx_run_session.specs.session.Named.{contents_of}
use Rattle.bx_run_session.proofs.Answered.{found_survives, moved_err, moved_found, moved_ok, moved_read, moved_survives, nothing_moved, opened_moved, reason, spares_by, whole_of}
use Rattle.bx_run_session.proofs.Failing.{failed_reply}
use Rattle.bx_run_session.proofs.session.moves.moved_by.Goals as goal

pub returns-clause-done : goal.returns-clause-done
returns-clause-done g c old s holds =
    let behind = g.W.World.state c.run_on_files-answer.new.world in
    rw c.standing.ensures
    (moved_ok _ c.args.way s c.args.count c.run_on_files-answer.result.reply (contents_of c.args.names.now behind)
    (rw c.task_by-task.ensures.is at (c.run_on_files-answer.ensures.done old s holds)))

pub returns-clause-refused : goal.returns-clause-refused
returns-clause-refused g c old s holds =
    let before = g.W.World.state c.args.world.now in
    let behind = g.W.World.state c.run_on_files-answer.new.world in
    let answer = c.run_on_files-answer.result in
    let said = c.run_on_files-answer.ensures in
    rw c.standing.ensures
    (moved_err _ c.args.way s c.args.count c.args.names.now answer.unopened before behind answer.reply
    (rw c.task_by-task.ensures.is at (said.done old s holds))
    (λ whole. (said.refused old whole).files ((said.how old).none s holds))
    (reason _ answer.unopened answer.reply answer.how before behind (said.unopened old)
    (rw c.task_by-task.ensures.is at (said.why old s holds))))

pub returns-clause-how : goal.returns-clause-how
returns-clause-how g c old = rw c.standing.ensures (c.run_on_files-answer.ensures.how old)

pub returns-clause-spares : goal.returns-clause-spares
returns-clause-spares g c old =
    let before = g.W.World.state c.args.world.now in
    let behind = g.W.World.state c.run_on_files-answer.new.world in
    let answer = c.run_on_files-answer.result in
    rw c.standing.ensures (spares_by c.args.names.now answer.unopened answer.how before behind answer.reply (c.run_on_files-answer.ensures.refused old))

pub returns-clause-survives : goal.returns-clause-survives
returns-clause-survives g c old =
    let before = g.W.World.state c.args.world.now in
    let behind = g.W.World.state c.run_on_files-answer.new.world in
    let answer = c.run_on_files-answer.result in
    let said = c.run_on_files-answer.ensures in
    record {
      holds = λ s holds has t leads.
          let refuses = moved_err _ c.args.way s c.args.count c.args.names.now answer.unopened before behind answer.reply
          (rw c.task_by-task.ensures.is at (said.done old s holds))
          (λ whole. (said.refused old whole).files ((said.how old).none s holds))
          (reason _ answer.unopened answer.reply answer.how before behind (said.unopened old)
          (rw c.task_by-task.ensures.is at (said.why old s holds))) in
          moved_survives _ c.args.way s c.args.count c.args.names.now answer.unopened before behind _ _ _ answer.reply
          (rw c.standing.ensures at has) refuses (λ begun. rw c.task_by-task.ensures.is at ((said.survives old).holds s holds begun t leads));
      finds = λ s found has t leads.
          found_survives _ c.args.way s c.args.count answer.how (contents_of c.args.names.now behind) _ _ _ answer.reply
          (rw c.standing.ensures at has)
          (rw c.task_by-task.ensures.is at (said.recovered old s found (opened_moved answer.unopened answer.reply answer.how before behind (said.unopened old)
          (rw c.standing.ensures at has))))
          (λ begun. rw c.task_by-task.ensures.is at ((said.survives old).finds s found begun t leads));
      refused = λ unmoved. (said.survives old).refused (whole_of answer.reply (rw c.standing.ensures at unmoved));
      settled = λ unmoved. (said.survives old).settled (whole_of answer.reply (rw c.standing.ensures at unmoved));
    }

pub returns-clause-unopened : goal.returns-clause-unopened
returns-clause-unopened g c old =
    let answer = c.run_on_files-answer.result in
    rw c.standing.ensures (nothing_moved answer.unopened answer.reply answer.how _ _ (c.run_on_files-answer.ensures.unopened old))

pub returns-clause-recovered : goal.returns-clause-recovered
returns-clause-recovered g c old s found is_opened =
    let behind = g.W.World.state c.run_on_files-answer.new.world in
    let answer = c.run_on_files-answer.result in
    rw c.standing.ensures
    (moved_found _ c.args.way s c.args.count answer.how answer.reply (contents_of c.args.names.now behind)
    (rw c.task_by-task.ensures.is at (c.run_on_files-answer.ensures.recovered old s found is_opened)))

pub returns-clause-stands : goal.returns-clause-stands
returns-clause-stands g c old =
    let answer = c.run_on_files-answer.result in
    rw c.standing.ensures
    (moved_read _ c.args.way c.args.count answer.how answer.reply _ _
    (λ unfailed. rw c.task_by-task.ensures.is at (c.run_on_files-answer.ensures.stands old unfailed)))

pub returns-clause-why_unopened : goal.returns-clause-why_unopened
returns-clause-why_unopened g c old = rw c.task_by-task.ensures.is at (c.run_on_files-answer.ensures.why_unopened old)

pub returns-clause-judged : goal.returns-clause-judged
returns-clause-judged g c old = rw c.task_by-task.ensures.is at (c.run_on_files-answer.ensures.judged old)

pub returns-clause-counted : goal.returns-clause-counted
returns-clause-counted g c old =
    let counts = c.run_on_files-answer.ensures.counted old in (
      rw c.standing.ensures (record { least = counts.0.least; rise = λ is. counts.0.rise (failed_reply c.run_on_files-answer.result.reply is) }),
      record {
        unbegun = counts.1.unbegun;
        cleared = λ unmoved. counts.1.cleared (whole_of c.run_on_files-answer.result.reply (rw c.standing.ensures at unmoved));
      },
    )
