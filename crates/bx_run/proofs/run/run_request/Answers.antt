use Rattle.bx_run.proofs.run.run_request.Goals as goal

pub returns-clause-runs : goal.returns-clause-runs
returns-clause-runs g c =
    let ran = c.run_command-outcome.ensures in (
      c.run_command-outcome.result,
      c.outgrown.result,
      record { answers = ran.answers; answer_is = c.answer_of.ensures },
      (λ old. (
        c.outgrown.ensures (ran.faith.1 old),
        record {
          does = ran.does old;
          judged = ran.judged old;
          survives = ran.survives old;
          fit = ran.fit old;
          unopened = ran.unopened old;
          streams = ran.streams old;
          failed = ran.failed old;
          notes = ran.notes old;
        },
      )),
    )
