use Rattle.bx_run_session.proofs.session.task.do_task.Goals as goal

pub returns-in-Run : goal.returns-in-Run
returns-in-Run g c = record { obeys = rw c.in-Run.is c.run_whole.ensures.obeys }

pub returns-in-Put : goal.returns-in-Put
returns-in-Put g c = record { obeys = rw c.in-Put.is c.change_if_read.ensures.obeys }

pub returns-in-Keep : goal.returns-in-Keep
returns-in-Keep g c = record { obeys = rw c.in-Keep.is c.run_kept.ensures.obeys }
