use Rattle.bx_run_session.proofs.Proposing.{of_copy, uncopied}
use Rattle.bx_run_session.proofs.preview.made.make_of_copy.Goals as goal

pub returns-in-Ok-clause-made : goal.returns-in-Ok-clause-made
returns-in-Ok-clause-made g c x =
    of_copy g.R.Read.remaining x c.args.plan c.args.input (g.R.Read.remaining c.change_of_plan.new.input) c.in-Ok.made c.in-Ok.ensures.ok

pub returns-clause-stops : goal.returns-clause-stops
returns-clause-stops g c x =
    uncopied g.R.Read.remaining x c.args.plan c.args.input (g.R.Read.remaining c.change_of_plan.new.input) c.in-Err.fault
    (c.in-Err.ensures.err, c.in-Err.ensures.within)
