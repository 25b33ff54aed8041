use Rattle.std.proofs.Common.{◌≡◌, ◌∙◌, ◌<◌, inr, arith}
use Rattle.bx_run_session.proofs.NoteLemmas.{front_is, goes_read, line_said, lone_read}
use Rattle.bx_run_session.proofs.session.terms.told_by.Goals as goal

pub returns-in-Ok-clause-known : goal.returns-in-Ok-clause-known
returns-in-Ok-clause-known g c faithful read = c.line_in.ensures (g.W.World.note c.args.world.now) (front_is _ _ _ (c.in-Ok.ensures.read faithful))

pub returns-in-Ok-clause-said : goal.returns-in-Ok-clause-said
returns-in-Ok-clause-said g c faithful =
    line_said (g.W.World.note c.args.world.now) c.line_in.result
    (c.line_in.ensures (g.W.World.note c.args.world.now) (front_is _ _ _ (c.in-Ok.ensures.read faithful)))

pub returns-in-Ok-clause-goes : goal.returns-in-Ok-clause-goes
returns-in-Ok-clause-goes g c faithful some =
    goes_read _ _ _ _ c.args.alone c.is_lone.result _ (c.in-Ok.ensures.read faithful) c.is_lone.ensures some

pub returns-in-Ok-clause-stays : goal.returns-in-Ok-clause-stays
returns-in-Ok-clause-stays g c faithful that =
    lone_read _ _ _ _ c.args.alone c.is_lone.result (c.in-Ok.ensures.read faithful) (omega arith) c.is_lone.ensures that
