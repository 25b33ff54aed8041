use Rattle.std.proofs.Common.{refl}
use Rattle.bx_dd.specs.Plan.{plan_form}
use Rattle.bx_dd.proofs.RecordsLemmas.{Stands_none}
use Rattle.bx_dd.proofs.ConvertLemmas.{joined_none}
use Rattle.bx_dd.proofs.convert.Convert.new.Goals as goal

pub returns-clause-after : goal.returns-clause-after
returns-clause-after g c = (
  refl,
  rw (c.form-form.ensures, joined_none (plan_form c.args.plan.now) c.args.plan.now.some_ibs, c.new-out.ensures.items, c.in_ok-held.ensures.items) (Stands_none c.args.plan.now.shape c.args.plan.now.cbs c.args.plan.now.some_cbs),
)
