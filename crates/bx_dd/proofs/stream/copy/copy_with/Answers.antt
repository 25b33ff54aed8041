use Rattle.std.proofs.Common.{◌≡◌, ◌*◌, [], length, refl, sym, ap, ◌∙◌, subst, arith}
use Rattle.std.proofs.lemmas.Result.{IfErr-weaker, IfOk-weaker}
use Rattle.bx_dd.specs.Counting.{counts_of}
use Rattle.bx_dd.specs.Plan.{plan_form}
use Rattle.bx_dd.specs.private.Standing.{HasSizes}
use Rattle.bx_dd.proofs.CopyLemmas.{converted_none, copied_none, copied_rest, cut_none, stopped_rest, stopped_skip}
use Rattle.bx_dd.proofs.stream.copy.copy_with.Goals as goal

pub returns-in-Err-clause-err : goal.returns-in-Err-clause-err
returns-in-Err-clause-err g c =
    let stop = rw (c.new-meter.ensures.limit, c.new-meter.ensures.taken) at (c.in-Err.ensures.stopped c.new-meter.ensures.state) in
    stopped_skip c.args.plan.now _ _ _ c.in-Err.fault stop

pub returns-then-all-clause-ok : goal.returns-then-all-clause-ok
returns-then-all-clause-ok g c =
    let skips = rw (c.new-meter.ensures.limit, c.new-meter.ensures.taken) at c.in-Ok.ensures.ok in
    let taken : c.skip.new.self.taken ≡ c.args.plan.now.skip * c.args.plan.now.ibs = omega (arith, (c.in-Ok.ensures.open c.if-all.true).1, c.new-meter.ensures.taken) in
    IfOk-weaker c.copy_rest.result _ _
    (copied_rest c.args.plan.now c.form-form.result c.most_of-most.result c.skip.new.self.taken _ _ _ _ _ skips.input c.form-form.ensures c.most_of-most.ensures taken (skips.whole c.if-all.true) skips.consumed)
    c.copy_rest.ensures.ok

pub returns-then-all-clause-err : goal.returns-then-all-clause-err
returns-then-all-clause-err g c =
    let skips = rw (c.new-meter.ensures.limit, c.new-meter.ensures.taken) at c.in-Ok.ensures.ok in
    let taken : c.skip.new.self.taken ≡ c.args.plan.now.skip * c.args.plan.now.ibs = omega (arith, (c.in-Ok.ensures.open c.if-all.true).1, c.new-meter.ensures.taken) in
    IfErr-weaker c.copy_rest.result _ _
    (stopped_rest c.args.plan.now c.form-form.result c.most_of-most.result c.skip.new.self.taken _ _ _ _ _ skips.input c.form-form.ensures c.most_of-most.ensures taken (skips.whole c.if-all.true) skips.consumed)
    c.copy_rest.ensures.err

pub returns-clause-ok : goal.returns-clause-ok
returns-clause-ok g c =
    let plan = c.args.plan.now in
    let skips = rw (c.new-meter.ensures.limit, c.new-meter.ensures.taken) at c.in-Ok.ensures.ok in
    let short = skips.short c.if-all.false in
    let sizes : HasSizes (plan_form plan) = record { some_ibs = plan.some_ibs; few_ibs = plan.few_ibs; some_obs = plan.some_obs; some_cbs = plan.some_cbs; few_cbs = plan.few_cbs } in
    let form = c.form-form.result in
    let is : form ≡ plan_form plan = c.form-form.ensures in
    let here : HasSizes form = subst HasSizes (sym is) sizes in
    let counted : c.counts.result ≡ counts_of (plan_form plan) [] =
    c.counts.ensures.counts [] refl (sym (ap length (converted_none form here))) (sym (cut_none form here.some_ibs)) ∙ ap (λ f. counts_of f []) is in
    copied_none plan skips.input (omega (arith, short.0)) _ _ _ c.counts.result sizes skips.consumed short.1 skips.few counted
