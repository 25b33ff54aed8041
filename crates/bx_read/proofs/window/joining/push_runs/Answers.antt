use Rattle.std.proofs.Common.{◌++◌, ◌∷◌, [], refl, ap, sym, ◌∙◌, append_assoc}
use Rattle.bx_read.proofs.WindowLemmas.{none_put, one_put}
use Rattle.bx_read.proofs.window.joining.push_runs.Goals as goal

pub loop-run-init : goal.loop-run-init
loop-run-init g c = record { all = c.into_iter-run-iterator.ensures.into_iter_gives.0; joins = none_put c.args.runs.now.items }

pub loop-run-preserved : goal.loop-run-preserved
loop-run-preserved g c = record {
  all = append_assoc c.loop-run.yielded (c.in-Some.run' ∷ []) c.next.new.self.rest.items ∙ ap (λ t. c.loop-run.yielded ++ t) (sym c.in-Some.ensures.steps.0) ∙ c.loop-run.invariant.all;
  joins = one_put c.args.runs.now.items c.loop-run.runs.items c.push_run.new.runs.items c.loop-run.yielded (c.loop-run.yielded ++ c.in-Some.run' ∷ []) c.in-Some.run' c.loop-run.invariant.joins c.in_ok-push_run.ensures.joins refl;
}
