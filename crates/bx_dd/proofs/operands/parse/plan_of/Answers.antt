use Rattle.std.proofs.Common.{sym, ◌∙◌}
use Rattle.bx_dd.proofs.PlanLemmas.{bounds}
use Rattle.bx_dd.proofs.operands.parse.plan_of.Goals as goal

pub invariant_of-result : goal.invariant_of-result
invariant_of-result g c =
    let all = bounds c.args.words.now c.requires in
    record {
      some_ibs = rw c.block_size.ensures all.some_ibs;
      few_ibs = rw c.block_size.ensures all.few_ibs;
      some_obs = rw c.block_size-2.ensures all.some_obs;
      few_obs = rw c.block_size-2.ensures all.few_obs;
      some_cbs = λ other. rw c.number_or.ensures (all.some_cbs (λ e. other (c.shape_of.ensures ∙ e)));
      few_cbs = rw c.number_or.ensures all.few_cbs;
      few_skip = rw c.number_or-2.ensures all.few_skip;
      few_seek = rw c.number_or-3.ensures all.few_seek;
      few_count = λ n is. all.few_count n (sym c.number_given.ensures ∙ is);
      skip_fits = rw (c.number_or-2.ensures, c.block_size.ensures) all.skip_fits;
      seek_fits = rw (c.number_or-3.ensures, c.block_size-2.ensures) all.seek_fits;
    }
