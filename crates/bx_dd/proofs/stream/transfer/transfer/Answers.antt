use Rattle.std.proofs.Common.{◌≡◌, ◌+◌, ◌-◌, ◌*◌, ◌≤◌, ◌^◌, ◌++◌, ℕ, length, Result, Ok, Err, OnErr, arith, ap, ◌∙◌, sym, subst}
use Rattle.std.proofs.lemmas.List.{length-append}
use Rattle.std.proofs.lemmas.Result.{err_from_is_err_and, IfErr-weaker}
use Rattle.bx_text.proofs.KnownLemmas.{Consumes-trans}
use Rattle.bx_text.specs.declared.stream.State.TheVariants.{Ended}
use Rattle.bx_dd.specs.Counting.{counts_of}
use Rattle.bx_dd.specs.Output.{converted}
use Rattle.bx_dd.specs.Plan.{plan_form}
use Rattle.bx_dd.specs.private.Transfer.{HasReadBlocks}
use Rattle.bx_dd.proofs.TransferLemmas.{stopped_more, stopped_memory, has_stopped, asked_skip, asked_all, consumed_both, selected_both, within_both, read_out_both, IfOk-both}
use Rattle.bx_dd.proofs.stream.transfer.transfer.Goals as goal

pub returns-in_err-convert-2-clause-err : goal.returns-in_err-convert-2-clause-err
returns-in_err-convert-2-clause-err g c =
    let p = err_from_is_err_and c.from_residual-in_err-convert-2.result c.from_residual-in_err-convert-2.ensures.1 in
    let first = c.in_ok-skip_blocks.ensures.read in
    let room : length first.0 ≤ 2 ^ 40 = omega (arith, first.2, c.in_ok-skip_blocks.ensures.limit, c.new-meter.ensures.limit, c.new-meter.ensures.taken, c.skip_blocks.new.meter.within) in
    let less = c.unwrap_or-count.result * length c.as_mut_slice-2.result.now in
    let left = c.skip_blocks.new.meter.limit - c.skip_blocks.new.meter.taken in
    let now : left ≡ 2 ^ 40 - length first.0 = omega (arith, first.2, c.in_ok-skip_blocks.ensures.limit, c.new-meter.ensures.limit, c.new-meter.ensures.taken) in
    rw (p.1, p.2) (has_stopped (length first.0 + less) _ _ _ _ (stopped_more _ _ _ first.0 (2 ^ 40) left less (length first.0 + less) _ first.1.consumed now room (omega arith) c.in_err-convert-2.ensures.stopped))

pub returns-in_err-convert-2-clause-within : goal.returns-in_err-convert-2-clause-within
returns-in_err-convert-2-clause-within g c =
    let plan = c.args.plan.now in
    let p = err_from_is_err_and c.from_residual-in_err-convert-2.result c.from_residual-in_err-convert-2.ensures.1 in
    let first = c.in_ok-skip_blocks.ensures.read in
    let rest = c.in_err-convert-2.ensures.stopped in
    let size : length c.as_mut_slice.result.now ≡ plan.ibs = omega (arith, c.in_ok-block.ensures.len, ap length c.as_mut_slice.ensures.value) in
    let size-2 : length c.as_mut_slice-2.result.now ≡ plan.ibs = omega (arith, c.in_ok-block.ensures.len, ap length c.as_mut_slice-2.ensures.value) in
    let skips : length first.0 ≤ plan.skip * plan.ibs = subst (λ (k : ℕ). length first.0 ≤ plan.skip * k) size first.1.within in
    let takes : length rest.0 ≤ c.unwrap_or-count.result * plan.ibs = subst (λ (k : ℕ). length rest.0 ≤ c.unwrap_or-count.result * k) size-2 rest.3 in
    rw p.1 (
      first.0 ++ rest.0,
      Consumes-trans _ _ _ _ _ first.1.consumed rest.1,
      asked_all plan.ibs plan.skip c.unwrap_or-count.result _ plan.count c.unwrap_or-count.ensures (omega (arith, length-append first.0 rest.0)),
    )

pub returns-in_err-skip_blocks-clause-err : goal.returns-in_err-skip_blocks-clause-err
returns-in_err-skip_blocks-clause-err g c =
    let p = err_from_is_err_and c.from_residual-in_err-skip_blocks.result c.from_residual-in_err-skip_blocks.ensures.1 in
    rw (p.1, p.2) (has_stopped _ _ _ _ _ (rw (c.new-meter.ensures.limit, c.new-meter.ensures.taken) at c.in_err-skip_blocks.ensures.stopped))

pub returns-in_err-skip_blocks-clause-within : goal.returns-in_err-skip_blocks-clause-within
returns-in_err-skip_blocks-clause-within g c =
    let plan = c.args.plan.now in
    let p = err_from_is_err_and c.from_residual-in_err-skip_blocks.result c.from_residual-in_err-skip_blocks.ensures.1 in
    let stop = c.in_err-skip_blocks.ensures.stopped in
    let size : length c.as_mut_slice.result.now ≡ plan.ibs = omega (arith, c.in_ok-block.ensures.len, ap length c.as_mut_slice.ensures.value) in
    let skips : length stop.0 ≤ plan.skip * plan.ibs = subst (λ (k : ℕ). length stop.0 ≤ plan.skip * k) size stop.3 in
    rw p.1 (stop.0, stop.1, asked_skip plan.ibs plan.skip _ plan.count skips)

pub returns-in_err-convert-clause-err : goal.returns-in_err-convert-clause-err
returns-in_err-convert-clause-err g c =
    let p = err_from_is_err_and c.from_residual-in_err-convert.result c.from_residual-in_err-convert.ensures.1 in
    let first = c.in_ok-skip_blocks.ensures.read in
    let room : length first.0 ≤ 2 ^ 40 = omega (arith, first.2, c.in_ok-skip_blocks.ensures.limit, c.new-meter.ensures.limit, c.new-meter.ensures.taken, c.skip_blocks.new.meter.within) in
    rw (p.1, p.2) (stopped_memory _ _ first.0 _ _ first.1.consumed room c.in_err-convert.ensures.fault)

pub returns-in_err-convert-clause-within : goal.returns-in_err-convert-clause-within
returns-in_err-convert-clause-within g c =
    let plan = c.args.plan.now in
    let p = err_from_is_err_and c.from_residual-in_err-convert.result c.from_residual-in_err-convert.ensures.1 in
    let first = c.in_ok-skip_blocks.ensures.read in
    let size : length c.as_mut_slice.result.now ≡ plan.ibs = omega (arith, c.in_ok-block.ensures.len, ap length c.as_mut_slice.ensures.value) in
    let skips : length first.0 ≤ plan.skip * plan.ibs = subst (λ (k : ℕ). length first.0 ≤ plan.skip * k) size first.1.within in
    rw p.1 (first.0, first.1.consumed, asked_skip plan.ibs plan.skip _ plan.count skips)

pub returns-clause-ok : goal.returns-clause-ok
returns-clause-ok g c =
    let plan = c.args.plan.now in
    let old = g.R.Read.remaining c.args.r.now in
    let mid = g.R.Read.remaining c.skip_blocks.new.r in
    let new = g.R.Read.remaining c.take_blocks.new.r in
    let turns = c.unwrap_or-count.result in
    let first = c.in_ok-skip_blocks.ensures.read in
    let second = c.in_ok-convert-2.ensures.read in
    let size : length c.as_mut_slice.result.now ≡ plan.ibs = omega (arith, c.in_ok-block.ensures.len, ap length c.as_mut_slice.ensures.value) in
    let size-2 : length c.as_mut_slice-2.result.now ≡ plan.ibs = omega (arith, c.in_ok-block.ensures.len, ap length c.as_mut_slice-2.ensures.value) in
    let skips = subst (λ (k : ℕ). HasReadBlocks old mid plan.skip k c.skip_blocks.new.meter.state first.0) size first.1 in
    let takes = subst (λ (k : ℕ). HasReadBlocks mid new turns k c.take_blocks.new.meter.state second.0) size-2 second.2 in
    let none : c.skip_blocks.new.meter.state ≡ Ended → (length second.0 ≡ 0) × (c.take_blocks.new.meter.state ≡ Ended) = λ e. (sym second.1.0 ∙ (c.in_ok-convert-2.ensures.none_left e).0, (c.in_ok-convert-2.ensures.none_left e).1) in
    let is = c.unwrap_or-count.ensures in
    let selects = selected_both old mid new plan.ibs plan.skip turns c.skip_blocks.new.meter.state c.take_blocks.new.meter.state first.0 second.0 skips takes none plan.count is in
    let form : c.in_ok-convert-2.convert.form ≡ plan_form plan = c.in_ok-convert-2.ensures.form ∙ c.in_ok-convert.ensures.form in
    let few : length (first.0 ++ second.0) ≤ 2 ^ 40 = omega (arith, length-append first.0 second.0, first.2, second.3, c.take_blocks.new.meter.within, c.in_ok-skip_blocks.ensures.limit, c.in_ok-convert-2.ensures.limit, c.new-meter.ensures.limit, c.new-meter.ensures.taken) in
    let some : length second.0 ≤ 2 ^ 40 = omega (arith, few, length-append first.0 second.0) in
    IfOk-both c.finish.result _ _ _
    (λ t bytes counts. record {
      read = (
        first.0 ++ second.0,
        consumed_both old mid new plan.ibs plan.skip turns c.skip_blocks.new.meter.state c.take_blocks.new.meter.state first.0 second.0 skips takes none,
        within_both old mid new plan.ibs plan.skip turns c.skip_blocks.new.meter.state c.take_blocks.new.meter.state first.0 second.0 skips takes none plan.count is,
      );
      ends = read_out_both old mid new plan.ibs plan.skip turns c.skip_blocks.new.meter.state c.take_blocks.new.meter.state first.0 second.0 skips takes none plan.count is plan.some_ibs some;
      few = few;
      made = bytes ∙ ap (λ f. converted f second.0) form ∙ ap (converted (plan_form plan)) (sym selects);
      counted = counts ∙ ap (λ f. counts_of f second.0) form ∙ ap (counts_of (plan_form plan)) (sym selects);
    })
    (c.finish.ensures.bytes second.0 second.1) (c.finish.ensures.counts second.0 second.1)

pub returns-clause-err : goal.returns-clause-err
returns-clause-err g c =
    let first = c.in_ok-skip_blocks.ensures.read in
    let second = c.in_ok-convert-2.ensures.read in
    let few : length (first.0 ++ second.0) ≤ 2 ^ 40 = omega (arith, length-append first.0 second.0, first.2, second.3, c.take_blocks.new.meter.within, c.in_ok-skip_blocks.ensures.limit, c.in_ok-convert-2.ensures.limit, c.new-meter.ensures.limit, c.new-meter.ensures.taken) in
    IfErr-weaker c.finish.result _ _ (λ e is. stopped_memory _ _ (first.0 ++ second.0) _ e (Consumes-trans _ _ _ _ _ first.1.consumed second.2.consumed) few is) c.finish.ensures.fault

-- what holds whatever is answered holds of a fault
on_err : {T E : Type 0} (r : Result T E) (P : Type 0) → P → OnErr r P
on_err (Ok t) P p = tt
on_err (Err e) P p = p

pub returns-clause-within : goal.returns-clause-within
returns-clause-within g c =
    let plan = c.args.plan.now in
    let first = c.in_ok-skip_blocks.ensures.read in
    let second = c.in_ok-convert-2.ensures.read in
    let size : length c.as_mut_slice.result.now ≡ plan.ibs = omega (arith, c.in_ok-block.ensures.len, ap length c.as_mut_slice.ensures.value) in
    let size-2 : length c.as_mut_slice-2.result.now ≡ plan.ibs = omega (arith, c.in_ok-block.ensures.len, ap length c.as_mut_slice-2.ensures.value) in
    let skips : length first.0 ≤ plan.skip * plan.ibs = subst (λ (k : ℕ). length first.0 ≤ plan.skip * k) size first.1.within in
    let takes : length second.0 ≤ c.unwrap_or-count.result * plan.ibs = subst (λ (k : ℕ). length second.0 ≤ c.unwrap_or-count.result * k) size-2 second.2.within in
    on_err c.finish.result _ (
      first.0 ++ second.0,
      Consumes-trans _ _ _ _ _ first.1.consumed second.2.consumed,
      asked_all plan.ibs plan.skip c.unwrap_or-count.result _ plan.count c.unwrap_or-count.ensures (omega (arith, length-append first.0 second.0)),
    )
