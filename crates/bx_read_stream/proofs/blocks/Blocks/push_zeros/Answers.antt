use Rattle.std.proofs.Common.{◌≡◌, ◌≤◌, ℕ, ◌+◌, ◌++◌, length, take, replicate, ap, arith}
use Rattle.std.proofs.lemmas.List.{take-replicate, length-replicate}
use Rattle.bx_read_stream.proofs.BlocksLemmas.{zeros_more, fails_zeros}
use Rattle.bx_read_stream.proofs.blocks.Blocks.push_zeros.Goals as goal

pub loop-done-preserved : goal.loop-done-preserved
loop-done-preserved g c =
    let part = c.min-part.result in
    let few : part ≤ 4096 = omega (arith, c.min-part.ensures) in
    let zeros : take part (replicate {A = ℕ} 4096 0) ≡ replicate part 0 = take-replicate part 4096 0 few in
    record {
      within = omega (arith, c.min-part.ensures, c.loop-done.invariant.within);
      put = λ w0 x h. rw (zeros_more x c.loop-done.done part) at (rw zeros at (c.in-Ok.ensures.ok w0 _ (c.loop-done.invariant.put w0 x h)));
      counted = omega (arith, c.in-Ok.ensures.count, c.loop-done.invariant.counted, ap length zeros, length-replicate {A = ℕ} part 0);
    }

pub returns-in-Err-clause-err : goal.returns-in-Err-clause-err
returns-in-Err-clause-err g c w0 x h =
    let part = c.min-part.result in
    let few : part ≤ 4096 = omega (arith, c.min-part.ensures) in
    let zeros : take part (replicate {A = ℕ} 4096 0) ≡ replicate part 0 = take-replicate part 4096 0 few in
    fails_zeros w0 _ x c.loop-done.done part c.args.count c.in-Err.fault (omega (arith, c.min-part.ensures, c.loop-done.invariant.within))
    (rw zeros at (c.in-Err.ensures.err w0 _ (c.loop-done.invariant.put w0 x h)))
