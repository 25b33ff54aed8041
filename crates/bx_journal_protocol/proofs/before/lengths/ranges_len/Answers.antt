use Rattle.std.proofs.Common.{ℕ, arith}
use Rattle.bx_journal_protocol.proofs.RangeLemmas.{next_range, range_some, range_ends, left_len_more}
use Rattle.bx_journal_protocol.proofs.before.lengths.ranges_len.Goals as goal

pub lines_len-requires-clause-order : goal.lines_len-requires-clause-order
lines_len-requires-clause-order c =
    let k : ℕ = c.loop-range.range-index in
    omega (arith, range_some _ c.args.ranges.now _ k _ c.requires (next_range c.args.ranges.now k (record { at = 0; end = 0 }) (omega (arith, c.loop-range-test.true))))

pub lines_len-requires-clause-bound : goal.lines_len-requires-clause-bound
lines_len-requires-clause-bound c =
    let k : ℕ = c.loop-range.range-index in
    omega (arith, range_ends _ c.args.ranges.now _ k _ c.requires (next_range c.args.ranges.now k (record { at = 0; end = 0 }) (omega (arith, c.loop-range-test.true))))

pub loop-range-preserved : goal.loop-range-preserved
loop-range-preserved c =
    let k : ℕ = c.loop-range.range-index in
    omega (arith, c.saturating_add-total.ensures, c.lines_len.ensures, c.loop-range.invariant, left_len_more c.args.ranges.now k (record { at = 0; end = 0 }) (omega (arith, c.loop-range-test.true)))
