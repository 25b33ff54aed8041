use Rattle.std.proofs.Common.{◌≡◌, arith, take, ap}
use Rattle.std.specs.List.{suffix_len}
use Rattle.std.proofs.lemmas.List.Sums.{suffix_len-take_no}
use Rattle.std.proofs.lemmas.Bool.{ne_eqb}
use Rattle.bx_dd.specs.private.Output.{is_fill}
use Rattle.bx_dd.proofs.RecordsLemmas.{line_end}
use Rattle.bx_dd.proofs.convert.records.trimmed.Goals as goal

pub returns-else-held-end-eq32-clause-line : goal.returns-else-held-end-eq32-clause-line
returns-else-held-end-eq32-clause-line c =
    let e = c.loop-end.end in
    let none : suffix_len is_fill (take e c.args.held.now) ≡ 0 = suffix_len-take_no is_fill c.args.held.now e 0 c.loop-end-test.true c.loop-end.invariant.within (ne_eqb _ 32 c.if-held-end-eq32.false) in
    line_end c.args.held.now e c.loop-end.invariant.within c.loop-end.invariant.spaces none

pub returns-after-loop-end-clause-line : goal.returns-after-loop-end-clause-line
returns-after-loop-end-clause-line c =
    let e = c.loop-end.end in
    let zero_left : e ≡ 0 = omega (arith, c.loop-end-test.false) in
    line_end c.args.held.now e c.loop-end.invariant.within c.loop-end.invariant.spaces (ap (λ k. suffix_len is_fill (take k c.args.held.now)) zero_left)
