use Rattle.std.proofs.Common.{◌≡◌, ◌-◌, suc, sym, ◌∙◌, arith}
use Rattle.bx_dump.proofs.ScanLemmas.{ends_quiet}
use Rattle.bx_dump.proofs.strings.dump.last_other.Goals as goal

pub returns-else-prints-clause-other : goal.returns-else-prints-clause-other
returns-else-prints-clause-other c =
    let e : c.loop-end.end ≡ suc (c.loop-end.end - 1) = omega (arith, c.loop-end-test.true) in
    rw e (ends_quiet c.args.bytes.now (c.loop-end.end - 1) (omega (arith, c.loop-end.invariant, c.loop-end-test.true)) (sym c.prints.ensures ∙ c.if-prints.false))
