use Rattle.std.proofs.Common.{◌∙◌, ◌-◌, sym, arith}
use Rattle.bx_run.proofs.Judged.{ends_read}
use Rattle.bx_run.proofs.forget.judging.ends_entry.Goals as goal

pub returns-clause-ends : goal.returns-clause-ends
returns-clause-ends g c faithful ends =
    let same = c.in_ok-len.ensures.text faithful in
    let still = c.in_ok-len.ensures.goes_on.faith.1 faithful in
    ends_read (g.T.TextStore.text c.args.text.now) c.read_at.new.buf (c.in_ok-len.len - 32) c.end_of.result
    (omega (arith, c.in_ok-len.ensures.len faithful, c.if-len.false)) (rw same at c.in_ok-read_at.ensures.bytes still) c.end_of.ensures.some
    (sym c.is_some.ensures ∙ ends)
