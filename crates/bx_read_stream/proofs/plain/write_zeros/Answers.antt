use Rattle.std.proofs.Common.{[]}
use Rattle.bx_read_stream.proofs.LayingLemmas.{appended_all}
use Rattle.bx_read_stream.proofs.PlainLemmas.{nothing_pending}
use Rattle.bx_read_stream.proofs.plain.write_zeros.Goals as goal

pub returns-in-Err-clause-err : goal.returns-in-Err-clause-err
returns-in-Err-clause-err g c =
    let new = c.in-Ok-new.ensures in
    c.in-Err.ensures.err _ [] (nothing_pending _ _ _ new.sent new.pending)

pub returns-in-Ok-flush-clause-ok : goal.returns-in-Ok-flush-clause-ok
returns-in-Ok-flush-clause-ok g c =
    let new = c.in-Ok-new.ensures in
    let put = c.in-Ok-push_zeros.ensures.ok _ [] (nothing_pending _ _ _ new.sent new.pending) in
    appended_all _ _ _ _ _ (c.in-Ok-flush.ensures.ok _ _ put) c.in-Ok-flush.ensures.none

pub returns-clause-err : goal.returns-clause-err
returns-clause-err g c =
    let new = c.in-Ok-new.ensures in
    let put = c.in-Ok-push_zeros.ensures.ok _ [] (nothing_pending _ _ _ new.sent new.pending) in
    c.in-Err-flush.ensures.err _ _ put
