use Rattle.std.proofs.Common.{◌≡◌, ◌∙◌, [], ap, length, arith}
use Rattle.bx_read_stream.proofs.LayingLemmas.{held_len, appended_all, fails_stops}
use Rattle.bx_read_stream.proofs.dump.Windows.finish.Goals as goal

pub returns-in-Ok-flush-clause-ok : goal.returns-in-Ok-flush-clause-ok
returns-in-Ok-flush-clause-ok g c w0 text h =
    let a = rw c.in-Ok.ensures.shift at (c.in-Ok.ensures.ok w0 text h) in
    let b = c.in-Ok-flush.ensures.ok w0 _ a.1 in (
      a.0,
      a.2,
      omega (arith, held_len w0 _ _ _ _ b, ap length c.in-Ok-flush.ensures.none),
      appended_all w0 _ _ _ _ b c.in-Ok-flush.ensures.none,
    )

pub returns-in-Err-flush-clause-err : goal.returns-in-Err-flush-clause-err
returns-in-Err-flush-clause-err g c w0 text h =
    let a = rw c.in-Ok.ensures.shift at (c.in-Ok.ensures.ok w0 text h) in
    fails_stops c.args.self.now.laying.shift w0 _ a.0 [] _ c.in-Err-flush.fault a.2 (c.in-Err-flush.ensures.err w0 _ a.1)
