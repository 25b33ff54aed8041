use Rattle.std.proofs.Common.{arith}
use Rattle.std.proofs.lemmas.Grind.{common_steps}
use Rattle.bx_journal.proofs.LogLemmas.{rows_more}
use Rattle.bx_journal.proofs.session.log.rows.Goals as goal

pub loop-i-preserved : goal.loop-i-preserved
loop-i-preserved g c =
    let more = rows_more c.args.entries.now c.loop-i.i c.index-entries-i.result c.loop-i.rows.items (omega arith) c.index-entries-i.is c.loop-i.invariant in
    let pushed = c.push.ensures.items in
    grind (arith, common_steps, more)
