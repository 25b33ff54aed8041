use Rattle.std.proofs.Common.{◌≡◌, take, map, sum}
use Rattle.bx_journal.proofs.LogLemmas.{run_length}
use Rattle.bx_journal.proofs.session.log.saved_bytes.Given as goal

abbrev pub invariant-loop-run : goal.invariant-loop-run
invariant-loop-run g l = l.total ≡ sum (map run_length (take l.run-index l.run-items))
