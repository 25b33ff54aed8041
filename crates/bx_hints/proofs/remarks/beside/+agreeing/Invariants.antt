use Rattle.std.proofs.Common.{length}
use Rattle.bx_hints.proofs.remarks.beside.+agreeing.Given as goal

abbrev pub decreases-agreeing : goal.decreases-agreeing
decreases-agreeing l = length l.shown.now
