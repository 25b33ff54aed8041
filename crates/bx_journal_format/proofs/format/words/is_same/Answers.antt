use Rattle.std.proofs.Common.{arith}
use Rattle.bx_journal_format.proofs.PartLemmas.{same_is}
use Rattle.bx_journal_format.proofs.format.words.is_same.Goals as goal

pub returns : goal.returns
returns c = same_is c.loop-i.same c.args.text.now c.args.other.now c.requires (λ is k inside. c.loop-i.invariant.kept is k (omega arith)) c.loop-i.invariant.apart
