use Rattle.std.proofs.Common.{◌≡◌, length}
use Rattle.bx_read.specs.Lines.{coming}
use Rattle.bx_read.proofs.lines.DumpLinesIterator.next.Given as goal

abbrev pub decreases-loop-self : goal.decreases-loop-self
decreases-loop-self l = length l.self.text.now

-- the skipped lines give nothing
abbrev pub invariant-loop-self : goal.invariant-loop-self
invariant-loop-self l = coming l.self ≡ coming l.initial.self
