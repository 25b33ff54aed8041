use Rattle.std.proofs.Common.{◌≡◌, ◌≤◌, length, drop}
use Rattle.bx_journal_read.specs.show.Differences.{made_line, AreAdded}
use Rattle.bx_journal_read.proofs.show.lines.push_lines.Given as goal

-- the lines that were taken are added
abbrev pub invariant-loop-rest : goal.invariant-loop-rest
invariant-loop-rest g l = record {
  added : AreAdded (made_line l.before) l.window l.taken l.fn.text.items l.text.items;
  left : l.rest ≡ drop l.taken l.window;
  within : l.taken ≤ length l.window;
}

abbrev pub decreases-loop-rest : goal.decreases-loop-rest
decreases-loop-rest g l = length l.rest
