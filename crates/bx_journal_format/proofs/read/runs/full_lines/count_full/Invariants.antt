use Rattle.std.proofs.Common.{◌≡◌, ◌*◌, length, drop}
use Rattle.bx_journal_format.specs.read.Followed.{AreFullSaved}
use Rattle.bx_journal_format.proofs.read.runs.full_lines.count_full.Given as goal

-- `count` lines were looked at
abbrev pub invariant-loop-rest : goal.invariant-loop-rest
invariant-loop-rest l = record {
  left : l.rest ≡ drop (68 * l.count) l.text;
  so : AreFullSaved l.len l.text l.count;
}

abbrev pub decreases-loop-rest : goal.decreases-loop-rest
decreases-loop-rest l = length l.rest
