use Rattle.std.proofs.Common.{◌≡◌, ◌+◌, ◌-◌, ◌≤◌, ℕ, List, length}
use Rattle.bx_journal_format.specs.count.Parts.{GivesStretch}
use Rattle.bx_journal_format.proofs.read.parts.follow.Given as goal

-- the lines so far are one stretch, where the first ones are
abbrev pub invariant-loop-more : goal.invariant-loop-more
invariant-loop-more l = record {
  gives : (old : List ℕ) → GivesStretch l.len l.used l.from old l.fn.window l.fn.first → GivesStretch l.len l.used l.from old l.window l.now;
  order : l.used + l.now.count ≤ l.from + l.now.taken;
  within : l.from + l.now.taken ≤ length l.window;
  same : length l.window ≡ length l.fn.window;
}

abbrev pub decreases-loop-more : goal.decreases-loop-more
decreases-loop-more l = length l.window - l.now.taken
