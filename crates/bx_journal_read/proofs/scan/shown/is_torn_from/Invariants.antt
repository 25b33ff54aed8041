use Rattle.std.proofs.Common.{◌≡◌, ◌-◌, ◌≤◌, length, drop, false}
use Rattle.bx_journal_format.specs.declared.read.shown.LastLine.TheVariants.{Other}
use Rattle.bx_journal_format.specs.read.Left.{is_torn}
use Rattle.bx_journal_model.specs.Looking.{OnlyReadsText}
use Rattle.bx_journal_read.proofs.scan.shown.is_torn_from.Given as goal

-- what may be left from the place on is said by the last line so far
abbrev pub invariant-loop-at : goal.invariant-loop-at
invariant-loop-at g l =
    let T = g.T.TextStore in
    record {
      below : l.at ≤ l.len;
      torn : T.faithful l.fn.store → is_torn Other (drop l.from (T.text l.fn.store)) ≡ is_torn l.line (drop l.at (T.text l.fn.store));
      window : length l.window ≡ length l.fn.window;
      reads : OnlyReadsText T false l.fn.store l.store;
    }

abbrev pub decreases-loop-at : goal.decreases-loop-at
decreases-loop-at g l = l.len - l.at
