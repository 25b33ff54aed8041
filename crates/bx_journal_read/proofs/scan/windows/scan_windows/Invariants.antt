use Rattle.std.proofs.Common.{◌≡◌, ◌-◌, suc, length, false, if◌then◌else◌}
use Rattle.bx_journal_model.specs.Looking.{OnlyReadsText}
use Rattle.bx_journal_read.specs.scan.Windows.{IsReached}
use Rattle.bx_journal_read.proofs.scan.windows.scan_windows.Given as goal

-- the text was read up to a place
abbrev pub invariant-loop-ends : goal.invariant-loop-ends
invariant-loop-ends g l =
    let T = g.T.TextStore in
    record {
      reached : IsReached (T.faithful l.fn.store) (T.text l.fn.store) (g.S.Scan.Leads l.fn.scan) l.len (record { scan = l.scan; at = l.at });
      window : length l.window ≡ length l.fn.window;
      reads : OnlyReadsText T false l.fn.store l.store;
    }

abbrev pub decreases-loop-ends : goal.decreases-loop-ends
decreases-loop-ends g l = if l.ends then suc (l.len - l.at) else 0
