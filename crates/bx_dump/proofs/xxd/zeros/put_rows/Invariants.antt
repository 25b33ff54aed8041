use Rattle.std.proofs.Common.{◌+◌, ◌-◌, ◌*◌, ◌≤◌, take}
use Rattle.bx_dump.specs.private.Zeros.{row_room, PutsRows}
use Rattle.bx_dump.proofs.xxd.zeros.put_rows.Given as goal

-- the rows so far
abbrev pub invariant-loop-done : goal.invariant-loop-done
invariant-loop-done g l = record {
  inside : l.done ≤ l.count;
  few : l.zeros ≤ 4;
  room : l.used + row_room (g.F.LineForm.room l.form) l.zeros ≤ g.F.LineForm.room l.form * (l.done + 1);
  text : PutsRows (g.F.LineForm.line l.form) (g.F.LineForm.cols l.form) l.done l.initial.zeros l.zeros l.at (take (g.F.LineForm.cols l.form * l.done) l.bytes) (take l.used l.text);
}

abbrev pub decreases-loop-done : goal.decreases-loop-done
decreases-loop-done g l = l.count - l.done
