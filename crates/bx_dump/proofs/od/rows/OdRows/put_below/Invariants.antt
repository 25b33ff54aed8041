use Rattle.std.proofs.Common.{◌≡◌, ◌+◌, ◌*◌, ◌≤◌, ◌++◌, take, drop}
use Rattle.bx_dump.specs.Od.{columns_below, rows_below}
use Rattle.bx_dump.proofs.od.rows.OdRows.put_below.Given as goal

-- the rows so far, and those that are to come
abbrev pub invariant-loop-k : goal.invariant-loop-k
invariant-loop-k l = record {
  within : l.used ≤ (11 * l.self.width + 48) * l.k;
  text : take l.used l.page ++ rows_below l.self.address l.self.endian l.self.width l.wide l.bytes (drop l.k (columns_below l.self.below))
      ≡ rows_below l.self.address l.self.endian l.self.width l.wide l.bytes (columns_below l.self.below);
}
