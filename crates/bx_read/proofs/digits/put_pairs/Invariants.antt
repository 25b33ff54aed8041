use Rattle.std.proofs.Common.{◌≡◌, ◌≤◌, ◌*◌, ◌-◌, take, Some}
use Rattle.bx_read.specs.Plain.{hex_bytes}
use Rattle.bx_read.proofs.digits.put_pairs.Given as goal

-- the bytes so far are those of the pairs so far
abbrev pub invariant-loop-count : goal.invariant-loop-count
invariant-loop-count l = record {
  inside : l.count ≤ l.most;
  bytes : hex_bytes (take (2 * l.count) l.text) ≡ Some (take l.count l.out);
}

abbrev pub decreases-loop-count : goal.decreases-loop-count
decreases-loop-count l = l.most - l.count
