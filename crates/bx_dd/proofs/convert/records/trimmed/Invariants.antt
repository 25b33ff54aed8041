use Rattle.std.proofs.Common.{◌≡◌, ◌+◌, ◌-◌, ◌≤◌, length, take}
use Rattle.std.specs.List.{suffix_len}
use Rattle.bx_dd.specs.private.Output.{is_fill}
use Rattle.bx_dd.proofs.convert.records.trimmed.Given as goal

-- only spaces follow
abbrev pub invariant-loop-end : goal.invariant-loop-end
invariant-loop-end l = record {
  within : l.end ≤ length l.held;
  spaces : suffix_len is_fill l.held ≡ length l.held - l.end + suffix_len is_fill (take l.end l.held);
}

abbrev pub decreases-loop-end : goal.decreases-loop-end
decreases-loop-end l = l.end
