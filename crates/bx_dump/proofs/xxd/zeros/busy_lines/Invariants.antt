use Rattle.std.proofs.Common.{◌≡◌, ℕ, ◌<◌, false}
use Rattle.bx_dump.specs.FoldBy.{line_bytes_by}
use Rattle.bx_dump.specs.Zeros.{all_zeros}
use Rattle.bx_dump.proofs.xxd.zeros.busy_lines.Given as goal

-- the lines so far have another byte than zero
abbrev pub invariant-loop-k : goal.invariant-loop-k
invariant-loop-k l = (j : ℕ) → j < l.k → all_zeros (line_bytes_by l.cols l.bytes j) ≡ false
