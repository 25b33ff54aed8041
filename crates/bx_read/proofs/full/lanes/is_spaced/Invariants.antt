use Rattle.std.proofs.Common.{◌≡◌, ℕ, ◌<◌, ◌+◌, ◌*◌, get_or}
use Rattle.bx_read.proofs.full.lanes.is_spaced.Given as goal

-- the spaces so far
abbrev pub invariant-loop-k : goal.invariant-loop-k
invariant-loop-k l = (j : ℕ) → j < l.k → get_or l.hex (5 * j + 4) 0 ≡ 32
