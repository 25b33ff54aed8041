use Rattle.std.proofs.Common.{◌≡◌, ℕ, None}
use Rattle.std.specs.Prelude.{nat_lt, ◌&&◌, if◌then◌else◌}
use Rattle.bx_journal_image.specs.Blocks.{is_touched, mark_at}
use Rattle.bx_journal_image.proofs.blocks.places.strike.Given as goal

-- the blocks so far are struck, and the others as they were
abbrev pub invariant-loop-i : goal.invariant-loop-i
invariant-loop-i l = (p : ℕ) → mark_at l.marks p ≡ (if nat_lt p l.i && is_touched l.length l.range p then None else mark_at l.fn.marks p)
