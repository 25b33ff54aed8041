use Rattle.std.proofs.Common.{◌≡◌, ℕ, ◌&&◌, ◌||◌, take}
use Rattle.std.specs.Prelude.{nat_lt}
use Rattle.bx_image.specs.private.Change.{is_cut_off, is_covered}
use Rattle.bx_image.specs.Over.{LieWithin}
use Rattle.bx_image.specs.private.Spans.{are_over}
use Rattle.bx_image.proofs.record.spans.collected.Given as goal

-- what lies at or above the base, and what the writes so far cover
abbrev pub invariant-loop-write : goal.invariant-loop-write
invariant-loop-write g l = record {
  over : (i : ℕ) → are_over l.spans.items i ≡ (nat_lt i l.len && (is_cut_off l.fn.base i || is_covered (take l.write-index l.writes) i));
  within : LieWithin l.len l.spans.items;
}
