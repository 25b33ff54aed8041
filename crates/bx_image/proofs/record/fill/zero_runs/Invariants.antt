use Rattle.std.proofs.Common.{ℕ, take}
use Rattle.bx_image.specs.Image.{zeros}
use Rattle.bx_image.specs.Runs.{AreRunsOf}
use Rattle.bx_image.specs.Over.{LieWithin}
use Rattle.bx_image.specs.private.Spans.{StandOver}
use Rattle.bx_image.proofs.record.fill.zero_runs.Given as goal

-- the runs stand over the ranges so far
abbrev pub invariant-loop-span : goal.invariant-loop-span
invariant-loop-span g l = record {
  over : StandOver (take l.span-index l.spans) l.runs.items;
  runs : (len : ℕ) → LieWithin len l.spans → AreRunsOf (zeros len) l.runs.items;
}
