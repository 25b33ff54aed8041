use Rattle.std.proofs.Common.{◌≡◌, ◌≢◌, ◌+◌, ◌-◌, ◌<◌, ◌≤◌, ◌^◌, List, ℕ, length, take}
use Rattle.std.specs.Prelude.{vec_capacity}
use Rattle.std.specs.Io.KnownBytes.{Consumes}
use Rattle.bx_text.specs.declared.stream.State.TheVariants.{Open}
use Rattle.bx_dd.specs.declared.form.Shape.TheVariants.{Unblock}
use Rattle.bx_dd.specs.private.Paged.{output_with}
use Rattle.bx_dd.specs.private.Streaming.{Staged, unit_of}
use Rattle.bx_dd.proofs.stream.copy.copy_units.Given as goal

-- what was read so far stands converted
abbrev pub invariant-loop-turn : goal.invariant-loop-turn
invariant-loop-turn g l = record {
  open_now : l.turn.read ≢ l.initial.task.most → l.meter.state ≡ Open;
  limit : l.meter.limit ≡ 2 ^ 40;
  few : l.turn.read ≤ l.initial.task.most;
  room : length l.waiting.held.items ≤ l.task.form.cbs;
  space : vec_capacity l.initial.waiting.held ≤ vec_capacity l.waiting.held;
  part : l.task.form.shape ≡ Unblock → length l.waiting.held.items < l.task.form.cbs;
  pending : l.turn.have < unit_of l.task.form;
  so_far : (input : List ℕ) × (l.turn.read ≡ length input) × (l.meter.taken ≡ l.initial.meter.taken + length input) × (l.turn.tail.cut + l.turn.have ≤ length input)
      × Consumes (g.R.Read.remaining l.initial.r) (g.R.Read.remaining l.r) input
      × Staged l.task.form (g.W.Write.contents l.initial.w) input (take l.turn.have l.buf) (output_with (g.W.Write.contents l.w) l.waiting) l.turn.tail;
}

abbrev pub decreases-loop-turn : goal.decreases-loop-turn
decreases-loop-turn g l = l.task.most - l.turn.read
