use Rattle.std.proofs.Common.{◌≡◌, ◌+◌, ◌*◌, List, ℕ, length}
use Rattle.std.specs.Io.KnownBytes.{Consumes}
use Rattle.bx_text.specs.declared.stream.State.TheVariants.{Open}
use Rattle.bx_dd.proofs.stream.transfer.skip_blocks.Given as goal

-- whole blocks were read
abbrev pub invariant-loop-i : goal.invariant-loop-i
invariant-loop-i g l = record {
  open_now : l.meter.state ≡ Open;
  limit : l.meter.limit ≡ l.initial.meter.limit;
  read : (input : List ℕ) × (length input ≡ l._i * length l.block) × (l.meter.taken ≡ l.initial.meter.taken + length input) × Consumes (g.R.Read.remaining l.initial.r) (g.R.Read.remaining l.r) input;
}
