use Rattle.std.proofs.Common.{◌≡◌, ◌+◌, ◌*◌, ◌⊎◌, List, ℕ, length}
use Rattle.std.specs.Io.KnownBytes.{Consumes, IsAtEnd}
use Rattle.bx_text.specs.declared.stream.State.TheVariants.{Open, Ended}
use Rattle.bx_dd.specs.Standing.{IsAfter}
use Rattle.bx_dd.proofs.stream.transfer.take_blocks.Given as goal

-- whole blocks were read and converted
abbrev pub invariant-loop-i : goal.invariant-loop-i
invariant-loop-i g l = record {
  form : l.convert.form ≡ l.initial.convert.form;
  limit : l.meter.limit ≡ l.initial.meter.limit;
  ready : (l.meter.state ≡ Open) ⊎ ((l.meter.state ≡ Ended) × IsAtEnd (g.R.Read.remaining l.r));
  fresh : l.meter.state ≡ Ended → l._i ≡ 0;
  still : l.initial.meter.state ≡ Ended → l.meter.state ≡ Ended;
  read : (input : List ℕ) × IsAfter input l.convert × (length input ≡ l._i * length l.block) × (l.meter.taken ≡ l.initial.meter.taken + length input) × Consumes (g.R.Read.remaining l.initial.r) (g.R.Read.remaining l.r) input;
}
