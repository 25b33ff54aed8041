use Rattle.std.proofs.Common.{◌≡◌, ◌+◌, ◌-◌, length, []}
use Rattle.std.specs.Io.KnownBytes.{Consumes}
use Rattle.bx_text.specs.declared.stream.State.TheVariants.{Open}
use Rattle.bx_text.proofs.stream.Source.rest.Given as goal

-- what was put together was read
abbrev pub invariant-loop-count : goal.invariant-loop-count
invariant-loop-count g l = record {
  limit : l.self.meter.limit ≡ l.fn.self.meter.limit;
  state : l.self.meter.state ≡ l.fn.self.meter.state;
  taken : l.self.meter.taken ≡ l.fn.self.meter.taken + length l.bytes.items;
  bytes : Consumes (g.R.Read.remaining l.fn.self.reader) (g.R.Read.remaining l.self.reader) l.bytes.items;
  closed : (l.fn.self.meter.state ≡ Open → ⊥) → (l.bytes.items ≡ []) × (l.self.reader ≡ l.fn.self.reader);
}

abbrev pub decreases-loop-count : goal.decreases-loop-count
decreases-loop-count g l = l.self.meter.limit - l.self.meter.taken
