use Rattle.std.proofs.Common.{◌≡◌, ℕ, ◌+◌, ◌<◌, List, length}
use Rattle.std.specs.Io.KnownBytes.{Consumes}
use Rattle.bx_text.specs.declared.stream.State.TheVariants.{Open}
use Rattle.bx_text.proofs.stream.Meter.skip.Given as goal

-- these bytes were read, and the rest is left
abbrev pub invariant-loop-left : goal.invariant-loop-left
invariant-loop-left g l = record {
  open_now : l.self.state ≡ Open;
  limit : l.self.limit ≡ l.fn.self.limit;
  room : 0 < length l.buf;
  so_far : (input : List ℕ) × (length input + l.left ≡ l.count) × (l.self.taken ≡ l.fn.self.taken + length input)
      × Consumes (g.R.Read.remaining l.initial.reader) (g.R.Read.remaining l.reader) input;
}

abbrev pub decreases-loop-left : goal.decreases-loop-left
decreases-loop-left g l = l.left
