use Rattle.std.proofs.Common.{◌≡◌, ◌≤◌, ◌+◌, ◌-◌, ◌^◌, ℕ, List, length}
use Rattle.std.specs.Io.KnownBytes.{Consumes}
use Rattle.bx_text.specs.declared.stream.State.TheVariants.{Open}
use Rattle.bx_read_stream.specs.private.Dump.{HasLaid}
use Rattle.bx_read_stream.proofs.dump.Windows.lay_windows.Given as goal

-- what was read so far was put
abbrev pub invariant-loop-count : goal.invariant-loop-count
invariant-loop-count g l = record {
  text : List ℕ;
  bytes : Consumes (g.R.Read.remaining l.fn.r) (g.R.Read.remaining l.r) text;
  laid : HasLaid l.self.laying l.self.held.items (g.W.Write.contents l.fn.w) (g.W.Write.contents l.w) text;
  limit : l.meter.limit ≡ 2 ^ 40;
  is_open : l.meter.state ≡ Open;
  taken : l.meter.taken ≡ length text;
  countable : l.self.laying.lines + length l.self.held.items ≤ length text;
  near : l.self.laying.blocks.sent + length l.self.laying.blocks.pending.items ≤ 2 ^ 63 + 256;
  shift : l.self.laying.shift ≡ l.fn.self.laying.shift;
}

abbrev pub decreases-loop-count : goal.decreases-loop-count
decreases-loop-count g l = l.meter.limit - l.meter.taken
