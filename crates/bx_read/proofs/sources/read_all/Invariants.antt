use Rattle.std.proofs.Common.{◌≡◌, ◌≢◌, ◌≤◌, ◌+◌, ◌-◌, ℕ, List, [], length}
use Rattle.std.specs.Io.KnownBytes.{Consumes}
use Rattle.bx_text.specs.declared.stream.State.TheVariants.{Open, Ended}
use Rattle.bx_read.proofs.sources.read_all.Given as goal

-- what was read so far is the text that was given
abbrev pub invariant-loop-count : goal.invariant-loop-count
invariant-loop-count g l = record {
  text : List ℕ;
  limit : l.source.meter.limit ≡ l.fn.source.meter.limit;
  state : l.source.meter.state ≡ l.fn.source.meter.state;
  taken : l.source.meter.taken ≡ l.fn.source.meter.taken + length text;
  bytes : Consumes (g.R.Read.remaining l.fn.source.reader) (g.R.Read.remaining l.source.reader) text;
  few : g.T.ReadsText.counted l.reader ≤ length text;
  read : g.T.ReadsText.HasRead l.reader text;
  none : l.fn.source.meter.state ≡ Ended → text ≡ [];
  closed : l.fn.source.meter.state ≢ Open → l.source.reader ≡ l.fn.source.reader;
}

abbrev pub decreases-loop-count : goal.decreases-loop-count
decreases-loop-count g l = l.source.meter.limit - l.source.meter.taken
