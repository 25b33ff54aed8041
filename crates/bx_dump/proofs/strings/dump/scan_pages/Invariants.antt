use Rattle.std.proofs.Common.{◌≡◌, ◌-◌, ◌*◌, ◌^◌, ◌≤◌, ℕ, [], List, length}
use Rattle.std.specs.Io.KnownBytes.{Appends, Consumes}
use Rattle.bx_text.specs.declared.stream.State.TheVariants.{Open}
use Rattle.bx_dump.specs.private.Scan.{scan_text, scan_run, IsKept}
use Rattle.bx_dump.proofs.strings.dump.scan_pages.Given as goal

-- whole blocks were read, and what is known of them was written
abbrev pub invariant-loop-n : goal.invariant-loop-n
invariant-loop-n g l = record {
  open_now : l.meter.state ≡ Open;
  limit : l.meter.limit ≡ 2 ^ 40;
  block : length l.block ≡ length l.initial.block;
  page : length l.page ≡ 430112;
  few : l.written ≤ 28 * l.meter.taken;
  least : l.runs.least ≡ l.initial.runs.least;
  offsets : l.runs.offsets ≡ l.initial.runs.offsets;
  size : length l.runs.kept ≡ 4096;
  within : l.runs.count ≤ l.runs.least;
  so_far : (input : List ℕ) × (length input ≡ l.meter.taken)
      × Consumes (g.R.Read.remaining l.initial.r) (g.R.Read.remaining l.r) input
      × Appends (g.W.Write.contents l.initial.w) (g.W.Write.contents l.w) (scan_text l.initial.runs.least l.initial.runs.offsets 0 [] input)
      × (length (scan_text l.initial.runs.least l.initial.runs.offsets 0 [] input) ≡ l.written)
      × IsKept l.runs.least l.runs.count l.runs.kept (scan_run [] input);
}

abbrev pub decreases-loop-n : goal.decreases-loop-n
decreases-loop-n g l = l.meter.limit - l.meter.taken
