use Rattle.std.proofs.Common.{◌≡◌, ◌-◌, ◌*◌, ◌^◌, ◌≤◌, ℕ, [], List, length}
use Rattle.std.specs.Io.KnownBytes.{Appends, Consumes}
use Rattle.bx_text.specs.declared.stream.State.TheVariants.{Open}
use Rattle.bx_dump.specs.private.Chars.{HoldsBytes, chars_left, chars_text, nothing}
use Rattle.bx_dump.proofs.strings.dump.chars.scan.scan_chars.Given as goal

-- whole blocks were read, and what is known of them was written
abbrev pub invariant-loop-n : goal.invariant-loop-n
invariant-loop-n g l = record {
  open_now : l.meter.state ≡ Open;
  limit : l.meter.limit ≡ 2 ^ 40;
  block : length l.block ≡ length l.initial.block;
  page : length l.page ≡ 430112;
  few : l.written ≤ 28 * l.meter.taken;
  encoding : l.chars.encoding ≡ l.initial.chars.encoding;
  least : l.chars.runs.least ≡ l.initial.chars.runs.least;
  offsets : l.chars.runs.offsets ≡ l.initial.chars.runs.offsets;
  so_far : (input : List ℕ) × (length input ≡ l.meter.taken)
      × Consumes (g.R.Read.remaining l.initial.r) (g.R.Read.remaining l.r) input
      × Appends (g.W.Write.contents l.initial.w) (g.W.Write.contents l.w) (chars_text l.initial.chars.encoding l.initial.chars.runs.least l.initial.chars.runs.offsets 0 nothing input)
      × (length (chars_text l.initial.chars.encoding l.initial.chars.runs.least l.initial.chars.runs.offsets 0 nothing input) ≡ l.written)
      × HoldsBytes l.chars (chars_left l.initial.chars.encoding nothing input);
}

abbrev pub decreases-loop-n : goal.decreases-loop-n
decreases-loop-n g l = l.meter.limit - l.meter.taken
