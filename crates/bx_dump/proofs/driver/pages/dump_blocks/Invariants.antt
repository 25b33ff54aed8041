use Rattle.std.proofs.Common.{◌-◌, ◌≡◌, ℕ, ◌+◌, ◌*◌, ◌^◌, ◌≤◌, Option, List, ◌++◌, length, take, IfSome}
use Rattle.std.specs.Io.KnownBytes.{Appends, Consumes}
use Rattle.bx_text.specs.declared.stream.State.TheVariants.{Open}
use Rattle.bx_dump.proofs.driver.pages.dump_blocks.Given as goal

-- whole blocks were read, and their text written; behind them the front of the next block is there
abbrev pub invariant-loop-n : goal.invariant-loop-n
invariant-loop-n g l = record {
  open_now : l.meter.state ≡ Open;
  limit : l.meter.limit ≡ 2 ^ 40;
  block : length l.block ≡ 16384;
  page : length l.page ≡ 131072;
  taken : l.meter.taken + length l.start ≡ l.fn.meter.taken + l.part.read + l.held;
  few : l.part.written ≤ 131072 * l.part.read;
  size : g.P.Pages.block l.pages ≡ l.size;
  room : (n : ℕ) → n ≤ l.size → g.P.Pages.room l.pages n ≤ 131072;
  same : (xs : List ℕ) → g.P.Pages.written l.pages xs ≡ g.P.Pages.written l.initial.pages xs;
  whole : (xs : List ℕ) → g.P.Pages.text l.pages xs ≡ g.P.Pages.text l.initial.pages xs;
  bound : g.P.Pages.kept l.pages ≡ g.P.Pages.kept l.initial.pages;
  fits : l.held ≤ l.size;
  within : IfSome l.asked.limit (λ most. l.part.read + l.held ≤ most);
  so_far : (input : List ℕ) × (length input ≡ l.part.read)
      × ((old : Option (List ℕ)) → Consumes old (g.R.Read.remaining l.initial.r) l.start → Consumes old (g.R.Read.remaining l.r) (input ++ take l.held l.block))
      × Appends (g.W.Write.contents l.initial.w) (g.W.Write.contents l.w) (g.P.Pages.written l.initial.pages input)
      × (length (g.P.Pages.written l.initial.pages input) ≡ l.part.written)
      × g.P.Pages.Seen l.pages input;
}

abbrev pub decreases-loop-n : goal.decreases-loop-n
decreases-loop-n g l = 2 ^ 40 + length l.start - l.part.read
