use Rattle.std.proofs.Common.{◌≡◌, ℕ, ◌+◌, ◌<◌, ◌≤◌, ◌^◌, List, length, drop}
use Rattle.bx_journal_format.specs.Text.{Entry}
use Rattle.bx_journal_format.specs.read.Journal.{IsBehind}
use Rattle.bx_journal_format.specs.Parsed.{IsReadTo}
use Rattle.bx_journal_format.proofs.read.whole.read_behind.Given as goal

-- the text is read up to a place, and this is left of it
abbrev pub invariant-loop-i : goal.invariant-loop-i
invariant-loop-i g l = record {
  read : (text : List ℕ) (older : List Entry) → IsBehind text older l.front l.fn.bytes.items → IsReadTo text older l.entries.items l.stage l.at l.line;
  left : (text : List ℕ) → l.fn.bytes.items ≡ drop l.front.at text → drop l.text.1.0 l.text.0.items ≡ drop l.at text;
  within : l.text.1.0 ≤ length l.text.0.items;
  few : l.line ≤ l.at + 1;
  size : l.at + length (drop l.text.1.0 l.text.0.items) ≡ l.front.at + length l.fn.bytes.items;
  countable : l.front.at + length l.fn.bytes.items + 1 < 2 ^ 64;
  many : l.front.count + length l.entries.items ≤ 65535;
}

abbrev pub decreases-loop-i : goal.decreases-loop-i
decreases-loop-i g l = length (drop l.text.1.0 l.text.0.items)
