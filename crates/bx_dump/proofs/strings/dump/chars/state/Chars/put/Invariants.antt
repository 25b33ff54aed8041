use Rattle.std.proofs.Common.{◌≡◌, ◌+◌, ◌-◌, ◌*◌, ◌≤◌, length, take}
use Rattle.bx_dump.specs.private.Chars.{Between, HoldsBytes, chars_left, chars_text}
use Rattle.bx_dump.specs.private.Scan.{pending}
use Rattle.bx_dump.proofs.strings.dump.chars.state.Chars.put.Given as goal

-- what is known of the bytes so far is put
abbrev pub invariant-loop-done : goal.invariant-loop-done
invariant-loop-done l = record {
  inside : l.done ≤ length l.bytes;
  encoding : l.self.encoding ≡ l.initial.self.encoding;
  least : l.self.runs.least ≡ l.initial.self.runs.least;
  offsets : l.self.runs.offsets ≡ l.initial.self.runs.offsets;
  cost : l.used + pending l.self.runs.least l.self.runs.count ≤ 4096 + 25 * l.done;
  text : (now : Between) → HoldsBytes l.initial.self now →
      take l.used l.page ≡ chars_text l.initial.self.encoding l.initial.self.runs.least l.initial.self.runs.offsets l.at now (take l.done l.bytes);
  kept : (now : Between) → HoldsBytes l.initial.self now → HoldsBytes l.self (chars_left l.initial.self.encoding now (take l.done l.bytes));
}

abbrev pub decreases-loop-done : goal.decreases-loop-done
decreases-loop-done l = length l.bytes - l.done
