use Rattle.std.proofs.Common.{◌++◌, ◌+◌, ◌-◌, ◌≤◌, List, ℕ, Option, length, take}
use Rattle.std.specs.Prelude.{vec_capacity}
use Rattle.bx_dd.specs.declared.form.Shape.TheVariants.{Block}
use Rattle.bx_dd.specs.private.Paged.{output}
use Rattle.bx_dd.specs.private.Streaming.{Flows}
use Rattle.bx_dd.proofs.convert.records.push_text.Given as goal

-- the bytes so far stand as records
abbrev pub invariant-loop-done : goal.invariant-loop-done
invariant-loop-done g l = record {
  inside : l.done ≤ length l.bytes;
  room : length l.held.items ≤ l.size;
  space : vec_capacity l.initial.held ≤ vec_capacity l.held;
  few : l.now.cut ≤ l.initial.now.cut + l.done;
  grows : l.initial.page.written ≤ l.page.written;
  so_far : (z : List ℕ) (start : Option (List ℕ)) →
      Flows Block l.size start z (output (g.W.Write.contents l.initial.w) l.initial.page l.initial.held) l.initial.now →
      Flows Block l.size start (z ++ take l.done l.bytes) (output (g.W.Write.contents l.w) l.page l.held) l.now;
}

abbrev pub decreases-loop-done : goal.decreases-loop-done
decreases-loop-done g l = length l.bytes - l.done
