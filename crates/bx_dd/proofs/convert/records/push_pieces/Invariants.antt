use Rattle.std.proofs.Common.{◌++◌, ◌-◌, ◌≤◌, ◌<◌, List, ℕ, Option, length, take}
use Rattle.std.specs.Prelude.{vec_capacity}
use Rattle.bx_dd.specs.declared.form.Shape.TheVariants.{Unblock}
use Rattle.bx_dd.specs.declared.convert.records.Tail.{Tail}
use Rattle.bx_dd.specs.private.Paged.{output}
use Rattle.bx_dd.specs.private.Streaming.{Flows}
use Rattle.bx_dd.proofs.convert.records.push_pieces.Given as goal

-- the bytes so far stand as records
abbrev pub invariant-loop-done : goal.invariant-loop-done
invariant-loop-done g l = record {
  inside : l.done ≤ length l.bytes;
  room : length l.held.items < l.size;
  space : vec_capacity l.initial.held ≤ vec_capacity l.held;
  grows : l.initial.page.written ≤ l.page.written;
  so_far : (tail : Tail) (z : List ℕ) (start : Option (List ℕ)) →
      Flows Unblock l.size start z (output (g.W.Write.contents l.initial.w) l.initial.page l.initial.held) tail →
      Flows Unblock l.size start (z ++ take l.done l.bytes) (output (g.W.Write.contents l.w) l.page l.held) tail;
}

abbrev pub decreases-loop-done : goal.decreases-loop-done
decreases-loop-done g l = length l.bytes - l.done
