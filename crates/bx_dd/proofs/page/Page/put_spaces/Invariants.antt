use Rattle.std.proofs.Common.{◌++◌, ◌-◌, ◌≤◌, List, ℕ, Option, replicate}
use Rattle.bx_dd.specs.private.Streaming.{Goes}
use Rattle.bx_dd.proofs.page.Page.put_spaces.Given as goal

-- `done` spaces were put
abbrev pub invariant-loop-done : goal.invariant-loop-done
invariant-loop-done g l = record {
  inside : l.done ≤ l.count;
  grows : l.initial.self.written ≤ l.self.written;
  so_far : (start : Option (List ℕ)) (text : List ℕ) → Goes start (g.W.Write.contents l.initial.w) l.initial.self.bytes.items l.initial.self.written text →
      Goes start (g.W.Write.contents l.w) l.self.bytes.items l.self.written (text ++ replicate l.done 32);
}

abbrev pub decreases-loop-done : goal.decreases-loop-done
decreases-loop-done g l = l.count - l.done
