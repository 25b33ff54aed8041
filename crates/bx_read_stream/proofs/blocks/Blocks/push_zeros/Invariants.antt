use Rattle.std.proofs.Common.{◌≡◌, ◌≤◌, ◌+◌, ◌-◌, ◌++◌, ℕ, List, Option, length, replicate}
use Rattle.bx_read_stream.specs.private.Blocks.{IsPending}
use Rattle.bx_read_stream.proofs.blocks.Blocks.push_zeros.Given as goal

-- these zeros were put
abbrev pub invariant-loop-done : goal.invariant-loop-done
invariant-loop-done g l = record {
  within : l.done ≤ l.count;
  put : (w0 : Option (List ℕ)) (x : List ℕ) → IsPending w0 (g.W.Write.contents l.fn.w) l.fn.self.sent l.fn.self.pending.items x
      → IsPending w0 (g.W.Write.contents l.w) l.self.sent l.self.pending.items (x ++ replicate l.done 0);
  counted : l.self.sent + length l.self.pending.items ≡ l.fn.self.sent + length l.fn.self.pending.items + l.done;
}

abbrev pub decreases-loop-done : goal.decreases-loop-done
decreases-loop-done g l = l.count - l.done
