use Rattle.std.proofs.Common.{◌≡◌, ◌≤◌, ◌+◌, ◌^◌, ◌++◌, ℕ, List, Option, length}
use Rattle.bx_read.specs.Text.{ReadLine, lines_of, answers}
use Rattle.bx_read_stream.specs.Laid.{image_made, reads_then}
use Rattle.bx_read_stream.specs.private.Blocks.{IsPending}
use Rattle.bx_read_stream.proofs.laying.Laying.lay_lines.Given as goal

-- the lines in front of the rest were written
abbrev pub invariant-loop-end : goal.invariant-loop-end
invariant-loop-end g l = record {
  laid : (w0 : Option (List ℕ)) (before : List ReadLine) → IsPending w0 (g.W.Write.contents l.fn.w) l.fn.self.blocks.sent l.fn.self.blocks.pending.items (image_made l.fn.self.shift before)
      → (next : List ReadLine) × IsPending w0 (g.W.Write.contents l.w) l.self.blocks.sent l.self.blocks.pending.items (image_made l.fn.self.shift (before ++ next))
      × ((more : List ℕ) → answers (l.fn.self.lines + 1) (lines_of (l.fn.text ++ more)) ≡ reads_then next (answers (l.self.lines + 1) (lines_of (l.rest ++ more))));
  counted : l.self.lines + length l.rest ≤ l.fn.self.lines + length l.fn.text;
  near : l.self.blocks.sent + length l.self.blocks.pending.items ≤ 2 ^ 63 + 256;
  shift : l.self.shift ≡ l.fn.self.shift;
}

abbrev pub decreases-loop-end : goal.decreases-loop-end
decreases-loop-end g l = length l.rest
