use Rattle.std.proofs.Common.{◌≡◌, ◌<◌, ◌++◌, ℕ, List, Option, None, drop, length}
use Rattle.std.specs.Prelude.{slice_index_or}
use Rattle.bx_journal_image.specs.Line.{AreFitMarks, marks_text}
use Rattle.bx_journal_image.proofs.line.form.marks_before.Given as goal

-- the blocks so far, and the text of the others
abbrev pub invariant-loop-i : goal.invariant-loop-i
invariant-loop-i l = record {
  long : length l.marks ≡ 32;
  so_far : (ms : List (Option ℕ)) (more : List ℕ) → AreFitMarks ms → l.fn.text ≡ marks_text ms ++ more
      → (l.rest ≡ marks_text (drop l.i ms) ++ more) × ((p : ℕ) → p < l.i → slice_index_or l.marks p None ≡ slice_index_or ms p None);
}
