use Rattle.std.proofs.Common.{◌≡◌, ◌+◌, ◌*◌, ◌++◌, take, length}
use Rattle.bx_journal_image.specs.Line.{marks_text}
use Rattle.bx_journal_image.proofs.line.form.push_marks.Given as goal

-- the blocks so far
abbrev pub invariant-loop-i : goal.invariant-loop-i
invariant-loop-i l = record {
  text : l.line ≡ l.fn.line ++ marks_text (take l.i l.marks);
  long : length l.line ≡ length l.fn.line + 9 * l.i;
}
