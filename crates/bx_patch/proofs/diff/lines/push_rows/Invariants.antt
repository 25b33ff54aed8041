use Rattle.std.proofs.Common.{◌≡◌, ◌++◌}
use Rattle.std.specs.List.{flat_map}
use Rattle.bx_patch.specs.Text.{signed_line_text}
use Rattle.bx_patch.specs.private.Row.{window_lines}
use Rattle.bx_patch.proofs.diff.lines.push_rows.Given as goal

abbrev pub invariant-loop-k : goal.invariant-loop-k
invariant-loop-k g l = l.text.items ≡ l.fn.text.items ++ flat_map signed_line_text (window_lines l.extent l.at l.old l.new l.k)
