use Rattle.std.proofs.Common.{◌≡◌, ◌-◌, ◌<◌, ◌≤◌, ◌++◌, true}
use Rattle.std.specs.List.{flat_map}
use Rattle.bx_patch.specs.declared.diff.row.Extent.TheVariants.{Bytes}
use Rattle.bx_patch.specs.Text.{differs, signed_line_text, row_lines}
use Rattle.bx_patch.proofs.PushLemmas.{row_rest}
use Rattle.bx_patch.proofs.diff.row.push_differing.Given as goal

abbrev pub invariant-loop-from : goal.invariant-loop-from
invariant-loop-from g l = record {
  most : l.from ≤ 16;
  other : l.from < 16 → differs l.old l.new l.from ≡ true;
  text : l.text.items ++ row_rest l.at l.old l.new l.from ≡ l.fn.text.items ++ flat_map signed_line_text (row_lines Bytes l.at l.old l.new);
}

abbrev pub decreases-loop-from : goal.decreases-loop-from
decreases-loop-from g l = 16 - l.from
