use Rattle.std.proofs.Common.{refl}
use Rattle.bx_journal_image.specs.Ranges.{ending_line}
use Rattle.bx_journal_image.proofs.line.ranges.write_end.Goals as goal

pub returns : goal.returns
unfolding ending_line
returns c = rw (c.push_all.ensures, c.push_field-2.ensures.text, c.push_field.ensures.text, c.new-text.ensures) refl
