use Rattle.std.proofs.Common.{refl}
use Rattle.bx_journal_image.specs.Entry.{beginning_line}
use Rattle.bx_journal_image.proofs.finding.entry.write_beginning.Goals as goal

pub returns : goal.returns
unfolding beginning_line
returns c = rw (c.push_all.ensures, c.push_field-2.ensures.text, c.push_field.ensures.text, c.new-text.ensures) refl
