use Rattle.std.proofs.Common.{refl}
use Rattle.bx_journal_image.specs.Line.{image_line}
use Rattle.bx_journal_image.proofs.line.form.write_line.Goals as goal

pub returns : goal.returns
unfolding image_line
returns c =
    rw (
      c.push_all.ensures,
      c.push_marks.ensures.text,
      c.push_field-10.ensures.text,
      c.push_field-9.ensures.text,
      c.push_field-8.ensures.text,
      c.push_field-7.ensures.text,
      c.push_field-6.ensures.text,
      c.push_field-5.ensures.text,
      c.push_field-4.ensures.text,
      c.push_field-3.ensures.text,
      c.push_field-2.ensures.text,
      c.push_field.ensures.text,
      c.new-text.ensures,
    ) refl
