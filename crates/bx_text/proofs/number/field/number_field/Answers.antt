use Rattle.bx_text.proofs.FieldLemmas.{filled}
use Rattle.bx_text.proofs.number.field.number_field.Goals as goal

pub returns : goal.returns
returns c = rw (c.push_all.ensures, c.new-field.ensures, c.put_digits-first.ensures.digits)
    (filled 22 c.args.fill c.args.width c.put_digits-first.result c.min-start.result _ c.put_digits-first.ensures.first c.requires c.min-start.ensures)
