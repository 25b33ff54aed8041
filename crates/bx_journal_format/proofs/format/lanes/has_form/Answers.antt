use Rattle.std.proofs.Common.{◌≡◌, true, get_or, subst}
use Rattle.std.proofs.lemmas.List.{get_or-take}
use Rattle.bx_journal_format.specs.Form.{fits}
use Rattle.bx_journal_format.proofs.format.lanes.has_form.Goals as goal

pub returns : goal.returns
returns c is k inside =
    subst (λ b. fits b (get_or c.args.form k 0) ≡ true) (get_or-take 16 c.args.text.now k 0 inside) (c.off_form.ensures k inside (c.are_zero.ensures is k inside))
