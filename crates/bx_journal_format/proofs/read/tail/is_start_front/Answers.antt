use Rattle.std.proofs.Common.{◌≡◌, suc, length, sym, ◌∙◌, ap, None, subst, true}
use Rattle.bx_journal_format.specs.Line.{start_head, start_line, address_width}
use Rattle.bx_journal_format.specs.count.Front.{IsNumberFront}
use Rattle.bx_journal_format.specs.Parsed.{told_by}
use Rattle.bx_journal_format.proofs.FrontLemmas.{told_none}
use Rattle.bx_journal_format.proofs.read.tail.is_start_front.Goals as goal

pub returns-in-None : goal.returns-in-None
unfolding start_line
returns-in-None c es counted told =
    let v = c.args.version in
    let head : c.as_bytes.result.now ≡ start_head c.args.version (suc (length es)) = c.as_bytes.ensures.value ∙ c.start_head.ensures.text ∙ ap (start_head c.args.version) (sym counted) in
    let none : None ≡ told_by es = sym c.in-None.is ∙ told in
    let is = subst (λ h. (c.is_number_front.result ≡ true → IsNumberFront h (address_width v) c.args.rest.now) × (IsNumberFront h (address_width v) c.args.rest.now → c.is_number_front.result ≡ true)) head
    (subst (λ w. (c.is_number_front.result ≡ true → IsNumberFront c.as_bytes.result.now w c.args.rest.now) × (IsNumberFront c.as_bytes.result.now w c.args.rest.now → c.is_number_front.result ≡ true)) c.width_of-width.ensures c.is_number_front.ensures) in
    ((λ h. let f = is.0 h in (f.0, f.1, f.2, told_none es f.0 none, f.3)), λ f. is.1 (f.0, f.1, f.2, f.4))
