use Rattle.std.proofs.Common.{◌+◌, ◌-◌, ◌≤◌, ◌++◌, length, map, replicate, take, codes, sym, ap, ◌∙◌, append_assoc, arith}
use Rattle.bx_text.specs.Dump.{shown_byte}
use Rattle.bx_dump.proofs.RowLemmas.{parts_of}
use Rattle.bx_dump.proofs.od.row.put_text_behind.Goals as goal

pub returns-clause-text : goal.returns-clause-text
returns-clause-text c =
    let end = c.fill_up-end.result in
    let page = c.fill_up-end.new.page in
    let bytes = c.args.bytes.now in
    let n = length bytes + 5 in
    let front = take c.args.used c.args.page.now ++ replicate (c.args.wide - c.args.used) 32 in
    let shown = map shown_byte bytes in
    let within : end ≤ length page = omega (arith, c.fill_up-end.ensures.value, c.fill_up-end.auto.page, c.requires.used, c.requires.wide) in
    let fits : n ≤ length page - end = omega (arith, c.fill_up-end.ensures.value, c.fill_up-end.auto.page, c.requires.used, c.requires.wide) in
    parts_of page c.put_marked.new.text end n front (codes "  >" ++ shown ++ codes "<\n") within fits c.put_marked.auto.text c.fill_up-end.ensures.text c.put_marked.ensures
    ∙ sym (append_assoc front (codes "  >" ++ shown) (codes "<\n")) ∙ ap (λ t. t ++ codes "<\n") (sym (append_assoc front (codes "  >") shown))
