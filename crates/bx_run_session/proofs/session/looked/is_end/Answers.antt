use Rattle.std.proofs.Common.{◌≡◌, ◌∙◌, length, sym, arith}
use Rattle.bx_run_session.proofs.LookLemmas.{behind_first, ends_line}
use Rattle.bx_run_session.proofs.session.looked.is_end.Goals as goal

pub returns-then-newline-eq10 : goal.returns-then-newline-eq10
returns-then-newline-eq10 c some =
    let differs = c.if-bytes-ne-LAST.false in
    let long : length c.args.bytes.now ≡ 33 = omega (arith, differs) in
    ends_line c.args.bytes.now _ c.end_of.result
    (behind_first c.args.bytes.now _ _ c.split_at.ensures.front c.split_at.ensures.back long c.if-newline-eq10.true) long
    c.end_of.ensures.some (sym c.is_some.ensures ∙ some)
