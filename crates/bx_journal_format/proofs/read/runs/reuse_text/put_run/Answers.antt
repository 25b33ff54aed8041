use Rattle.std.proofs.Common.{◌+◌, ◌*◌, length, take, drop, ◌∙◌, subst, arith}
use Rattle.bx_journal_format.specs.read.Followed.{GoesOnBy, with_last}
use Rattle.bx_journal_format.proofs.OverLemmas.{IsPutOver, over_behind, first_is}
use Rattle.bx_journal_format.proofs.read.runs.reuse_text.put_run.Goals as goal

pub returns-clause-first : goal.returns-clause-first
returns-clause-first c =
    let put : IsPutOver c.args.text.now 0 c.args.first.now c.put_over.new.text = record { within = omega (arith, c.requires.order, c.requires.within); is = c.put_over.ensures } in
    c.extend_over.ensures.kept ∙ first_is c.args.text.now c.args.first.now c.put_over.new.text put

pub returns-clause-goes_on : goal.returns-clause-goes_on
returns-clause-goes_on c front =
    let put : IsPutOver c.args.text.now 0 c.args.first.now c.put_over.new.text = record { within = omega (arith, c.requires.order, c.requires.within); is = c.put_over.ensures } in
    let new = with_last front c.args.at (take (length c.args.first.now + 16 * c.extend_over.result) c.extend_over.new.text) in
    subst (λ rest. GoesOnBy c.args.len rest (with_last front c.args.at c.args.first.now) new c.extend_over.result)
    (over_behind c.args.text.now 0 c.args.first.now c.put_over.new.text c.args.from put (omega (arith, c.requires.order)))
    (subst (λ run. GoesOnBy c.args.len (drop c.args.from c.put_over.new.text) (with_last front c.args.at run) new c.extend_over.result)
    (first_is c.args.text.now c.args.first.now c.put_over.new.text put) (c.extend_over.ensures.goes_on front))

pub returns-clause-left : goal.returns-clause-left
returns-clause-left c =
    let put : IsPutOver c.args.text.now 0 c.args.first.now c.put_over.new.text = record { within = omega (arith, c.requires.order, c.requires.within); is = c.put_over.ensures } in
    c.extend_over.ensures.left ∙ over_behind c.args.text.now 0 c.args.first.now c.put_over.new.text (c.args.from + 68 * c.extend_over.result) put (omega (arith, c.requires.order))
