use Rattle.std.proofs.Common.{◌≡◌, ◌∙◌, rules}
use Rattle.std.specs.Prelude.{codes, decimal}
use Rattle.bx_run_session.proofs.Lines.{after_first, stops_first}
use Rattle.bx_run_session.proofs.session.moves.put_number.Goals as goal

pub returns-in-Err-clause-err : goal.returns-in-Err-clause-err
returns-in-Err-clause-err g c old =
    let bytes : c.as_bytes.result.now ≡ decimal c.args.number = c.as_bytes.ensures.value ∙ c.digits_of-digits.ensures in
    stops_first (decimal c.args.number) (codes "\n") _ _ _ (rw bytes at (c.in-Err.ensures.err old))

pub returns-in-Ok-clause-err : goal.returns-in-Ok-clause-err
returns-in-Ok-clause-err g c old =
    let bytes : c.as_bytes.result.now ≡ decimal c.args.number = c.as_bytes.ensures.value ∙ c.digits_of-digits.ensures in
    after_first _ _ (decimal c.args.number) (codes "\n") _ _ _ (rw bytes at (c.in-Ok.ensures.ok old)) (search rules)
    (c.put-in-Ok.ensures.err (c.put.ensures.faith.1 old))
