use Rattle.std.proofs.Common.{◌≡◌, ◌+◌, ◌++◌, take, sym, ap, ◌∙◌}
use Rattle.std.proofs.lemmas.List.{take_at}
use Rattle.std.proofs.Math.Seq.{take-append-add}
use Rattle.bx_dump_columns.specs.Words.{decimal_at}
use Rattle.bx_dump.proofs.xxd.decimal.DecimalLineForm.put_line.Goals as goal

pub returns-clause-text : goal.returns-clause-text
returns-clause-text c =
    let front = c.split_at_mut-rest.result.0.now in
    let rest = c.put_behind.new.text in
    let address : front ≡ decimal_at c.args.at =
    sym (take_at front c.split_at_mut-rest.result.1.now c.put_decimal_at-front.result c.split_at_mut-rest.ensures.front_len)
    ∙ ap (take c.put_decimal_at-front.result) (sym c.split_at_mut-rest.ensures.value) ∙ c.put_decimal_at-front.ensures.text in
    ap (λ n. take (n + c.put_behind.result) (front ++ rest)) (sym c.split_at_mut-rest.ensures.front_len) ∙ take-append-add front rest c.put_behind.result
    ∙ ap (λ t. t ++ take c.put_behind.result rest) address ∙ ap (λ t. decimal_at c.args.at ++ t) c.put_behind.ensures.text
