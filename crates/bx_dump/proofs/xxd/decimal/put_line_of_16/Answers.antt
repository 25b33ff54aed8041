use Rattle.std.proofs.Common.{◌≡◌, ◌+◌, ◌≤◌, ◌++◌, map, length, take, refl, sym, ap, ◌∙◌, arith}
use Rattle.std.specs.Prelude.{codes}
use Rattle.std.proofs.lemmas.List.{take_at}
use Rattle.std.proofs.Math.Seq.{take-append-add}
use Rattle.bx_text.specs.Dump.{shown_byte}
use Rattle.bx_dump_columns.specs.Words.{decimal_at}
use Rattle.bx_dump.specs.declared.xxd.columns.Digits.TheVariants.{Hexadecimal}
use Rattle.bx_dump.specs.private.Xxd.{columns_place}
use Rattle.bx_dump.proofs.ColumnsLemmas.{columns_are}
use Rattle.bx_dump.proofs.xxd.decimal.put_line_of_16.Goals as goal

pub returns-clause-text : goal.returns-clause-text
returns-clause-text c =
    let bytes = c.args.bytes.now in
    let front = c.split_at_mut-rest.result.0.now in
    let body = c.put_body.new.body in
    let tail = c.split_at_mut-body.result.1.now in
    let address : front ≡ decimal_at c.args.at =
    sym (take_at front c.split_at_mut-rest.result.1.now c.put_decimal_at-front.result c.split_at_mut-rest.ensures.front_len)
    ∙ ap (take c.put_decimal_at-front.result) (sym c.split_at_mut-rest.ensures.value) ∙ c.put_decimal_at-front.ensures.text in
    let fits : columns_place 2 2 (length bytes) ≤ 40 = rw c.requires.bytes (omega arith) in
    let columns = columns_are (Hexadecimal c.args.upper) 16 2 bytes c.put_sixteen.new.cells 40 4 (omega arith) fits refl refl c.put_sixteen.ensures in
    let behind = c.put_body.ensures ∙ ap (λ t. codes ": " ++ t ++ codes " " ++ map shown_byte bytes ++ codes "\n") columns in
    ap (λ n. take (n + 60) (front ++ (body ++ tail))) (sym c.split_at_mut-rest.ensures.front_len) ∙ take-append-add front (body ++ tail) 60
    ∙ ap (λ t. front ++ t) (take_at body tail 60 (c.put_body.auto.body ∙ c.split_at_mut-body.ensures.front_len))
    ∙ (λ i. address i ++ behind i)
