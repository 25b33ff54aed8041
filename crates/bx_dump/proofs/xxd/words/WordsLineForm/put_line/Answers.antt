use Rattle.std.proofs.Common.{◌≡◌, ◌+◌, ◌*◌, ◌++◌, length, take, arith, sym, ap, ◌∙◌}
use Rattle.std.proofs.lemmas.List.{take_at}
use Rattle.std.proofs.Math.Seq.{take-append-add}
use Rattle.bx_dump_columns.specs.Words.{words_text}
use Rattle.bx_dump.specs.Xxd.{address_in, behind_address}
use Rattle.bx_dump.proofs.xxd.words.WordsLineForm.put_line.Goals as goal

pub returns-clause-text : goal.returns-clause-text
returns-clause-text c =
    let p = c.args.self.now in
    let bytes = c.args.bytes.now in
    let front = c.split_at_mut-rest.result.0.now in
    let body = c.put_words_body.new.body in
    let tail = c.split_at_mut-body.result.1.now in
    let size = c.field_len.result + length bytes + 4 in
    let address : front ≡ address_in p.decimal c.args.at =
    sym (take_at front c.split_at_mut-rest.result.1.now c.put_place-front.result c.split_at_mut-rest.ensures.front_len)
    ∙ ap (take c.put_place-front.result) (sym c.split_at_mut-rest.ensures.value) ∙ c.put_place-front.ensures.text in
    ap (λ n. take (n + size) (front ++ (body ++ tail))) (sym c.split_at_mut-rest.ensures.front_len) ∙ take-append-add front (body ++ tail) size
    ∙ ap (λ t. front ++ t) (take_at body tail size (c.put_words_body.auto.body ∙ c.split_at_mut-body.ensures.front_len))
    ∙ ap (λ t. t ++ body) address ∙ ap (λ t. address_in p.decimal c.args.at ++ t) (c.put_words_body.ensures ∙ ap (λ n. behind_address (words_text p.upper p.group n bytes) bytes) p.groups)
