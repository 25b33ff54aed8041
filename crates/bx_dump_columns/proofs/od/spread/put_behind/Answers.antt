use Rattle.std.proofs.Common.{◌≡◌, ◌+◌, ◌++◌, length, take, replicate, sym, ap, ◌∙◌}
use Rattle.std.proofs.Math.Seq.{take-append-add}
use Rattle.bx_dump_columns.proofs.od.spread.put_behind.Goals as goal

pub returns-clause-text : goal.returns-clause-text
returns-clause-text c =
    let front = c.fill.new.self in
    let value = c.put_next.new.text in
    let n = c.args.blanks in
    let used = c.put_next.result in
    let is : front ≡ replicate n 32 = c.fill.ensures.after (λ y e. e) ∙ ap (λ m. replicate m 32) c.split_at_mut-front.ensures.front_len in
    let long : length front ≡ n = c.fill.ensures.len ∙ c.split_at_mut-front.ensures.front_len in
    ap (λ m. take (m + used) (front ++ value)) (sym long) ∙ take-append-add front value used
    ∙ ap (λ t. t ++ take used value) is ∙ ap (λ t. replicate n 32 ++ t) c.put_next.ensures.text
