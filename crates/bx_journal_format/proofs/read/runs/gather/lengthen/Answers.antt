use Rattle.std.proofs.Common.{◌≡◌, ◌*◌, ◌++◌, List, ℕ, take, drop, ap, sym, ◌∙◌, subst, arith}
use Rattle.bx_journal_format.specs.read.Followed.{GoesOnBy, with_last}
use Rattle.bx_journal_format.proofs.read.runs.gather.lengthen.Goals as goal

pub returns-clause-goes_on : goal.returns-clause-goes_on
returns-clause-goes_on g c front =
    let count = c.gather-count.result in
    let window : List ℕ = c.gather-count.new.window in
    let all : c.args.bytes.items ++ take (16 * count) window ≡ c.put_behind.new.bytes.items = sym (c.in_ok-put_behind.ensures ∙ ap (λ b. b ++ c.split_at.result.0.now) c.make_room.ensures ∙ ap (λ l. c.args.bytes.items ++ l) c.split_at.ensures.front) in
    subst (λ b. GoesOnBy c.args.len (drop c.args.from c.args.window.now) (with_last front c.args.at c.args.bytes.items) (with_last front c.args.at b) count) all
    (c.gather-count.ensures.goes_on front c.args.bytes.items (omega arith))
