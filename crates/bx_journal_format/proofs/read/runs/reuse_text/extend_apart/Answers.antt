use Rattle.std.proofs.Common.{◌≡◌, ◌*◌, ◌≤◌, [], length, drop, ap, subst, arith, length-drop}
use Rattle.bx_journal_format.specs.read.Followed.{GoesOnBy, with_last}
use Rattle.bx_journal_format.proofs.read.runs.reuse_text.extend_apart.Goals as goal

pub overflow_mul-count : goal.overflow_mul-count
overflow_mul-count g c =
    let within : 68 * c.in_ok-count.count ≤ length c.rest_of.result.now = (c.in_ok-count.ensures []).within in
    let rest : length c.rest_of.result.now ≡ length (drop c.args.text.from c.args.text.bytes.items) = ap length c.rest_of.ensures in
    omega (arith, within, rest, length-drop c.args.text.from c.args.text.bytes.items, c.args.text.bytes.ok.0, c.args.text.bytes.ok.1, c.args.text.bytes.small)

pub behind-text-requires : goal.behind-text-requires
behind-text-requires g c = subst (λ rest. 68 * c.in_ok-count.count ≤ length rest) c.rest_of.ensures (c.in_ok-count.ensures []).within

pub returns-clause-goes_on : goal.returns-clause-goes_on
returns-clause-goes_on g c front =
    subst (λ rest. GoesOnBy c.args.len rest (with_last front c.args.at c.args.bytes.items) (with_last front c.args.at c.extend_run.new.bytes.items) c.in_ok-count.count) c.rest_of.ensures (c.in_ok-count.ensures front)
