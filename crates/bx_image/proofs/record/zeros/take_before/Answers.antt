use Rattle.std.proofs.Common.{◌≡◌, refl, arith}
use Rattle.bx_image.proofs.ZeroLemmas.{taken_over, put_back, within_back}
use Rattle.bx_image.proofs.record.zeros.take_before.Goals as goal

pub returns-then-last-base-clause-over : goal.returns-then-last-base-clause-over
returns-then-last-base-clause-over g c i = taken_over c.args.spans.now.items c.pop.new.self.items c.in-Some.last c.args.base i c.in-Some.ensures.items c.if-last-base.true

pub returns-clause-over : goal.returns-clause-over
returns-clause-over g c i = put_back c.args.spans.now.items c.pop.new.self.items c.push.new.spans.items c.in-Some.last c.args.base i c.in-Some.ensures.items c.in_ok-push.ensures

pub returns-clause-within : goal.returns-clause-within
returns-clause-within g c len within =
    (within_back len c.args.spans.now.items c.pop.new.self.items c.push.new.spans.items c.in-Some.last c.in-Some.ensures.items c.in_ok-push.ensures within, omega arith, λ less. omega (arith, less))
