use Rattle.std.proofs.Common.{◌++◌, ◌∙◌, length, true, false, refl, ap, arith}
use Rattle.bx_read.proofs.RunLemmas.{test_is}
use Rattle.bx_read.proofs.WindowLemmas.{push_first, push_apart, push_joined}
use Rattle.bx_read.proofs.window.joining.push_run.Goals as goal

pub returns-in_default-clause-joins : goal.returns-in_default-clause-joins
returns-in_default-clause-joins g c =
    push_first c.args.runs.now.items c.pop.new.self.items c.push.new.self.items c.args.run c.in_default.ensures.items (grind (arith, c.pop.new.self.ok, c.in_default.ensures.cases)) c.in_ok-push.ensures.items

pub returns-then-not-goes_on-clause-joins : goal.returns-then-not-goes_on-clause-joins
returns-then-not-goes_on-clause-joins g c =
    let last = c.in-Some.last in
    let goes = test_is c.goes_on.result false c.args.run.at last.at (length c.as_slice.result.now) c.args.run.at (length last.bytes) c.goes_on.ensures c.if-not-goes_on.true refl (ap length c.as_slice.ensures) in
    push_apart c.args.runs.now.items c.pop.new.self.items c.push-then-not-goes_on-2.new.self.items c.args.run last c.in-Some.ensures.items
    c.push-then-not-goes_on.new.self.items c.in_ok-push-2.ensures.items c.in_ok-push-3.ensures.items goes

pub returns-clause-joins : goal.returns-clause-joins
returns-clause-joins g c =
    let last = c.in-Some.last in
    let goes = test_is c.goes_on.result true c.args.run.at last.at (length c.as_slice.result.now) c.args.run.at (length last.bytes) c.goes_on.ensures c.if-not-goes_on.false refl (ap length c.as_slice.ensures) in
    let made = c.in_ok-longer.ensures.longer in
    push_joined c.args.runs.now.items c.pop.new.self.items c.push-2.new.self.items c.args.run last c.in-Some.ensures.items c.in_ok-longer.field-0
    made.0 (made.1 ∙ ap (λ b. last.bytes ++ b) c.as_slice-2.ensures) c.in_ok-push-4.ensures.items goes
