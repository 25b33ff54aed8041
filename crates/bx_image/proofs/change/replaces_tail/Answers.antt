use Rattle.std.proofs.Common.{arith, ◌≡◌, ◌<◌, ◌≤◌, ◌-◌, length, get_or}
use Rattle.std.proofs.lemmas.Bool.Decides.{nat_tests}
use Rattle.std.proofs.lemmas.Grind.{common_steps}
use Rattle.bx_image.proofs.Changes.{replaced}
use Rattle.bx_image.proofs.change.replaces_tail.Goals as goal

pub returns-then-base-len-clause-same : goal.returns-then-base-len-clause-same
returns-then-base-len-clause-same g c faithful reaches =
    let some : 0 < length c.args.change.now.writes = grind (arith, common_steps) in
    let read : c.in-Some-first.write.now ≡ get_or c.args.change.now.writes 0 c.in-Some-first.write.now = grind (arith, common_steps) in
    let at : c.in-Some-first.write.now.at ≡ c.in-Some.base = grind (arith, nat_tests) in
    let low : c.in-Some.base ≤ length (g.D.Device.image c.args.device.now) = grind (arith, nat_tests) in
    let high : length (g.D.Device.image c.args.device.now) - c.in-Some.base ≤ length c.in-Some-first.write.now.bytes = grind (arith, nat_tests) in
    replaced _ c.in-Some-first.write.now _ c.in-Some.base c.in-Some.is some read at low high
