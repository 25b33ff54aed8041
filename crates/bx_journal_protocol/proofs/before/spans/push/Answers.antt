use Rattle.std.proofs.Common.{◌≡◌, true, false, refl, arith}
use Rattle.std.specs.Prelude.{nat_lt}
use Rattle.std.proofs.lemmas.Bool.Decides.{nat_tests}
use Rattle.bx_image.specs.private.Spans.{with_span}
use Rattle.bx_journal_protocol.proofs.before.spans.push.Goals as goal

pub returns-in_ok-push : goal.returns-in_ok-push
unfolding with_span
returns-in_ok-push g c =
    let test : nat_lt c.args.at c.args.end ≡ true = grind (arith, nat_tests) in
    rw test c.in_ok-push.ensures.items

pub returns-else-at-end : goal.returns-else-at-end
unfolding with_span
returns-else-at-end g c =
    let test : nat_lt c.args.at c.args.end ≡ false = grind (arith, nat_tests) in
    rw test refl
