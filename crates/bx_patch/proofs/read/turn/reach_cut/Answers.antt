use Rattle.std.proofs.Common.{drop, refl}
use Rattle.bx_read.specs.Text.{contents}
use Rattle.bx_patch.proofs.WalkLemmas.{cut_is}
use Rattle.bx_patch.proofs.read.turn.reach_cut.Goals as goal

pub returns-in-None : goal.returns-in-None
returns-in-None g c = rw c.in-None.is (λ is i cut. absurd cut, λ all. refl)

pub returns-in-Some : goal.returns-in-Some
returns-in-Some g c =
    let pieces = c.args.pieces.now in
    rw c.in-Some.is (cut_is (contents pieces) c.in-Some.lengths.old c.in-Some.lengths.new (contents (drop c.run_on.result.next pieces), c.run_on.result.end) c.requires.order c.run_on.ensures.run)
