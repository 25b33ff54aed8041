use Rattle.std.proofs.Common.{◌≡◌, ◌<◌, length, get_or, arith}
use Rattle.std.proofs.lemmas.Grind.{common_steps}
use Rattle.bx_patch.proofs.UntouchedLemmas.{untouched_more, untouched_all}
use Rattle.bx_patch.proofs.preview.untouched.until_changes.Goals as goal

pub loop-change-init : goal.loop-change-init
loop-change-init g c = record { most = omega arith; untouched = λ j above below out. out }

pub until_change-until-requires : goal.until_change-until-requires
until_change-until-requires g c = record {
  ordered = λ is. rw c.change-item.is (c.args.known.now.order is c.loop-change.change-index c.change-item.result c.loop-change-test.true);
  index = λ is. rw c.change-item.is (c.args.known.now.found is c.loop-change.change-index c.change-item.result c.loop-change-test.true);
}

pub loop-change-preserved : goal.loop-change-preserved
loop-change-preserved g c =
    let read : c.change-item.result ≡ get_or c.args.known.now.changes.now c.loop-change.change-index c.change-item.result = c.change-item.is in
    let within : c.loop-change.change-index < length c.args.known.now.changes.now = grind (arith, common_steps) in
    record {
      most = omega (arith, c.until_change-until.ensures.most, c.loop-change.invariant.most);
      untouched = λ j above below rest.
          c.loop-change.invariant.untouched j above (omega (arith, c.until_change-until.ensures.most, below))
          (untouched_more c.args.known.now.changes.now c.loop-change.change-index c.change-item.result j within read (c.until_change-until.ensures.untouched j above below) rest);
    }

pub returns-clause-untouched : goal.returns-clause-untouched
returns-clause-untouched g c j above below =
    c.loop-change.invariant.untouched j above below (untouched_all c.args.known.now.changes.now c.loop-change.change-index j (grind (arith, common_steps)))
