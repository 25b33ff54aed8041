use Rattle.std.proofs.Common.{arith}
use Rattle.bx_patch.proofs.UntouchedLemmas.{same_behind}
use Rattle.bx_patch.proofs.preview.untouched.UntouchedAlike.same_until.Goals as goal

pub returns : goal.returns
returns g c = record {
  same = λ x y known j above below.
      let untouched = c.args.self.now in
      same_behind untouched.changes.now untouched.before x y j known (omega (arith, c.until_changes.ensures.most, below)) (c.until_changes.ensures.untouched j above below);
}
