use Rattle.test_cache.specs.Cached.{MayBeFound}
use Rattle.test_cache.proofs.Losses.{resized_more}
use Rattle.test_cache.proofs.laws.resize_loses_no_more.Goals as goal

pub returns : goal.returns
returns g c faithful synced earlier more = λ x there.
    let step = c.resize.ensures in
    resized_more c.args.n (g.F.RandomAccess.content c.args.file.now) x (g.F.RandomAccess.survives c.args.file.now) (MayBeFound synced earlier) more (record {
      below = step.survives faithful x there;
      fades = λ fits m longer all. (step.fades faithful fits).fade m longer all x there;
    })
