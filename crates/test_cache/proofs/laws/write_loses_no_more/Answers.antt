use Rattle.test_cache.specs.Cached.{MayBeFound}
use Rattle.test_cache.proofs.Losses.{written_more}
use Rattle.test_cache.proofs.laws.write_loses_no_more.Goals as goal

pub returns : goal.returns
returns g c faithful synced earlier more = λ x there.
    let step = c.write_some.ensures in
    written_more c.args.at c.args.bytes.now (g.F.RandomAccess.content c.args.file.now) x (g.F.RandomAccess.survives c.args.file.now) (MayBeFound synced earlier) more (record {
      outside = step.survives faithful x there;
      fades = λ is n rest all. (step.fades faithful is).fade n rest all x there;
    })
