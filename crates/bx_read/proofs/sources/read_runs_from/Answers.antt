use Rattle.std.proofs.Common.{[], arith}
use Rattle.std.proofs.lemmas.Result.{MatchResult-weaker}
use Rattle.bx_read.proofs.WindowLemmas.{runs_near}
use Rattle.bx_read.proofs.sources.read_runs_from.Goals as goal

pub finish-runs-requires : goal.finish-runs-requires
finish-runs-requires g c = record { countable = omega (arith, c.in-Ok-read_all.ensures.countable) }

pub returns-clause-runs : goal.returns-clause-runs
returns-clause-runs g c = let text = c.in-Ok-read_all.ensures.text in (text.0, rw c.give_up_refused.ensures.reader text.1, text.2, c.finish-runs.ensures.exact text.0 text.3)

pub returns-clause-near : goal.returns-clause-near
returns-clause-near g c =
    let text = c.in-Ok-read_all.ensures.text in
    MatchResult-weaker c.finish-runs.result (c.finish-runs.ensures.exact text.0 text.3) (λ v are. runs_near text.0 v.items are) (λ _ _. tt)

pub returns-clause-none_left : goal.returns-clause-none_left
returns-clause-none_left g c = λ ended. c.finish-runs.ensures.exact [] (c.in-Ok-read_all.ensures.none_left ended)
