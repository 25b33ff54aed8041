use Rattle.std.proofs.Common.{[]}
use Rattle.std.proofs.lemmas.Result.{MatchResult-weaker}
use Rattle.bx_read.proofs.PlainLemmas.{plain_few}
use Rattle.bx_read.proofs.plain.read_plain.Goals as goal

pub returns-clause-exact : goal.returns-clause-exact
returns-clause-exact g c = c.finish.ensures.exact c.args.text.now (c.read_window.ensures.read [] c.in_ok-read.ensures.read)

pub returns-clause-few : goal.returns-clause-few
returns-clause-few g c =
    let text = c.args.text.now in
    MatchResult-weaker c.finish.result (c.finish.ensures.exact text (c.read_window.ensures.read [] c.in_ok-read.ensures.read))
    (λ v are. plain_few text v.items are) (λ _ _. tt)
