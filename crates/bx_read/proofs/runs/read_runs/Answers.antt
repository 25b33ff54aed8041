use Rattle.std.proofs.lemmas.Result.{MatchResult-weaker}
use Rattle.bx_read.proofs.RunLemmas.{pieces_are, all_near}
use Rattle.bx_read.proofs.runs.read_runs.Goals as goal

pub returns-clause-exact : goal.returns-clause-exact
returns-clause-exact g c = MatchResult-weaker c.gather_runs.result c.gather_runs.ensures (λ v e. pieces_are c.args.text.now v.items e) (λ _ _. tt)

pub returns-clause-fault : goal.returns-clause-fault
returns-clause-fault g c = MatchResult-weaker c.gather_runs.result c.gather_runs.ensures (λ _ _. tt) (λ _ is. is)

pub returns-clause-near : goal.returns-clause-near
returns-clause-near g c = MatchResult-weaker c.gather_runs.result c.gather_runs.ensures (λ v e. all_near c.args.text.now v.items e) (λ _ _. tt)
