use Rattle.std.proofs.lemmas.Result.{MatchResult-weaker}
use Rattle.bx_read.proofs.DumpLemmas.{all_small, count_small, bytes_small}
use Rattle.bx_read.proofs.dump.read_dump.Goals as goal

pub returns-clause-pieces : goal.returns-clause-pieces
returns-clause-pieces g c = MatchResult-weaker c.gather.result c.gather.ensures (λ v e. all_small c.args.text.now v.items e) (λ _ _. tt)

pub returns-clause-count : goal.returns-clause-count
returns-clause-count g c = MatchResult-weaker c.gather.result c.gather.ensures (λ v e. count_small c.args.text.now v.items e) (λ _ _. tt)

pub returns-clause-bytes : goal.returns-clause-bytes
returns-clause-bytes g c = MatchResult-weaker c.gather.result c.gather.ensures (λ v e. bytes_small c.args.text.now v.items e) (λ _ _. tt)
