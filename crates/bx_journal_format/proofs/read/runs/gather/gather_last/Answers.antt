use Rattle.std.proofs.Common.{map, drop, ap, ◌∙◌}
use Rattle.bx_journal_format.specs.read.Followed.{with_last}
use Rattle.bx_journal_format.specs.Kept.{run_of}
use Rattle.bx_journal_format.proofs.FollowLemmas.{last_goes_on}
use Rattle.bx_journal_format.proofs.read.runs.gather.gather_last.Goals as goal

pub returns-clause-goes_on : goal.returns-clause-goes_on
returns-clause-goes_on g c =
    last_goes_on c.args.len (drop c.args.from c.args.window.now) c.args.runs.now.items c.pop.new.self.items c.push.new.runs.items c.in-Some.last c.into_vec.result.items c.in_ok-bytes.field-0.bytes.items c.in_ok-bytes.field-0.gathered.count
    c.in-Some.ensures.items c.into_vec.ensures (c.in_ok-push.ensures ∙ ap (λ b. with_last (map run_of c.pop.new.self.items) c.in-Some.last.at b) c.from_vec-bytes.ensures) c.in_ok-bytes.ensures.goes_on
