use Rattle.std.proofs.Common.{◌≤◌, subst, arith}
use Rattle.std.specs.Prelude.{All}
use Rattle.std.proofs.lemmas.Grind.{common_steps}
use Rattle.std.proofs.lemmas.List.{take_all}
use Rattle.bx_journal_format.specs.declared.read.types.EntryRead.{EntryRead}
use Rattle.bx_journal_model.proofs.LongestLemmas.{longest_more}
use Rattle.bx_journal_protocol.proofs.before.records.longest_of.Goals as goal

pub loop-entry-preserved : goal.loop-entry-preserved
loop-entry-preserved g c =
    let most : (c.loop-entry.longest ≤ c.max-longest.result) × (c.entry-item.result.kept.len ≤ c.max-longest.result) = (grind (arith, common_steps), grind (arith, common_steps)) in
    longest_more c.args.entries.now c.loop-entry.entry-index c.entry-item.result c.loop-entry.longest c.max-longest.result c.loop-entry-test.true c.entry-item.is c.loop-entry.invariant most.0 most.1

pub returns : goal.returns
returns g c = subst (All (λ (e : EntryRead g.row.A.Denot). e.kept.len ≤ c.loop-entry.longest)) (take_all c.loop-entry.entry-index c.args.entries.now (omega arith)) c.loop-entry.invariant
