use Rattle.std.proofs.Common.{◌≤◌, subst, arith}
use Rattle.std.specs.Prelude.{All}
use Rattle.std.proofs.lemmas.Grind.{common_steps}
use Rattle.std.proofs.lemmas.List.{take_all}
use Rattle.bx_journal_format.specs.declared.read.types.EntryRead.{EntryRead}
use Rattle.bx_journal_protocol.proofs.Behind.{least_more}
use Rattle.bx_journal_protocol.proofs.before.overwritten.least_of.Goals as goal

pub loop-entry-preserved : goal.loop-entry-preserved
loop-entry-preserved g c =
    let inv = c.loop-entry.invariant in
    let less : (c.min-least.result ≤ c.loop-entry.least) × (c.min-least.result ≤ c.entry-item.result.kept.len) = (grind (arith, common_steps), grind (arith, common_steps)) in
    record {
      least = least_more c.args.entries.now c.loop-entry.entry-index c.entry-item.result c.loop-entry.least c.min-least.result c.loop-entry-test.true c.entry-item.is inv.least less.0 less.1;
      most = omega (arith, less.0, inv.most);
    }

pub returns-clause-least : goal.returns-clause-least
returns-clause-least g c = subst (All (λ (e : EntryRead g.row.A.Denot). c.loop-entry.least ≤ e.kept.len)) (take_all c.loop-entry.entry-index c.args.entries.now (omega arith)) c.loop-entry.invariant.least
