use Rattle.std.proofs.Common.{◌≡◌, ◌∷◌, ◌++◌, [], arith, subst, sym}
use Rattle.std.proofs.lemmas.Grind.{common_steps}
use Rattle.bx_journal_format.specs.declared.read.types.EntryRead.{EntryRead}
use Rattle.bx_journal_format.specs.read.TakeLine.{IsFinishedBy}
use Rattle.bx_journal_format.proofs.ReadLemmas.{entry_finished}
use Rattle.bx_journal_format.proofs.read.take_line.finish.Goals as goal

pub returns : goal.returns
returns g c =
    let e : EntryRead g.row.A.Denot = record { version = c.in-Ending.version; kept = c.in-Ending.kept; after = c.args.after; begins = c.in-Ending.begins; saved = c.in-Ending.saved } in
    let items : c.push.new.self.items ≡ c.args.entries.now.items ++ e ∷ [] = grind (arith, common_steps) in
    subst (λ s. IsFinishedBy c.args.entries.now.items s c.args.after c.push.new.self.items) (sym c.in-Ending.is) (entry_finished c.args.entries.now.items c.push.new.self.items e items)
