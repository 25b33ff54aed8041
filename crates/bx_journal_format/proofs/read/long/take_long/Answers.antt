use Rattle.std.proofs.Common.{◌++◌, subst}
use Rattle.bx_journal_format.specs.declared.read.classify.Event.TheVariants.{Saved}
use Rattle.bx_journal_format.specs.read.Event.{LeadsAs}
use Rattle.bx_journal_format.specs.Parsed.{entries_onto, stage_of}
use Rattle.bx_journal_format.proofs.LongLemmas.{leads_more}
use Rattle.bx_journal_format.proofs.ReadLemmas.{takes_saved}
use Rattle.bx_journal_format.proofs.read.long.take_long.Goals as goal

pub returns-in_ok-with_line-in-Saved : goal.returns-in_ok-with_line-in-Saved
returns-in_ok-with_line-in-Saved g c older count told at more =
    takes_saved older c.args.entries.now c.args.stage at (c.args.line.now ++ more) c.in-Saved.line c.in_ok-with_line-in-Saved.field-0 c.in_ok-with_line-in-Saved.ensures
    (leads_more (entries_onto older c.args.entries.now) (stage_of c.args.stage) c.args.line.now more (Saved c.in-Saved.line) c.requires.long
    (subst (LeadsAs (entries_onto older c.args.entries.now) (stage_of c.args.stage) c.args.line.now) c.in-Saved.is (c.in-Some.ensures older count told)))
