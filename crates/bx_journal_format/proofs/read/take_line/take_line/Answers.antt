use Rattle.std.proofs.Common.{◌≡◌, None, subst}
use Rattle.bx_journal_format.specs.Text.{next_at}
use Rattle.bx_journal_format.specs.read.Event.{LeadsAs}
use Rattle.bx_journal_format.specs.Parsed.{entries_onto, stage_of}
use Rattle.bx_journal_format.proofs.ReadLemmas.{takes_begun, takes_saved, takes_complete, takes_committed}
use Rattle.bx_journal_format.proofs.read.take_line.take_line.Goals as goal

pub returns-in_default : goal.returns-in_default
returns-in_default g c older count told = record {
  leads = subst (λ fs. next_at (entries_onto older fs) (stage_of c.args.stage) c.args.line.now ≡ None) c.deref.ensures.value (c.in_default.ensures older count told);
  marked = λ text after marked mark is. tt;
}

pub returns-in_ok-runs-in-Begun : goal.returns-in_ok-runs-in-Begun
returns-in_ok-runs-in-Begun g c older count told =
    takes_begun older c.args.entries.now.items c.args.stage c.args.at c.args.line.now c.in-Begun.version c.in-Begun.len c.in_ok-runs-in-Begun.runs c.in_ok-runs-in-Begun.ensures
    (subst (LeadsAs (entries_onto older c.args.entries.now.items) (stage_of c.args.stage) c.args.line.now) c.in-Begun.is
    (subst (λ fs. LeadsAs (entries_onto older fs) (stage_of c.args.stage) c.args.line.now c.in-Some.event) c.deref.ensures.value (c.in-Some.ensures older count told)))

pub returns-in_ok-with_line-in-Saved : goal.returns-in_ok-with_line-in-Saved
returns-in_ok-with_line-in-Saved g c older count told =
    takes_saved older c.args.entries.now.items c.args.stage c.args.at c.args.line.now c.in-Saved.line c.in_ok-with_line-in-Saved.field-0 c.in_ok-with_line-in-Saved.ensures
    (subst (LeadsAs (entries_onto older c.args.entries.now.items) (stage_of c.args.stage) c.args.line.now) c.in-Saved.is
    (subst (λ fs. LeadsAs (entries_onto older fs) (stage_of c.args.stage) c.args.line.now c.in-Some.event) c.deref.ensures.value (c.in-Some.ensures older count told)))

pub returns-in-Complete : goal.returns-in-Complete
returns-in-Complete g c older count told =
    takes_complete older c.args.entries.now.items c.args.stage c.args.at c.args.line.now c.in-Complete.version c.completed.result c.completed.ensures
    (subst (LeadsAs (entries_onto older c.args.entries.now.items) (stage_of c.args.stage) c.args.line.now) c.in-Complete.is
    (subst (λ fs. LeadsAs (entries_onto older fs) (stage_of c.args.stage) c.args.line.now c.in-Some.event) c.deref.ensures.value (c.in-Some.ensures older count told)))

pub returns-in_ok-finish-in-Committed : goal.returns-in_ok-finish-in-Committed
returns-in_ok-finish-in-Committed g c older count told =
    takes_committed older c.args.entries.now.items c.args.stage c.args.at c.args.line.now c.in-Committed.after c.finish.new.entries.items c.in_ok-finish-in-Committed.ensures
    (subst (LeadsAs (entries_onto older c.args.entries.now.items) (stage_of c.args.stage) c.args.line.now) c.in-Committed.is
    (subst (λ fs. LeadsAs (entries_onto older fs) (stage_of c.args.stage) c.args.line.now c.in-Some.event) c.deref.ensures.value (c.in-Some.ensures older count told)))
