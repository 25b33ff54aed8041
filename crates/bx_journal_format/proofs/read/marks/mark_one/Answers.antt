use Rattle.std.proofs.Common.{ap, ◌∙◌, subst}
use Rattle.bx_journal_format.specs.declared.read.classify.Event.TheVariants.{Begun, Saved, Complete, Committed}
use Rattle.bx_journal_format.specs.declared.read.rows.Summed.{Summed}
use Rattle.bx_journal_format.specs.read.Event.{LeadsAs, run_in}
use Rattle.bx_journal_format.specs.count.Rows.{summed_behind}
use Rattle.bx_journal_format.proofs.MarkLemmas.{marked_start, marked_line, marked_save, marked_end}
use Rattle.bx_journal_format.proofs.SumLemmas.{sums_to}
use Rattle.bx_journal_format.proofs.read.marks.mark_one.Goals as goal

pub returns-in-Begun : goal.returns-in-Begun
returns-in-Begun c text marks h plain long =
    let e = Begun c.in-Begun.version c.in-Begun.len in
    let to = subst (LeadsAs h.reading.entries h.reading.stage c.args.line.now) c.in-Begun.is (c.in_ok-event.ensures h.reading (ap (λ (s : Summed). s.tally) h.is)) in
    let sums = sums_to h.reading c.args.now.sums c.in_ok-sums.sums c.args.line.now e h.is (c.in_ok-sums.ensures ∙ ap (summed_behind c.args.now.sums) c.in-Begun.is) to in
    marked_start text c.args.line.now marks c.args.now c.in_ok-sums.sums h plain sums c.in-Begun.version c.in-Begun.len c.args.after to.is.0 to.is.1 long

pub returns-in-Saved : goal.returns-in-Saved
returns-in-Saved c text marks h plain long =
    let e = Saved c.in-Saved.line in
    let to = subst (LeadsAs h.reading.entries h.reading.stage c.args.line.now) c.in-Saved.is (c.in_ok-event.ensures h.reading (ap (λ (s : Summed). s.tally) h.is)) in
    let sums = sums_to h.reading c.args.now.sums c.in_ok-sums.sums c.args.line.now e h.is (c.in_ok-sums.ensures ∙ ap (summed_behind c.args.now.sums) c.in-Saved.is) to in
    marked_line text c.args.line.now marks c.args.now c.in_ok-sums.sums h plain sums to.is.0 to.is.1 (run_in c.in-Saved.line) c.args.after to.is.2 to.is.3 to.is.4 long

pub returns-in-Complete : goal.returns-in-Complete
returns-in-Complete c text marks h plain long =
    let e = Complete c.in-Complete.version in
    let to = subst (LeadsAs h.reading.entries h.reading.stage c.args.line.now) c.in-Complete.is (c.in_ok-event.ensures h.reading (ap (λ (s : Summed). s.tally) h.is)) in
    let sums = sums_to h.reading c.args.now.sums c.in_ok-sums.sums c.args.line.now e h.is (c.in_ok-sums.ensures ∙ ap (summed_behind c.args.now.sums) c.in-Complete.is) to in
    marked_save text c.args.line.now marks c.args.now c.in_ok-sums.sums h plain sums c.in-Complete.version to.is.0 to.is.1 to.is.2 to.is.3

pub returns-in-Committed : goal.returns-in-Committed
returns-in-Committed c text marks h plain long =
    let e = Committed c.in-Committed.after in
    let to = subst (LeadsAs h.reading.entries h.reading.stage c.args.line.now) c.in-Committed.is (c.in_ok-event.ensures h.reading (ap (λ (s : Summed). s.tally) h.is)) in
    let sums = sums_to h.reading c.args.now.sums c.in_ok-sums.sums c.args.line.now e h.is (c.in_ok-sums.ensures ∙ ap (summed_behind c.args.now.sums) c.in-Committed.is) to in
    marked_end text c.args.line.now marks c.args.now c.in_ok-sums.sums h plain sums to.is.0 to.is.1 c.in-Committed.after to.is.2 to.is.3
