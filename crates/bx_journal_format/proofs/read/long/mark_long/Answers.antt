use Rattle.std.proofs.Common.{◌++◌, ◌∙◌, List, ℕ, ap, subst}
use Rattle.bx_journal_format.specs.declared.read.classify.Event.TheVariants.{Saved}
use Rattle.bx_journal_format.specs.declared.read.rows.Summed.{Summed}
use Rattle.bx_journal_format.specs.count.Rows.{summed_behind}
use Rattle.bx_journal_format.specs.read.Event.{LeadsAs}
use Rattle.bx_journal_format.proofs.LongLemmas.{leads_more, marked_saved}
use Rattle.bx_journal_format.proofs.read.long.mark_long.Goals as goal

pub returns-in-Saved : goal.returns-in-Saved
returns-in-Saved c text marks more h plain long =
    let line : List ℕ = c.args.line.now in
    let to = leads_more h.reading.entries h.reading.stage line more (Saved c.in-Saved.line) c.requires
    (subst (LeadsAs h.reading.entries h.reading.stage line) c.in-Saved.is (c.in_ok-event.ensures h.reading (ap (λ (s : Summed). s.tally) h.is))) in
    marked_saved text (line ++ more) marks c.args.now c.in_ok-sums.sums c.args.after c.in-Saved.line h plain (c.in_ok-sums.ensures ∙ ap (summed_behind c.args.now.sums) c.in-Saved.is) to long
