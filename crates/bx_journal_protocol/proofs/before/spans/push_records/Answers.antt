use Rattle.std.proofs.Common.{◌≡◌, ◌||◌, ◌&&◌, ◌∙◌, take, ap, sym, arith}
use Rattle.std.proofs.lemmas.List.{take_all}
use Rattle.std.proofs.lemmas.List.Folds.{list_any_more}
use Rattle.bx_image.specs.private.Change.{is_covered}
use Rattle.bx_image.specs.private.Spans.{are_over, is_between}
use Rattle.bx_journal_format.specs.declared.read.types.EntryRead.{EntryRead}
use Rattle.bx_journal_protocol.specs.before.Overwritten.{are_written}
use Rattle.bx_journal_protocol.proofs.SpanParts.{part_more, part_none}
use Rattle.bx_journal_protocol.proofs.before.spans.push_records.Goals as goal

pub loop-entry-init : goal.loop-entry-init
loop-entry-init g c = record {
  over = λ i. part_none (are_over c.args.spans.now.items i) (is_between c.args.base c.args.end i);
  within = λ within. within;
}

pub loop-entry-preserved : goal.loop-entry-preserved
loop-entry-preserved g c =
    let inv = c.loop-entry.invariant in
    let k = c.loop-entry.entry-index in
    let e : EntryRead g.row.A.Denot = c.entry-item.result in
    let old = c.args.spans.now.items in
    let es = c.args.entries.now in
    record {
      over = λ i.
          let w = is_between c.args.base c.args.end i in
          let one = is_covered e.kept.runs i in
          c.in_ok-push_runs.ensures.over i ∙ ap (λ rs. are_over c.loop-entry.spans.items i || (w && is_covered rs i)) c.as_slice.ensures
          ∙ ap (λ b. b || (w && one)) (inv.over i) ∙ part_more (are_over old i) w (are_written (take k es) i) one
          ∙ ap (λ b. are_over old i || (w && (are_written (take k es) i || b))) (ap (λ (f : EntryRead g.row.A.Denot). is_covered f.kept.runs i) c.entry-item.is)
          ∙ ap (λ b. are_over old i || (w && b)) (sym (list_any_more (λ (f : EntryRead g.row.A.Denot). is_covered f.kept.runs i) es k e c.loop-entry-test.true));
      within = λ within. c.in_ok-push_runs.ensures.within (inv.within within);
    }

pub returns-clause-over : goal.returns-clause-over
returns-clause-over g c i =
    c.loop-entry.invariant.over i ∙ ap (λ es. are_over c.args.spans.now.items i || (is_between c.args.base c.args.end i && are_written es i)) (take_all c.loop-entry.entry-index c.args.entries.now (omega arith))
