use Rattle.std.proofs.Common.{◌≡◌, ◌+◌, ◌-◌, ◌^◌, min, ◌||◌, ◌&&◌, ◌∙◌, get_or, length, take, ap, sym, arith}
use Rattle.std.proofs.lemmas.List.{take_all}
use Rattle.std.proofs.lemmas.List.Folds.{list_any_more}
use Rattle.bx_text.specs.declared.owned.pieces.Piece.{Piece}
use Rattle.bx_image.specs.Image.{is_within}
use Rattle.bx_image.specs.private.Change.{is_covered}
use Rattle.bx_image.specs.private.Spans.{are_over, is_between}
use Rattle.bx_journal_protocol.proofs.SpanParts.{part_more, part_none, part_of_run}
use Rattle.bx_journal_protocol.proofs.before.spans.push_runs.Goals as goal

pub loop-run-init : goal.loop-run-init
loop-run-init g c = record {
  over = λ i. part_none (are_over c.args.spans.now.items i) (is_between c.args.base c.args.end i);
  within = λ within. within;
}

pub loop-run-preserved : goal.loop-run-preserved
loop-run-preserved g c =
    let inv = c.loop-run.invariant in
    let k = c.loop-run.run-index in
    let run : Piece g.row.A.Denot = c.run-item.result in
    let old = c.args.spans.now.items in
    let rs = c.args.runs.now in
    let sum : c.saturating_add.result ≡ min (run.at + length run.bytes) (2 ^ 64 - 1) = omega (arith, c.saturating_add.ensures, ap length c.as_slice.ensures) in
    record {
      over = λ i.
          let w = is_between c.args.base c.args.end i in
          let one = is_between run.at (run.at + length run.bytes) i in
          c.in_ok-push_part.ensures.over i ∙ ap (λ b. are_over c.loop-run.spans.items i || b) (part_of_run run.at (length run.bytes) c.saturating_add.result c.args.base c.args.end i sum (omega arith))
          ∙ ap (λ b. b || (w && one)) (inv.over i) ∙ part_more (are_over old i) w (is_covered (take k rs) i) one
          ∙ ap (λ b. are_over old i || (w && (is_covered (take k rs) i || b))) (ap (λ (r : Piece g.row.A.Denot). is_within r.at r.bytes i) c.run-item.is)
          ∙ ap (λ b. are_over old i || (w && b)) (sym (list_any_more (λ (r : Piece g.row.A.Denot). is_within r.at r.bytes i) rs k run c.loop-run-test.true));
      within = λ within. c.in_ok-push_part.ensures.within (inv.within within);
    }

pub returns-clause-over : goal.returns-clause-over
returns-clause-over g c i =
    c.loop-run.invariant.over i ∙ ap (λ rs. are_over c.args.spans.now.items i || (is_between c.args.base c.args.end i && is_covered rs i)) (take_all c.loop-run.run-index c.args.runs.now (omega arith))
