use Rattle.std.proofs.Common.{◌≡◌, ◌+◌, ◌≤◌, ◌<◌, List, length, take, map, ap, sym, ◌∙◌, arith}
use Rattle.std.specs.Prelude.{sum}
use Rattle.std.proofs.lemmas.List.{take_all}
use Rattle.bx_text.specs.declared.owned.pieces.Piece.{Piece}
use Rattle.bx_journal.proofs.LogLemmas.{run_length, runs_more, lengths_same}
use Rattle.bx_journal.proofs.session.log.saved_bytes.Goals as goal

pub overflow_add-total : goal.overflow_add-total
overflow_add-total g c =
    let runs : List (Piece g.row.A.Denot) = c.as_slice-run-items.result.now in
    let more : sum (map run_length (take c.loop-run.run-index runs)) + length c.run-item.result.bytes ≤ sum (map run_length runs) = runs_more runs c.loop-run.run-index c.run-item.result c.loop-run-test.true c.run-item.is in
    let here : c.loop-run.total ≡ sum (map run_length (take c.loop-run.run-index runs)) = c.loop-run.invariant in
    let all : sum (map run_length runs) ≡ sum (map run_length c.args.kept.now.runs) = ap (λ (rs : List (Piece g.row.A.Denot)). sum (map run_length rs)) c.as_slice-run-items.ensures in
    let few : sum (map run_length c.args.kept.now.runs) < 18446744073709551616 = omega (arith, c.requires, lengths_same c.args.kept.now.runs) in
    omega (arith, more, here, all, few, ap length c.as_slice.ensures)

pub returns : goal.returns
returns g c =
    let runs : List (Piece g.row.A.Denot) = c.as_slice-run-items.result.now in
    let all : take c.loop-run.run-index runs ≡ c.args.kept.now.runs = take_all c.loop-run.run-index runs (omega arith) ∙ c.as_slice-run-items.ensures in
    c.loop-run.invariant ∙ ap (λ (rs : List (Piece g.row.A.Denot)). sum (map run_length rs)) all ∙ sym (lengths_same c.args.kept.now.runs)
