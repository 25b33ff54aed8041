use Rattle.std.proofs.Common.{◌≡◌, ℕ, ◌-◌, ◌*◌, ◌^◌, min, List, length, map, drop, ap, ◌∙◌, arith, length-append, length-take, length-drop}
use Rattle.std.specs.List.{range_with_len}
use Rattle.bx_journal_format.specs.Kept.{Run, run_of}
use Rattle.bx_journal_format.specs.DumpLine.{saved_run_line}
use Rattle.bx_journal_format.specs.Entry.{rows_text, row}
use Rattle.bx_journal_format.specs.Text.{ended}
use Rattle.bx_journal_format.proofs.WriterLemmas.{row_more, rows_all}
use Rattle.bx_journal_format.proofs.format.length.far_run_len.Goals as goal

pub loop-k-preserved : goal.loop-k-preserved
loop-k-preserved g c =
    let run : Run = run_of c.args.run.now in
    let k : ℕ = c.loop-k.k in
    let bytes : List ℕ = (row run k).bytes in
    let done : List ℕ = rows_text (map (row run) (range_with_len 0 k)) in
    let count : length bytes ≡ c.min-to.result - 16 * k =
    omega (arith, length-take 16 (drop (16 * k) run.bytes), length-drop (16 * k) run.bytes, c.min-to.ensures, ap length c.as_slice-len.ensures) in
    let line = c.row_len.ensures bytes count in
    omega (arith, line, c.saturating_add-total.ensures, c.loop-k.invariant, ap length (row_more run k), length-append done (ended (saved_run_line (row run k).at bytes)))

pub returns : goal.returns
returns g c =
    let run : Run = run_of c.args.run.now in
    c.loop-k.invariant ∙ ap (λ t. min (length t) (2 ^ 64 - 1)) (rows_all run c.loop-k.k (omega (arith, ap length c.as_slice-len.ensures)))
