-- How long the saved lines of a run are where each address has 8 digits.
use Rattle.std.proofs.Common.{◌≡◌, ℕ, zero, suc, ◌+◌, ◌-◌, ◌*◌, ◌/◌, ◌<◌, ◌≤◌, ◌^◌, min, false, length, map, drop, refl, ap, sym, ◌∙◌, arith, length-append, length-take, length-drop}
use Rattle.std.specs.List.{range_with_len}
use Rattle.bx_text.specs.Field.{hex_text}
use Rattle.bx_journal_format.specs.Kept.{Run}
use Rattle.bx_journal_format.specs.DumpLine.{saved_run_line}
use Rattle.bx_journal_format.specs.Entry.{rows, rows_text, row}
use Rattle.bx_journal_format.specs.Text.{ended}
use Rattle.bx_journal_format.proofs.FieldText.{field_digits}
use Rattle.bx_journal_format.proofs.HexLemmas.{length-hex_digits}
use Rattle.bx_journal_format.proofs.WriterLemmas.{row_more, row_long, rows_all}

near_row_long : (run : Run) (k : ℕ) → run.at + 16 * k < 2 ^ 32 → length (ended (saved_run_line (row run k).at (row run k).bytes)) ≡ 52 + length (row run k).bytes
near_row_long run k near =
    let digits : length (hex_text false 8 (row run k).at) ≡ 8 =
    ap length (field_digits 8 (row run k).at (omega arith) (omega arith) near) ∙ length-hex_digits 8 (row run k).at in
    omega (arith, row_long (row run k).at (row run k).bytes, digits)

near_rows_long : (run : Run) (k : ℕ) → run.at + length run.bytes < 2 ^ 32 → k ≤ (length run.bytes + 15) / 16 →
    length (rows_text (map (row run) (range_with_len 0 k))) ≡ 52 * k + min (16 * k) (length run.bytes)
near_rows_long run zero near few = omega arith
near_rows_long run (suc k) near few =
    let before = near_rows_long run k near (omega (arith, few)) in
    let next : suc k ≡ k + 1 = omega arith in
    let line = near_row_long run k (omega (arith, near, few)) in
    let count : length (row run k).bytes ≡ min 16 (length run.bytes - 16 * k) = omega (arith, length-take 16 (drop (16 * k) run.bytes), length-drop (16 * k) run.bytes) in
    let more = ap length (row_more run k) in
    ap (λ j. length (rows_text (map (row run) (range_with_len 0 j)))) next
    ∙ omega (arith, more, length-append (rows_text (map (row run) (range_with_len 0 k))) (ended (saved_run_line (row run k).at (row run k).bytes)), before, line, count, few)

pub near_run_long : (run : Run) → run.at + length run.bytes < 2 ^ 32 → length (rows_text (rows run)) ≡ 52 * ((length run.bytes + 15) / 16) + length run.bytes
near_run_long run near =
    let count : ℕ = (length run.bytes + 15) / 16 in
    ap length (sym (rows_all run count refl)) ∙ near_rows_long run count near (omega arith) ∙ omega arith
