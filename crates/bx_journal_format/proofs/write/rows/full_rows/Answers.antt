use Rattle.std.proofs.Common.{◌≡◌, ◌+◌, ◌-◌, ◌*◌, ◌≤◌, ◌++◌, length, map, take, drop, arith, sym, ap, ◌∙◌}
use Rattle.std.specs.List.{range_with_len}
use Rattle.std.proofs.lemmas.Slice.{take-put_mid}
use Rattle.std.proofs.lemmas.List.{length-take-le, length-drop}
use Rattle.bx_journal_format.specs.Kept.{Run}
use Rattle.bx_journal_format.specs.DumpLine.{saved_run_line}
use Rattle.bx_journal_format.specs.Entry.{rows_text, row}
use Rattle.bx_journal_format.specs.Text.{ended}
use Rattle.bx_journal_format.proofs.WriterLemmas.{row_more_at, take_whole}
use Rattle.bx_journal_format.proofs.write.rows.full_rows.Goals as goal

pub loop-k-preserved : goal.loop-k-preserved
loop-k-preserved c =
    let run : Run = record { at = c.args.at; bytes = c.args.bytes.now } in
    let k = c.loop-k.k in
    let a = 68 * k in
    let from = 16 * (c.args.first + k) in
    let line = c.whole_row.new.line in
    let room : a + 68 ≤ length c.loop-k.lines = omega (arith, c.loop-k.auto.lines, c.requires.long, c.loop-k-test.true) in
    let same : a + 68 - a ≡ 68 = omega arith in
    let len : length line ≡ 68 = c.whole_row.auto.line ∙ length-take-le (a + 68 - a) (drop a c.loop-k.lines) (omega (arith, length-drop a c.loop-k.lines)) ∙ same in
    let more = take-put_mid a (a + 68 - a) c.loop-k.lines line (68 * (k + 1)) (omega arith) (omega arith) in
    let cut : from + 16 - from ≡ 16 = omega arith in
    let after : line ≡ ended (saved_run_line (c.args.at + from) (take 16 (drop from c.args.bytes.now))) =
    c.whole_row.ensures ∙ ap (λ m. ended (saved_run_line (c.args.at + from) (take m (drop from c.args.bytes.now)))) cut in
    more ∙ ap (λ t. t ++ line) c.loop-k.invariant ∙ ap (λ t. rows_text (map (row run) (range_with_len c.args.first k)) ++ t) after ∙ sym (row_more_at run c.args.first k)

pub returns : goal.returns
returns c =
    let run : Run = record { at = c.args.at; bytes = c.args.bytes.now } in
    let last : c.loop-k.k ≡ c.args.count = omega (arith, c.loop-k.auto.k-end, c.loop-k-test.false) in
    let all : length c.loop-k.lines ≤ 68 * c.loop-k.k = omega (arith, c.loop-k.auto.lines, c.requires.long, last) in
    sym (take_whole c.loop-k.lines (68 * c.loop-k.k) all) ∙ c.loop-k.invariant ∙ ap (λ n. rows_text (map (row run) (range_with_len c.args.first n))) last
