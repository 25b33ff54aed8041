use Rattle.std.proofs.Common.{ℕ, ◌+◌, List, ◌++◌, map, ap, sym, ◌∙◌, arith, append-nil, append_assoc, refl}
use Rattle.std.specs.List.{range_with_len}
use Rattle.bx_journal_format.specs.Kept.{Run}
use Rattle.bx_journal_format.specs.Entry.{rows_text, row}
use Rattle.bx_journal_format.proofs.WriterLemmas.{row_written, rows_all, rows_split}
use Rattle.bx_journal_protocol.proofs.write.ranges.push_run.Goals as goal

pub loop-k-init : goal.loop-k-init
loop-k-init g c = record { most = omega arith; rows = sym (append-nil c.args.page.now.items); long = omega arith; room = omega arith }

pub push_row-requires-clause-free : goal.push_row-requires-clause-free
push_row-requires-clause-free g c =
    let before = c.loop-k.invariant in
    let rows = c.push_rows-more.ensures in
    omega (arith, before.long, before.room, rows.long, rows.inside, rows.room, c.requires.free)

pub loop-k-preserved : goal.loop-k-preserved
loop-k-preserved g c =
    let before = c.loop-k.invariant in
    let put = c.push_rows-more.ensures in
    let run : Run = record { at = c.args.at; bytes = c.args.bytes.now } in
    let text : List ℕ = c.args.page.now.items in
    let k : ℕ = c.loop-k.k in
    let more : ℕ = c.push_rows-more.result in
    let first : List ℕ = rows_text (map (row run) (range_with_len 0 k)) in
    let next : List ℕ = rows_text (map (row run) (range_with_len k more)) in
    let grown = put.rows ∙ ap (λ t. t ++ next) before.rows ∙ append_assoc text first next ∙ ap (λ t. text ++ t) (sym (rows_split run k more)) in
    record {
      most = omega (arith, put.inside);
      rows = row_written text _ _ c.args.bytes.now run (k + more) c.min-to.result refl c.min-to.ensures c.push_row.ensures.line grown;
      long = omega (arith, before.long, put.long, c.push_row.ensures.long);
      room = omega (arith, before.room, put.room, c.push_row.ensures.room);
    }

pub returns-clause-rows : goal.returns-clause-rows
returns-clause-rows g c =
    let run : Run = record { at = c.args.at; bytes = c.args.bytes.now } in
    let before = c.loop-k.invariant in
    before.rows ∙ ap (λ t. c.args.page.now.items ++ t) (rows_all run c.loop-k.k (omega (arith, before.most, c.loop-k-test.false)))
