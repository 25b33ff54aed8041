use Rattle.std.proofs.Common.{◌+◌, ◌-◌, ◌<◌, ◌^◌, min, length, map, get_or, ap, sym, ◌∙◌, arith}
use Rattle.std.specs.Prelude.{flat_map}
use Rattle.bx_journal_format.specs.Kept.{run_of, kept_of}
use Rattle.bx_journal_format.specs.Entry.{rows, rows_text}
use Rattle.bx_journal_format.proofs.WriterLemmas.{within_at, take_whole, head_long}
use Rattle.bx_journal_format.proofs.format.length.head_len.Goals as goal

pub run_len-requires : goal.run_len-requires
run_len-requires g c =
    let same = c.as_slice-run-items.ensures in
    let inside : c.loop-run.run-index < length c.args.kept.now.runs = omega (arith, c.loop-run-test.true, ap length same) in
    omega (arith, within_at c.args.kept.now.len c.args.kept.now.runs c.run-item.result c.loop-run.run-index c.requires.within inside (c.run-item.is ∙ ap (λ rs. get_or rs c.loop-run.run-index c.run-item.result) same))

pub returns : goal.returns
returns g c n =
    let all = take_whole c.args.kept.now.runs c.loop-run.run-index (omega (arith, c.loop-run-test.false, ap length c.as_slice-run-items.ensures)) in
    c.loop-run.invariant ∙ ap (λ rs. min (48 + length (rows_text (flat_map rows (map run_of rs)))) (2 ^ 64 - 1)) all
    ∙ ap (λ l. min l (2 ^ 64 - 1)) (sym (head_long n (kept_of c.args.kept.now)))
