use Rattle.std.proofs.Common.{ℕ, ◌+◌, List, [], ◌++◌, length, map, ap, sym, ◌∙◌, arith, append_assoc, append-nil, length-append}
use Rattle.std.specs.List.{range_with_len}
use Rattle.bx_journal_format.specs.Kept.{Run, run_of}
use Rattle.bx_journal_format.specs.Entry.{rows, rows_text, row}
use Rattle.bx_image.specs.Power.{FadesBehind}
use Rattle.bx_image.proofs.Devices.{GoesOn_refl, GoesOn_then}
use Rattle.bx_journal_protocol.proofs.PageLemmas.{paged_here, paged_is, paged_step, part_step, paged_length, at_err, rows_grown}
use Rattle.bx_journal_format.proofs.WriterLemmas.{row_step, rows_front, rows_all, rows_split}
use Rattle.bx_image.proofs.Survivors.{FadesBehind_same}
use Rattle.bx_journal_protocol.proofs.FadeLemmas.{fades_front, fades_is, fades_behind, fades_step}
use Rattle.bx_journal_protocol.proofs.write.entry.put_run.Goals as goal

pub loop-k-init : goal.loop-k-init
loop-k-init g c = record {
  most = omega arith;
  puts = λ faithful. paged_here (c.args.page.now.items ++ []) _ _ (sym (append-nil c.args.page.now.items));
  fades = λ faithful. FadesBehind_same _ _ _;
  room = omega arith;
  goes_on = GoesOn_refl _ _ _ _;
}

pub put_row-requires-clause-fits : goal.put_row-requires-clause-fits
put_row-requires-clause-fits g c faithful =
    let before = c.loop-k.invariant in
    let first = before.goes_on.faith.0 faithful in
    let run : Run = run_of c.args.run.now in
    let k : ℕ = c.loop-k.k + c.push_rows-more.result in
    let done : List ℕ = rows_text (map (row run) (range_with_len 0 k)) in
    let front = rows_front run k (omega (arith, ap length c.as_slice-bytes.ensures, c.push_rows-more.ensures.inside)) in
    let grown = rows_grown c.args.page.now.items c.as_slice-bytes.result.now run c.loop-k.k c.push_rows-more.result _ _ _ _ c.as_slice-bytes.ensures c.push_rows-more.ensures.rows (before.puts first) in
    omega (
      arith,
      paged_length (c.args.page.now.items ++ done) _ _ _ grown,
      length-append c.args.page.now.items done,
      ap length front.1,
      length-append done front.0,
      c.requires.fits first,
      before.goes_on.no_less_room,
    )

pub returns-in_err-put_row-clause-fault : goal.returns-in_err-put_row-clause-fault
returns-in_err-put_row-clause-fault g c first =
    let before = c.loop-k.invariant in
    let run : Run = run_of c.args.run.now in
    let page : List ℕ = c.args.page.now.items in
    let k : ℕ = c.loop-k.k + c.push_rows-more.result in
    let done : List ℕ = rows_text (map (row run) (range_with_len 0 k)) in
    let more : List ℕ = rows_text (map (row run) (range_with_len 0 (k + 1))) in
    let front = rows_front run (k + 1) (omega (arith, ap length c.as_slice-bytes.ensures, c.push_rows-more.ensures.inside)) in
    let grown = rows_grown page c.as_slice-bytes.result.now run c.loop-k.k c.push_rows-more.result _ _ _ _ c.as_slice-bytes.ensures c.push_rows-more.ensures.rows (before.puts first) in
    at_err _ (part_step (page ++ done) _ (page ++ more) (page ++ rows_text (rows run)) front.0 _ _ _ _ grown
    (c.in_err-put_row.ensures.fault (before.goes_on.faith.1 first))
    (row_step page c.as_slice-bytes.result.now run k c.min-to.result c.as_slice-bytes.ensures c.min-to.ensures)
    (ap (λ t. page ++ t) front.1 ∙ sym (append_assoc page more front.0)))

-- what is left of the rows so far is left of them with more rows in the page
rows_faded : (x page : List ℕ) (run : Run) (k n : ℕ) (P Q : List ℕ → Type 0) → FadesBehind x (page ++ rows_text (map (row run) (range_with_len 0 k))) P Q
    → FadesBehind x (page ++ rows_text (map (row run) (range_with_len 0 (k + n)))) P Q
rows_faded x page run k n P Q first =
    let done : List ℕ = rows_text (map (row run) (range_with_len 0 k)) in
    let more : List ℕ = rows_text (map (row run) (range_with_len k n)) in
    fades_is x (page ++ done ++ more) _ P Q (append_assoc page done more ∙ ap (λ t. page ++ t) (sym (rows_split run k n))) (fades_front x (page ++ done) more P Q first)

pub returns-in_err-put_row-clause-fades : goal.returns-in_err-put_row-clause-fades
returns-in_err-put_row-clause-fades g c first =
    let before = c.loop-k.invariant in
    let run : Run = run_of c.args.run.now in
    let page : List ℕ = c.args.page.now.items in
    let k : ℕ = c.loop-k.k + c.push_rows-more.result in
    let done : List ℕ = rows_text (map (row run) (range_with_len 0 k)) in
    let more : List ℕ = rows_text (map (row run) (range_with_len 0 (k + 1))) in
    let front = rows_front run (k + 1) (omega (arith, ap length c.as_slice-bytes.ensures, c.push_rows-more.ensures.inside)) in
    let grown = rows_grown page c.as_slice-bytes.result.now run c.loop-k.k c.push_rows-more.result _ _ _ _ c.as_slice-bytes.ensures c.push_rows-more.ensures.rows (before.puts first) in
    fades_step (page ++ done) _ (page ++ more) (page ++ rows_text (rows run)) front.0 _ _ _ _ _ _ grown
    (rows_faded _ page run c.loop-k.k c.push_rows-more.result _ _ (before.fades first))
    (c.in_err-put_row.ensures.fades (before.goes_on.faith.1 first))
    (row_step page c.as_slice-bytes.result.now run k c.min-to.result c.as_slice-bytes.ensures c.min-to.ensures)
    (ap (λ t. page ++ t) front.1 ∙ sym (append_assoc page more front.0))

pub loop-k-preserved : goal.loop-k-preserved
loop-k-preserved g c =
    let before = c.loop-k.invariant in
    let run : Run = run_of c.args.run.now in
    let page : List ℕ = c.args.page.now.items in
    let k : ℕ = c.loop-k.k + c.push_rows-more.result in
    let done : List ℕ = rows_text (map (row run) (range_with_len 0 k)) in
    let more : List ℕ = rows_text (map (row run) (range_with_len 0 (k + 1))) in
    record {
      most = omega (arith, c.push_rows-more.ensures.inside);
      puts = λ first. paged_step (page ++ done) _ (page ++ more) _ _ _ _ _
          (rows_grown page c.as_slice-bytes.result.now run c.loop-k.k c.push_rows-more.result _ _ _ _ c.as_slice-bytes.ensures c.push_rows-more.ensures.rows (before.puts first))
          (c.in_ok-put_row.ensures.ok (before.goes_on.faith.1 first))
          (row_step page c.as_slice-bytes.result.now run k c.min-to.result c.as_slice-bytes.ensures c.min-to.ensures);
      fades = λ first.
          let grown = rows_grown page c.as_slice-bytes.result.now run c.loop-k.k c.push_rows-more.result _ _ _ _ c.as_slice-bytes.ensures c.push_rows-more.ensures.rows (before.puts first) in
          fades_is _ (page ++ done ++ _) (page ++ more) _ _ (row_step page c.as_slice-bytes.result.now run k c.min-to.result c.as_slice-bytes.ensures c.min-to.ensures)
          (fades_behind (page ++ done) _ _ _ _ _ _ _ grown (rows_faded _ page run c.loop-k.k c.push_rows-more.result _ _ (before.fades first)) (c.in_ok-put_row.ensures.fades (before.goes_on.faith.1 first)));
      room = omega (arith, before.room, c.push_rows-more.ensures.room, c.put_row.ensures.room);
      goes_on = GoesOn_then _ _ _ _ _ _ _ before.goes_on c.in_ok-put_row.ensures.goes_on;
    }

pub returns-clause-ok : goal.returns-clause-ok
returns-clause-ok g c first =
    let run : Run = run_of c.args.run.now in
    let page : List ℕ = c.args.page.now.items in
    paged_is _ _ _ _ _ (ap (λ t. page ++ t) (rows_all run c.loop-k.k (omega (arith, ap length c.as_slice-bytes.ensures, c.loop-k.invariant.most, c.loop-k-test.false)))) (c.loop-k.invariant.puts first)

pub returns-clause-fades : goal.returns-clause-fades
returns-clause-fades g c first =
    let run : Run = run_of c.args.run.now in
    let page : List ℕ = c.args.page.now.items in
    fades_is _ _ _ _ _ (ap (λ t. page ++ t) (rows_all run c.loop-k.k (omega (arith, ap length c.as_slice-bytes.ensures, c.loop-k.invariant.most, c.loop-k-test.false)))) (c.loop-k.invariant.fades first)
