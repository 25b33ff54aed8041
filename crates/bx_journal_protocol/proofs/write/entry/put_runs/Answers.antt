use Rattle.std.proofs.Common.{ℕ, ◌+◌, ◌<◌, List, [], ◌++◌, length, map, take, drop, get_or, ap, sym, ◌∙◌, arith, append_assoc, append-nil, length-append}
use Rattle.std.specs.Prelude.{flat_map}
use Rattle.bx_journal_format.specs.Kept.{run_of}
use Rattle.bx_journal_format.specs.Entry.{rows, rows_text}
use Rattle.bx_image.proofs.Devices.{GoesOn_refl, GoesOn_then}
use Rattle.bx_journal_protocol.proofs.PageLemmas.{paged_here, paged_is, paged_step, part_step, paged_length, at_err}
use Rattle.bx_journal_format.proofs.WriterLemmas.{within_at, runs_step, runs_front, take_whole}
use Rattle.bx_image.proofs.Survivors.{FadesBehind_same}
use Rattle.bx_journal_protocol.proofs.FadeLemmas.{fades_is, fades_behind, fades_step}
use Rattle.bx_journal_protocol.proofs.write.entry.put_runs.Goals as goal

pub loop-run-init : goal.loop-run-init
loop-run-init g c = record {
  puts = λ faithful. paged_here (c.args.page.now.items ++ []) _ _ (sym (append-nil c.args.page.now.items));
  fades = λ faithful. FadesBehind_same _ _ _;
  room = omega arith;
  goes_on = GoesOn_refl _ _ _ _;
}

pub put_run-requires-clause-within : goal.put_run-requires-clause-within
put_run-requires-clause-within g c =
    let same = c.as_slice-run-items.ensures in
    let inside : c.loop-run.run-index < length c.args.kept.now.runs = omega (arith, c.loop-run-test.true, ap length same) in
    omega (arith, within_at c.args.kept.now.len c.args.kept.now.runs c.run-item.result c.loop-run.run-index c.requires.within inside (c.run-item.is ∙ ap (λ rs. get_or rs c.loop-run.run-index c.run-item.result) same))

pub put_run-requires-clause-fits : goal.put_run-requires-clause-fits
put_run-requires-clause-fits g c faithful =
    let same = c.as_slice-run-items.ensures in
    let k : ℕ = c.loop-run.run-index in
    let inside : k < length c.args.kept.now.runs = omega (arith, c.loop-run-test.true, ap length same) in
    let before = c.loop-run.invariant in
    let first = before.goes_on.faith.0 faithful in
    let done : List ℕ = rows_text (flat_map rows (map run_of (take k c.args.kept.now.runs))) in
    let more : List ℕ = rows_text (flat_map rows (map run_of (take (k + 1) c.args.kept.now.runs))) in
    let rest : List ℕ = rows_text (flat_map rows (map run_of (drop (k + 1) c.args.kept.now.runs))) in
    let line : List ℕ = rows_text (rows (run_of c.run-item.result)) in
    let step = runs_step c.args.kept.now.runs c.run-item.result k inside (c.run-item.is ∙ ap (λ rs. get_or rs k c.run-item.result) same) in
    omega (
      arith,
      paged_length (c.args.page.now.items ++ done) _ _ _ (before.puts first),
      length-append c.args.page.now.items done,
      ap length step,
      length-append done line,
      ap length (runs_front c.args.kept.now.runs (k + 1)),
      length-append more rest,
      c.requires.fits first,
      before.goes_on.no_less_room,
    )

pub returns-in_err-put_run-clause-fault : goal.returns-in_err-put_run-clause-fault
returns-in_err-put_run-clause-fault g c first =
    let same = c.as_slice-run-items.ensures in
    let k : ℕ = c.loop-run.run-index in
    let inside : k < length c.args.kept.now.runs = omega (arith, c.loop-run-test.true, ap length same) in
    let before = c.loop-run.invariant in
    let page : List ℕ = c.args.page.now.items in
    let done : List ℕ = rows_text (flat_map rows (map run_of (take k c.args.kept.now.runs))) in
    let more : List ℕ = rows_text (flat_map rows (map run_of (take (k + 1) c.args.kept.now.runs))) in
    let rest : List ℕ = rows_text (flat_map rows (map run_of (drop (k + 1) c.args.kept.now.runs))) in
    let line : List ℕ = rows_text (rows (run_of c.run-item.result)) in
    let step = runs_step c.args.kept.now.runs c.run-item.result k inside (c.run-item.is ∙ ap (λ rs. get_or rs k c.run-item.result) same) in
    at_err _ (part_step (page ++ done) line (page ++ more) (page ++ rows_text (flat_map rows (map run_of c.args.kept.now.runs))) rest _ _ _ _ (before.puts first)
    (c.in_err-put_run.ensures.fault (before.goes_on.faith.1 first))
    (append_assoc page done line ∙ ap (λ t. page ++ t) (sym step))
    (ap (λ t. page ++ t) (runs_front c.args.kept.now.runs (k + 1)) ∙ sym (append_assoc page more rest)))

pub returns-in_err-put_run-clause-fades : goal.returns-in_err-put_run-clause-fades
returns-in_err-put_run-clause-fades g c first =
    let same = c.as_slice-run-items.ensures in
    let k : ℕ = c.loop-run.run-index in
    let inside : k < length c.args.kept.now.runs = omega (arith, c.loop-run-test.true, ap length same) in
    let before = c.loop-run.invariant in
    let page : List ℕ = c.args.page.now.items in
    let done : List ℕ = rows_text (flat_map rows (map run_of (take k c.args.kept.now.runs))) in
    let more : List ℕ = rows_text (flat_map rows (map run_of (take (k + 1) c.args.kept.now.runs))) in
    let rest : List ℕ = rows_text (flat_map rows (map run_of (drop (k + 1) c.args.kept.now.runs))) in
    let line : List ℕ = rows_text (rows (run_of c.run-item.result)) in
    let step = runs_step c.args.kept.now.runs c.run-item.result k inside (c.run-item.is ∙ ap (λ rs. get_or rs k c.run-item.result) same) in
    fades_step (page ++ done) line (page ++ more) (page ++ rows_text (flat_map rows (map run_of c.args.kept.now.runs))) rest _ _ _ _ _ _ (before.puts first) (before.fades first)
    (c.in_err-put_run.ensures.fades (before.goes_on.faith.1 first))
    (append_assoc page done line ∙ ap (λ t. page ++ t) (sym step))
    (ap (λ t. page ++ t) (runs_front c.args.kept.now.runs (k + 1)) ∙ sym (append_assoc page more rest))

pub loop-run-preserved : goal.loop-run-preserved
loop-run-preserved g c =
    let same = c.as_slice-run-items.ensures in
    let k : ℕ = c.loop-run.run-index in
    let inside : k < length c.args.kept.now.runs = omega (arith, c.loop-run-test.true, ap length same) in
    let before = c.loop-run.invariant in
    let page : List ℕ = c.args.page.now.items in
    let done : List ℕ = rows_text (flat_map rows (map run_of (take k c.args.kept.now.runs))) in
    let more : List ℕ = rows_text (flat_map rows (map run_of (take (k + 1) c.args.kept.now.runs))) in
    let line : List ℕ = rows_text (rows (run_of c.run-item.result)) in
    let step = runs_step c.args.kept.now.runs c.run-item.result k inside (c.run-item.is ∙ ap (λ rs. get_or rs k c.run-item.result) same) in
    record {
      puts = λ first. paged_step (page ++ done) line (page ++ more) _ _ _ _ _ (before.puts first) (c.in_ok-put_run.ensures.ok (before.goes_on.faith.1 first)) (append_assoc page done line ∙ ap (λ t. page ++ t) (sym step));
      fades = λ first. fades_is _ _ _ _ _ (append_assoc page done line ∙ ap (λ t. page ++ t) (sym step))
          (fades_behind (page ++ done) line _ _ _ _ _ _ (before.puts first) (before.fades first) (c.in_ok-put_run.ensures.fades (before.goes_on.faith.1 first)));
      room = omega (arith, before.room, c.put_run.ensures.room);
      goes_on = GoesOn_then _ _ _ _ _ _ _ before.goes_on c.in_ok-put_run.ensures.goes_on;
    }

pub returns-clause-ok : goal.returns-clause-ok
returns-clause-ok g c first =
    let page : List ℕ = c.args.page.now.items in
    let all = take_whole c.args.kept.now.runs c.loop-run.run-index (omega (arith, c.loop-run-test.false, ap length c.as_slice-run-items.ensures)) in
    paged_is _ _ _ _ _ (ap (λ rs. page ++ rows_text (flat_map rows (map run_of rs))) all) (c.loop-run.invariant.puts first)

pub returns-clause-fades : goal.returns-clause-fades
returns-clause-fades g c first =
    let page : List ℕ = c.args.page.now.items in
    let all = take_whole c.args.kept.now.runs c.loop-run.run-index (omega (arith, c.loop-run-test.false, ap length c.as_slice-run-items.ensures)) in
    fades_is _ _ _ _ _ (ap (λ rs. page ++ rows_text (flat_map rows (map run_of rs))) all) (c.loop-run.invariant.fades first)
