use Rattle.std.proofs.Common.{◌≤◌, ◌++◌, map, take, false}
use Rattle.std.specs.Prelude.{vec_capacity, flat_map}
use Rattle.bx_image.specs.Device.{GoesOn}
use Rattle.bx_image.specs.Power.{FadesBehind}
use Rattle.bx_journal_format.specs.Kept.{run_of}
use Rattle.bx_journal_format.specs.Entry.{rows, rows_text}
use Rattle.bx_journal_protocol.specs.write.Page.{IsPaged}
use Rattle.bx_journal_protocol.proofs.write.entry.put_runs.Given as goal

-- the lines of the first runs were put
abbrev pub invariant-loop-run : goal.invariant-loop-run
invariant-loop-run g l =
    let store = g.T.TextStore in
    record {
      puts : store.faithful l.fn.store → IsPaged (l.fn.page.items ++ rows_text (flat_map rows (map run_of (take l.run-index l.kept.runs)))) (store.text l.fn.store) (store.text l.store) l.page.items;
      fades : store.faithful l.fn.store → FadesBehind (store.text l.fn.store) (l.fn.page.items ++ rows_text (flat_map rows (map run_of (take l.run-index l.kept.runs)))) (store.survives l.fn.store) (store.survives l.store);
      room : vec_capacity l.fn.page ≤ vec_capacity l.page;
      goes_on : GoesOn store.faithful store.room store.failures false l.fn.store l.store;
    }
