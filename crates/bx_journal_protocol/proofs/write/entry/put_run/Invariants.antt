use Rattle.std.proofs.Common.{◌-◌, ◌≤◌, ◌++◌, map, false}
use Rattle.std.specs.Prelude.{vec_capacity}
use Rattle.std.specs.List.{range_with_len}
use Rattle.bx_image.specs.Device.{GoesOn}
use Rattle.bx_image.specs.Power.{FadesBehind}
use Rattle.bx_journal_format.specs.Kept.{run_of}
use Rattle.bx_journal_format.specs.Entry.{rows_text, row}
use Rattle.bx_journal_protocol.specs.write.Page.{IsPaged}
use Rattle.bx_journal_protocol.proofs.write.entry.put_run.Given as goal

-- the first k rows were put
abbrev pub invariant-loop-k : goal.invariant-loop-k
invariant-loop-k g l =
    let store = g.T.TextStore in
    record {
      most : l.k ≤ l.count;
      puts : store.faithful l.fn.store → IsPaged (l.fn.page.items ++ rows_text (map (row (run_of l.run)) (range_with_len 0 l.k))) (store.text l.fn.store) (store.text l.store) l.page.items;
      fades : store.faithful l.fn.store → FadesBehind (store.text l.fn.store) (l.fn.page.items ++ rows_text (map (row (run_of l.run)) (range_with_len 0 l.k))) (store.survives l.fn.store) (store.survives l.store);
      room : vec_capacity l.fn.page ≤ vec_capacity l.page;
      goes_on : GoesOn store.faithful store.room store.failures false l.fn.store l.store;
    }

abbrev pub decreases-loop-k : goal.decreases-loop-k
decreases-loop-k g l = l.count - l.k
