use Rattle.std.proofs.Common.{◌≡◌, ◌∙◌, length, ap, arith}
use Rattle.bx_image.proofs.Survivors.{NoMore_then}
use Rattle.bx_journal_protocol.proofs.before.change.prepare_change.Goals as goal

pub returns-clause-text_room : goal.returns-clause-text_room
returns-clause-text_room g c th =
    let still = c.reserve-2.ensures.goes_on.faith.1 (c.len-2.ensures.goes_on.faith.1 th) in
    let same : length (g.T.TextStore.text c.settle.new.devices.journal) ≡ length (g.T.TextStore.text c.args.devices.now.journal) =
    ap length (c.settle.ensures.stayed.text_same still ∙ c.reserve-2.ensures.text (c.len-2.ensures.goes_on.faith.1 th) ∙ c.len-2.ensures.text th) in
    let line : length c.as_bytes.result.now ≡ length c.entry_end-end.result = ap length c.as_bytes.ensures.value in
    omega (arith, c.in_ok-text_len.ensures.len th, same, line, c.in_ok-begun.ensures.long, c.saturating_add.ensures, c.saturating_add-most.ensures, c.in_ok-reserve-2.ensures.ok, c.in_ok-reserve-2.ensures.limit, c.settle.ensures.journal_room)

-- what a refusal leaves to be found was to be found before
pub returns-in_err-begun-clause-found_before : goal.returns-in_err-begun-clause-found_before
returns-in_err-begun-clause-found_before g c =
    record {
      image_before = λ h.
          let first = c.len.ensures.goes_on.faith.1 h in
          NoMore_then _ _ _ (c.len.ensures.survives h) (c.begin_change.ensures.survives first);
      journal_before = λ h text there. there;
      redo_before = λ h text there. there;
    }

pub returns-in_err-reserve-clause-found_before : goal.returns-in_err-reserve-clause-found_before
returns-in_err-reserve-clause-found_before g c =
    record {
      image_before = λ h.
          let first = c.len.ensures.goes_on.faith.1 h in
          let saved = c.begin_change.ensures.looks.faith.1 first in
          NoMore_then _ _ _ (c.len.ensures.survives h) (NoMore_then _ _ _ (c.begin_change.ensures.survives first) (c.reserve.ensures.survives saved));
      journal_before = λ h text there. there;
      redo_before = λ h text there. there;
    }

pub returns-in_err-text_len-clause-found_before : goal.returns-in_err-text_len-clause-found_before
returns-in_err-text_len-clause-found_before g c =
    record {
      image_before = λ h.
          let first = c.len.ensures.goes_on.faith.1 h in
          let saved = c.begin_change.ensures.looks.faith.1 first in
          NoMore_then _ _ _ (c.len.ensures.survives h) (NoMore_then _ _ _ (c.begin_change.ensures.survives first) (c.reserve.ensures.survives saved));
      journal_before = c.len-2.ensures.survives;
      redo_before = λ h text there. there;
    }

pub returns-in_err-reserve-2-clause-found_before : goal.returns-in_err-reserve-2-clause-found_before
returns-in_err-reserve-2-clause-found_before g c =
    record {
      image_before = λ h.
          let first = c.len.ensures.goes_on.faith.1 h in
          let saved = c.begin_change.ensures.looks.faith.1 first in
          NoMore_then _ _ _ (c.len.ensures.survives h) (NoMore_then _ _ _ (c.begin_change.ensures.survives first) (c.reserve.ensures.survives saved));
      journal_before = λ h. NoMore_then _ _ _ (c.len-2.ensures.survives h) (c.reserve-2.ensures.survives (c.len-2.ensures.goes_on.faith.1 h));
      redo_before = λ h text there. there;
    }

pub returns-in_err-settle-clause-found_before : goal.returns-in_err-settle-clause-found_before
returns-in_err-settle-clause-found_before g c =
    let all = c.settle.ensures.found_before in
    record {
      image_before = λ h.
          let first = c.len.ensures.goes_on.faith.1 h in
          let saved = c.begin_change.ensures.looks.faith.1 first in
          let room = NoMore_then _ _ _ (c.reserve.ensures.survives saved) (all.image_before (c.reserve.ensures.goes_on.faith.1 saved)) in
          NoMore_then _ _ _ (c.len.ensures.survives h) (NoMore_then _ _ _ (c.begin_change.ensures.survives first) room);
      journal_before = λ h.
          let first = c.len-2.ensures.goes_on.faith.1 h in
          NoMore_then _ _ _ (c.len-2.ensures.survives h) (NoMore_then _ _ _ (c.reserve-2.ensures.survives first) (all.journal_before (c.reserve-2.ensures.goes_on.faith.1 first)));
      redo_before = all.redo_before;
    }

pub returns-clause-found_before : goal.returns-clause-found_before
returns-clause-found_before g c =
    let all = c.settle.ensures.found_before in
    record {
      image_before = λ h.
          let first = c.len.ensures.goes_on.faith.1 h in
          let saved = c.begin_change.ensures.looks.faith.1 first in
          let room = NoMore_then _ _ _ (c.reserve.ensures.survives saved) (all.image_before (c.reserve.ensures.goes_on.faith.1 saved)) in
          NoMore_then _ _ _ (c.len.ensures.survives h) (NoMore_then _ _ _ (c.begin_change.ensures.survives first) room);
      journal_before = λ h.
          let first = c.len-2.ensures.goes_on.faith.1 h in
          NoMore_then _ _ _ (c.len-2.ensures.survives h) (NoMore_then _ _ _ (c.reserve-2.ensures.survives first) (all.journal_before (c.reserve-2.ensures.goes_on.faith.1 first)));
      redo_before = all.redo_before;
    }
