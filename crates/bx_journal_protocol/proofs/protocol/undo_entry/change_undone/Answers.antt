use Rattle.std.proofs.Common.{inl, inr, refl, Result, Ok, Err}
use Rattle.std.specs.Prelude.{OnOk}
use Rattle.bx_journal_protocol.proofs.DeviceLemmas.{always_err}
use Rattle.bx_journal_protocol.proofs.PartLemmas.{unmapped_moves}
use Rattle.bx_journal_model.proofs.RestoreLemmas.{names_itself}
use Rattle.bx_journal_protocol.proofs.protocol.undo_entry.change_undone.Goals as goal

always_ok : {T E P : Type 0} (r : Result T E) → P → OnOk r P
always_ok (Ok x) p = p
always_ok (Err e) p = tt

pub returns-in_err-restore_windows-clause-keeps : goal.returns-in_err-restore_windows-clause-keeps
returns-in_err-restore_windows-clause-keeps g c dh th s st = c.in_err-restore_windows.ensures.keeps dh th s s st (names_itself s)

pub returns-in_err-restore_windows-clause-survives : goal.returns-in_err-restore_windows-clause-survives
returns-in_err-restore_windows-clause-survives g c dh th s st only y there =
    unmapped_moves s _ _ (c.in_err-restore_windows.ensures.survives dh th s s st (names_itself s) only y there)

pub returns-in_err-restore_windows-clause-order : goal.returns-in_err-restore_windows-clause-order
returns-in_err-restore_windows-clause-order g c th s st dh = always_err _ (inl refl)

pub returns-clause-keeps : goal.returns-clause-keeps
returns-clause-keeps g c dh th s st = c.in_ok-restore_windows.ensures.keeps dh th s s st (names_itself s)

pub returns-clause-survives : goal.returns-clause-survives
returns-clause-survives g c dh th s st only y there =
    unmapped_moves s _ _ (c.in_ok-restore_windows.ensures.survives dh th s s st (names_itself s) only y there)

pub returns-clause-order : goal.returns-clause-order
returns-clause-order g c th s st dh = always_err _ (inr (c.in_ok-restore_windows.ensures.ok dh th s st))

pub returns-clause-undoes : goal.returns-clause-undoes
returns-clause-undoes g c = record {
  image_is = λ dh th s st. always_ok c.keep_undone.result (c.in_ok-restore_windows.ensures.ok dh th s st);
  long = λ dh. always_ok c.keep_undone.result (c.in_ok-restore_windows.ensures.long dh);
  redo_is = c.keep_undone.ensures.redo;
  room_kept = c.in_ok-restore_windows.ensures.no_less_room;
  redo_room = c.keep_undone.ensures.goes_on.no_less_room;
}
