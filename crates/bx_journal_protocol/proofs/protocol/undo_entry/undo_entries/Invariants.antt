use Rattle.std.proofs.Common.{◌≡◌, ◌+◌, ◌<◌, ◌≤◌, ℕ, [], List, length, drop}
use Rattle.std.specs.Prelude.{vec_capacity}
use Rattle.bx_journal_format.specs.Finished.{IsFinished}
use Rattle.bx_journal_format.specs.Text.{Entry}
use Rattle.bx_journal_model.specs.Images.{Images, undo_of}
use Rattle.bx_journal_model.specs.Phase.{IsAtRest}
use Rattle.bx_journal_model.specs.Stack.{StandsFor}
use Rattle.bx_journal_model.specs.Taken.{AreKept}
use Rattle.bx_journal_protocol.specs.protocol.Takens.{entries_len}
use Rattle.bx_journal_protocol.specs.protocol.Turns.{AreStanding}
use Rattle.bx_journal_protocol.specs.protocol.Written.{AreSettled}
use Rattle.bx_journal_protocol.proofs.DeviceLemmas.{HaveGoneOn}
use Rattle.bx_journal_protocol.proofs.PlacedLoop.{PlacesLeft}
use Rattle.bx_journal_protocol.proofs.protocol.undo_entry.undo_entries.Given as goal

abbrev pub invariant-loop-i : goal.invariant-loop-i
invariant-loop-i g l = record {
  left : PlacesLeft (g.T.TextStore.faithful l.fn.devices.journal) (g.D.Device.faithful l.fn.devices.image) (g.T.TextStore.text l.fn.devices.journal) (g.T.TextStore.text l.devices.journal) (g.D.Device.image l.devices.image) (g.D.Device.room l.devices.image)
      (length l.buffers.window.items) l.i l.fn.takens.items l.takens.items l.placed.items;
  parts : 0 < vec_capacity l.buffers.parts;
  bound : l.undone + length l.takens.items ≤ l.fn.undone + length l.fn.takens.items;
  steps_on : HaveGoneOn g.D.Device g.T.TextStore l.fn.devices l.devices;
  fits : g.T.TextStore.faithful l.fn.devices.redo → length (g.T.TextStore.text l.devices.redo) + entries_len l.takens.items ≤ g.T.TextStore.room l.devices.redo;
  settled : g.D.Device.faithful l.fn.devices.image → g.T.TextStore.faithful l.fn.devices.journal → g.T.TextStore.faithful l.fn.devices.redo
      → AreSettled g.D.Device g.T.TextStore l.fn.devices
      → AreSettled g.D.Device g.T.TextStore l.devices;
  empty : l.page.items ≡ [];
  page_room : 82 ≤ vec_capacity l.page;
  rest : g.D.Device.faithful l.fn.devices.image → g.T.TextStore.faithful l.fn.devices.journal → (stack : List (List ℕ)) → IsAtRest (g.T.TextStore.text l.fn.devices.journal) (g.D.Device.image l.fn.devices.image) stack
      → IsAtRest (g.T.TextStore.text l.devices.journal) (g.D.Device.image l.devices.image) (drop l.i stack);
  stood : g.D.Device.faithful l.fn.devices.image → g.T.TextStore.faithful l.fn.devices.journal → (stack : List (List ℕ)) → StandsFor (g.T.TextStore.text l.fn.devices.journal) (g.D.Device.image l.fn.devices.image) stack
      → StandsFor (g.T.TextStore.text l.devices.journal) (g.D.Device.image l.devices.image) (drop l.i stack);
  images : g.D.Device.faithful l.fn.devices.image → g.T.TextStore.faithful l.fn.devices.journal → g.T.TextStore.faithful l.fn.devices.redo → (s : Images)
      → AreStanding (g.T.TextStore.text l.fn.devices.journal) (g.D.Device.image l.fn.devices.image) (g.T.TextStore.text l.fn.devices.redo) s → l.fn.undone ≡ length s.undone
      → AreStanding (g.T.TextStore.text l.devices.journal) (g.D.Device.image l.devices.image) (g.T.TextStore.text l.devices.redo) (undo_of l.i s) × (l.undone ≡ length (undo_of l.i s).undone);
  taken : g.D.Device.faithful l.fn.devices.image → g.T.TextStore.faithful l.fn.devices.journal → g.T.TextStore.faithful l.fn.devices.redo → (entries : List Entry) → IsFinished (g.T.TextStore.text l.fn.devices.journal) entries
      → (last : List ℕ) → AreKept (length l.takens.items) (drop l.i entries) (g.D.Device.image l.devices.image) l.undone (g.T.TextStore.text l.devices.redo) last
      → AreKept (length l.fn.takens.items) entries (g.D.Device.image l.fn.devices.image) l.fn.undone (g.T.TextStore.text l.fn.devices.redo) last;
}
