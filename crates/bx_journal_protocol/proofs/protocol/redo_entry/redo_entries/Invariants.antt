use Rattle.std.proofs.Common.{◌≡◌, ◌+◌, ◌≤◌, ℕ, List, length, drop}
use Rattle.bx_journal_format.specs.Finished.{IsFinished}
use Rattle.bx_journal_model.specs.Taken.{taken_by}
use Rattle.bx_journal_model.specs.OnTop.{OnTop}
use Rattle.bx_journal_model.specs.Stack.{StandsFor}
use Rattle.std.specs.Prelude.{reverse, vec_capacity}
use Rattle.bx_journal_model.specs.Images.{Images, redo_of}
use Rattle.bx_journal_model.specs.Machine.{changes_of}
use Rattle.bx_journal_model.specs.Phase.{IsAtRest}
use Rattle.bx_journal_protocol.specs.write.Touched.{AreTouchedFrom, IsFirstBegun, entries_over}
use Rattle.bx_journal_format.specs.Text.{Entry, IsPrefix}
use Rattle.bx_journal_protocol.specs.protocol.Turns.{AreAtRest, AreStanding}
use Rattle.bx_journal_protocol.specs.protocol.Written.{AreSettled}
use Rattle.bx_journal_protocol.proofs.DeviceLemmas.{HaveGoneOn}
use Rattle.bx_journal_protocol.proofs.EntryLoop.{EntriesLeft}
use Rattle.bx_journal_protocol.proofs.protocol.redo_entry.redo_entries.Given as goal

abbrev pub invariant-loop-i : goal.invariant-loop-i
invariant-loop-i g l = record {
  left : EntriesLeft (g.T.TextStore.faithful l.fn.devices.redo) (g.T.TextStore.text l.fn.devices.redo) (g.T.TextStore.text l.devices.redo) (g.D.Device.room l.devices.image) l.i
      l.fn.entries.items l.entries.items (length l.fn.takens.items) (length l.takens.items);
  touched : AreTouchedFrom (g.D.Device.faithful l.fn.devices.image) (g.D.Device.image l.devices.image) l.entries.items l.takens.items;
  begun : IsFirstBegun (g.D.Device.faithful l.fn.devices.image) (g.D.Device.image l.devices.image) (l.count + 1) (reverse l.takens.items) l.head.page.items l.head.place;
  made : l.count ≡ l.fn.count + l.i;
  bound : l.count + length l.takens.items ≤ 65535;
  front : g.T.TextStore.faithful l.fn.devices.journal → IsPrefix (g.T.TextStore.text l.fn.devices.journal) (g.T.TextStore.text l.devices.journal);
  steps_on : HaveGoneOn g.D.Device g.T.TextStore l.fn.devices l.devices;
  fits : g.T.TextStore.faithful l.fn.devices.journal → length (g.T.TextStore.text l.devices.journal) + entries_over l.takens.items ≤ g.T.TextStore.room l.devices.journal;
  settled : g.D.Device.faithful l.fn.devices.image → g.T.TextStore.faithful l.fn.devices.journal → g.T.TextStore.faithful l.fn.devices.redo
      → AreSettled g.D.Device g.T.TextStore l.fn.devices
      → AreSettled g.D.Device g.T.TextStore l.devices;
  on_top : g.D.Device.faithful l.fn.devices.image → g.T.TextStore.faithful l.fn.devices.journal → (stack : List (List ℕ)) → IsAtRest (g.T.TextStore.text l.fn.devices.journal) (g.D.Device.image l.fn.devices.image) stack
      → l.fn.count ≡ changes_of stack → OnTop l.i stack (IsAtRest (g.T.TextStore.text l.devices.journal) (g.D.Device.image l.devices.image));
  stood : g.D.Device.faithful l.fn.devices.image → g.T.TextStore.faithful l.fn.devices.journal → (stack : List (List ℕ)) → StandsFor (g.T.TextStore.text l.fn.devices.journal) (g.D.Device.image l.fn.devices.image) stack
      → l.fn.count ≡ changes_of stack → OnTop l.i stack (StandsFor (g.T.TextStore.text l.devices.journal) (g.D.Device.image l.devices.image));
  page_room : 82 ≤ vec_capacity l.head.page;
  window : 16 ≤ length l.head.window.items;
  rest : g.D.Device.faithful l.fn.devices.image → g.T.TextStore.faithful l.fn.devices.journal → g.T.TextStore.faithful l.fn.devices.redo → (s : Images)
      → AreAtRest (g.T.TextStore.text l.fn.devices.journal) (g.D.Device.image l.fn.devices.image) (g.T.TextStore.text l.fn.devices.redo) s → l.fn.count ≡ changes_of s.stack
      → IsAtRest (g.T.TextStore.text l.devices.journal) (g.D.Device.image l.devices.image) (redo_of l.i s).stack;
  images : g.D.Device.faithful l.fn.devices.image → g.T.TextStore.faithful l.fn.devices.journal → g.T.TextStore.faithful l.fn.devices.redo → (s : Images)
      → AreStanding (g.T.TextStore.text l.fn.devices.journal) (g.D.Device.image l.fn.devices.image) (g.T.TextStore.text l.fn.devices.redo) s → l.fn.count ≡ changes_of s.stack
      → AreStanding (g.T.TextStore.text l.devices.journal) (g.D.Device.image l.devices.image) (g.T.TextStore.text l.devices.redo) (redo_of l.i s) × (l.count ≡ changes_of (redo_of l.i s).stack);
  taken : g.D.Device.faithful l.fn.devices.image → g.T.TextStore.faithful l.fn.devices.journal → g.T.TextStore.faithful l.fn.devices.redo → (entries : List Entry) → IsFinished (g.T.TextStore.text l.fn.devices.redo) entries
      → taken_by (length l.takens.items) (drop l.i entries) (g.D.Device.image l.devices.image) l.count (g.T.TextStore.text l.devices.journal)
      ≡ taken_by (length l.fn.takens.items) entries (g.D.Device.image l.fn.devices.image) l.fn.count (g.T.TextStore.text l.fn.devices.journal);
}
