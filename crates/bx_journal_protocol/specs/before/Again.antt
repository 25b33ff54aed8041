-- What is taken before some redos.
use Rattle.std.specs.Prelude.{◌≡◌, ◌≤◌, ℕ, List, length, reverse, vec_capacity}
use Rattle.bx_journal_format.specs.declared.read.types.EntryRead.{EntryRead}
use Rattle.bx_journal_protocol.specs.declared.before.ranges.Again.{Again}
use Rattle.bx_journal_protocol.specs.write.Touched.{AreTouchedFrom, IsFirstBegun}

-- k ranges for the newest of the entries from the image x on, the first of them looked at and its head begun
pub record IsReadyAgain {A B : Type 0} (faithful : Type 0) (x : List ℕ) (es : List (EntryRead A)) (k number : ℕ) (o : Again B) : Type 0 where
  pub count : length o.takens.items ≡ k
  pub touched : AreTouchedFrom faithful x es o.takens.items
  pub begun : IsFirstBegun faithful x number (reverse o.takens.items) o.head.page.items o.head.place
  pub page_room : 82 ≤ vec_capacity o.head.page
  pub window : 16 ≤ length o.head.window.items
