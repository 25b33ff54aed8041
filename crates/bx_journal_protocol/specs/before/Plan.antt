-- What some undos take before their first write, for the last k of the entries that were read.
use Rattle.std.specs.Prelude.{◌≡◌, ◌<◌, ◌≤◌, ◌-◌, ℕ, List, [], length, drop, map, vec_capacity}
use Rattle.std.specs.List.{All}
use Rattle.bx_journal_format.specs.declared.read.types.EntryRead.{EntryRead}
use Rattle.bx_journal_protocol.specs.declared.before.records.Plan.{Plan}
use Rattle.bx_journal_protocol.specs.declared.before.records.Taking.{Taking}
use Rattle.bx_journal_protocol.specs.before.Overwritten.{AreAllWithin, place_in}
use Rattle.bx_journal_protocol.specs.protocol.Takens.{AllShaped}
use Rattle.bx_journal_model.specs.Restoring.{IsEnough}

-- where they stand, and ranges for each of them
pub record IsPlan {A B : Type 0} (es : List (EntryRead A)) (k : ℕ) (p : Plan B) : Type 0 where
  pub places : p.placed.items ≡ map place_in (drop (length es - k) es)
  pub within : AreAllWithin p.overwritten.items
  pub count : length p.overwritten.items ≡ k
  pub longest : All (λ (e : EntryRead A). e.kept.len ≤ p.longest) (drop (length es - k) es)

-- the same with records in place of the ranges, an empty page, and a window with room for any line
pub record IsTakenFor {A : Type 0} (es : List (EntryRead A)) (k : ℕ) (o : Taking A) : Type 0 where
  pub places : o.placed.items ≡ map place_in (drop (length es - k) es)
  pub shaped : AllShaped o.takens.items
  pub count : length o.takens.items ≡ k
  pub longest : All (λ (e : EntryRead A). e.kept.len ≤ o.longest) (drop (length es - k) es)
  pub empty : o.page.items ≡ []
  pub page_room : 82 ≤ vec_capacity o.page
  pub window : IsEnough (length o.buffers.window.items)
  pub parts : 0 < vec_capacity o.buffers.parts
