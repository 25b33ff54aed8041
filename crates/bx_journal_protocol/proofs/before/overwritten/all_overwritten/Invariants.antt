use Rattle.std.proofs.Common.{◌≡◌, ◌≤◌, ℕ, List, length, take, drop}
use Rattle.std.specs.Prelude.{reverse, All}
use Rattle.bx_journal_format.specs.declared.read.types.EntryRead.{EntryRead}
use Rattle.bx_journal_protocol.specs.before.Overwritten.{AreAllWithin, AreOverwrittenOf, HasZerosBut, image_below}
use Rattle.bx_journal_protocol.proofs.before.overwritten.all_overwritten.Given as goal

-- what restoring the entries up to a place overwrites
abbrev pub invariant-loop-place : goal.invariant-loop-place
invariant-loop-place g l = record {
  overwritten : (base : ℕ) (x : List ℕ) → All (λ (e : EntryRead g.row.A.Denot). base ≤ e.kept.len) l.entries → length x ≡ l.len → HasZerosBut base x l.blocks
      → AreOverwrittenOf (image_below (drop l.place l.entries) x) (reverse (take l.place l.entries)) (reverse l.all.items);
  within : AreAllWithin l.all.items;
  count : length l.all.items ≡ l.place;
  inside : l.place ≤ length l.entries;
}
