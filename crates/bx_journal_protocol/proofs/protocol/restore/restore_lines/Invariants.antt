use Rattle.std.proofs.Common.{◌≡◌, ◌-◌, ◌≤◌, ◌↔◌, length}
use Rattle.std.specs.Prelude.{vec_capacity}
use Rattle.bx_image.specs.Change.{KeepsUnmapped}
use Rattle.bx_image.specs.Power.{Follows, NoMore}
use Rattle.bx_journal_format.specs.Kept.{Kept}
use Rattle.bx_journal_model.specs.Restoring.{IsRestoredTo, Names, StandsAt}
use Rattle.bx_journal_protocol.proofs.protocol.restore.restore_lines.Given as goal

-- the lines before this place are restored
abbrev pub invariant-loop-at : goal.invariant-loop-at
invariant-loop-at g l =
    let D = g.D.Device in
    let T = g.T.TextStore in
    record {
      below : l.at ≤ l.mark.saved;
      ok : D.faithful l.fn.image → T.faithful l.fn.from → (s : Kept) (stands : StandsAt (T.text l.fn.from) l.mark s)
          → IsRestoredTo (T.text l.fn.from) stands.entries stands.version l.mark.len l.at (D.image l.fn.image) (D.image l.image);
      keeps : D.faithful l.fn.image → T.faithful l.fn.from → (s r : Kept) → StandsAt (T.text l.fn.from) l.mark s → Names r s
          → KeepsUnmapped r (D.image l.fn.image) (D.image l.image) × Follows (KeepsUnmapped r) (D.survives l.fn.image) (D.survives l.image);
      long : D.faithful l.fn.image → length (D.image l.fn.image) ≡ l.mark.len → length (D.image l.image) ≡ l.mark.len;
      text : T.faithful l.fn.from → T.text l.from ≡ T.text l.fn.from;
      text_survives : T.faithful l.fn.from → NoMore (T.survives l.fn.from) (T.survives l.from);
      window : length l.window ≡ length l.fn.window;
      parts : vec_capacity l.fn.parts ≤ vec_capacity l.parts;
      image_faith : D.faithful l.image ↔ D.faithful l.fn.image;
      journal_faith : T.faithful l.from ↔ T.faithful l.fn.from;
      room : D.room l.fn.image ≤ D.room l.image;
      image_failures : D.failures l.image ≡ D.failures l.fn.image;
      journal_failures : T.failures l.from ≡ T.failures l.fn.from;
    }

abbrev pub decreases-loop-at : goal.decreases-loop-at
decreases-loop-at g l = l.mark.saved - l.at
