-- What a stopped step leaves, as opening finds it.
use Rattle.std.proofs.Common.{ℕ, List, sym, subst, inl, inr}
use Rattle.bx_journal_model.specs.Machine.{changes_of}
use Rattle.bx_journal_model.specs.Images.{Images}
use Rattle.bx_journal_model.specs.Redo.{IsRedoOf, Finds, RecoversOpen, Side, LeavesSide, Before, Behind, WithinOld, WithinNew}
use Rattle.bx_journal_protocol.proofs.RedoLawsStated.{StepIsFound}

-- an unfinished journal says nothing of the redo text
pub finds_open : (text x redo : List ℕ) (s : Images) → RecoversOpen text x s.stack → Finds text x redo s
finds_open text x redo s o = record { recovers = o.0; undone = λ clean. absurd (o.1 clean) }

pub finds_side : (text x redo : List ℕ) (side : Side) (u : List (List ℕ)) → LeavesSide text x redo side → IsRedoOf side.redo side.image (changes_of side.stack) u → Finds text x redo (record { stack = side.stack; undone = u })
finds_side text x redo side u l r = record {
  recovers = l.recovers;
  undone = λ clean. subst (λ t. IsRedoOf t x (changes_of side.stack) u) (sym l.redo_is) (subst (λ y. IsRedoOf side.redo y (changes_of side.stack) u) (sym l.image_is) r);
}

pub step_is_found : StepIsFound
step_is_found text x redo old new u v leaves r s =
    elim leaves [
      | Before l ↦ inl (finds_side text x redo old u l r)
      | Behind l ↦ inr (finds_side text x redo new v l s)
      | WithinOld o ↦ inl (finds_open text x redo (record { stack = old.stack; undone = u }) o)
      | WithinNew o ↦ inr (finds_open text x redo (record { stack = new.stack; undone = v }) o)
    ]
