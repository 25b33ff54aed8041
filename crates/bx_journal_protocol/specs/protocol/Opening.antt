-- What opening a pair finds and leaves.
use Rattle.std.specs.Prelude.{◌<◌, ◌≤◌, ℕ, Option, length, IfSome, vec_capacity}
use Rattle.bx_journal_protocol.specs.declared.protocol.restore.Buffers.{Buffers}
use Rattle.bx_journal_model.specs.declared.mark.Mark.{Mark}
use Rattle.bx_journal_model.specs.Restoring.{IsEnough}

-- restoring what is unfinished takes no more memory
abbrev pub HasRoomToRestore : Option Mark → ℕ → Type 0
HasRoomToRestore mark room = IfSome mark (λ m. m.len ≤ room)

-- the buffers have a window for any line, and room for a part
abbrev pub HasBuffersFor : {A : Type 0} → Option Mark → Buffers A → Type 0
HasBuffersFor mark b = IfSome mark (λ m. IsEnough (length b.window.items) × (0 < vec_capacity b.parts))
