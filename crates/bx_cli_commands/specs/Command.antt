-- The changes that commands ask for.
use Rattle.std.specs.Prelude.{◌≤◌, ◌^◌, ℕ, ◌+◌, None, List, [], ◌∷◌, map}
use Rattle.bx_cli_commands.specs.declared.command.Command.{Command}
use Rattle.bx_cli_commands.specs.declared.command.Command.TheVariants.{Revert, RevertPlain}
use Rattle.bx_image.specs.declared.change.Change.{Change}
use Rattle.bx_text.specs.declared.owned.pieces.Piece.{Piece}

-- The change without a base that writes each piece, an address and bytes, at its address plus the offset
abbrev pub dump_change : {A : Type 0} → ℕ → List (ℕ × List ℕ) → Change A
dump_change offset pieces = record { base = None; writes = map (λ piece. record { at = piece.0 + offset; bytes = piece.1 }) pieces }

-- the change without a base that writes these bytes at a place
abbrev pub plain_change : {A : Type 0} → ℕ → List ℕ → Change A
plain_change at bytes = record { base = None; writes = record { at = at; bytes = bytes } ∷ [] }

-- a command's offset or place is at most 2 ^ 62
abbrev pub IsNear : {R A : Type 0} → Command R A → Type 0
IsNear (Revert text offset) = offset ≤ 2 ^ 62
IsNear (RevertPlain text at) = at ≤ 2 ^ 62
IsNear command = Unit {0}

-- a piece at its address plus an offset
abbrev pub moved : {A : Type 0} → ℕ → Piece A → Piece A
moved offset piece = record { at = piece.at + offset; bytes = piece.bytes }
