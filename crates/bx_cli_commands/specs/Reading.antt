-- The change that a text asks for: a dump, or plain hexadecimal.
use Rattle.std.specs.Prelude.{◌≡◌, ◌⊎◌, ℕ, Option, None, Some, List, [], All, Ok, Err}
use Rattle.std.specs.Io.KnownBytes.{Consumes}
use Rattle.bx_image.specs.declared.change.Change.{Change}
use Rattle.bx_read.specs.Plain.{plain_answer}
use Rattle.bx_read.specs.Runs.{joined}
use Rattle.bx_read.specs.Text.{dump_pieces}
use Rattle.bx_read.specs.declared.fault.ReadFault.{ReadFault}
use Rattle.bx_text.specs.declared.fault.IoFault.{IoFault}
use Rattle.bx_text.specs.declared.fault.IoFault.TheVariants.{NoMemory}
use Rattle.bx_cli_commands.specs.declared.fault.Fault.{Fault}
use Rattle.bx_cli_commands.specs.declared.fault.Fault.TheVariants.{Io, NothingToWrite}
use Rattle.bx_cli_commands.specs.Command.{dump_change, plain_change}
use Rattle.bx_cli_commands.specs.declared.reading.Form.{Form}
use Rattle.bx_cli_commands.specs.declared.reading.Form.TheVariants.{Dump, Plain}

-- The text asks for the change, where this is added to the addresses of a dump, or is the place of plain hexadecimal.
abbrev pub IsChangeOf : {A : Type 0} → Form → List ℕ → ℕ → Change A → Type 0
IsChangeOf Dump text at change = (pieces : List (ℕ × List ℕ)) × (dump_pieces text ≡ Ok pieces) × (change ≡ dump_change at (joined pieces))
IsChangeOf Plain text at change = (bytes : List ℕ) × (plain_answer text ≡ Ok bytes) × (change ≡ plain_change at bytes)

-- The change writes no byte, and keeps the length.
abbrev pub WritesNothing : {A : Type 0} → Change A → Type 0
WritesNothing change = (change.base ≡ None) × All (λ piece. piece.bytes ≡ []) change.writes

-- The text asks for the change, which writes something.
abbrev pub IsSomeChangeOf : {A : Type 0} → Form → List ℕ → ℕ → Change A → Type 0
IsSomeChangeOf form text at change = IsChangeOf form text at change × (WritesNothing change → ⊥)

-- Why there is no change of a text: memory was refused, or the source has this fault from then on; or the text was read, and asks for a
-- change that writes nothing.
abbrev pub IsUnread : (A : Type 0) → Form → ℕ → Option (List ℕ) → Option (List ℕ) → Option IoFault → Fault → Type 0
IsUnread A form at old new lasting (Io e) = (e ≡ NoMemory) ⊎ (lasting ≡ Some e)
IsUnread A form at old new lasting NothingToWrite =
    (text : List ℕ) × Consumes old new text × ((change : Change A) × IsChangeOf form text at change × WritesNothing change)
IsUnread A form at old new lasting _ = ⊥

-- the text's fault
abbrev pub IsTextFault : Form → List ℕ → ReadFault → Type 0
IsTextFault Dump text fault = dump_pieces text ≡ Err fault
IsTextFault Plain text fault = plain_answer text ≡ Err fault
