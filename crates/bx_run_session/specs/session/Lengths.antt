-- Between which lengths a task of one step leaves an image, wherever it is stopped, as far as that is known before it.
use Rattle.std.specs.Prelude.{◌≡◌, ℕ, Option, List, IfSome, Ok, length, min, max}
use Rattle.std.specs.Option.{unwrap_or}
use Rattle.bx_image.specs.Change.{Fits, effect}
use Rattle.bx_image.specs.declared.change.Change.{Change}
use Rattle.bx_image.specs.declared.change.TheConstants.{MAX_LEN}
use Rattle.bx_patch.specs.declared.read.patch.Patch.{Patch}
use Rattle.bx_journal_image.specs.declared.finding.rest.AtRest.{AtRest}
use Rattle.bx_journal_image.specs.declared.sealing.seal.Span.{Span}
use Rattle.bx_cli_commands.specs.declared.command.Command.TheVariants as command
use Rattle.bx_cli_commands.specs.declared.command.Kept.TheVariants as kept
use Rattle.bx_run_session.specs.declared.session.task.Task.{Task}
use Rattle.bx_run_session.specs.declared.session.task.Task.TheVariants.{Run, Put, Keep}

-- those between two
abbrev pub between : ℕ → ℕ → Span
between one other = record { least = min one other; most = max one other }

-- Of a change of an image of n bytes: those between the least and the greatest of n, of the length to which its base brings the image, and of the
-- one that it leaves
abbrev pub IsChangeSpan : {A : Type 0} → Change A → ℕ → Span → Type 0
IsChangeSpan change n span = (x : List ℕ) → length x ≡ n → Fits change n MAX_LEN
    → span ≡ between (min (min (unwrap_or change.base n) n) (length (effect change x))) (max (length (effect change x)) n)

-- of a task that brings an image of n bytes to another length, where that is known
abbrev pub IsSpanTo : ℕ → Option ℕ → Span → Type 0
IsSpanTo n told span = IfSome told (λ other. span ≡ between n other)

-- of a patch, where it tells its length
abbrev pub IsPatchSpan : {A : Type 0} → Patch A → ℕ → Span → Type 0
IsPatchSpan patch n span = IfSome patch.lengths (λ l. span ≡ between n l.new)

-- of a task of one step; of one whose input is read inside it nothing is known
abbrev pub IsTaskSpan : {R : Type 0} → Task R → AtRest → Span → Type 0
IsTaskSpan (Put (Ok change)) found span = IsChangeSpan change found.standing.length span
IsTaskSpan (Keep (kept.Change change)) found span = IsChangeSpan change found.standing.length span
IsTaskSpan (Keep (kept.Patch patch)) found span = IsPatchSpan patch found.standing.length span
IsTaskSpan (Run (command.Patch patch)) found span = IsPatchSpan patch found.standing.length span
IsTaskSpan (Run (command.Undo k)) found span = IsSpanTo found.standing.length found.before span
IsTaskSpan (Run (command.Redo k)) found span = IsSpanTo found.standing.length found.after span
IsTaskSpan task found span = Unit {0}
