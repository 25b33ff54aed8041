-- What a list of commands makes of a session, one reply at a time.
use Rattle.std.specs.Prelude.{◌≡◌, ℕ, Option, Result, List, [], ◌∷◌}
use Rattle.bx_dd.specs.declared.fault.DdFault.{DdFault}
use Rattle.bx_image.specs.declared.device.Device.{Ghosts as DeviceViews}
use Rattle.bx_journal_store.specs.declared.store.TextStore.{Ghosts as StoreViews}
use Rattle.bx_patch.specs.Patch.{nothing_asked}
use Rattle.bx_patch.specs.Read.{asked_of}
use Rattle.bx_journal.specs.SessionView.{SessionView}
use Rattle.bx_cli_commands.specs.declared.changes.DdChange.{DdChange}
use Rattle.bx_cli_commands.specs.declared.command.Command.{Command}
use Rattle.bx_cli_commands.specs.declared.command.Command.TheVariants.{Dd, Copy, Patch, Revert, RevertPlain}
use Rattle.bx_cli_commands.specs.declared.command.Reply.{Reply}
use Rattle.bx_cli_commands.specs.Copy.{MakesCopy, MakesBy}
use Rattle.bx_cli_commands.specs.Obeys.{Obeys}
use Rattle.bx_cli_commands.specs.Run.{CommandStep, DdStep}
use Rattle.bx_cli_commands.specs.Standing.{Standing}
use Rattle.bx_cli_commands.specs.Tells.{Tells}

-- a command without the text that it reads, which is dropped before its change is made; of others all
abbrev pub without_text : {R A : Type 0} → Command R A → Command R A
without_text (Revert text offset) = Revert [] offset
without_text (RevertPlain text at) = RevertPlain [] at
without_text c = c

-- One command on a session, and what is then left of the command: of dd the input that its operands or its plan left, of a patch one
-- that asks nothing, of one that reads a text all but that text, of another all. Session and reply are as the command's step says, and
-- the reply tells the counts.
abbrev pub SessionStep : {S R A : Type 0} → (S → S → Reply → (Standing → Reply → Standing → Type 0) → Type 0)
    → (Command R A → S → Reply → S → Type 0) → (R → Option (List ℕ))
    → S → Command R A → Command R A → Reply → S → Type 0
SessionStep {A = A} Obey Tell remaining old (Dd operands input) (Dd words left) reply new =
    (words ≡ operands) × Tell (Dd operands input) old reply new
    × ((r : Result (DdChange A) DdFault) × MakesCopy operands (remaining input) (remaining left) r × Obey old new reply (λ s. DdStep s r))
SessionStep {A = A} Obey Tell remaining old (Copy plan input) (Copy same left) reply new =
    (same ≡ plan) × Tell (Copy plan input) old reply new
    × ((r : Result (DdChange A) DdFault) × MakesBy plan (remaining input) (remaining left) r × Obey old new reply (λ s. DdStep s r))
SessionStep Obey Tell remaining old (Patch patch) (Patch left) reply new =
    (asked_of left ≡ nothing_asked) × Tell (Patch patch) old reply new × Obey old new reply (λ s. CommandStep remaining s (Patch patch))
SessionStep Obey Tell remaining old c left reply new = (left ≡ without_text c) × Tell c old reply new × Obey old new reply (λ s. CommandStep remaining s c)

-- A list of commands on a session, and what is then left of them: a chain of sessions, with one step for each reply, in
-- order; it goes on after a refusal
abbrev pub SessionRun : {S C : Type 0} → (S → C → C → Reply → S → Type 0) → S → List C → List C → List Reply → S → Type 0
SessionRun Step old [] [] [] new = new ≡ old
SessionRun {S = S} Step old (c ∷ list) (d ∷ left) (p ∷ replies) new = (now : S) × Step old c d p now × SessionRun Step now list left replies new
SessionRun Step old list left replies new = ⊥

-- each command of a list, in order, is obeyed, and its reply tells the counts, with what is then left of it
abbrev pub AllObey : {D T R A : Type 0} → DeviceViews D → StoreViews T → (R → Option (List ℕ))
    → SessionView D T → List (Command R A) → List (Command R A) → List Reply → SessionView D T → Type 0
AllObey d t remaining = SessionRun (SessionStep (Obeys d t) Tells remaining)
