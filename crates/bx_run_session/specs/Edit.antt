-- What is asked of an image.
use Rattle.std.specs.Prelude.{Bool}
use Rattle.bx_cli_commands.specs.declared.command.Command.TheVariants as command
use Rattle.bx_run_session.specs.declared.edit.Edit.{Edit}
use Rattle.bx_run_session.specs.declared.edit.Edit.TheVariants as edit
use Rattle.bx_run_session.specs.declared.edit.proposal.Proposal.{Proposal}
use Rattle.bx_run_session.specs.declared.edit.proposal.Proposal.TheVariants as proposal
use Rattle.bx_run_session.specs.declared.edit.read.ReadEdit.{ReadEdit}
use Rattle.bx_run_session.specs.declared.session.task.Task.{Task}
use Rattle.bx_run_session.specs.declared.session.task.Task.TheVariants.{Keep, Put, Run}
use Rattle.bx_run_session.specs.Input.{HasInput, Input, IsMadeOf}

-- what an input that was read asks
abbrev pub proposed : ReadEdit → Proposal
proposed read = read.proposal

-- the task that does what such an input asks
abbrev pub task_by : {R : Type 0} → Proposal → Task R
task_by (proposal.Read read) = Put read
task_by (proposal.Patch patch) = Run (command.Patch patch)
task_by (proposal.Keep kept) = Keep kept

-- the task that does what is asked
abbrev pub asked : {R : Type 0} → Edit R → Task R
asked (edit.Read read) = task_by (proposed read)
asked (edit.Copy plan input) = Run (command.Copy plan input)

-- the edit is what this input asks, which was read before; dd's that copies when the image is open has its input yet
abbrev pub IsEditOf : {R : Type 0} → Bool → Input → Edit R → Type 0
IsEditOf keeps input (edit.Read read) = IsMadeOf keeps input (proposed read)
IsEditOf keeps input (edit.Copy plan given) = ⊥

-- the edit is what some input asks
abbrev pub IsOfInput : {R : Type 0} → Edit R → Type 0
IsOfInput (edit.Read read) = ∥ HasInput (proposed read) ∥₁
IsOfInput (edit.Copy plan given) = Unit {0}
