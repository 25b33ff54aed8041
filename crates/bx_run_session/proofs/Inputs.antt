-- The step by what an input asks is the one that puts the input onto the image.
use Rattle.std.proofs.Common.{◌≡◌, ◌∙◌, ℕ, Bool, List, Option, Ok, ap}
use Rattle.std.specs.Global.{Global}
use Rattle.bx_image.specs.declared.change.Change.{Change}
use Rattle.bx_dd.specs.declared.operands.plan.Plan.{Plan}
use Rattle.bx_cli_commands.specs.Copy.{CopiesBy}
use Rattle.bx_cli_commands.specs.declared.changes.DdChange.{DdChange}
use Rattle.bx_run_session.specs.Edit.{IsOfInput, asked}
use Rattle.bx_run_session.specs.Input.{Input, IsMadeOf, read_as}
use Rattle.bx_run_session.specs.declared.edit.Edit.{Edit}
use Rattle.bx_run_session.specs.declared.edit.Edit.TheVariants as edit
use Rattle.bx_run_session.specs.declared.edit.proposal.Proposal.{Proposal}

-- what a plan copied, as it was read
pub made_by_copy : (keeps : Bool) (plan : Plan Global) (given left : Option (List ℕ)) (made : DdChange Global) (proposal : Proposal)
    → CopiesBy plan given left made → proposal ≡ read_as keeps (Ok made.change) → IsMadeOf keeps (Input.OfCopy plan given left made.counts) proposal
made_by_copy keeps plan given left made proposal (bytes, copies, is) asked =
    (bytes, copies, asked ∙ ap (λ (change : Change Global). read_as keeps (Ok change)) is)

module _ {R : Type 0} (remaining : R → Option (List ℕ)) where
  -- an edit is what some input asks
  pub of_input : (edit : Edit R) → IsOfInput edit
  of_input (edit.Read read) = read.made
  of_input (edit.Copy plan given) = tt
