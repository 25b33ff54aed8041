-- Texts that were read as changes, or refused.
use Rattle.std.proofs.Common.{◌≡◌, inl, inr, None, Result, Ok, Err, sym, subst}
use Rattle.std.specs.Prelude.{IfOk, IfErr, ◌⊎◌}
use Rattle.bx_image.specs.declared.change.Change.{Change}
use Rattle.bx_read.specs.declared.fault.ReadFault.{ReadFault}
use Rattle.bx_read.specs.declared.fault.ReadFault.TheVariants.{NoMemory as ReadNoMemory}
use Rattle.bx_cli_commands.specs.declared.command.Reply.{Reply}
use Rattle.bx_cli_commands.specs.Run.{ReadStep, ChangeStep}
use Rattle.bx_cli_commands.proofs.RunStated.{RefusesStep}
use Rattle.bx_cli_commands.specs.Standing.{Standing}

-- a text that was read as a change, or refused
pub read_step : {A B : Type 0} (make : B → Change A) (answer : Result B ReadFault) (read : Result (Change A) ReadFault) (before after : Standing) (reply : Reply)
    → IfOk read (λ c. (v : B) × (answer ≡ Ok v) × (c ≡ make v)) → IfErr read (λ e. (e ≡ ReadNoMemory) ⊎ (answer ≡ Err e))
    → ReadStep before (λ c. c) read reply after → RefusesStep before ReadNoMemory reply after ⊎ ReadStep before make answer reply after
read_step {A} {B} make answer (Ok c) before after reply is fault step =
    let Answer : Result B ReadFault → Type 0 = λ a. ReadStep before make a reply after in
    let Changed : Change A → Type 0 = λ d. ChangeStep before d None reply after in
    inr (subst Answer (sym is.1) (subst Changed is.2 step))
read_step {A} {B} make answer (Err e) before after reply made (inl none) step =
    let Fault : ReadFault → Type 0 = λ f. RefusesStep before f reply after in
    inl (subst Fault none step)
read_step {A} {B} make answer (Err e) before after reply made (inr is) step =
    let Answer : Result B ReadFault → Type 0 = λ a. ReadStep before make a reply after in
    inr (subst Answer (sym is) step)
