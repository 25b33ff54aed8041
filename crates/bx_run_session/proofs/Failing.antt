-- Commands that end in the fault of a device.
use Rattle.std.proofs.Common.{◌≡◌, ℕ, true, false, List, refl}
use Rattle.std.specs.Prelude.{Result, Ok, Err, IfOk, IfErr}
use Rattle.bx_cli_commands.specs.declared.command.Reply.{Reply}
use Rattle.bx_cli_commands.specs.declared.command.Reply.TheVariants.{Changed, Copied, Redone, Refused, Undone}
use Rattle.bx_cli_commands.specs.declared.fault.Fault.{Fault}
use Rattle.bx_cli_commands.specs.declared.fault.Fault.TheVariants.{Session}
use Rattle.bx_journal.specs.SessionFault.TheVariants.{DeviceFailed, Interrupted}
use Rattle.bx_cli_commands.specs.Replies.{stands_by}
use Rattle.bx_cli_commands.specs.Run.{is_failure}
use Rattle.bx_world.specs.World.{SystemState}
use Rattle.bx_run_session.specs.session.Moves.{StopsLine, number_line}
use Rattle.bx_run_model.specs.Failures.{CountsFailure, is_failed}

never : false ≡ true → ⊥
never is = cc

-- a reply that is the fault of a device
pub failed_reply : (reply : Reply) → is_failed (stands_by reply) ≡ true → is_failure reply ≡ true
failed_reply (Changed n) is = absurd (never is)
failed_reply (Copied n counts) is = absurd (never is)
failed_reply (Undone n) is = absurd (never is)
failed_reply (Redone n) is = absurd (never is)
failed_reply (Refused (Session DeviceFailed)) is = refl
failed_reply (Refused (Session Interrupted)) is = refl
failed_reply (Refused e) is = absurd (never is)

-- a moving ended in the fault of a device: its number isn't written
pub failed_told : (standing : Result ℕ Fault) (result : Result (Unit {0}) Fault) (before behind : List ℕ) (mid new : SystemState) (least first last : ℕ)
    → IfOk standing (λ left. IfErr result (StopsLine (number_line left) before behind)) → IfErr standing (λ e. (result ≡ Err e) × (new ≡ mid))
    → last ≡ first → CountsFailure (is_failed standing) least first → CountsFailure (is_failed result) least last
failed_told (Ok left) (Ok v) before behind mid new least first last lost refused same counts = rw same (record { least = counts.least; rise = λ is. absurd (never is) })
failed_told (Ok left) (Err e) before behind mid new least first last lost refused same counts =
    let fault = lost.fault in
    rw (same, fault) (record { least = counts.least; rise = λ is. absurd (never is) })
failed_told (Err e) result before behind mid new least first last lost refused same counts =
    let is = refused.0 in
    rw (same, is) counts
