-- Commands that end in the fault of a device.
use Rattle.std.proofs.Common.{◌≡◌, ◌<◌, ◌+◌, ℕ, true, false, arith}
use Rattle.std.specs.Prelude.{Result, Err}
use Rattle.bx_cli_commands.specs.declared.fault.Fault.{Fault}
use Rattle.bx_cli_commands.specs.declared.fault.Fault.TheVariants.{Session}
use Rattle.bx_journal.specs.SessionFault.{SessionFault}
use Rattle.bx_journal.specs.SessionFault.TheVariants.{DeviceFailed, Interrupted}
use Rattle.bx_journal.specs.Opening.{ThreeCounts}
use Rattle.bx_journal_model.specs.Looking.{FaultCounts}
use Rattle.bx_journal_read.specs.show.Showing.{LookCounts}
use Rattle.bx_journal_read.specs.declared.show.fault.ShowFault.{ShowFault}
use Rattle.bx_journal_read.specs.declared.show.fault.ShowFault.TheVariants as look
use Rattle.bx_cli_commands.specs.Listing.{ListCounts}
use Rattle.bx_run_report.specs.report.Looks.{is_look_failed, is_unseen_failed, unseen_of}
use Rattle.bx_run_report.specs.report.Unfinished.{unseen_by}
use Rattle.bx_run_report.specs.declared.report.error.ReportError.{ReportError}
use Rattle.bx_run_model.specs.Failures.{is_device_fault}

never : false ≡ true → ⊥
never is = cc

-- where an opening that was refused says that a device failed, a call of one did
pub failed_reason : (e : SessionFault) (d t u d_new t_new u_new : ℕ) → ThreeCounts e d t u d_new t_new u_new
    → is_look_failed {V = Unit {0}} (Err (unseen_of e)) ≡ true → 0 < d_new + t_new + u_new
failed_reason DeviceFailed d t u d_new t_new u_new counts is = omega arith
failed_reason e d t u d_new t_new u_new counts is = absurd (never is)

-- and so of one of two devices
pub failed_look : (e : SessionFault) (d t d_new t_new u : ℕ) → FaultCounts e d t d_new t_new
    → is_look_failed {V = Unit {0}} (Err (unseen_of e)) ≡ true → 0 < d_new + t_new + u
failed_look DeviceFailed d t d_new t_new u counts is = omega arith
failed_look e d t d_new t_new u counts is = absurd (never is)

-- a session's fault, that of a call which looks at two devices, and that of a list of ranges or of steps
pub failed_session : (e : SessionFault) (d t u d_new t_new u_new : ℕ) → ThreeCounts e d t u d_new t_new u_new → is_device_fault (Session e) ≡ true
    → 0 < d_new + t_new + u_new
failed_session DeviceFailed d t u d_new t_new u_new counts is = omega arith
failed_session Interrupted d t u d_new t_new u_new counts is = omega arith
failed_session e d t u d_new t_new u_new counts is = absurd (never is)

pub failed_one : (e : SessionFault) (d t d_new t_new : ℕ) → FaultCounts e d t d_new t_new → is_device_fault (Session e) ≡ true → 0 < d_new + t_new
failed_one DeviceFailed d t d_new t_new counts is = omega arith
failed_one Interrupted d t d_new t_new counts is = omega arith
failed_one e d t d_new t_new counts is = absurd (never is)

pub failed_list : (fault : Fault) (d t d_new t_new : ℕ) → ListCounts fault d t d_new t_new → is_device_fault fault ≡ true → 0 < d_new + t_new
failed_list (Session DeviceFailed) d t d_new t_new counts is = omega arith
failed_list (Session Interrupted) d t d_new t_new counts is = omega arith
failed_list fault d t d_new t_new counts is = absurd (never is)

-- the fault of a list that recovers nothing
pub failed_front : (fault : ShowFault) (d t d_new t_new : ℕ) → LookCounts fault d t d_new t_new → is_unseen_failed (unseen_by fault) ≡ true → 0 < d_new + t_new
failed_front (look.Text DeviceFailed) d t d_new t_new counts is = omega arith
failed_front (look.Text Interrupted) d t d_new t_new counts is = omega arith
failed_front (look.Text fault) d t d_new t_new counts is = absurd (never is)
failed_front (look.Io fault) d t d_new t_new counts is = absurd (never is)

-- a look whose files are closed behind it
pub failed_closed : {V : Type 0} (outcome result : Result V ReportError) (old mid last failed : ℕ) → result ≡ outcome → mid ≡ old → last ≡ mid + failed
    → (is_look_failed outcome ≡ true → 0 < failed) → is_look_failed result ≡ true → old < last
failed_closed outcome result old mid last failed same calm closed some is = let one = some (rw same at is) in omega (arith, calm, closed, one)

-- the same where a second device of the image is closed before
pub failed_twice : {V : Type 0} (outcome result : Result V ReportError) (old lent both mid last failed again : ℕ) → result ≡ outcome → lent ≡ old → both ≡ lent
    → mid ≡ both + again → last ≡ mid + failed → (is_look_failed outcome ≡ true → 0 < failed + again) → is_look_failed result ≡ true → old < last
failed_twice outcome result old lent both mid last failed again same first second closed whole some is =
    let one = some (rw same at is) in omega (arith, first, second, closed, whole, one)
