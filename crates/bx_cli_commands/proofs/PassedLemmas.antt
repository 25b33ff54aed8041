-- Dumps and copies behind bytes that were passed.
use Rattle.std.proofs.Common.{◌≡◌, ℕ, ◌+◌, ◌-◌, ◌*◌, ◌/◌, ◌%◌, ◌≤◌, List, Option, Result, Ok, Err, refl, subst, arith}
use Rattle.std.specs.Prelude.{IfOk, IfErr}
use Rattle.std.proofs.Math.Nat.{mul_comm, mul-sub}
use Rattle.std.proofs.lemmas.Nat.{div-add-mod'}
use Rattle.bx_text.specs.declared.fault.IoFault.{IoFault}
use Rattle.bx_dump.specs.declared.xxd.options.XxdOptions.{XxdOptions}
use Rattle.bx_dump.specs.declared.xxd.options.XxdStyle.{XxdStyle}
use Rattle.bx_dump.specs.declared.od.options.OdOptions.{OdOptions}
use Rattle.bx_dump.specs.declared.hexdump.options.HexdumpOptions.{HexdumpOptions}
use Rattle.bx_dump.specs.Behind.{IsHexdumpRest, IsOdRest, IsXxdRest}
use Rattle.bx_dump.specs.Hexdump.{hexdump_of}
use Rattle.bx_dump.specs.OdDump.{StopsOd, StopsReaching, od_of}
use Rattle.bx_dump.specs.Pages.{Dump, WritesAll, WritesFrontOf}
use Rattle.bx_dump.specs.Styles.{xxd_of}
use Rattle.bx_dump.proofs.BehindLemmas.{hexdump_rest, od_rest, xxd_rest}
use Rattle.bx_dd.specs.Behind.{IsPlanRest}
use Rattle.bx_dd.specs.declared.operands.plan.Plan.{Plan}
use Rattle.bx_dd.specs.declared.counts.Counts.{Counts}
use Rattle.bx_cli_commands.specs.declared.fault.Fault.{Fault}
use Rattle.bx_cli_commands.specs.jobs.Dump.{IsStyleOf, array_name}
use Rattle.bx_cli_commands.specs.jobs.CopyOut.{CopiesOut, StopsOut}
use Rattle.bx_cli_commands.specs.jobs.JobDump.{CopiesBehind, DumpsHexdumpBehind, DumpsLookBehind, DumpsOdBehind, StopsCopyBehind, StopsHexdumpBehind, StopsLookBehind, StopsOdBehind}
use Rattle.bx_cli_commands.specs.declared.jobs.dumps.XxdJob.{XxdJob}

less : (n x y z : ℕ) → z ≡ x - y → y ≡ n → n ≤ x → n + z ≡ x
less n x y z p q le = omega arith

without : (x r n : ℕ) → x + r ≡ n → r ≡ 0 → x ≡ n
without x r n p q = omega arith

-- whole blocks, and those that are left
pub blocks_left : (n s b : ℕ) → n % b ≡ 0 → n ≤ s * b → n + (s - n / b) * b ≡ s * b
blocks_left n s b whole le =
    let parts : (s - n / b) * b ≡ s * b - n / b * b = rw (mul_comm (s - n / b) b, mul-sub b s (n / b), mul_comm b s, mul_comm b (n / b)) refl in
    less n (s * b) (n / b * b) ((s - n / b) * b) parts (without (n / b * b) (n % b) n (div-add-mod' n b) whole) le

pub look_ok : (n : ℕ) (job : XxdJob) (s : XxdStyle) (rest : XxdOptions) (r0 r1 w0 w1 : Option (List ℕ)) (result : Result ℕ IoFault) →
    IsXxdRest n job.options rest → IsStyleOf job.look (array_name job.array job.file) s → IfOk result (WritesAll (xxd_of s rest) r0 r1 w0 w1) → IfOk result (DumpsLookBehind n job r0 r1 w0 w1)
look_ok n job s rest r0 r1 w0 w1 (Ok k) is style done = (s, style, subst (λ (d : Dump). WritesAll d r0 r1 w0 w1 k) (xxd_rest n s job.options rest is) done)
look_ok n job s rest r0 r1 w0 w1 (Err e) is style done = tt

pub look_err : (n : ℕ) (job : XxdJob) (s : XxdStyle) (rest : XxdOptions) (r0 r1 w0 w1 : Option (List ℕ)) (result : Result ℕ IoFault) →
    IsXxdRest n job.options rest → IsStyleOf job.look (array_name job.array job.file) s → IfErr result (WritesFrontOf (xxd_of s rest) r0 r1 w0 w1) → IfErr result (StopsLookBehind n job r0 r1 w0 w1)
look_err n job s rest r0 r1 w0 w1 (Ok k) is style stop = tt
look_err n job s rest r0 r1 w0 w1 (Err f) is style stop = (s, style, subst (λ (d : Dump). WritesFrontOf d r0 r1 w0 w1 f) (xxd_rest n s job.options rest is) stop)

pub od_ok : (n : ℕ) (o rest : OdOptions) (r0 r1 w0 w1 : Option (List ℕ)) (result : Result ℕ IoFault) →
    IsOdRest n o rest → IfOk result (WritesAll (od_of rest) r0 r1 w0 w1) → IfOk result (DumpsOdBehind n o r0 r1 w0 w1)
od_ok n o rest r0 r1 w0 w1 (Ok k) is done = subst (λ (d : Dump). WritesAll d r0 r1 w0 w1 k) (od_rest n o rest is) done
od_ok n o rest r0 r1 w0 w1 (Err e) is done = tt

pub od_err : (n : ℕ) (o rest : OdOptions) (r0 r1 w0 w1 : Option (List ℕ)) (result : Result ℕ IoFault) →
    IsOdRest n o rest → IfErr result (StopsOd rest r0 r1 w0 w1) → IfErr result (StopsOdBehind n o r0 r1 w0 w1)
od_err n o rest r0 r1 w0 w1 (Ok k) is stop = tt
od_err n o rest r0 r1 w0 w1 (Err f) is stop = subst (λ (d : Dump). StopsReaching d r0 r1 w0 w1 f) (od_rest n o rest is) stop

pub hexdump_ok : (n : ℕ) (o rest : HexdumpOptions) (r0 r1 w0 w1 : Option (List ℕ)) (result : Result ℕ IoFault) →
    IsHexdumpRest n o rest → IfOk result (WritesAll (hexdump_of rest) r0 r1 w0 w1) → IfOk result (DumpsHexdumpBehind n o r0 r1 w0 w1)
hexdump_ok n o rest r0 r1 w0 w1 (Ok k) is done = subst (λ (d : Dump). WritesAll d r0 r1 w0 w1 k) (hexdump_rest n o rest is) done
hexdump_ok n o rest r0 r1 w0 w1 (Err e) is done = tt

pub hexdump_err : (n : ℕ) (o rest : HexdumpOptions) (r0 r1 w0 w1 : Option (List ℕ)) (result : Result ℕ IoFault) →
    IsHexdumpRest n o rest → IfErr result (WritesFrontOf (hexdump_of rest) r0 r1 w0 w1) → IfErr result (StopsHexdumpBehind n o r0 r1 w0 w1)
hexdump_err n o rest r0 r1 w0 w1 (Ok k) is stop = tt
hexdump_err n o rest r0 r1 w0 w1 (Err f) is stop = subst (λ (d : Dump). WritesFrontOf d r0 r1 w0 w1 f) (hexdump_rest n o rest is) stop

pub copy_ok : {A : Type 0} (n : ℕ) (plan rest : Plan A) (r0 r1 w0 w1 : Option (List ℕ)) (result : Result Counts Fault) →
    IsPlanRest n plan rest → IfOk result (CopiesOut rest r0 r1 w0 w1) → IfOk result (CopiesBehind n plan r0 r1 w0 w1)
copy_ok n plan rest r0 r1 w0 w1 (Ok k) is done = (rest, is, done)
copy_ok n plan rest r0 r1 w0 w1 (Err e) is done = tt

pub copy_err : {A : Type 0} (n : ℕ) (plan rest : Plan A) (r0 r1 w0 w1 : Option (List ℕ)) (result : Result Counts Fault) →
    IsPlanRest n plan rest → IfErr result (StopsOut rest r0 r1 w0 w1) → IfErr result (StopsCopyBehind n plan r0 r1 w0 w1)
copy_err n plan rest r0 r1 w0 w1 (Ok k) is stop = tt
copy_err n plan rest r0 r1 w0 w1 (Err e) is stop = (rest, is, stop)
