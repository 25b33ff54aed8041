-- What dd does without an image, its output going to a writer.
use Rattle.std.specs.Prelude.{◌≡◌, ◌⊎◌, ◌<◌, ℕ, Option, List}
use Rattle.bx_text.specs.declared.fault.IoFault.{IoFault}
use Rattle.bx_dd.specs.declared.fault.DdFault.TheVariants.{SeekWithoutOutput}
use Rattle.bx_dd.specs.declared.counts.Counts.{Counts}
use Rattle.bx_dd.specs.declared.operands.plan.Plan.{Plan}
use Rattle.bx_dd.specs.Streaming.{IsCopy, StopsCopy}
use Rattle.bx_cli_commands.specs.declared.fault.Fault.{Fault}
use Rattle.bx_cli_commands.specs.declared.fault.Fault.TheVariants as fault

-- the plan seeks nowhere, and what it makes of the input was written
abbrev pub CopiesOut : {A : Type 0} → Plan A → Option (List ℕ) → Option (List ℕ) → Option (List ℕ) → Option (List ℕ) → Counts → Type 0
CopiesOut plan r0 r1 w0 w1 counts = (plan.seek ≡ 0) × IsCopy plan r0 r1 w0 w1 counts

-- Why it stopped: the plan seeks, and nothing was read or written; or a front was written of what it makes of the input that
-- was read, and no more was read than skip and count ask for
abbrev pub StopsOut : {A : Type 0} → Plan A → Option (List ℕ) → Option (List ℕ) → Option (List ℕ) → Option (List ℕ) → Fault → Type 0
StopsOut plan r0 r1 w0 w1 e =
    ((0 < plan.seek) × (e ≡ fault.Dd SeekWithoutOutput) × (r1 ≡ r0) × (w1 ≡ w0))
    ⊎ ((plan.seek ≡ 0) × ((f : IoFault) × (e ≡ fault.Io f) × StopsCopy plan r0 r1 w0 w1 f))
