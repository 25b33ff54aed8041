-- What of an input a job can leave to a seek.
use Rattle.std.specs.Prelude.{◌≡◌, ℕ, ◌-◌, ◌*◌, ◌/◌, ◌%◌, ◌^◌, ◌≤◌, min, Option, List}
use Rattle.bx_dd.specs.declared.operands.plan.Plan.{Plan}
use Rattle.bx_cli_commands.specs.declared.jobs.dumps.DumpJob.{DumpJob}
use Rattle.bx_cli_commands.specs.declared.jobs.dumps.DumpJob.TheVariants.{Od, Xxd, Hexdump, Strings, Dd}
use Rattle.bx_cli_commands.specs.declared.jobs.skip.Skip.{Skip}
use Rattle.bx_cli_commands.specs.declared.jobs.skip.Skip.TheVariants.{Bytes, Blocks}

-- the name of the input that a job reads; none is standard input
abbrev pub input_of : DumpJob → Option (List ℕ)
input_of (Od job) = job.file
input_of (Xxd job) = job.file
input_of (Hexdump job) = job.file
input_of (Strings job) = job.file
input_of (Dd job) = job.plan.input

-- what a plan skips of its input
abbrev pub plan_skip : {A : Type 0} → Plan A → Skip
plan_skip plan = Blocks plan.skip plan.ibs

-- what a job skips of its input
abbrev pub skip_of : DumpJob → Skip
skip_of (Od job) = Bytes job.options.skip job.options.first
skip_of (Xxd job) = Bytes job.options.seek 0
skip_of (Hexdump job) = Bytes job.options.skip job.options.first
skip_of (Strings job) = Bytes 0 0
skip_of (Dd job) = plan_skip job.plan

-- How many of the bytes can be passed in an input of this length. Of bytes to skip as many as the input has, but for the last of them,
-- which is read: an input that is shorter by then ends there; and addresses from a first one on stay in their range. Of blocks whole ones.
abbrev pub seekable : Skip → ℕ → ℕ
seekable (Bytes count first) length = min (min count length - 1) (2 ^ 62 - first)
seekable (Blocks count size) length = min count (length / size) * size

-- n bytes are among those to skip, of blocks whole ones, and addresses stay in their range
abbrev pub CanPass : ℕ → Skip → Type 0
CanPass n (Bytes count first) = (n ≤ count) × (n ≤ 2 ^ 62 - first)
CanPass n (Blocks count size) = (n ≤ count * size) × (n % size ≡ 0)
