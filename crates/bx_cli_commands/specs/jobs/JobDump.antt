-- What running a dump that a job asks for does, of an input behind bytes that were passed, as a seek passes them.
use Rattle.std.specs.Prelude.{◌≡◌, ℕ, Option, List}
use Rattle.bx_text.specs.declared.fault.IoFault.{IoFault}
use Rattle.bx_dd.specs.declared.counts.Counts.{Counts}
use Rattle.bx_dd.specs.declared.operands.plan.Plan.{Plan}
use Rattle.bx_dd.specs.Behind.{IsPlanRest}
use Rattle.bx_dump.specs.declared.hexdump.options.HexdumpOptions.{HexdumpOptions}
use Rattle.bx_dump.specs.declared.od.options.OdOptions.{OdOptions}
use Rattle.bx_dump.specs.declared.xxd.options.XxdStyle.{XxdStyle}
use Rattle.bx_dump.specs.Behind.{behind}
use Rattle.bx_dump.specs.Hexdump.{hexdump_of}
use Rattle.bx_dump.specs.OdDump.{StopsReaching, od_of}
use Rattle.bx_dump.specs.Pages.{WritesAll, WritesFrontOf}
use Rattle.bx_dump.specs.Strings.{strings_of}
use Rattle.bx_dump.specs.Styles.{xxd_of}
use Rattle.bx_cli_commands.specs.declared.fault.Fault.{Fault}
use Rattle.bx_cli_commands.specs.declared.fault.Fault.TheVariants as fault
use Rattle.bx_cli_commands.specs.declared.jobs.dump.Done.{Done}
use Rattle.bx_cli_commands.specs.declared.jobs.dump.Done.TheVariants.{Dumped, Copied}
use Rattle.bx_cli_commands.specs.declared.jobs.dumps.DumpJob.{DumpJob}
use Rattle.bx_cli_commands.specs.declared.jobs.dumps.DumpJob.TheVariants.{Od, Xxd, Hexdump, Strings, Dd}
use Rattle.bx_cli_commands.specs.declared.jobs.dumps.XxdJob.{XxdJob}
use Rattle.bx_cli_commands.specs.jobs.CopyOut.{CopiesOut, StopsOut}
use Rattle.bx_cli_commands.specs.jobs.Dump.{IsStyleOf, array_name}

-- ---- what is made of the bytes behind those that were passed

-- od's text
abbrev pub DumpsOdBehind : ℕ → OdOptions → Option (List ℕ) → Option (List ℕ) → Option (List ℕ) → Option (List ℕ) → ℕ → Type 0
DumpsOdBehind n o r0 r1 w0 w1 k = WritesAll (behind n (od_of o)) r0 r1 w0 w1 k

-- a front of it, or an input that ended before
abbrev pub StopsOdBehind : ℕ → OdOptions → Option (List ℕ) → Option (List ℕ) → Option (List ℕ) → Option (List ℕ) → IoFault → Type 0
StopsOdBehind n o r0 r1 w0 w1 f = StopsReaching (behind n (od_of o)) r0 r1 w0 w1 f

-- xxd's text in the style of the job's look
abbrev pub DumpsLookBehind : ℕ → XxdJob → Option (List ℕ) → Option (List ℕ) → Option (List ℕ) → Option (List ℕ) → ℕ → Type 0
DumpsLookBehind n job r0 r1 w0 w1 k = (s : XxdStyle) × IsStyleOf job.look (array_name job.array job.file) s × WritesAll (behind n (xxd_of s job.options)) r0 r1 w0 w1 k

-- a front of it
abbrev pub StopsLookBehind : ℕ → XxdJob → Option (List ℕ) → Option (List ℕ) → Option (List ℕ) → Option (List ℕ) → IoFault → Type 0
StopsLookBehind n job r0 r1 w0 w1 f = (s : XxdStyle) × IsStyleOf job.look (array_name job.array job.file) s × WritesFrontOf (behind n (xxd_of s job.options)) r0 r1 w0 w1 f

-- the text of hexdump -C
abbrev pub DumpsHexdumpBehind : ℕ → HexdumpOptions → Option (List ℕ) → Option (List ℕ) → Option (List ℕ) → Option (List ℕ) → ℕ → Type 0
DumpsHexdumpBehind n o r0 r1 w0 w1 k = WritesAll (behind n (hexdump_of o)) r0 r1 w0 w1 k

-- a front of it
abbrev pub StopsHexdumpBehind : ℕ → HexdumpOptions → Option (List ℕ) → Option (List ℕ) → Option (List ℕ) → Option (List ℕ) → IoFault → Type 0
StopsHexdumpBehind n o r0 r1 w0 w1 f = WritesFrontOf (behind n (hexdump_of o)) r0 r1 w0 w1 f

-- what the rest of a plan makes, behind n bytes
abbrev pub CopiesBehind : {A : Type 0} → ℕ → Plan A → Option (List ℕ) → Option (List ℕ) → Option (List ℕ) → Option (List ℕ) → Counts → Type 0
CopiesBehind {A = A} n plan r0 r1 w0 w1 counts = (rest : Plan A) × IsPlanRest n plan rest × CopiesOut rest r0 r1 w0 w1 counts

-- the rest of a plan stopped
abbrev pub StopsCopyBehind : {A : Type 0} → ℕ → Plan A → Option (List ℕ) → Option (List ℕ) → Option (List ℕ) → Option (List ℕ) → Fault → Type 0
StopsCopyBehind {A = A} n plan r0 r1 w0 w1 e = (rest : Plan A) × IsPlanRest n plan rest × StopsOut rest r0 r1 w0 w1 e

-- ---- what a job does

-- the whole text for the job's options was written, or all that dd makes, of what the reader gave behind n bytes of the input
abbrev pub DumpsJob : ℕ → DumpJob → Option (List ℕ) → Option (List ℕ) → Option (List ℕ) → Option (List ℕ) → Done → Type 0
DumpsJob n (Od job) r0 r1 w0 w1 (Dumped k) = DumpsOdBehind n job.options r0 r1 w0 w1 k
DumpsJob n (Xxd job) r0 r1 w0 w1 (Dumped k) = DumpsLookBehind n job r0 r1 w0 w1 k
DumpsJob n (Hexdump job) r0 r1 w0 w1 (Dumped k) = DumpsHexdumpBehind n job.options r0 r1 w0 w1 k
DumpsJob n (Strings job) r0 r1 w0 w1 (Dumped k) = WritesAll (strings_of job.options) r0 r1 w0 w1 k
DumpsJob n (Dd job) r0 r1 w0 w1 (Copied counts) = CopiesBehind n job.plan r0 r1 w0 w1 counts
DumpsJob n job r0 r1 w0 w1 done = ⊥

-- a fault of a stream, and what it leaves
abbrev pub Stops : (IoFault → Type 0) → Fault → Type 0
Stops Leaves e = (f : IoFault) × (e ≡ fault.Io f) × Leaves f

-- what a fault leaves: a front of the text of what was read was written
abbrev pub StopsJob : ℕ → DumpJob → Option (List ℕ) → Option (List ℕ) → Option (List ℕ) → Option (List ℕ) → Fault → Type 0
StopsJob n (Od job) r0 r1 w0 w1 e = Stops (StopsOdBehind n job.options r0 r1 w0 w1) e
StopsJob n (Xxd job) r0 r1 w0 w1 e = Stops (StopsLookBehind n job r0 r1 w0 w1) e
StopsJob n (Hexdump job) r0 r1 w0 w1 e = Stops (StopsHexdumpBehind n job.options r0 r1 w0 w1) e
StopsJob n (Strings job) r0 r1 w0 w1 e = Stops (WritesFrontOf (strings_of job.options) r0 r1 w0 w1) e
StopsJob n (Dd job) r0 r1 w0 w1 e = StopsCopyBehind n job.plan r0 r1 w0 w1 e
