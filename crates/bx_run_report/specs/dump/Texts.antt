-- What a job makes of all bytes of a file, whether a seek passes some of those that it skips or they are read.
use Rattle.std.specs.Prelude.{◌≡◌, ℕ, List, Option, length}
use Rattle.std.specs.Io.KnownBytes.{Appends}
use Rattle.bx_dd.specs.declared.counts.Counts.{Counts}
use Rattle.bx_dd.specs.declared.operands.plan.Plan.{Plan}
use Rattle.bx_dd.specs.Counting.{counts_of}
use Rattle.bx_dd.specs.Plan.{plan_form}
use Rattle.bx_dd.specs.Transfer.{output_of, selected_by}
use Rattle.bx_dump.specs.declared.xxd.options.XxdStyle.{XxdStyle}
use Rattle.bx_dump.specs.Behind.{text_of}
use Rattle.bx_dump.specs.Hexdump.{hexdump_of}
use Rattle.bx_dump.specs.OdDump.{od_of}
use Rattle.bx_dump.specs.Pages.{Dump, bytes_dumped}
use Rattle.bx_dump.specs.Strings.{strings_of}
use Rattle.bx_dump.specs.Styles.{xxd_of}
use Rattle.bx_cli_commands.specs.declared.jobs.dump.Done.{Done}
use Rattle.bx_cli_commands.specs.declared.jobs.dump.Done.TheVariants.{Dumped, Copied}
use Rattle.bx_cli_commands.specs.declared.jobs.dumps.DumpJob.{DumpJob}
use Rattle.bx_cli_commands.specs.declared.jobs.dumps.DumpJob.TheVariants.{Od, Xxd, Hexdump, Strings, Dd}
use Rattle.bx_cli_commands.specs.jobs.Dump.{IsStyleOf, array_name}

-- the text that a dump makes of the bytes was written, which shows k of them
abbrev pub WritesWholeText : Dump → List ℕ → ℕ → Option (List ℕ) → Option (List ℕ) → Type 0
WritesWholeText d bytes k old new = Appends old new (text_of d bytes) × (length (bytes_dumped d.skip d.limit bytes) ≡ k)

-- the plan seeks nowhere, and what it makes of the bytes was written and counted
abbrev pub WritesWholeCopy : {A : Type 0} → Plan A → List ℕ → Counts → Option (List ℕ) → Option (List ℕ) → Type 0
WritesWholeCopy plan bytes counts old new = (plan.seek ≡ 0) × Appends old new (output_of plan bytes)
    × (counts ≡ counts_of (plan_form plan) (selected_by plan bytes))

-- what the job makes of all the bytes was written
abbrev pub DumpsWhole : DumpJob → List ℕ → Done → Option (List ℕ) → Option (List ℕ) → Type 0
DumpsWhole (Od job) bytes (Dumped k) old new = WritesWholeText (od_of job.options) bytes k old new
DumpsWhole (Xxd job) bytes (Dumped k) old new = (s : XxdStyle) × IsStyleOf job.look (array_name job.array job.file) s × WritesWholeText (xxd_of s job.options) bytes k old new
DumpsWhole (Hexdump job) bytes (Dumped k) old new = WritesWholeText (hexdump_of job.options) bytes k old new
DumpsWhole (Strings job) bytes (Dumped k) old new = WritesWholeText (strings_of job.options) bytes k old new
DumpsWhole (Dd job) bytes (Copied counts) old new = WritesWholeCopy job.plan bytes counts old new
DumpsWhole job bytes done old new = ⊥
