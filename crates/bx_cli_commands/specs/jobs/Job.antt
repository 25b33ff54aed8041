-- What a job asks for.
use Rattle.std.specs.Prelude.{Bool, true, false, Option, None, Some}
use Rattle.bx_cli_commands.specs.declared.jobs.images.ChangeJob.{ChangeJob}
use Rattle.bx_cli_commands.specs.declared.jobs.images.ChangeJob.TheVariants as change
use Rattle.bx_cli_commands.specs.declared.jobs.images.LookJob.{LookJob}
use Rattle.bx_cli_commands.specs.declared.jobs.images.LookJob.TheVariants as look
use Rattle.bx_cli_commands.specs.declared.jobs.job.Job.{Job}
use Rattle.bx_cli_commands.specs.declared.jobs.job.Job.TheVariants.{Dump, Lay, Change, Look, Diff, Help}
use Rattle.bx_cli_commands.specs.declared.jobs.target.Target.{Target}

-- whether a job only reads one input and writes one output
abbrev pub is_dump : Job → Bool
is_dump (Dump job) = true
is_dump (Lay job) = false
is_dump (Change job) = false
is_dump (Look job) = false
is_dump (Diff job) = false
is_dump (Help text) = false

-- the image that a job changes
abbrev pub changed_of : ChangeJob → Target
changed_of (change.Dd job) = job.target
changed_of (change.Revert job) = job.target
changed_of (change.Patch job) = job.target
changed_of (change.Undo job) = job.target
changed_of (change.Redo job) = job.target
changed_of (change.Forget job) = job.target

-- the image whose changes a job shows
abbrev pub shown_of : LookJob → Target
shown_of (look.Log job) = job.target
shown_of (look.Show job) = job.target

-- the image that a job works on; none where it has none
abbrev pub target_of : Job → Option Target
target_of (Dump job) = None
target_of (Lay job) = None
target_of (Change job) = Some (changed_of job)
target_of (Look job) = Some (shown_of job)
target_of (Diff job) = None
target_of (Help text) = None
