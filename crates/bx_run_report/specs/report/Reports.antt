-- Reports of the changes of an image.
use Rattle.std.specs.Prelude.{◌≡◌, ◌<◌, ℕ, List, Option, Result}
use Rattle.std.specs.Result.{MatchResult}
use Rattle.std.specs.Io.KnownBytes.{Appends}
use Rattle.bx_text.specs.Writing.{WritesFront}
use Rattle.bx_journal.specs.Showing.{RangesOf}
use Rattle.bx_journal.specs.ShownText.{ShowsText}
use Rattle.bx_cli_commands.specs.declared.fault.Fault.TheVariants.{Io}
use Rattle.bx_world.specs.World.{SystemState, held}
use Rattle.bx_world.specs.declared.files.names.Names.{Names}
use Rattle.bx_run_report.specs.report.Looks.{IsLogOf, IsNextShown, IsUnseenOr, MayNotLook, StopsNextSteps, StopsRangesOf, StopsUndos, undos}
use Rattle.bx_run_report.specs.report.Stepped.{OfNamed, StopsPatch, WritesSteps}
use Rattle.bx_run_report.specs.report.Unfinished.{ListsFront, StopsFrontOf}
use Rattle.bx_run_report.specs.declared.report.error.ReportError.{ReportError}
use Rattle.bx_run_report.specs.declared.report.error.ReportError.TheVariants.{Stopped}
use Rattle.bx_run_model.specs.RunState.{RunState}
use Rattle.bx_run_report.specs.declared.report.kinds.Report.{Report}
use Rattle.bx_run_report.specs.declared.report.kinds.Report.TheVariants.{Log, LogUnfinished, LogWithRanges, Patch, Show, ShowUnfinished}

-- the log of a journal that is finished entries alone was written
abbrev pub WritesLog : List ℕ → Option (List ℕ) → Option (List ℕ) → Type 0
WritesLog journal old new = (log : List ℕ) × IsLogOf journal log × Appends old new log

-- the log couldn't be written, and a front of it is
abbrev pub IsLogCut : List ℕ → Option (List ℕ) → Option (List ℕ) → ReportError → Type 0
IsLogCut journal old new (Stopped (Io fault)) = (log : List ℕ) × IsLogOf journal log × WritesFront 0 old new log fault
IsLogCut journal old new unseen = ⊥

-- Why a log is stopped: the changes are not seen, and nothing is written; or a front of it is
abbrev pub StopsLogOf : Names → Type 0 → SystemState → Option (List ℕ) → Option (List ℕ) → ReportError → Type 0
StopsLogOf names counted w old new unseen = IsUnseenOr (MayNotLook names counted w unseen) old new (IsLogCut (held w names.journal) old new unseen)

-- what a report that is whole wrote, by what the files hold
abbrev pub WritesReport : Names → Report → SystemState → Option (List ℕ) → Option (List ℕ) → Type 0
WritesReport names Log w old new = WritesLog (held w names.journal) old new
WritesReport names LogWithRanges w old new = RangesOf (held w names.journal) old new
WritesReport names (LogUnfinished verbose) w old new = ListsFront verbose (held w names.journal) old new
WritesReport names (Show steps) w old new = IsNextShown (held w names.image) (held w names.journal) (held w names.redo) steps old new
WritesReport names (ShowUnfinished steps) w old new = ShowsText (held w names.journal) (held w names.image) (undos steps) old new
WritesReport names (Patch way count) w old new = OfNamed names w (λ s. WritesSteps way count s old new)

-- why a report is not whole: nothing is seen, and nothing is written; or a front of it is
abbrev pub StopsReport : Names → Report → Type 0 → SystemState → Option (List ℕ) → Option (List ℕ) → ReportError → Type 0
StopsReport names Log counted w old new unseen = StopsLogOf names counted w old new unseen
StopsReport names LogWithRanges counted w old new unseen = StopsRangesOf names counted w old new unseen
StopsReport names (LogUnfinished verbose) counted w old new unseen = StopsFrontOf names counted w verbose old new unseen
StopsReport names (Show steps) counted w old new unseen = StopsNextSteps names counted w steps old new unseen
StopsReport names (ShowUnfinished steps) counted w old new unseen = StopsUndos names counted w steps old new unseen
StopsReport names (Patch way count) counted w old new unseen = StopsPatch names counted w way count old new unseen

-- a report was written, or why not
abbrev pub Reports : Names → Report → Result (Unit {0}) ReportError → RunState → RunState → Type 0
Reports names report outcome old new = MatchResult outcome (λ _. WritesReport names report old.state old.written new.written)
    (StopsReport names report (old.refusals < new.refusals) old.state old.written new.written)
