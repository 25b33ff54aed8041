-- What a person sees of a change of files.
use Rattle.std.specs.Prelude.{◌≡◌, ℕ, Option, None, List}
use Rattle.bx_world.specs.World.{SystemState}
use Rattle.bx_world.specs.declared.files.names.Names.{Names}
use Rattle.bx_journal.specs.RecoveryOutcome.{RecoveryOutcome}
use Rattle.bx_journal.specs.Images.{Images}
use Rattle.bx_journal.specs.Machine.{changes_of}
use Rattle.bx_cli_commands.specs.declared.command.Reply.{Reply}
use Rattle.bx_cli_commands.specs.Standing.{Standing}
use Rattle.bx_run_session.specs.declared.session.task.Task.{Task}
use Rattle.bx_run_session.specs.session.Contents.{Contents, FindsIn, Holds}
use Rattle.bx_run_session.specs.session.Moves.{TellsRecovered}
use Rattle.bx_run_session.specs.session.Named.{LeavesRefused, MayRefuse, contents_of}
use Rattle.bx_run_session.specs.declared.session.named.Answer.{Answer}
use Rattle.bx_run_session.specs.session.Task.{IsPartOfTask, TaskStep}

-- A task was done: the contents hold the machine's next images, and the answer is how many changes stand
pub record Changes {R : Type 0} (remaining : R → Option (List ℕ)) (s : Images) (task : Task R) (reply : Reply) (new : Contents) (left : ℕ) : Type 0 where
  pub next : Images
  pub step : TaskStep remaining (Standing.Up s) task reply (Standing.Up next)
  pub files : Holds new next
  pub standing : left ≡ changes_of next.stack

-- A task was refused: all files are as they were, byte for byte, whatever they held, or, where something was recovered, the three hold what that left;
-- and of files that were opened and hold images there is a reason
pub record RefusesChange {R : Type 0} (remaining : R → Option (List ℕ)) (names : Names) (task : Task R) (answer : Answer) (old new : SystemState) : Type 0 where
  pub why : (s : Images) → Holds (contents_of names old) s → answer.unopened ≡ None → MayRefuse remaining s task answer.reply
  pub left : LeavesRefused names answer.unopened answer.how old new

-- A task was interrupted: opening finds the images before it, those behind it, or those behind some of the changes that it takes back or makes again
pub record InterruptsChange {R : Type 0} (remaining : R → Option (List ℕ)) (s : Images) (task : Task R) (new : Contents) : Type 0 where
  pub found : Images
  pub part : IsPartOfTask remaining task s found
  pub finds : FindsIn new found

-- nothing is written but what is said on standard error of what opening found unfinished, and no file is lent that wasn't
pub record SaysRecovered (how : Option RecoveryOutcome) (old new : SystemState) : Type 0 where
  pub output : new.output ≡ old.output
  pub errors : TellsRecovered how old.errors new.errors
  pub lent : new.lent ≡ old.lent
  pub before : new.before ≡ old.before
