-- What files that are missing stand for, and what an edit's step puts onto an image.
use Rattle.std.specs.Prelude.{◌≡◌, ℕ, Bool, Option, None, List, []}
use Rattle.bx_world.specs.World.{SystemState, held}
use Rattle.bx_world.specs.declared.files.names.Names.{Names}
use Rattle.bx_journal.specs.Forgotten.{only}
use Rattle.bx_cli_commands.specs.Standing.{Standing}
use Rattle.bx_cli_commands.specs.declared.command.Reply.{Reply}
use Rattle.bx_run_session.specs.Edit.{IsEditOf, asked}
use Rattle.bx_run_session.specs.Input.{Input, InputStep}
use Rattle.bx_run_session.specs.declared.edit.Edit.{Edit}
use Rattle.bx_run_session.specs.session.Contents.{Holds}
use Rattle.bx_run_session.specs.session.Named.{contents_of}
use Rattle.bx_run_session.specs.session.Task.{TaskStep}

-- where journal and redo text are missing, the files hold the images of no change of the image that is there
abbrev pub MissingIsUnchanged : Type 0
MissingIsUnchanged = (names : Names) (w : SystemState) → w.named names.journal ≡ None → w.named names.redo ≡ None
    → Holds (contents_of names w) (only (held w names.image))

-- where all three are missing, they hold the images of no change of an empty image
abbrev pub MissingIsEmpty : Type 0
MissingIsEmpty = (names : Names) (w : SystemState) → w.named names.image ≡ None → w.named names.journal ≡ None → w.named names.redo ≡ None
    → Holds (contents_of names w) (only [])

-- The bytes of an input are what is written onto the image: where an edit is made of an input, each step of the edit's task is the one that puts this input onto
-- the image
abbrev pub EditIsPut : {R : Type 0} → (R → Option (List ℕ)) → Type 0
EditIsPut {R = R} remaining = (keeps : Bool) (input : Input) (edit : Edit R) → IsEditOf keeps input edit → (before after : Standing) (reply : Reply)
    → TaskStep remaining before (asked edit) reply after → InputStep keeps input before reply after
