-- What is answered of changes of named files, one after the other, and of an undo and a redo behind them.
use Rattle.std.specs.Prelude.{◌≡◌, ◌+◌, ℕ, zero, suc, List, [], ◌∷◌, Option, Some, Result, Ok}
use Rattle.bx_journal.specs.Direction.{Direction}
use Rattle.bx_journal.specs.Direction.TheVariants as way
use Rattle.bx_journal.specs.Images.{Images, change_to}
use Rattle.bx_journal.specs.Machine.{changes_of, top}
use Rattle.bx_world.specs.World.{held}
use Rattle.bx_world.specs.declared.files.names.Names.{Names}
use Rattle.bx_world.specs.declared.world.Outgrown.{Outgrown}
use Rattle.bx_run_model.specs.RunState.{RunState}
use Rattle.bx_run_session.specs.session.Contents.{Contents, Holds}
use Rattle.bx_run_session.specs.session.Named.{contents_of}
use Rattle.bx_run.specs.declared.run.answer.Done.{Done}
use Rattle.bx_run.specs.declared.run.answer.Failure.{Failure}
use Rattle.bx_run.specs.declared.run.outcome.Outcome.{Outcome}
use Rattle.bx_run.specs.declared.run.request.Request.{Request}
use Rattle.bx_run.specs.declared.run.request.Request.TheVariants.{Move, Change, Renew}
use Rattle.bx_run.specs.run.Commands.{Fulfills, StandsAs}

-- A command was answered: it did what a command does that ended so, and the answer stands for how it ended
pub record HasAnswered {R : Type 0} (remaining : R → Option (List ℕ)) (request : Request R) (answer : Result Done Failure) (old new : RunState) : Type 0 where
  pub outcome : Outcome
  pub outgrown : Option Outgrown
  pub stands : StandsAs request outcome outgrown answer
  pub does : Fulfills remaining request outcome old new

-- a change of the files that have these names
abbrev pub AsksChange : {R : Type 0} → Names → Request R → Type 0
AsksChange names (Change given guard edit) = given.now ≡ names
AsksChange names request = ⊥

-- one with which their history begins anew
abbrev pub AsksRenewal : {R : Type 0} → Names → Request R → Type 0
AsksRenewal names (Renew given guard edit) = given.now ≡ names
AsksRenewal names request = ⊥

-- an undo, or a redo, of k of their changes
abbrev pub AsksMove : {R : Type 0} → Names → Direction → ℕ → Request R → Type 0
AsksMove names way k (Move given guard asked count) = (given.now ≡ names) × (asked ≡ way) × (count ≡ k)
AsksMove names way k request = ⊥

-- A command that asks for this was answered as done
pub record IsDone {R : Type 0} (remaining : R → Option (List ℕ)) (Asks : Request R → Type 0) (old new : RunState) : Type 0 where
  pub request : Request R
  pub asks : Asks request
  pub done : Done
  pub answered : HasAnswered remaining request (Ok done) old new

-- the three files have the bytes that they had, whatever else was done
abbrev pub StayAsTheyWere : Names → RunState → RunState → Type 0
StayAsTheyWere names old new = contents_of names new.state ≡ contents_of names old.state

-- k steps, one after the other; before, between and behind them the three files stay as they were
abbrev pub InTurn : (RunState → RunState → Type 0) → Names → ℕ → RunState → RunState → Type 0
InTurn Step names zero old new = StayAsTheyWere names old new
InTurn Step names (suc k) old new = (from to : RunState) × StayAsTheyWere names old from × Step from to × InTurn Step names k to new

-- the three hold these images and one more, which stands on top, and nothing is undone
abbrev pub HoldsOneMore : Images → Contents → Type 0
HoldsOneMore s c = (y : List ℕ) × Holds c (change_to y s)

-- whatever images the files held, they hold one more
abbrev pub AddsOne : Names → RunState → RunState → Type 0
AddsOne names old new = (s : Images) → Holds (contents_of names old.state) s → HoldsOneMore s (contents_of names new.state)

-- a change that is done puts one image on top of those that the files held, and its answer is how many changes then stand
abbrev pub ChangeAddsOne : {R : Type 0} → (R → Option (List ℕ)) → Type 0
ChangeAddsOne remaining = (names : Names) (old new : RunState) (change : IsDone remaining (AsksChange names) old new) (s : Images)
    → Holds (contents_of names old.state) s
    → HoldsOneMore s (contents_of names new.state) × (change.done.standing ≡ Some (changes_of s.stack + 1))

-- the image has the bytes and the length that it had, and the files hold this stack of images
abbrev pub GivesStack : Names → List (List ℕ) → RunState → RunState → Type 0
GivesStack names stack old new = (held new.state names.image ≡ held old.state names.image)
    × (after : Images) × Holds (contents_of names new.state) after × (after.stack ≡ stack)

-- behind k steps, one after the other, an undo of k that is done gives back the image and the stack of images that were there before them
abbrev pub UndoGivesBackByNames : {R : Type 0} → (Names → RunState → RunState → Type 0) → (R → Option (List ℕ)) → Type 0
UndoGivesBackByNames Step remaining = (names : Names) (start : Images) (k : ℕ) (old changed new : RunState) → Holds (contents_of names old.state) start
    → InTurn (Step names) names k old changed → IsDone remaining (AsksMove names way.Undo k) changed new → GivesStack names start.stack old new

-- an undo of k that is done, and a redo of k behind it that is done, give back the image and all images, those that stand and those that were undone
abbrev pub RedoGivesBackByNames : {R : Type 0} → (R → Option (List ℕ)) → Type 0
RedoGivesBackByNames remaining = (names : Names) (s : Images) (k : ℕ) (old undone from new : RunState) → Holds (contents_of names old.state) s
    → IsDone remaining (AsksMove names way.Undo k) old undone → StayAsTheyWere names undone from → IsDone remaining (AsksMove names way.Redo k) from new
    → (held new.state names.image ≡ held old.state names.image) × Holds (contents_of names new.state) s

-- behind a change that is done, with which the history begins anew, an undo of 1 that is done gives back the image that was the newest, alone
abbrev pub UndoGivesBackRenewed : {R S : Type 0} → (R → Option (List ℕ)) → (S → Option (List ℕ)) → Type 0
UndoGivesBackRenewed renewing undoing = (names : Names) (s : Images) (old renewed from new : RunState) → Holds (contents_of names old.state) s
    → IsDone renewing (AsksRenewal names) old renewed → StayAsTheyWere names renewed from → IsDone undoing (AsksMove names way.Undo 1) from new
    → GivesStack names (top s.stack ∷ []) old new
