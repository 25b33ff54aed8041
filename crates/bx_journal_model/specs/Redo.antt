-- The redo text: a journal of its own, whose stack is the image with the undone images below it.
use Rattle.std.specs.Prelude.{◌≡◌, ◌≤◌, ℕ, suc, ◌+◌, None, Some, List, [], ◌∷◌, ◌++◌, length, take}
use Rattle.bx_journal_model.specs.Calls.{Differs}
use Rattle.bx_journal_model.specs.Machine.{changes_of}
use Rattle.bx_journal_format.specs.Parsed.{told_by}
use Rattle.bx_journal_model.specs.Stack.{StandsFor, Recovers}
use Rattle.bx_journal_format.specs.Text.{Entry, Between, Reading, Reads, split, start, after_lines, IsDamagedAt}
use Rattle.bx_journal_format.specs.Finished.{AllTell, IsFinished}
use Rattle.bx_journal_model.specs.declared.answers.RecoveryOutcome.{RecoveryOutcome}
use Rattle.bx_journal_model.specs.declared.answers.RecoveryOutcome.TheVariants.{Clean, Dropped, Restored}
use Rattle.bx_journal_model.specs.Images.{Images}

-- A redo text and the image stand for the undone images below it. With `changes` changes they are not too many for a journal
pub record IsRedoOf (text x : List ℕ) (changes : ℕ) (undone : List (List ℕ)) : Type 0 where
  pub stands : StandsFor text x (x ∷ undone)
  pub tell : AllTell stands.entries
  pub few : changes + length undone ≤ 65535

-- the text is finished entries alone
abbrev pub IsClean : List ℕ → Type 0
IsClean text = (entries : List Entry) × IsFinished text entries

-- what opening finds of three devices: the stack, and where the journal is finished entries alone the undone images
pub record Finds (text x redo : List ℕ) (s : Images) : Type 0 where
  pub recovers : Recovers text x s.stack
  pub undone : IsClean text → IsRedoOf redo x (changes_of s.stack) s.undone

-- the first `before` lines of a text are these finished entries, so the next line is number `line`
pub record BeginsAt (text : List ℕ) (entries : List Entry) (line : ℕ) : Type 0 where
  pub before : ℕ
  pub within : before ≤ length (split text).lines
  pub reads : after_lines start (take before (split text).lines) ≡ Some (record { entries = entries; stage = Between })
  pub line_is : line ≡ suc before

-- the text is accepted, but not finished entries alone, and what is unfinished begins at this line
pub record HasTailAt (text : List ℕ) (line : ℕ) : Type 0 where
  pub reading : Reading
  pub reads : Reads text reading
  pub unfinished : IsFinished text reading.entries → ⊥
  pub begins : BeginsAt text reading.entries line

-- an entry tells no length, those before it do, and it begins at this line
pub record IsFirstFormAt (text : List ℕ) (line : ℕ) : Type 0 where
  pub newer : List Entry
  pub entry : Entry
  pub older : List Entry
  pub finished : IsFinished text (newer ++ entry ∷ older)
  pub untold : entry.after ≡ None
  pub told : AllTell older
  pub begins : BeginsAt text older line

-- the entries tell their lengths, and this line begins the first whose number, with the changes, is above 65,535
pub record IsTooManyAt (text : List ℕ) (changes line : ℕ) : Type 0 where
  pub newer : List Entry
  pub older : List Entry
  pub finished : IsFinished text (newer ++ older)
  pub tell : AllTell (newer ++ older)
  pub some : newer ≡ [] → ⊥
  pub many : length older + changes ≡ 65535
  pub begins : BeginsAt text older line

-- nothing else is wrong, but the last line tells another length than the image's
pub record IsOffAt (text x : List ℕ) (changes line : ℕ) : Type 0 where
  pub entries : List Entry
  pub expected : ℕ
  pub finished : IsFinished text entries
  pub tell : AllTell entries
  pub few : changes + length entries ≤ 65535
  pub told : told_by entries ≡ Some expected
  pub differs : length x ≡ expected → ⊥
  pub line_is : line ≡ length (split text).lines

-- why a text isn't a redo text, whatever the image and the journal are
pub data IsNoRedoAt (text : List ℕ) (line : ℕ) : Type 0 where
  DamagedLine : IsDamagedAt text line → IsNoRedoAt text line
  Tail : HasTailAt text line → IsNoRedoAt text line
  FirstForm : IsFirstFormAt text line → IsNoRedoAt text line

-- why a text isn't the redo text of an image with `changes` changes, and the line that is reported
pub data IsRefusedAt (text x : List ℕ) (changes line : ℕ) : Type 0 where
  NoRedo : IsNoRedoAt text line → IsRefusedAt text x changes line
  TooMany : IsTooManyAt text changes line → IsRefusedAt text x changes line
  Off : IsOffAt text x changes line → IsRefusedAt text x changes line

-- opening refuses the redo text beside a finished journal whose newest length doesn't differ
pub record RefusesRedoAt (text x redo : List ℕ) (line : ℕ) : Type 0 where
  pub entries : List Entry
  pub finished : IsFinished text entries
  pub same_length : (n : ℕ) → Differs entries x n → ⊥
  pub refused : IsRefusedAt redo x (length entries) line

-- what opening keeps of the undone images
abbrev pub found_undone : RecoveryOutcome → List (List ℕ) → List (List ℕ)
found_undone Clean undone = undone
found_undone Dropped undone = []
found_undone (Restored number) undone = []

-- the images that opening makes of those that it finds: where something is unfinished nothing is undone any more
abbrev pub recovered_as : RecoveryOutcome → Images → Images
recovered_as how s = record { stack = s.stack; undone = found_undone how s.undone }

-- opening finds this stack, and the text isn't finished entries alone
abbrev pub RecoversOpen : List ℕ → List ℕ → List (List ℕ) → Type 0
RecoversOpen text x stack = Recovers text x stack × (IsClean text → ⊥)

-- image and redo text of a pair at rest, with its stack
pub record Side : Type 0 where
  pub stack : List (List ℕ)
  pub image : List ℕ
  pub redo : List ℕ

-- opening finds the side's stack, and image and redo text are the side's
pub record LeavesSide (text x redo : List ℕ) (side : Side) : Type 0 where
  pub recovers : Recovers text x side.stack
  pub image_is : x ≡ side.image
  pub redo_is : redo ≡ side.redo

-- what a stopped step leaves: all as before it, all as behind it, or a journal that isn't finished
pub data LeavesEither (text x redo : List ℕ) (old new : Side) : Type 0 where
  Before : LeavesSide text x redo old → LeavesEither text x redo old new
  Behind : LeavesSide text x redo new → LeavesEither text x redo old new
  WithinOld : RecoversOpen text x old.stack → LeavesEither text x redo old new
  WithinNew : RecoversOpen text x new.stack → LeavesEither text x redo old new
