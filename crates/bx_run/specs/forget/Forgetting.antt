-- Forgetting the changes of an image, by the names of its files.
use Rattle.std.specs.Prelude.{◌≡◌, ◌⊎◌, ◌<◌, ℕ, Bool, true, false, not, ◌||◌, List, [], ◌∷◌, Option, None, Some, Result, Ok, Err, if◌then◌else◌}
use Rattle.bx_image.specs.Power.{NoMore, Only}
use Rattle.bx_image.specs.declared.device.Device.{Ghosts as DeviceViews}
use Rattle.bx_journal_store.specs.declared.store.TextStore.{Ghosts as StoreViews}
use Rattle.bx_journal.specs.Devices.{Devices}
use Rattle.bx_journal.specs.Forgotten.{FadesInOrder, IsWhole, LeavesTexts, OfSome, only}
use Rattle.bx_journal.specs.Images.{Images}
use Rattle.bx_journal.specs.Phase.{IsAtRest}
use Rattle.bx_journal.specs.Power.{Found}
use Rattle.bx_journal.specs.Redo.{IsClean, IsRedoOf}
use Rattle.bx_journal.specs.SessionFault.{SessionFault}
use Rattle.bx_journal.specs.SessionFault.TheVariants.{Damaged, DeviceFailed, Interrupted, LengthDiffers, RedoDamaged}
use Rattle.bx_journal_image.specs.Ranges.{EndsIn}
use Rattle.bx_journal_image.specs.Unfinished.{IsOpenJudged, LeavesImage}
use Rattle.bx_journal_image.specs.declared.judging.judge.Verdict.{Verdict}
use Rattle.bx_journal_image.specs.declared.judging.judge.Verdict.TheVariants.{Same, Other, Untold}
use Rattle.bx_journal_image.specs.declared.line.form.ImageLine.{ImageLine}
use Rattle.bx_cli_commands.specs.declared.fault.Fault.TheVariants.{Session}
use Rattle.bx_world.specs.World.{AreOwnFiles, IsNoText, NothingNewFound, ReadFiles, SystemState, Spares, bytes_if, held}
use Rattle.bx_world.specs.files.Reading.{AreReadable, MayRefuseForgetting}
use Rattle.bx_world.specs.declared.files.guard.Guard.{Guard}
use Rattle.bx_world.specs.declared.files.names.Names.{Names}
use Rattle.bx_run_report.specs.report.Devices.{HoldFiles}
use Rattle.bx_run_report.specs.report.Noted.{IsLineIn}
use Rattle.bx_run_report.specs.report.Looks.{HidesChanges, StopsOpening}
use Rattle.bx_run.specs.declared.forget.forgotten.Lent.{Lent}
use Rattle.bx_run_report.specs.declared.report.error.ReportError.{ReportError}
use Rattle.bx_run_report.specs.declared.report.error.ReportError.TheVariants.{Unopened, Unfinished, Another, Stopped}

-- the texts are an image's, but not those of what it has now, or damaged further on; one whose first line is none of a journal may be any file
abbrev pub IsOfTexts : SessionFault → Type 0
IsOfTexts (LengthDiffers expected) = Unit {0}
IsOfTexts (Damaged line) = 1 < line
IsOfTexts (RedoDamaged line) = 1 < line
IsOfTexts fault = ⊥

-- A change is unfinished in the journal that recovery takes back, and this is what the image is by the note
pub record IsNotedAs (note image journal : List ℕ) (verdict : Verdict) : Type 0 where
  pub line : Option ImageLine
  pub noted : IsLineIn note line
  pub judged : IsOpenJudged line journal image verdict

-- whether such a change is dropped with the history, by what the image is: another one than it was made on, unless the journal was named beside it
abbrev pub drops : Guard → Verdict → Bool
drops guard Same = false
drops guard Other = guard.anyway || not guard.named
drops guard Untold = guard.anyway

-- a history may be dropped: nothing is unfinished, or opening is refused for texts that are an image's, or what is unfinished is dropped with it
abbrev pub MayForget : Guard → List ℕ → List ℕ → List ℕ → List ℕ → Type 0
MayForget guard note image journal redo = IsClean journal ⊎ ((fault : SessionFault) × IsOfTexts fault × StopsOpening image journal redo fault)
    ⊎ ((verdict : Verdict) × IsNotedAs note image journal verdict × (drops guard verdict ≡ true))

-- the same of files of these names
abbrev pub MayForgetNamed : Guard → List ℕ → Names → SystemState → Type 0
MayForgetNamed guard note names w = MayForget guard note (held w names.image) (held w names.journal) (held w names.redo)

-- the text ends in the line that ends an entry
abbrev pub EndsWithEntry : List ℕ → Type 0
EndsWithEntry text = (n : ℕ) × EndsIn text n

-- what the image is by a line, beside a text in which a change is unfinished that recovery takes back; none where the text ends an entry, or
-- recovery writes nothing to the image
abbrev pub IsJudgedOpen : Option ImageLine → List ℕ → List ℕ → Option Verdict → Type 0
IsJudgedOpen line text x None = EndsWithEntry text ⊎ LeavesImage text
IsJudgedOpen line text x (Some verdict) = IsOpenJudged line text x verdict

-- what is unfinished is recovered first: that writes nothing to the image, or the image is the one that it was made on
abbrev pub IsRecoveredFirst : List ℕ → List ℕ → List ℕ → Type 0
IsRecoveredFirst note image journal = EndsWithEntry journal ⊎ LeavesImage journal ⊎ IsNotedAs note image journal Same

-- why the history of an image isn't dropped whose files are open
abbrev pub KeepsHistory : Guard → List ℕ → List ℕ → List ℕ → List ℕ → ReportError → Type 0
KeepsHistory guard note image journal redo Unfinished = (IsClean journal → ⊥) × IsRecoveredFirst note image journal
KeepsHistory guard note image journal redo Another =
    (verdict : Verdict) × IsNotedAs note image journal verdict × (verdict ≡ Same → ⊥) × (drops guard verdict ≡ false)
KeepsHistory guard note image journal redo unseen = HidesChanges image journal redo unseen

-- the file is none that the names of the texts lead to
abbrev pub IsNoTextNamed : Names → SystemState → ℕ → Type 0
IsNoTextNamed names w n = (w.named names.journal ≡ Some n → ⊥) × (w.named names.redo ≡ Some n → ⊥)

-- What an image, its journal and its redo text hold
pub record Held : Type 0 where
  pub image : List ℕ
  pub journal : List ℕ
  pub redo : List ℕ

-- what the files of these names hold; one that is missing holds nothing
abbrev pub held_by_names : Names → SystemState → Held
held_by_names names w = record { image = held w names.image; journal = held w names.journal; redo = held w names.redo }

-- An image and the texts that are emptied beside it, by their numbers; a text that is missing has none
pub record TextFiles : Type 0 where
  pub image : ℕ
  pub journal : Option ℕ
  pub redo : Option ℕ

-- the names lead to these files
pub record LeadToTexts (names : Names) (f : TextFiles) (w : SystemState) : Type 0 where
  pub image : w.named names.image ≡ Some f.image
  pub journal : w.named names.journal ≡ f.journal
  pub redo : w.named names.redo ≡ f.redo

-- the files that are lent: where the journal is missing, and so the redo text stands in its place, the two change places
abbrev pub texts_of : Bool → ReadFiles → TextFiles
texts_of exchanged f = record {
  image = f.image;
  journal = if exchanged then f.redo else Some f.journal;
  redo = if exchanged then Some f.journal else f.redo;
}

-- their devices, put from the places of the files into their own, or back: there the two change places too
abbrev pub in_places : {D T : Type 0} → Bool → Devices D T → Devices D T
in_places exchanged x = record {
  image = x.image;
  journal = if exchanged then x.redo else x.journal;
  redo = if exchanged then x.journal else x.redo;
}

-- what the files of these numbers hold
abbrev pub held_by_numbers : TextFiles → SystemState → Held
held_by_numbers f w = record { image = w.bytes f.image; journal = bytes_if w f.journal; redo = bytes_if w f.redo }

-- Both texts are empty, and the image is as it was, and stands alone, with nothing undone
pub record HasForgotten (old new : Held) : Type 0 where
  pub image : new.image ≡ old.image
  pub journal : new.journal ≡ []
  pub redo : new.redo ≡ []
  pub rest : IsAtRest new.journal new.image (old.image ∷ [])
  pub undone : IsRedoOf new.redo new.image 0 []

-- where neither text is cut in part, opening finds the images that were to be found before, the same with nothing undone, or the image alone
abbrev pub FindsDropped : Held → Held → Type 0
FindsDropped old new = (s : Images) → Found old.journal old.image old.redo s → IsWhole old.journal new.journal → IsWhole old.redo new.redo
    → OfSome s (only old.image) (Found new.journal new.image new.redo)

-- The dropping was stopped in the middle: the image is as it was, and the texts are fronts of what they were, the journal all of it unless the
-- redo text is empty
pub record ForgetsPart (old new : Held) : Type 0 where
  pub image : new.image ≡ old.image
  pub texts : LeavesTexts old.journal old.redo new.journal new.redo
  pub finds : FindsDropped old new

-- all is as it was
abbrev pub IsUntouched : SystemState → SystemState → Type 0
IsUntouched old new = Spares (λ n. Unit {0}) old new

-- Why a history is not dropped: a file may not be opened, something is unfinished that is recovered first, it may be another image's, a text is
-- damaged, or memory or a device fails, and all is as it was; or the dropping was stopped in the middle
abbrev pub StopsForgetting : Guard → List ℕ → Names → Type 0 → SystemState → SystemState → ReportError → Type 0
StopsForgetting guard note names counted old new (Unopened file) = MayRefuseForgetting names counted old file × IsUntouched old new
StopsForgetting guard note names counted old new (Stopped (Session Interrupted)) =
    MayForgetNamed guard note names old × ForgetsPart (held_by_names names old) (held_by_names names new)
StopsForgetting guard note names counted old new unseen =
    KeepsHistory guard note (held old names.image) (held old names.journal) (held old names.redo) unseen × IsUntouched old new

-- what may be found of a file that may be missing; of one that is, nothing
abbrev pub found_if : (ℕ → List ℕ → Type 0) → Option ℕ → List ℕ → Type 0
found_if found None bytes = bytes ≡ []
found_if found (Some n) bytes = found n bytes

-- After a loss of power behind a dropping the image is as it was, and the texts are empty
pub record LosesAll (old : Held) (image journal redo : List ℕ → Type 0) : Type 0 where
  pub image_found : Only old.image image
  pub journal_found : Only [] journal
  pub redo_found : Only [] redo

-- After one in the middle of it the image is as it was, and opening finds what it does where the dropping was stopped
pub record LosesPart (old : Held) (image journal redo : List ℕ → Type 0) : Type 0 where
  pub image_found : Only old.image image
  pub texts : FadesInOrder old.journal old.redo journal redo
  pub finds : (x text redo_text : List ℕ) → image x → journal text → redo redo_text
      → FindsDropped old (record { image = x; journal = text; redo = redo_text })

-- what is found of the three files after a loss of power, by the answer; where all is as it was, nothing that wasn't to be found before
abbrev pub SurvivesForgetting : Names → Result (Unit {0}) ReportError → SystemState → (ℕ → List ℕ → Type 0) → (ℕ → List ℕ → Type 0) → Type 0
SurvivesForgetting names (Ok done) old found left =
    (f : TextFiles) → LeadToTexts names f old → LosesAll (held_by_names names old) (left f.image) (found_if left f.journal) (found_if left f.redo)
SurvivesForgetting names (Err (Stopped (Session Interrupted))) old found left =
    (f : TextFiles) → LeadToTexts names f old → LosesPart (held_by_names names old) (left f.image) (found_if left f.journal) (found_if left f.redo)
SurvivesForgetting names (Err unseen) old found left = NothingNewFound found left

-- the image is neither of its texts
abbrev pub IsAlone : ReadFiles → Type 0
IsAlone f = IsNoText f f.image

-- Files of these names are open, so that their texts are emptied: where the journal is missing the redo text stands in its place. Each is there, and a
-- file of its own, and they may be read
pub record AreOpenTexts (names : Names) (exchanged : Bool) (f : ReadFiles) (w : SystemState) : Type 0 where
  pub named : LeadToTexts names (texts_of exchanged f) w
  pub own : AreOwnFiles w.there f
  pub fit : AreReadable names w

-- They are lent to be read: the devices, in their own places, hold what the files do, and no more is found of the image's than of the image
pub record LendsTexts {D T : Type 0} (d : DeviceViews D) (t : StoreViews T) (names : Names) (l : Lent D T) (beside : Option ReadFiles)
    (found : ℕ → List ℕ → Type 0) (w : SystemState) : Type 0 where
  pub files : ReadFiles
  pub lent : beside ≡ Some files
  pub opened : AreOpenTexts names l.exchanged files w
  pub alone : IsAlone files
  pub held : HoldFiles d t names w l.devices
  pub found_before : NoMore (found files.image) (d.survives l.devices.image)

-- What emptying the texts of files that are lent leaves: empty texts; fronts of them, where it was stopped in the middle; or all as it was
abbrev pub Empties : TextFiles → Result (Unit {0}) SessionFault → SystemState → SystemState → Type 0
Empties f (Ok done) old new = HasForgotten (held_by_numbers f old) (held_by_numbers f new)
Empties f (Err Interrupted) old new = ForgetsPart (held_by_numbers f old) (held_by_numbers f new)
Empties f (Err DeviceFailed) old new = IsUntouched old new
Empties f (Err fault) old new = ⊥

-- and what is found of them after a loss of power, where `image` is what may be found of the image's device
abbrev pub SurvivesEmptying : TextFiles → Result (Unit {0}) SessionFault → SystemState → (List ℕ → Type 0) → (ℕ → List ℕ → Type 0)
    → (ℕ → List ℕ → Type 0) → Type 0
SurvivesEmptying f (Ok done) old image found left =
    LosesAll (held_by_numbers f old) (left f.image) (found_if left f.journal) (found_if left f.redo)
SurvivesEmptying f (Err Interrupted) old image found left =
    LosesPart (held_by_numbers f old) (left f.image) (found_if left f.journal) (found_if left f.redo)
SurvivesEmptying f (Err fault) old image found left =
    NoMore image (left f.image) × ((n : ℕ) → (n ≡ f.image → ⊥) → NoMore (found n) (left n))

-- the note is dropped: it has nothing then, unless the system refused that, and then what it had
abbrev pub DropsNote : Type 0 → List ℕ → List ℕ → Type 0
DropsNote refused old new = (new ≡ []) ⊎ (refused × (new ≡ old))

-- behind a history that is dropped the note is dropped too, where it goes with it; else it has what it had
abbrev pub LeavesNote : {E : Type 0} → Result (Unit {0}) E → Bool → Type 0 → List ℕ → List ℕ → Type 0
LeavesNote (Ok done) true refused old new = DropsNote refused old new
LeavesNote outcome goes refused old new = new ≡ old
