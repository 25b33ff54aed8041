-- Opening: what it leaves of the three devices that it is given, and what it answers.
use Rattle.std.specs.Prelude.{◌≡◌, ◌↔◌, ◌⊎◌, ℕ, suc, List, [], false, length, Result, Ok, Err, IfOk, IfErr, OnErr, OnOk, MatchResult}
use Rattle.bx_image.specs.declared.device.Device.{Ghosts as DeviceViews}
use Rattle.bx_journal_store.specs.declared.store.TextStore.{Ghosts as StoreViews}
use Rattle.bx_journal_format.specs.Shown.{shown}
use Rattle.bx_journal_format.specs.Text.{IsAccepted, IsDamagedAt, Reading, Reads}
use Rattle.bx_journal_model.specs.declared.answers.RecoveryOutcome.{RecoveryOutcome}
use Rattle.bx_journal_model.specs.declared.answers.RecoveryOutcome.TheVariants.{Clean}
use Rattle.bx_journal_model.specs.declared.answers.Recovered.{Recovered}
use Rattle.bx_journal_model.specs.declared.fault.SessionFault.{SessionFault}
use Rattle.bx_journal_model.specs.declared.fault.SessionFault.TheVariants.{Damaged, Interrupted, LengthDiffers, RedoDamaged}
use Rattle.bx_journal_model.specs.Calls.{AfterFault, Differs, OpenFault}
use Rattle.bx_journal_model.specs.Fault.{DeviceFault}
use Rattle.bx_journal_model.specs.Images.{Images}
use Rattle.bx_journal_read.specs.scan.Judging.{RefusesRedo}
use Rattle.bx_journal_model.specs.Machine.{changes_of}
use Rattle.bx_journal_model.specs.Opening.{IsOpened, RefusesLength as RefusesTold, RefusesText}
use Rattle.bx_journal_model.specs.Phase.{IsAtRest}
use Rattle.bx_journal_model.specs.Redo.{IsClean, IsRedoOf, RefusesRedoAt, found_undone}
use Rattle.bx_journal_model.specs.Stack.{Recovers, image_at, recovered}
use Rattle.bx_journal_model.specs.Undoing.{HasLeft}
use Rattle.bx_journal_read.specs.scan.Recovery.{HasUndoneCount, KeepsStack, KeepsUndone}
use Rattle.bx_journal_model.specs.declared.devices.Devices.{Devices}
use Rattle.bx_journal_model.specs.ThreeDevices.{AreCounted}
use Rattle.bx_journal_model.specs.Power.{Found, FoundBefore, RecoverySurvives}
use Rattle.bx_journal_model.specs.Session.{HasUndone, IsReady}
use Rattle.bx_journal_protocol.specs.protocol.Written.{AreSettled}
use Rattle.bx_journal_model.specs.SessionView.{SessionView, devices_of}
use Rattle.bx_journal_model.specs.Standing.{IsStanding}
use Rattle.bx_journal.specs.Recovery.{OpenKind}

-- what opening answers: a session and what was found, or the three devices and a fault
abbrev pub Opening : Type 0 → Type 0 → Type 0
Opening D T = Result (SessionView D T × Recovered) (Devices D T × SessionFault)

-- the same where the three are handed back one by one
abbrev pub opening_of : {D T : Type 0} → Result (SessionView D T × Recovered) (D × T × T × SessionFault) → Opening D T
opening_of (Ok o) = Ok o
opening_of (Err e) = Err (record { image = e.0; journal = e.1; redo = e.2 }, e.3)

-- it holds of the three devices that are left, and of what was found or the fault
abbrev pub Leaves : {D T : Type 0} → (Devices D T → Result Recovered SessionFault → Type 0) → Opening D T → Type 0
Leaves holds result = MatchResult result (λ o. holds (devices_of o.0) (Ok o.1)) (λ e. holds e.0 (Err e.1))

-- it holds of the stack that opening finds of a text and an image
abbrev pub AsFound : List ℕ → List ℕ → (List (List ℕ) → Type 0) → Type 0
AsFound text x holds = (stack : List (List ℕ)) → Recovers (shown text) x stack → holds stack

-- Of three devices before opening.
module _ {D T : Type 0} (d : DeviceViews D) (t : StoreViews T) (old : Devices D T) where
  -- it holds where image and journal are faithful
  abbrev pub OfPair : Type 0 → Type 0
  OfPair holds = d.faithful old.image → t.faithful old.journal → holds

  -- it holds where all three are faithful
  abbrev pub OfAll : Type 0 → Type 0
  OfAll holds = d.faithful old.image → t.faithful old.journal → t.faithful old.redo → holds

  -- it holds of the images that opening finds of the three, where they are faithful
  abbrev pub OfFound : (Images → Type 0) → Type 0
  OfFound holds = OfAll ((s : Images) → Found (t.text old.journal) (d.image old.image) (t.text old.redo) s → holds s)

  -- image and journal are as they were
  abbrev pub IsPairSame : Devices D T → Type 0
  IsPairSame new = (t.text new.journal ≡ t.text old.journal) × (d.image new.image ≡ d.image old.image)

  -- whatever the journal reads as, what is left stands for what that recovers
  abbrev pub Opens : {E : Type 0} → Devices D T → Result Recovered E → Type 0
  Opens new result = OfPair ((r : Reading) → Reads (shown (t.text old.journal)) r
      → IfOk result (λ o. IsOpened (t.text old.journal) (d.image old.image) r (t.text new.journal) (d.image new.image) o.how o.changes))

  -- as many changes are reported as the stack has that opening finds
  abbrev pub CountsStack : {E : Type 0} → Result Recovered E → Type 0
  CountsStack result = OfPair (AsFound (t.text old.journal) (d.image old.image) (λ stack. IfOk result (λ o. length stack ≡ suc o.changes)))

  -- from a sound pair the stack is kept, whatever it answers
  abbrev pub KeepsPair : {E : Type 0} → Devices D T → Result Recovered E → Type 0
  KeepsPair new result = OfPair (KeepsStack result (t.text old.journal) (d.image old.image) (t.text new.journal) (d.image new.image))

  -- a fault is one that the journal's reading gives
  abbrev pub FaultsAsRead : {V : Type 0} → Result V SessionFault → Type 0
  FaultsAsRead result = OfPair ((r : Reading) → Reads (shown (t.text old.journal)) r → IfErr result (OpenFault r (d.image old.image)))

  -- where a length differs, that is the fault, unless another came before
  abbrev pub IsLengthRefused : {V : Type 0} → Result V SessionFault → Type 0
  IsLengthRefused result = OfPair ((r : Reading) (n : ℕ) → Reads (shown (t.text old.journal)) r → Differs r.entries (image_at r.stage (d.image old.image)) n
      → MatchResult result (λ _. ⊥) (RefusesTold n))

  -- each fault but an interruption leaves image and journal
  abbrev pub SparesPair : {V : Type 0} → Devices D T → Result V SessionFault → Type 0
  SparesPair new result = OfPair (IfErr result (λ e. AfterFault e (Unit {0}) (IsPairSame new)))

  -- and so do finished entries alone
  abbrev pub SparesClean : {E : Type 0} → Devices D T → Result Recovered E → Type 0
  SparesClean new result = OfPair (IfOk result (λ o. o.how ≡ Clean → IsPairSame new))

  -- the redo text and the image that are left stand for as many undone images as are reported
  abbrev pub TellsUndone : {E : Type 0} → Devices D T → Result Recovered E → Type 0
  TellsUndone new result = OfAll (IfOk result (λ o. HasUndoneCount (t.text new.redo) (d.image new.image) o.changes o.undone))

  -- a line that is reported of the redo text is one at which it is refused
  abbrev pub TellsRefused : {V : Type 0} → Result V SessionFault → Type 0
  TellsRefused result = OfAll (IfErr result (λ e. (line : ℕ) → e ≡ RedoDamaged line → RefusesRedoAt (t.text old.journal) (d.image old.image) (t.text old.redo) line))

  -- where the redo text is refused at a line, that line is reported, unless another fault came before
  abbrev pub TellsUnfit : {V : Type 0} → Result V SessionFault → Type 0
  TellsUnfit result = OfAll ((line : ℕ) → RefusesRedoAt (t.text old.journal) (d.image old.image) (t.text old.redo) line
      → MatchResult result (λ _. ⊥) (RefusesRedo line))

  -- the undone images that opening finds are kept, or none where something is unfinished
  abbrev pub KeepsFoundUndone : {E : Type 0} → Devices D T → Result Recovered E → Type 0
  KeepsFoundUndone new result = OfFound (λ s. IfOk result (λ o. KeepsUndone (t.text new.redo) (d.image new.image) o s.undone))

  -- behind a fault opening finds the images that it found before, behind an interruption without those that were undone
  abbrev pub FindsAgain : {V : Type 0} → Devices D T → Result V SessionFault → Type 0
  FindsAgain new result = OfFound (λ s. IfErr result (λ e. AfterFault e (Found (t.text new.journal) (d.image new.image) (t.text new.redo) (record { stack = s.stack; undone = [] }))
      (Found (t.text new.journal) (d.image new.image) (t.text new.redo) s)))

  -- a redo text in which opening finds images is never refused
  abbrev pub KeepsRedoText : {V : Type 0} → Result V SessionFault → Type 0
  KeepsRedoText result = OfFound (λ s. IfErr result (λ e. (line : ℕ) → e ≡ RedoDamaged line → ⊥))

  -- of what opening finds unfinished: that is dropped or taken back, or behind an interruption still there
  abbrev pub SurvivesOpening : Devices D T → Result Recovered SessionFault → Type 0
  SurvivesOpening new result = OfAll (RecoverySurvives d t result (λ o. o.how ≡ Clean → ⊥) (λ e. e) old new)

  -- beside finished entries alone, and behind each fault but an interruption, whatever is found after a loss of power was found before
  abbrev pub FindsNothingNew : Devices D T → Result Recovered SessionFault → Type 0
  FindsNothingNew new result = MatchResult result (λ o. o.how ≡ Clean → FoundBefore d t old new) (λ e. AfterFault e (Unit {0}) (FoundBefore d t old new))

  -- what was unfinished is dropped or taken back on the disk too: of each of the three no more is found than what it has
  abbrev pub SettlesRecovered : Devices D T → Result Recovered SessionFault → Type 0
  SettlesRecovered new result = OfAll (IfOk result (λ o. (o.how ≡ Clean → ⊥) → AreSettled d t new))

  -- the three are those of a session that is ready with these images, as it is when it is closed
  abbrev pub ShowImages : Images → Type 0
  ShowImages s = IsAtRest (t.text old.journal) (d.image old.image) s.stack × IsRedoOf (t.text old.redo) (d.image old.image) (changes_of s.stack) s.undone

  -- nothing was unfinished and nothing was written, and the session is ready with these images
  pub record IsReopened (images : Images) (s : SessionView D T) (how : RecoveryOutcome) : Type 0 where
    pub clean : how ≡ Clean
    pub pair_same : IsPairSame (devices_of s)
    pub redo_same : t.text s.redo ≡ t.text old.redo
    pub ready : IsReady d.image t.text s images.stack
    pub undone : HasUndone d.image t.text s images.undone

  -- What is found, whatever image it is: what is left stands for the recovered stack, and the session says how many changes that are
  pub record FindsStack (result : Opening D T) : Type 0 where
    pub opened : Leaves Opens result
    pub standing : OfPair ((r : Reading) → Reads (shown (t.text old.journal)) r → IfOk result (λ o. IsStanding d.image t.text o.0 (recovered r (d.image old.image))))
    pub left : t.faithful old.journal → (r : Reading) → Reads (shown (t.text old.journal)) r → IfOk result (λ o. HasLeft (t.text old.journal) (t.text o.0.journal) r.entries)
    pub fresh : IfOk result (λ o. (o.0.count ≡ o.1.changes) × (o.0.undone ≡ o.1.undone) × (o.0.is_broken ≡ false))

  -- A text that isn't accepted is never opened, and one that is accepted is never called damaged
  pub record JudgesText (result : Opening D T) : Type 0 where
    pub accepted : t.faithful old.journal → OnOk result (IsAccepted (shown (t.text old.journal)))
    pub damaged : t.faithful old.journal → IfErr result (λ e. (line : ℕ) → e.1 ≡ Damaged line → IsDamagedAt (shown (t.text old.journal)) line)
    pub unaccepted : t.faithful old.journal → (IsAccepted (shown (t.text old.journal)) → ⊥) → MatchResult result (λ _. ⊥) (λ e. RefusesText e.1)

  -- Which fault comes: a length differs exactly where the newest finished entry tells another one than that of the image below which it
  -- stands, an interruption comes only where something was unfinished, and no fault of another call comes at all
  pub record AnswersFault (result : Opening D T) : Type 0 where
    pub faults : Leaves (λ new. FaultsAsRead) result
    pub differs : Leaves (λ new. IsLengthRefused) result
    pub lengths_kept : OfPair (AsFound (t.text old.journal) (d.image old.image) (λ stack. IfErr result (λ e. (n : ℕ) → e.1 ≡ LengthDiffers n → ⊥)))
    pub unfinished : t.faithful old.journal → IfErr result (λ e. e.1 ≡ Interrupted → IsClean (t.text old.journal) → ⊥)
    pub kind : IfErr result (λ e. OpenKind e.1)

  -- What is left: beside finished entries alone, and behind each fault but an interruption, all is as it was; behind an interruption opening
  -- finds the images that it found before, without those that were undone
  pub record SparesDevices (result : Opening D T) : Type 0 where
    pub clean : Leaves SparesClean result
    pub refused : Leaves SparesPair result
    pub redo_same : t.faithful old.redo → Leaves (λ new r. IfErr r (λ e. AfterFault e (Unit {0}) (t.text new.redo ≡ t.text old.redo))) result
    pub keeps : Leaves KeepsPair result
    pub finds_err : Leaves FindsAgain result

  -- What becomes of the redo text: beside a finished journal it stays, and stands for the undone images; what is unfinished empties it
  pub record OpensRedo (result : Opening D T) : Type 0 where
    pub clean_redo : t.faithful old.redo → IfOk result (λ o. o.1.how ≡ Clean → t.text o.0.redo ≡ t.text old.redo)
    pub emptied : t.faithful old.redo → IfOk result (λ o. (o.1.how ≡ Clean → ⊥) → (t.text o.0.redo ≡ []) × (o.1.undone ≡ 0))
    pub undone : OfAll (IfOk result (λ o. (undone : List (List ℕ)) × HasUndone d.image t.text o.0 undone))
    pub keeps_undone : OfFound (λ s. IfOk result (λ o. HasUndone d.image t.text o.0 (found_undone o.1.how s.undone)))

  -- A redo text is refused exactly where it isn't one of the image and of as many changes, and then at the one line
  pub record JudgesRedo (result : Opening D T) : Type 0 where
    pub redo_refused : Leaves (λ new. TellsRefused) result
    pub redo_unfit : Leaves (λ new. TellsUnfit) result
    pub redo_kept : Leaves (λ new. KeepsRedoText) result

  -- Each device is faithful as it was, and counts a failure more where its call failed
  pub record CountsCalls (result : Opening D T) : Type 0 where
    pub image_faith : IfOk result (λ o. d.faithful o.0.image ↔ d.faithful old.image)
    pub journal_faith : IfOk result (λ o. t.faithful o.0.journal ↔ t.faithful old.journal)
    pub redo_faith : IfOk result (λ o. t.faithful o.0.redo ↔ t.faithful old.redo)
    pub faith_err : IfErr result (λ e. (d.faithful e.0.image ↔ d.faithful old.image) × (t.faithful e.0.journal ↔ t.faithful old.journal)
        × (t.faithful e.0.redo ↔ t.faithful old.redo))
    pub image_failures : IfOk result (λ o. d.failures o.0.image ≡ d.failures old.image)
    pub journal_failures : IfOk result (λ o. t.failures o.0.journal ≡ t.failures old.journal)
    pub redo_failures : IfOk result (λ o. t.failures o.0.redo ≡ t.failures old.redo)
    pub counts : Leaves (AreCounted d t old) result

  -- Opening, whatever the three devices are: all that is promised of it
  pub record OpensDevices (result : Opening D T) : Type 0 where
    pub found : FindsStack result
    pub text : JudgesText result
    pub fault : AnswersFault result
    pub keeps : OfPair (AsFound (t.text old.journal) (d.image old.image) (λ s. IfOk result (λ o. IsReady d.image t.text o.0 s)))
    pub spares : SparesDevices result
    pub redo : OpensRedo result
    pub redo_fault : JudgesRedo result
    pub reopens : OfAll ((s : Images) → ShowImages s → MatchResult result (λ o. IsReopened s o.0 o.1.how) (λ e. DeviceFault e.1))
    pub survives : Leaves SurvivesOpening result
    pub settled : Leaves SettlesRecovered result
    pub found_before : Leaves FindsNothingNew result
    pub devices : CountsCalls result
