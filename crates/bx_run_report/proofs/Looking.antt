-- What an opening says of files that are only read.
use Rattle.std.proofs.Common.{◌≡◌, ◌∙◌, ℕ, List, [], Ok, Err, length, refl, sym, ap, subst}
use Rattle.std.specs.List.{flat_map}
use Rattle.std.specs.Option.{option_map_or}
use Rattle.bx_text.specs.declared.fault.IoFault.TheVariants.{NoMemory as LacksMemory, ReadFailed, WriteFailed, InputTooLong, SkipPastEnd}
use Rattle.bx_image.specs.declared.device.Device.{Ghosts as DeviceViews}
use Rattle.bx_journal_store.specs.declared.store.TextStore.{Ghosts as StoreViews}
use Rattle.bx_journal_format.specs.Finished.{IsFinished}
use Rattle.bx_journal_format.specs.Shown.{shown}
use Rattle.bx_journal_format.proofs.CleanLemmas.{clean_shown}
use Rattle.bx_journal.proofs.CountedLemmas.{left_none}
use Rattle.bx_journal.specs.Calls.{OpenFault, how_of, rows_of}
use Rattle.bx_journal.specs.Devices.{Devices}
use Rattle.bx_journal.specs.Fault.{DeviceFault}
use Rattle.bx_journal.specs.RecoveryOutcome.{RecoveryOutcome}
use Rattle.bx_journal.specs.RecoveryOutcome.TheVariants.{Clean}
use Rattle.bx_journal.specs.LogRow.{LogRow}
use Rattle.bx_journal.specs.Opened.{OpensDevices}
use Rattle.bx_journal.specs.Opening.{left_over}
use Rattle.bx_journal.specs.Recovered.{Recovered}
use Rattle.bx_journal.specs.Recovery.{OpenKind}
use Rattle.bx_journal.specs.Redo.{IsClean, RefusesRedoAt}
use Rattle.bx_journal.specs.SessionFault.{SessionFault}
use Rattle.bx_journal.specs.SessionFault.TheVariants.{NoMemory, TooLarge, DeviceFailed, Damaged, TooFew, JournalFull, Interrupted, Broken, LengthDiffers, NothingToRedo, RedoDamaged}
use Rattle.bx_journal.specs.SessionView.{SessionView}
use Rattle.bx_journal.specs.ShownSteps.{HasEntries}
use Rattle.bx_journal.specs.Text.{Between, Entry, IsDamagedAt, Reading, Reads}
use Rattle.bx_journal.specs.Undoing.{AgainFault, HasCount}
use Rattle.bx_cli_commands.specs.Listing.{log_line}
use Rattle.bx_cli_commands.specs.declared.fault.Fault.TheVariants.{Io, Read, Behind, Dd, Patch, Disagrees, NotReversible, NothingToWrite, Session, Grows, ChangedSince, Usage, OpenFailed}
use Rattle.bx_world.specs.World.{ReadFiles, SystemState, held}
use Rattle.bx_world.specs.files.Reading.{LeadToRead}
use Rattle.bx_world.specs.declared.files.names.Names.{Names}
use Rattle.bx_run_report.specs.report.Devices.{HoldBytes, HoldFiles, HoldNumbered, IsDeviceStop, IsOpenedWhole}
use Rattle.bx_run_report.specs.report.Looks.{HidesChanges, IsLogOf, MayNotLook, unseen_of}
use Rattle.bx_run_report.specs.declared.report.error.ReportError.{ReportError}
use Rattle.bx_run_report.specs.declared.report.error.ReportError.TheVariants.{Unopened, Unfinished, Another, Stopped}

-- where something is recovered, the journal was not finished entries alone
pub unclean : (text : List ℕ) (how : RecoveryOutcome) → ((r : Reading) → Reads (shown text) r → how ≡ how_of r (left_over text)) → (how ≡ Clean → ⊥)
    → IsClean text → ⊥
unclean text how is other clean =
    let same : shown text ≡ text = clean_shown text clean.0 clean.1 in
    let reads : Reads (shown text) (record { entries = clean.0; stage = Between }) =
    subst (λ t. Reads t (record { entries = clean.0; stage = Between })) (sym same) clean.1.reads in
    other (is (record { entries = clean.0; stage = Between }) reads
    ∙ ap (how_of (record { entries = clean.0; stage = Between })) (left_none text same clean.1.whole))

-- why an opening is refused
pub hides_fault : (image journal redo : List ℕ) (e : SessionFault) → OpenKind e
    → ((line : ℕ) → e ≡ Damaged line → IsDamagedAt (shown journal) line)
    → ((r : Reading) → Reads (shown journal) r → OpenFault r image e)
    → ((line : ℕ) → e ≡ RedoDamaged line → RefusesRedoAt journal image redo line)
    → (e ≡ Interrupted → IsClean journal → ⊥)
    → HidesChanges image journal redo (unseen_of e)
hides_fault image journal redo NoMemory kind damaged read redo_at unfinished = tt
hides_fault image journal redo TooLarge kind damaged read redo_at unfinished = kind
hides_fault image journal redo DeviceFailed kind damaged read redo_at unfinished = tt
hides_fault image journal redo (Damaged line) kind damaged read redo_at unfinished = λ _. damaged line refl
hides_fault image journal redo (TooFew have) kind damaged read redo_at unfinished = kind
hides_fault image journal redo JournalFull kind damaged read redo_at unfinished = kind
hides_fault image journal redo Interrupted kind damaged read redo_at unfinished = unfinished refl
hides_fault image journal redo Broken kind damaged read redo_at unfinished = kind
hides_fault image journal redo (LengthDiffers expected) kind damaged read redo_at unfinished = λ n has. read has.0 has.1
hides_fault image journal redo (NothingToRedo have) kind damaged read redo_at unfinished = kind
hides_fault image journal redo (RedoDamaged line) kind damaged read redo_at unfinished = redo_at line refl

-- why the log of a session with as many changes as its journal is stopped
pub log_stops : (faithful : Type 0) (text : List ℕ) (count : ℕ) (e : SessionFault) → ((e ≡ Broken → ⊥) → AgainFault faithful text count e)
    → (e ≡ Broken → ⊥) → ((n : ℕ) → e ≡ Damaged n → ⊥) → IsDeviceStop (Stopped (Session e))
log_stops faithful text count NoMemory again whole undamaged = tt
log_stops faithful text count TooLarge again whole undamaged = again whole
log_stops faithful text count DeviceFailed again whole undamaged = tt
log_stops faithful text count (Damaged line) again whole undamaged = undamaged line refl
log_stops faithful text count (TooFew have) again whole undamaged = again whole
log_stops faithful text count JournalFull again whole undamaged = again whole
log_stops faithful text count Interrupted again whole undamaged = again whole
log_stops faithful text count Broken again whole undamaged = whole refl
log_stops faithful text count (LengthDiffers expected) again whole undamaged = again whole
log_stops faithful text count (NothingToRedo have) again whole undamaged = again whole
log_stops faithful text count (RedoDamaged line) again whole undamaged = again whole

stop_opens : (image journal redo : List ℕ) (e : SessionFault) → DeviceFault e → HidesChanges image journal redo (Stopped (Session e))
stop_opens image journal redo NoMemory is = tt
stop_opens image journal redo TooLarge is = is
stop_opens image journal redo DeviceFailed is = tt
stop_opens image journal redo (Damaged line) is = absurd is
stop_opens image journal redo (TooFew have) is = is
stop_opens image journal redo JournalFull is = is
stop_opens image journal redo Interrupted is = is
stop_opens image journal redo Broken is = is
stop_opens image journal redo (LengthDiffers expected) is = absurd is
stop_opens image journal redo (NothingToRedo have) is = is
stop_opens image journal redo (RedoDamaged line) is = absurd is

-- why changes are not seen in files by these names
pub not_seen : (names : Names) (counted : Type 0) (w : SystemState) (u : ReportError)
    → HidesChanges (held w names.image) (held w names.journal) (held w names.redo) u → MayNotLook names counted w u
not_seen names counted w (Unopened file) is = absurd is
not_seen names counted w Unfinished is = is
not_seen names counted w Another is = absurd is
not_seen names counted w (Stopped fault) is = is

-- what stops a log hides the changes
pub stop_hides : (image journal redo : List ℕ) (u : ReportError) → IsDeviceStop u → HidesChanges image journal redo u
stop_hides image journal redo (Unopened file) is = is
stop_hides image journal redo Unfinished is = absurd is
stop_hides image journal redo Another is = absurd is
stop_hides image journal redo (Stopped (Session e)) is = stop_opens image journal redo e is
stop_hides image journal redo (Stopped (Io LacksMemory)) is = tt
stop_hides image journal redo (Stopped (Io ReadFailed)) is = is
stop_hides image journal redo (Stopped (Io (WriteFailed written))) is = is
stop_hides image journal redo (Stopped (Io InputTooLong)) is = is
stop_hides image journal redo (Stopped (Io SkipPastEnd)) is = is
stop_hides image journal redo (Stopped (Read fault)) is = is
stop_hides image journal redo (Stopped (Behind line)) is = is
stop_hides image journal redo (Stopped (Dd fault)) is = is
stop_hides image journal redo (Stopped (Patch fault)) is = is
stop_hides image journal redo (Stopped (Disagrees other)) is = is
stop_hides image journal redo (Stopped NotReversible) is = is
stop_hides image journal redo (Stopped NothingToWrite) is = is
stop_hides image journal redo (Stopped (Grows has wanted)) is = is
stop_hides image journal redo (Stopped ChangedSince) is = is
stop_hides image journal redo (Stopped Usage) is = is
stop_hides image journal redo (Stopped OpenFailed) is = is

-- devices that hold the bytes of files hold what their names lead to
pub held_files : {D T : Type 0} → (d : DeviceViews D) (t : StoreViews T) (names : Names) (f : ReadFiles) (w : SystemState) (x : Devices D T)
    → LeadToRead names f w → HoldNumbered d t f w x → HoldFiles d t names w x
held_files d t names f w x named holds = record {
  image_faithful = holds.image_faithful;
  journal_faithful = holds.journal_faithful;
  redo_faithful = holds.redo_faithful;
  image_is = holds.image_is ∙ sym (ap (λ o. option_map_or w.bytes o []) named.image);
  journal_is = holds.journal_is ∙ sym (ap (λ o. option_map_or w.bytes o []) named.journal);
  redo_is = holds.redo_is ∙ sym (ap (λ o. option_map_or w.bytes o []) named.redo);
}

-- the lines of a journal that has `count` changes are its log
pub log_of : (text : List ℕ) (rows : List LogRow) (log : List ℕ) (count : ℕ) → HasCount text count
    → ((es : List Entry) → IsFinished text es → rows ≡ rows_of es) → log ≡ flat_map log_line rows → IsLogOf text log
log_of text rows log count has rows_are is = ((has.0, has.1), is ∙ ap (flat_map log_line) (rows_are has.0 has.1))

-- Of devices that hold these bytes.
module _ {D T : Type 0} (d : DeviceViews D) (t : StoreViews T) (old : Devices D T) (image journal redo : List ℕ)
    (holds : HoldBytes d t image journal redo old) where
  -- an opening that finds finished entries alone leaves what they held
  pub opened_whole : (s : SessionView D T) (found : Recovered) → OpensDevices d t old (Ok (s, found)) → found.how ≡ Clean
      → IsOpenedWhole d t image journal redo s
  opened_whole s found opens clean =
      let pair = opens.spares.clean holds.image_faithful holds.journal_faithful clean in
      let redo_same = opens.redo.clean_redo holds.redo_faithful clean in
      let counts = opens.devices in
      let accepted = opens.text.accepted holds.journal_faithful in
      let is = opens.found.opened holds.image_faithful holds.journal_faithful accepted.0 accepted.1 in
      let left = opens.found.left holds.journal_faithful accepted.0 accepted.1 in
      let count : s.count ≡ length accepted.0.entries = opens.found.fresh.0 ∙ is.changes_are in
      record {
        devices = record {
          image_faithful = counts.image_faith.1 holds.image_faithful;
          journal_faithful = counts.journal_faith.1 holds.journal_faithful;
          redo_faithful = counts.redo_faith.1 holds.redo_faithful;
          image_is = pair.1 ∙ holds.image_is;
          journal_is = pair.0 ∙ holds.journal_is;
          redo_is = redo_same ∙ holds.redo_is;
        };
        counted = (accepted.0.entries, subst (λ u. IsFinished u accepted.0.entries) (pair.0 ∙ holds.journal_is) left.finished, sym count);
        entries = subst (λ u. HasEntries u s.count) holds.journal_is (accepted.0, accepted.1, sym count);
      }

  -- and one that finds anything else says that the journal is not finished entries alone
  pub opened_unclean : (s : SessionView D T) (found : Recovered) → OpensDevices d t old (Ok (s, found)) → (found.how ≡ Clean → ⊥)
      → IsClean journal → ⊥
  opened_unclean s found opens other clean =
      unclean (t.text old.journal) found.how (λ r reads. (opens.found.opened holds.image_faithful holds.journal_faithful r reads).how_is) other
      (subst IsClean (sym holds.journal_is) clean)

  -- why an opening is refused
  pub opened_refused : (x : Devices D T) (e : SessionFault) → OpensDevices d t old (Err (x, e)) → HidesChanges image journal redo (unseen_of e)
  opened_refused x e opens =
      let hidden : HidesChanges (d.image old.image) (t.text old.journal) (t.text old.redo) (unseen_of e) =
      hides_fault (d.image old.image) (t.text old.journal) (t.text old.redo) e opens.fault.kind (opens.text.damaged holds.journal_faithful)
      (opens.fault.faults holds.image_faithful holds.journal_faithful)
      (opens.redo_fault.redo_refused holds.image_faithful holds.journal_faithful holds.redo_faithful) (opens.fault.unfinished holds.journal_faithful) in
      subst (λ i. HidesChanges i journal redo (unseen_of e)) holds.image_is
      (subst (λ j. HidesChanges (d.image old.image) j redo (unseen_of e)) holds.journal_is
      (subst (λ r. HidesChanges (d.image old.image) (t.text old.journal) r (unseen_of e)) holds.redo_is hidden))
