-- What is seen in devices that hold the bytes of files.
use Rattle.std.proofs.Common.{◌≡◌, ◌∙◌, ℕ, List, [], Option, Result, refl, inl, inr, sym, subst}
use Rattle.std.specs.Option.{option_map_or}
use Rattle.std.specs.Result.{IfErr, IfOk, OnOk}
use Rattle.std.proofs.lemmas.Result.{IfErr-weaker, on_ok_weaker}
use Rattle.bx_image.specs.declared.device.Device.{Ghosts as DeviceViews}
use Rattle.bx_journal_store.specs.declared.store.TextStore.{Ghosts as StoreViews}
use Rattle.bx_journal.specs.Devices.{Devices}
use Rattle.bx_journal.specs.SessionView.{SessionView, devices_of}
use Rattle.bx_journal.specs.Showing.{RangesOf}
use Rattle.bx_journal.specs.ShownSteps.{HasEntries}
use Rattle.bx_journal.specs.ShownText.{ShowsText}
use Rattle.bx_journal.specs.Steps.{Steps}
use Rattle.bx_journal.specs.Undoing.{HasCount}
use Rattle.bx_world.specs.World.{SystemState, held}
use Rattle.bx_world.specs.files.Reading.{AreBytesOf}
use Rattle.bx_world.specs.declared.files.names.Names.{Names}
use Rattle.bx_run_report.specs.report.Devices.{HoldBytes, IsDeviceStop, IsOpenedWhole}
use Rattle.bx_run_report.specs.report.Looks.{AreStepsCut, HidesChanges, IsListCut, IsLogOf, IsNextCut, IsNextShown, IsUnseenOr, MayNotLook, stepped_text, steps_from}
use Rattle.bx_run_report.specs.declared.report.error.ReportError.{ReportError}
use Rattle.bx_run_report.proofs.Looking.{not_seen, stop_hides}

-- Of devices that hold these bytes.
module _ {D T : Type 0} (d : DeviceViews D) (t : StoreViews T) (image journal redo : List ℕ) where
  -- the ranges are those of the text
  pub rows_held : {S : Type 0} (x : Devices D T) → HoldBytes d t image journal redo x → (r : Result S ReportError) (old new : Option (List ℕ))
      → (t.faithful x.journal → OnOk r (RangesOf (t.text x.journal) old new)) → OnOk r (RangesOf journal old new)
  rows_held x holds r old new rows = subst (λ u. OnOk r (RangesOf u old new)) holds.journal_is (rows holds.journal_faithful)

  -- and so is what is cut off
  pub rows_cut : {S : Type 0} (x : Devices D T) → HoldBytes d t image journal redo x → (r : Result S ReportError) (old new : Option (List ℕ))
      → (t.faithful x.journal → IfErr r (IsListCut (t.text x.journal) old new))
      → IfErr r (λ u. IsUnseenOr (HidesChanges image journal redo u) old new (IsListCut journal old new u))
  rows_cut x holds r old new cut = IfErr-weaker r _ _ (λ u is. inr is)
      (subst (λ l. IfErr r (IsListCut l old new)) holds.journal_is (cut holds.journal_faithful))

-- Of a session that was opened with nothing unfinished.
module _ {D T : Type 0} (d : DeviceViews D) (t : StoreViews T) (image journal redo : List ℕ) (s : SessionView D T)
    (whole : IsOpenedWhole d t image journal redo s) where
  -- its log is that of the journal
  pub log_whole : {S : Type 0} (bytes : S → List ℕ) (r : Result S ReportError)
      → (t.faithful s.journal → HasCount (t.text s.journal) s.count → IfOk r (λ log. IsLogOf (t.text s.journal) (bytes log)))
      → IfOk r (λ log. IsLogOf journal (bytes log))
  log_whole bytes r logs = subst (λ u. IfOk r (λ log. IsLogOf u (bytes log))) whole.devices.journal_is
      (logs whole.devices.journal_faithful (subst (λ u. HasCount u s.count) (sym whole.devices.journal_is) whole.counted))

  -- what stops its log hides the changes
  pub log_hides : {S : Type 0} (r : Result S ReportError)
      → (t.faithful s.journal → HasCount (t.text s.journal) s.count → IfErr r IsDeviceStop) → IfErr r (HidesChanges image journal redo)
  log_hides r stops = IfErr-weaker r IsDeviceStop (HidesChanges image journal redo) (stop_hides image journal redo)
      (stops whole.devices.journal_faithful (subst (λ u. HasCount u s.count) (sym whole.devices.journal_is) whole.counted))

  -- its devices hold what they held
  pub held_back : (x : Devices D T) → x ≡ devices_of s → HoldBytes d t image journal redo x
  held_back x same = subst (HoldBytes d t image journal redo) (sym same) whole.devices

  -- the steps that are written are those of as many changes as the journal has
  pub next_shown : {S : Type 0} (n : ℕ) → n ≡ s.count → (steps : Steps) (r : Result S ReportError) (old new : Option (List ℕ))
      → OnOk r (ShowsText (stepped_text steps.way journal redo) image (steps_from steps n) old new)
      → OnOk r (IsNextShown image journal redo steps old new)
  next_shown n same steps r old new shows = on_ok_weaker r
      (λ shown. record { changes = n; standing = subst (HasEntries journal) (sym same) whole.entries; shows = shown }) shows

  -- and so are those that are cut off
  pub next_cut : {S : Type 0} (n : ℕ) → n ≡ s.count → (steps : Steps) (r : Result S ReportError) (old new : Option (List ℕ))
      → IfErr r (AreStepsCut (stepped_text steps.way journal redo) image (steps_from steps n) old new)
      → IfErr r (λ u. IsUnseenOr (HidesChanges image journal redo u) old new (IsNextCut image journal redo steps old new u))
  next_cut n same steps r old new cut = IfErr-weaker r _ _
      (λ u is. inr (n, subst (HasEntries journal) (sym same) whole.entries, is)) cut

named_or : (names : Names) (counted : Type 0) (w : SystemState) (old new : Option (List ℕ)) (cut : ReportError → Type 0) (u : ReportError)
    → IsUnseenOr (HidesChanges (held w names.image) (held w names.journal) (held w names.redo) u) old new (cut u)
    → IsUnseenOr (MayNotLook names counted w u) old new (cut u)
named_or names counted w old new cut u (inl hidden) = inl (not_seen names counted w u hidden.0, hidden.1)
named_or names counted w old new cut u (inr is) = inr is

-- what hides the changes of files hides them by their names
pub hidden_named : {S : Type 0} (names : Names) (counted : Type 0) (w : SystemState) (old new : Option (List ℕ)) (cut : ReportError → Type 0)
    (r : Result S ReportError) → IfErr r (λ u. IsUnseenOr (HidesChanges (held w names.image) (held w names.journal) (held w names.redo) u) old new (cut u))
    → IfErr r (λ u. IsUnseenOr (MayNotLook names counted w u) old new (cut u))
hidden_named names counted w old new cut r stops = IfErr-weaker r _ _ (named_or names counted w old new cut) stops

-- what a file that is read by itself has, its name holds
pub held_by : (name : List ℕ) (w : SystemState) (bytes : List ℕ) → AreBytesOf name w bytes → bytes ≡ held w name
held_by name w bytes is = let named : option_map_or w.bytes (w.named name) [] ≡ w.bytes is.number = rw is.named refl in is.bytes_are ∙ sym named
