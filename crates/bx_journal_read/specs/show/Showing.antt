-- What a look at the changes of a text writes.
use Rattle.std.specs.Prelude.{ℕ, suc, ◌==◌, None, Some, Option, List, [], ◌∷◌, ◌++◌, length, if◌then◌else◌, codes, decimal, ◌≡◌, ◌↔◌, ◌<◌, ◌≤◌, ◌+◌, ◌-◌, Vec, Result, IfOk, IfErr, OnOk, take, drop}
use Rattle.std.specs.Io.KnownBytes.{Appends}
use Rattle.bx_image.specs.Power.{NoMore}
use Rattle.bx_image.specs.declared.device.Device.{Ghosts as DeviceViews}
use Rattle.bx_journal_store.specs.declared.store.TextStore.{Ghosts as StoreViews}
use Rattle.bx_journal_format.specs.Finished.{IsFinished}
use Rattle.bx_journal_format.specs.Kept.{Run, Kept}
use Rattle.bx_journal_format.specs.Ranges.{ranges_text, AreRanged, RangesOn}
use Rattle.bx_journal_format.specs.Shown.{shown}
use Rattle.bx_journal_format.specs.Text.{Entry, IsDamagedAt, split}
use Rattle.bx_journal_read.specs.declared.show.fault.ShowFault.{ShowFault}
use Rattle.bx_journal_read.specs.declared.show.fault.ShowFault.TheVariants.{Text, Io}
use Rattle.bx_journal_model.specs.declared.fault.SessionFault.TheVariants.{Damaged}
use Rattle.bx_journal_model.specs.Fault.{DeviceFault}
use Rattle.bx_journal_model.specs.Redo.{IsClean}
use Rattle.bx_journal_format.specs.declared.read.marks.Mark.{Mark}
use Rattle.bx_journal_format.specs.Spelled.{EntryLines, IsSpelled, runs_behind}
use Rattle.bx_journal_format.specs.count.Marks.{marks_of}
use Rattle.bx_journal_format.specs.count.Rows.{saved_length}
use Rattle.bx_journal_model.specs.declared.fault.SessionFault.{SessionFault}
use Rattle.bx_journal_model.specs.Looking.{FaultCounts, LooksAt}
use Rattle.bx_text.specs.declared.fault.IoFault.TheVariants.{WriteFailed}
use Rattle.bx_journal_read.specs.scan.Recovery.{FindFault}
use Rattle.bx_journal_read.specs.declared.show.ranges.Done.{Done}
use Rattle.bx_journal_read.specs.show.Stopping.{CountsBytes, StopsPrefix}

-- the length after a change, or `-` where the entry tells none
abbrev pub after_text : Option ℕ → List ℕ
after_text None = codes "-"
after_text (Some after) = decimal after

-- the ranges of a record, or `-` where it has no bytes
abbrev pub places_text : Kept → List ℕ
places_text s = if saved_length s == 0 then codes "-" else ranges_text s.runs

-- the row of entry n: its number, the lengths before and after the change, how many bytes were saved, and at which ranges
abbrev pub ranges_row : ℕ → Entry → List ℕ
ranges_row n e = decimal n ++ codes " " ++ decimal e.saved.len ++ codes " " ++ after_text e.after ++ codes " " ++ decimal (saved_length e.saved) ++ codes " "
    ++ places_text e.saved ++ codes "\n"

-- the rows of entries, the oldest first
unfoldable pub ranges_rows : List Entry → List ℕ
ranges_rows [] = []
ranges_rows (e ∷ older) = ranges_rows older ++ ranges_row (suc (length older)) e

-- The text is finished entries alone, and their rows were written
pub record RangesOf (text : List ℕ) (old new : Option (List ℕ)) : Type 0 where
  pub whole : IsClean text
  pub rows : (entries : List Entry) → IsFinished text entries → Appends old new (ranges_rows entries)

-- A log with ranges was stopped: a front of the rows of finished entries was written, and nothing of another text
pub record StopsRows (text : List ℕ) (old new : Option (List ℕ)) (fault : ShowFault) : Type 0 where
  pub quiet : (IsClean text → ⊥) → new ≡ old
  pub rows : (entries : List Entry) → IsFinished text entries → StopsPrefix 0 (ranges_rows entries) old new fault

-- which fault writing what is read of a text answers: of memory or a device, or a failed write
abbrev pub PutFault : ShowFault → Type 0
PutFault (Text fault) = DeviceFault fault
PutFault (Io (WriteFailed n)) = Unit {0}
PutFault (Io fault) = ⊥

-- how the counts of failed calls of two devices go on: a device's fault raises one of them by one, and another fault none
abbrev pub LookCounts : ShowFault → ℕ → ℕ → ℕ → ℕ → Type 0
LookCounts (Text fault) d t d_new t_new = FaultCounts fault d t d_new t_new
LookCounts (Io fault) d t d_new t_new = (d_new ≡ d) × (t_new ≡ t)

-- a fault where no call of a device failed
abbrev pub CountsNone : ShowFault → Type 0
CountsNone fault = (d t d_new t_new : ℕ) → d_new ≡ d → t_new ≡ t → LookCounts fault d t d_new t_new

-- which fault a log with ranges answers: the line at which the text is damaged, or one that the text doesn't make
abbrev pub StopsLog : Type 0 → List ℕ → ShowFault → Type 0
StopsLog faithful text (Text (Damaged line)) = faithful → IsDamagedAt (shown text) line
StopsLog faithful text (Text fault) = DeviceFault fault
StopsLog faithful text (Io fault) = PutFault (Io fault)

-- the first bytes of a text are finished entries alone, with these marks: of the store's, where that is faithful
pub record AreMarksOf (faithful : Type 0) (stored : List ℕ) (len : ℕ) (marks : List Mark) : Type 0 where
  pub front : List ℕ
  pub is : faithful → front ≡ take len stored
  pub entries : List EntryLines
  pub spelled : IsSpelled front entries
  pub marks_are : marks ≡ marks_of entries

-- all of a text is: the store's, where that is faithful
pub record AreAllMarks (faithful : Type 0) (stored : List ℕ) (marks : List Mark) : Type 0 where
  pub text : List ℕ
  pub is : faithful → stored ≡ text
  pub entries : List EntryLines
  pub spelled : IsSpelled text entries
  pub marks_are : marks ≡ marks_of entries

-- A call that looks for the marks of all entries of a text: it answers them, or a fault of reading it
pub record FindsMarks {T A : Type 0} (faithful : T → Type 0) (text : T → List ℕ) (left : T → List ℕ → Type 0) (failures : T → ℕ)
    (result : Result (Vec Mark A) SessionFault) (old new : T) : Type 0 where
  pub marks : IfOk result (λ marks. AreAllMarks (faithful old) (text old) marks.items)
  pub fault : IfErr result (FindFault (faithful old) (shown (text old)))
  pub looks : LooksAt faithful text failures result old new
  pub survives : faithful old → NoMore (left old) (left new)

-- a call that only looks at a text, whatever its faults are: the text stays, and no call failed where it is accepted
pub record Stays {T R E : Type 0} (faithful : T → Type 0) (text : T → List ℕ) (failures : T → ℕ) (result : Result R E) (old new : T) : Type 0 where
  pub same : faithful old → text new ≡ text old
  pub faith : faithful new ↔ faithful old
  pub no_failure : OnOk result (failures new ≡ failures old)

-- a call that writes what it reads of a device, the image's or a text's: which fault it answers, and that it changes nothing there, nor what a
-- loss of power leaves to be found
pub record WritesFrom {T R : Type 0} (faithful : T → Type 0) (view : T → List ℕ) (left : T → List ℕ → Type 0) (failures : T → ℕ)
    (result : Result R ShowFault) (old new : T) : Type 0 where
  pub kind : IfErr result PutFault
  pub stays : Stays faithful view failures result old new
  pub survives : faithful old → NoMore (left old) (left new)
  pub counts : IfErr result (λ f. LookCounts f (failures old) 0 (failures new) 0)

-- the same of one that reads a text beside an image
pub record WritesBeside {D T R : Type 0} (d : DeviceViews D) (t : StoreViews T) (result : Result R ShowFault) (image_old image_new : D) (text_old text_new : T) : Type 0 where
  pub kind : IfErr result PutFault
  pub image : Stays d.faithful d.image d.failures result image_old image_new
  pub text : Stays t.faithful t.text t.failures result text_old text_new
  pub image_survives : d.faithful image_old → NoMore (d.survives image_old) (d.survives image_new)
  pub text_survives : t.faithful text_old → NoMore (t.survives text_old) (t.survives text_new)
  pub counts : IfErr result (λ f. LookCounts f (d.failures image_old) (t.failures text_old) (d.failures image_new) (t.failures text_new))

-- whole lines at a place of an entry's saved lines end ranges, which were written; the lines are the store's, where that is faithful
pub record PutsOn (faithful : Type 0) (stored : List ℕ) (mark : Mark) (old new : Done) (w0 w1 : Option (List ℕ)) : Type 0 where
  pub bytes : List ℕ
  pub is : faithful → bytes ≡ take (new.at - old.at) (drop old.at stored)
  pub whole : (split bytes).rest ≡ []
  pub text : List ℕ
  pub leads : RangesOn mark.len (split bytes).lines old.ranging [] text new.ranging
  pub appended : Appends w0 w1 text
  pub counted : CountsBytes old.written text new.written
  pub some : old.at < new.at
  pub within : new.at ≤ mark.to
  pub below : new.ranging.at + new.ranging.count ≤ mark.len

-- what was written behind `before` bytes of the ranges of an entry's saved lines up to a place: they are the store's, where that is faithful
pub record ArePutTo (faithful : Type 0) (stored : List ℕ) (mark : Mark) (before : ℕ) (d : Done) (w0 w1 : Option (List ℕ)) : Type 0 where
  pub bytes : List ℕ
  pub is : faithful → bytes ≡ take (d.at - mark.from) (drop mark.from stored)
  pub whole : (split bytes).rest ≡ []
  pub text : List ℕ
  pub put : AreRanged (runs_behind mark.len [] (split bytes).lines) d.ranging text
  pub appended : Appends w0 w1 text
  pub counted : CountsBytes before text d.written

-- behind the ranges that are put, what follows of an entry's saved lines gives others, and a front of these was written
abbrev pub StopsRanges : List ℕ → Mark → Done → Option (List ℕ) → Option (List ℕ) → ShowFault → Type 0
StopsRanges stored mark d old new fault = (runs : List Run) (text : List ℕ) → AreRanged runs d.ranging text
    → (rest : List ℕ) × (ranges_text (runs_behind mark.len runs (split (take (mark.to - d.at) (drop d.at stored))).lines) ≡ text ++ rest)
    × StopsPrefix d.written rest old new fault

-- the text between the places of a mark
abbrev pub lines_at : List ℕ → Mark → List ℕ
lines_at text mark = take (mark.to - mark.from) (drop mark.from text)

-- the ranges of the lines there
abbrev pub ranges_at : List ℕ → Mark → List ℕ
ranges_at text mark = ranges_text (runs_behind mark.len [] (split (lines_at text mark)).lines)

-- what stands before the ranges in the row of the entry of a mark
abbrev pub row_front : ℕ → Mark → List ℕ
row_front n mark = decimal n ++ codes " " ++ decimal mark.len ++ codes " " ++ after_text mark.after ++ codes " " ++ decimal mark.saved ++ codes " "

-- its ranges, or `-` where it saved no bytes
abbrev pub places_at : List ℕ → Mark → List ℕ
places_at text mark = if mark.saved == 0 then codes "-" else ranges_at text mark

-- the row
abbrev pub mark_row : List ℕ → ℕ → Mark → List ℕ
mark_row text n mark = decimal n ++ codes " " ++ decimal mark.len ++ codes " " ++ after_text mark.after ++ codes " " ++ decimal mark.saved ++ codes " "
    ++ places_at text mark ++ codes "\n"

-- the rows of marks, from a number on
unfoldable pub mark_rows : List ℕ → ℕ → List Mark → List ℕ
mark_rows text n [] = []
mark_rows text n (mark ∷ marks) = mark_row text n mark ++ mark_rows text (suc n) marks

-- the places of a mark lie in order within a length
abbrev pub LiesWithin : ℕ → Mark → Type 0
LiesWithin len mark = (mark.from ≤ mark.to) × (mark.to ≤ len)
