-- What a look at the next undos, or redos, of a text writes.
use Rattle.std.specs.Prelude.{◌≡◌, ◌<◌, ◌≤◌, ℕ, suc, ◌-◌, ◌==◌, Bool, false, Option, None, Some, List, [], ◌∷◌, ◌++◌, length, map, take, if◌then◌else◌, codes, decimal, ◌⊎◌, ◌+◌, Result, IfOk, IfErr, drop}
use Rattle.std.specs.Io.KnownBytes.{Appends}
use Rattle.bx_journal_format.specs.Kept.{Kept}
use Rattle.bx_journal_format.specs.Ranges.{ranges_text}
use Rattle.bx_journal_format.specs.Shown.{shown}
use Rattle.bx_journal_format.specs.Spelled.{EntryLines, IsSpelled, entry_in}
use Rattle.bx_journal_format.specs.Text.{Entry, Stage, Between, Saving, Ending, IsPrefix, Reading, Reads, IsDamagedAt, split}
use Rattle.bx_journal_read.specs.show.Differences.{diff_text, made_text}
use Rattle.bx_image.specs.Power.{NoMore}
use Rattle.bx_journal_model.specs.Fault.{DeviceFault, redo_fault}
use Rattle.bx_journal_model.specs.Redo.{BeginsAt, IsClean}
use Rattle.bx_journal_format.specs.count.Rows.{saved_length}
use Rattle.bx_journal_read.specs.show.Showing.{after_text, PutFault, lines_at, ranges_at}
use Rattle.bx_journal_read.specs.declared.show.fault.ShowFault.{ShowFault}
use Rattle.bx_journal_read.specs.declared.show.fault.ShowFault.TheVariants.{Text, Io}
use Rattle.bx_journal_read.specs.show.Stopping.{StopsPrefix}
use Rattle.bx_journal_read.specs.declared.show.way.Steps.{Steps}
use Rattle.bx_journal_read.specs.declared.show.way.Direction.{Direction}
use Rattle.bx_journal_read.specs.declared.show.way.Direction.TheVariants.{Undo, Redo}
use Rattle.bx_journal_model.specs.declared.fault.SessionFault.TheVariants.{Damaged, RedoDamaged, TooFew, NothingToRedo}
use Rattle.bx_journal_format.specs.declared.read.marks.Mark.{Mark}
use Rattle.bx_journal_format.specs.count.Mark.{IsMark}
use Rattle.bx_journal_format.specs.count.Marks.{marks_of}
use Rattle.bx_journal_read.specs.declared.show.unfinished.Marked.{Marked}
use Rattle.bx_journal_model.specs.declared.mark.Mark.{Mark as Place}
use Rattle.bx_journal_read.specs.declared.scan.torn.Torn.{Torn}
use Rattle.bx_journal_model.specs.declared.fault.SessionFault.{SessionFault}
use Rattle.bx_journal_model.specs.Looking.{LooksAt}
use Rattle.bx_journal_read.specs.scan.Recovery.{FindFault}

-- the word for a way
abbrev pub way_word : Direction → List ℕ
way_word Undo = codes "undo"
way_word Redo = codes "redo"

-- how many bytes
abbrev pub bytes_text : ℕ → List ℕ
bytes_text n = if n == 1 then codes "1 byte" else decimal n ++ codes " bytes"

-- how many bytes a step writes, and where
abbrev pub writes_text : Kept → List ℕ
writes_text s = if saved_length s == 0 then codes "no bytes" else bytes_text (saved_length s) ++ codes " at " ++ ranges_text s.runs

-- whether the length after a change is known, and is that before it
abbrev pub keeps_length : Option ℕ → ℕ → Bool
keeps_length None len = false
keeps_length (Some after) len = after == len

-- what a step makes of the length, which is `-` where the entry doesn't tell it
abbrev pub length_words : Option ℕ → ℕ → List ℕ
length_words after len =
    if keeps_length after len then codes "keeps length " ++ decimal len else codes "length " ++ after_text after ++ codes " to " ++ decimal len

-- the heading of a step: the number of the change, the way, what is written, and the length
abbrev pub heading : Direction → ℕ → Entry → List ℕ
heading way n e = codes "# change " ++ decimal n ++ codes ": " ++ way_word way ++ codes " writes " ++ writes_text e.saved ++ codes ", "
    ++ length_words e.after e.saved.len ++ codes "\n"

-- the saved lines of an entry of this length, each made from its bytes, and beside the image where they are compared
abbrev pub lines_text : Bool → List ℕ → ℕ → List (List ℕ) → List ℕ
lines_text compares image len lines = if compares then diff_text image len lines else made_text len lines

-- the line of a patch that tells both lengths, where the step is known to change the length
abbrev pub patch_length : Option ℕ → ℕ → List ℕ
patch_length None len = []
patch_length (Some after) len = if after == len then [] else codes "length " ++ decimal after ++ codes " to " ++ decimal len ++ codes "\n"

-- whether steps are shown as a patch: one step, beside the image
abbrev pub shows_patch : Steps → Bool
shows_patch s = if s.compares then s.count == 1 else false

-- that line behind the heading of such a step
abbrev pub length_told : Steps → Option ℕ → ℕ → List ℕ
length_told s after len = if shows_patch s then patch_length after len else []

-- a step: its heading, the saved lines, and an empty line; a patch tells both lengths behind the heading
abbrev pub step_text : Steps → List ℕ → ℕ → EntryLines → List ℕ
step_text s image n c = heading s.way n c.entry ++ length_told s c.entry.after c.entry.saved.len
    ++ lines_text s.compares image c.entry.saved.len c.saved ++ codes "\n"

-- the number of the step behind one: an undo goes down, a redo goes up
abbrev pub next_number : Direction → ℕ → ℕ
next_number Undo n = n - 1
next_number Redo n = suc n

-- the steps over entries, the newest first, from a number on
unfoldable pub steps_text : Steps → List ℕ → ℕ → List EntryLines → List ℕ
steps_text s image n [] = []
steps_text s image n (c ∷ older) = step_text s image n c ++ steps_text s image (next_number s.way n) older

-- the number of the first step: an undo takes back the newest change, a redo makes one more
abbrev pub first_number : Direction → ℕ → ℕ → ℕ
first_number Undo changes entries = entries
first_number Redo changes entries = suc changes

-- the steps that are asked for
abbrev pub shown_steps : Steps → List ℕ → List EntryLines → List ℕ
shown_steps s image entries = steps_text s image (first_number s.way s.changes (length entries)) (take s.count entries)

-- Behind the finished entries at the front of a text something unfinished stands
pub record IsUnfinishedBehind (text front : List ℕ) (entries : List EntryLines) (stage : Stage) : Type 0 where
  pub front_is : IsPrefix front text
  pub spelled : IsSpelled front entries
  pub reads : Reads (shown text) (record { entries = map entry_in entries; stage = stage })
  pub unfinished : IsClean text → ⊥

-- what the next command does with it: a change that was under way is taken back
abbrev pub next_word : Stage → List ℕ
next_word Between = codes "drops it"
next_word (Saving v s) = codes "drops it"
next_word (Ending v s) = codes "takes it back"

-- the line that says so
abbrev pub unfinished_line : ℕ → Stage → List ℕ
unfinished_line n stage = codes "# change " ++ decimal n ++ codes ": unfinished, the next command " ++ next_word stage ++ codes "\n"

-- There were as many entries as were asked for, and behind a line or none their steps were written
pub record HasShown (s : Steps) (image : List ℕ) (entries : List EntryLines) (line : List ℕ) (old new : Option (List ℕ)) : Type 0 where
  pub enough : s.count ≤ length entries
  pub written : Appends old new (line ++ shown_steps s image entries)

-- a text is finished entries alone, or has something unfinished behind them
abbrev pub HasFront : List ℕ → Type 0
HasFront text = ((entries : List EntryLines) × IsSpelled text entries)
    ⊎ ((front : List ℕ) × (entries : List EntryLines) × (stage : Stage) × IsUnfinishedBehind text front entries stage)

-- The text is one of these, and this was written of finished entries alone, and of some with something unfinished behind them
pub record ShowsSteps (text image : List ℕ) (s : Steps) (old new : Option (List ℕ)) : Type 0 where
  pub accepted : HasFront text
  pub finished : (entries : List EntryLines) → IsSpelled text entries → HasShown s image entries [] old new
  pub unfinished : (front : List ℕ) (entries : List EntryLines) (stage : Stage) → IsUnfinishedBehind text front entries stage
      → (s.way ≡ Undo) × HasShown s image entries (unfinished_line (suc (length entries)) stage) old new

-- A look at steps was stopped: a front of what is written of such a text was, and nothing of another
pub record StopsShown (text image : List ℕ) (s : Steps) (old new : Option (List ℕ)) (fault : ShowFault) : Type 0 where
  pub quiet : (HasFront text → ⊥) → new ≡ old
  pub finished : (entries : List EntryLines) → IsSpelled text entries → StopsPrefix 0 (shown_steps s image entries) old new fault
  pub unfinished : (front : List ℕ) (entries : List EntryLines) (stage : Stage) → IsUnfinishedBehind text front entries stage
      → StopsPrefix 0 (unfinished_line (suc (length entries)) stage ++ shown_steps s image entries) old new fault

-- a text has `have` finished entries
abbrev pub HasEntries : List ℕ → ℕ → Type 0
HasEntries text have = (r : Reading) × Reads (shown text) r × (length r.entries ≡ have)

-- Something is unfinished behind the finished entries of a text, and begins at this line
pub record IsLeftAt (text : List ℕ) (line : ℕ) : Type 0 where
  pub reading : Reading
  pub reads : Reads (shown text) reading
  pub unfinished : IsClean text → ⊥
  pub begins : BeginsAt text reading.entries line

-- at this place of a text this line begins
abbrev pub BeginsLine : List ℕ → ℕ → ℕ → Type 0
BeginsLine text at line = line ≡ suc (length (split (take at text)).lines)

-- which fault a look at steps answers: fewer entries than were asked for, the line at which the text is damaged or, of a redo text,
-- what is unfinished begins, or one that the text doesn't make
abbrev pub StopsSteps : Type 0 → List ℕ → Steps → ShowFault → Type 0
StopsSteps faithful text s (Text (TooFew have)) = (s.way ≡ Undo) × (have < s.count) × (faithful → HasEntries text have)
StopsSteps faithful text s (Text (NothingToRedo have)) = (s.way ≡ Redo) × (have < s.count) × (faithful → HasEntries text have)
StopsSteps faithful text s (Text (Damaged line)) = (s.way ≡ Undo) × (faithful → IsDamagedAt (shown text) line)
StopsSteps faithful text s (Text (RedoDamaged line)) = (s.way ≡ Redo) × (faithful → IsDamagedAt (shown text) line ⊎ IsLeftAt text line)
StopsSteps faithful text s (Text fault) = DeviceFault fault
StopsSteps faithful text s (Io fault) = PutFault (Io fault)

-- the fault is of the text and the number of steps: nothing is written before it
abbrev pub RefusesSteps : ShowFault → Type 0
RefusesSteps (Text (TooFew have)) = Unit {0}
RefusesSteps (Text (NothingToRedo have)) = Unit {0}
RefusesSteps (Text (Damaged line)) = Unit {0}
RefusesSteps (Text (RedoDamaged line)) = Unit {0}
RefusesSteps (Text fault) = ⊥
RefusesSteps (Io fault) = ⊥

-- how many bytes a step writes, up to where they stand
abbrev pub amount_text : ℕ → List ℕ
amount_text saved = if saved == 0 then codes "no bytes" else bytes_text saved ++ codes " at "

-- the number of a change, and the way
abbrev pub heading_front : Direction → ℕ → List ℕ
heading_front way n = codes "# change " ++ decimal n ++ codes ": " ++ way_word way ++ codes " writes "

-- what stands in a heading before the places
abbrev pub heading_start : Direction → ℕ → ℕ → List ℕ
heading_start way n saved = heading_front way n ++ amount_text saved

-- the places, if any
abbrev pub where_at : List ℕ → Mark → List ℕ
where_at text mark = if mark.saved == 0 then [] else ranges_at text mark

-- what stands in a heading behind them, where the length stays
abbrev pub kept_end : ℕ → List ℕ
kept_end len = codes ", keeps length " ++ decimal len ++ codes "\n"

-- where it doesn't
abbrev pub changed_end : ℕ → ℕ → List ℕ
changed_end after len = codes ", length " ++ decimal after ++ codes " to " ++ decimal len ++ codes "\n"

-- where the entry tells the length after the change
abbrev pub told_end : Bool → ℕ → ℕ → List ℕ
told_end keeps after len = codes ", "
    ++ (if keeps then codes "keeps length " ++ decimal len else codes "length " ++ decimal after ++ codes " to " ++ decimal len) ++ codes "\n"

-- what stands behind them
abbrev pub heading_end : Option ℕ → ℕ → List ℕ
heading_end after len = codes ", " ++ length_words after len ++ codes "\n"

-- the heading of the step of a mark
abbrev pub heading_at : List ℕ → Direction → ℕ → Mark → List ℕ
heading_at text way n mark = heading_start way n mark.saved ++ where_at text mark ++ heading_end mark.after mark.len

-- its saved lines, beside the image where they are compared
abbrev pub saved_lines_at : Bool → List ℕ → List ℕ → Mark → List ℕ
saved_lines_at compares image text mark = if compares then diff_text image mark.len (split (lines_at text mark)).lines
    else made_text mark.len (split (lines_at text mark)).lines

-- the step of a mark
abbrev pub mark_step : Steps → List ℕ → List ℕ → ℕ → Mark → List ℕ
mark_step s image text n mark = heading_at text s.way n mark ++ length_told s mark.after mark.len ++ saved_lines_at s.compares image text mark ++ codes "\n"

-- the number of the step behind i others
abbrev pub number_at : Direction → ℕ → ℕ → ℕ
number_at Undo first i = first - i
number_at Redo first i = first + i

-- the steps of marks, which are given the oldest first, from a number on: the newest first
unfoldable pub newest_first : Steps → List ℕ → List ℕ → ℕ → List Mark → List ℕ
newest_first s image text n [] = []
newest_first s image text n (mark ∷ marks) = newest_first s image text n marks ++ mark_step s image text (number_at s.way n (length marks)) mark

-- the steps of the newest marks were written
abbrev pub AreStepsPut : Steps → List ℕ → List ℕ → ℕ → List Mark → Option (List ℕ) → Option (List ℕ) → Type 0
AreStepsPut s image text count marks old new =
    Appends old new (newest_first s image text (first_number s.way s.changes (length marks)) (drop (length marks - count) marks))

-- what the steps of the newest marks are
abbrev pub newest_steps : Steps → List ℕ → List ℕ → ℕ → List Mark → List ℕ
newest_steps s image text count marks = newest_first s image text (first_number s.way s.changes (length marks)) (drop (length marks - count) marks)

-- what the next command does with what is unfinished, which has its record at a mark where the change was under way
abbrev pub mark_word : Option Place → List ℕ
mark_word None = codes "drops it"
mark_word (Some mark) = codes "takes it back"

-- the line that says so
abbrev pub torn_line : Torn → List ℕ
torn_line torn = codes "# change " ++ decimal (torn.count + 1) ++ codes ": unfinished, the next command " ++ mark_word torn.mark ++ codes "\n"

-- the same where something is unfinished
abbrev pub torn_text : Option Torn → List ℕ
torn_text None = []
torn_text (Some torn) = torn_line torn

-- what stands behind the finished entries of a text
abbrev pub StandsBehind : List ℕ → List ℕ → List EntryLines → Option Torn → Type 0
StandsBehind text front entries None = text ≡ front
StandsBehind text front entries (Some torn) = (stage : Stage) × IsUnfinishedBehind text front entries stage × (torn.count ≡ length entries)
    × (mark_word torn.mark ≡ next_word stage) × IsMark text torn.begins (record { entries = map entry_in entries; stage = Between })

-- the finished entries of a text, which is the store's where that is faithful, have these marks, and behind them stands this
pub record AreFrontMarks (faithful : Type 0) (stored : List ℕ) (marks : List Mark) (torn : Option Torn) : Type 0 where
  pub front : List ℕ
  pub entries : List EntryLines
  pub spelled : IsSpelled front entries
  pub marks_are : marks ≡ marks_of entries
  pub behind : faithful → StandsBehind stored front entries torn

-- A call that looks for the marks of the finished entries of a text: it answers them, or a fault of reading it
pub record FindsFront {T A : Type 0} (faithful : T → Type 0) (text : T → List ℕ) (left : T → List ℕ → Type 0) (failures : T → ℕ)
    (result : Result (Marked A) SessionFault) (old new : T) : Type 0 where
  pub marks : IfOk result (λ found. AreFrontMarks (faithful old) (text old) found.marks.items found.torn)
  pub fault : IfErr result (FindFault (faithful old) (shown (text old)))
  pub looks : LooksAt faithful text failures result old new
  pub survives : faithful old → NoMore (left old) (left new)

-- a fault of reading the text, as the call that steps answers it
abbrev pub fault_that : Direction → SessionFault → SessionFault
fault_that Undo fault = fault
fault_that Redo fault = redo_fault fault

-- what is answered where there are `have` entries, which are too few
abbrev pub few_that : Direction → ℕ → SessionFault
few_that Undo have = TooFew have
few_that Redo have = NothingToRedo have

-- nothing is unfinished that steps this way don't deal with
abbrev pub IsSettled : Direction → Option Torn → Type 0
IsSettled way torn = way ≡ Redo → torn ≡ None

-- what is unfinished, which steps this way don't deal with
abbrev pub IsLeftIn : Direction → Option Torn → Torn → Type 0
IsLeftIn way torn left = (way ≡ Redo) × (torn ≡ Some left)

-- there are entries enough, and nothing is unfinished that the steps don't deal with
abbrev pub CanStep : {A : Type 0} → Steps → Marked A → Type 0
CanStep s found = (s.count ≤ length found.marks.items) × IsSettled s.way found.torn

-- what was checked is what was found, and can be stepped over
abbrev pub IsChecked : {A : Type 0} → Steps → Marked A → Marked A → Type 0
IsChecked s found checked = (checked.marks.items ≡ found.marks.items) × (checked.torn ≡ found.torn) × CanStep s checked

-- why steps aren't taken
abbrev pub CannotStep : {A : Type 0} → Steps → Marked A → SessionFault → Type 0
CannotStep s found fault = (length found.marks.items < s.count) × (fault ≡ few_that s.way (length found.marks.items))

-- A call that looks for the marks of the entries that are to be stepped over: it answers them, or why they aren't
pub record FindsSteps {T A : Type 0} (faithful : T → Type 0) (text : T → List ℕ) (left : T → List ℕ → Type 0) (failures : T → ℕ) (s : Steps)
    (result : Result (Marked A) SessionFault) (old new : T) : Type 0 where
  pub marks : IfOk result (λ found. AreFrontMarks (faithful old) (text old) found.marks.items found.torn)
  pub can : IfOk result (CanStep s)
  pub fault : IfErr result (λ e. StopsSteps (faithful old) (text old) s (Text e))
  pub looks : LooksAt faithful text failures result old new
  pub survives : faithful old → NoMore (left old) (left new)

-- the line on what is unfinished was written, and the steps over what was found
abbrev pub IsFoundPut : {A : Type 0} → Steps → List ℕ → List ℕ → Marked A → Option (List ℕ) → Option (List ℕ) → Type 0
IsFoundPut s image text found old new =
    (between : Option (List ℕ)) × Appends old between (torn_text found.torn) × AreStepsPut s image text s.count found.marks.items between new

-- a front of that line and those steps was written
abbrev pub StopsFound : {A : Type 0} → Steps → List ℕ → List ℕ → Marked A → Option (List ℕ) → Option (List ℕ) → ShowFault → Type 0
StopsFound s image text found old new fault = StopsPrefix 0 (torn_text found.torn ++ newest_steps s image text s.count found.marks.items) old new fault
