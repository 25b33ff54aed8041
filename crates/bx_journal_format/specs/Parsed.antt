-- What the reader has in hand, as a reading.
use Rattle.std.specs.Prelude.{ℕ, Option, None, List, [], ◌∷◌, ◌≡◌, ◌≤◌, ◌<◌, ◌+◌, ◌*◌, suc, Some, length, take, drop, map}
use Rattle.bx_journal_format.specs.Text.{Entry, Stage, Between, Saving, Ending, Reading, split, next}
use Rattle.bx_journal_format.specs.Kept.{run_of, kept_of}
use Rattle.bx_journal_format.specs.declared.read.types.EntryRead.{EntryRead}
use Rattle.bx_journal_format.specs.declared.read.types.StageRead.{StageRead}
use Rattle.bx_journal_format.specs.declared.read.types.StageRead.TheVariants.{Between as BetweenRead, Saving as SavingRead, Ending as EndingRead}
use Rattle.bx_image.specs.Change.{AllWithin}
use Rattle.bx_journal_format.specs.count.Mark.{IsMark, HasMarks}

-- the length that the next entry has to begin with, where a line tells it
abbrev pub told_by : List Entry → Option ℕ
told_by [] = None
told_by (e ∷ entries) = e.after

abbrev pub entry_of : {A : Type 0} → EntryRead A → Entry
entry_of e = record { saved = kept_of e.kept; after = e.after }

-- the entries, the newest first, of those that were read, the oldest first
abbrev pub entries_onto : {A : Type 0} → List Entry → List (EntryRead A) → List Entry
entries_onto done [] = done
entries_onto done (e ∷ entries) = entries_onto (entry_of e ∷ done) entries

abbrev pub entries_of : {A : Type 0} → List (EntryRead A) → List Entry
entries_of entries = entries_onto [] entries

abbrev pub stage_of : {A : Type 0} → StageRead A → Stage
stage_of BetweenRead = Between
stage_of (SavingRead v len runs begins) = Saving v (record { len = len; runs = map run_of runs.items })
stage_of (EndingRead v kept begins saved) = Ending v (kept_of kept)

-- what was read behind older entries, which are the newest first
abbrev pub reading_onto : {A : Type 0} → List Entry → List (EntryRead A) → StageRead A → Reading
reading_onto older entries stage = record { entries = entries_onto older entries; stage = stage_of stage }

abbrev pub reading_of : {A : Type 0} → List (EntryRead A) → StageRead A → Reading
reading_of entries stage = reading_onto [] entries stage

-- Entries that were read, the oldest first, lie one after another between two places. Those before them are `done`
abbrev pub AreMarked : {A : Type 0} → List ℕ → List Entry → ℕ → List (EntryRead A) → ℕ → Type 0
AreMarked text done from [] to = from ≤ to
AreMarked text done from (e ∷ es) to =
    (from ≤ e.begins) × HasMarks text done e.version (entry_of e) e.begins e.saved × AreMarked text (entry_of e ∷ done) e.saved es to

-- what was read up to a place behind older entries, with the places where its entries begin and where their save lines end
abbrev pub IsStageMarked : {A : Type 0} → List ℕ → List Entry → List (EntryRead A) → StageRead A → ℕ → Type 0
IsStageMarked text older es BetweenRead at = AreMarked text older 0 es at × (length older + length es ≤ 65535)
IsStageMarked text older es (SavingRead v len runs begins) at =
    AreMarked text older 0 es begins × IsMark text begins (record { entries = entries_onto older es; stage = Between }) × (begins ≤ at)
    × (length older + length es < 65535)
IsStageMarked text older es (EndingRead v kept begins saved) at =
    AreMarked text older 0 es begins × IsMark text begins (record { entries = entries_onto older es; stage = Between })
    × IsMark text saved (record { entries = entries_onto older es; stage = Ending v (kept_of kept) }) × (begins ≤ saved) × (saved ≤ at)
    × (length older + length es < 65535)

-- where a line leads from a reading: nowhere, or to these finished entries and a stage
abbrev pub Leads : {A : Type 0} → Reading → List ℕ → List Entry → Option (StageRead A) → Type 0
Leads r line es None = next r line ≡ None
Leads r line es (Some s) = next r line ≡ Some (record { entries = es; stage = stage_of s })

-- what was read up to a place, if anything, has its places
abbrev pub KeepsMarks : {A : Type 0} → List ℕ → List Entry → List (EntryRead A) → ℕ → Option (StageRead A) → Type 0
KeepsMarks text older es after None = Unit {0}
KeepsMarks text older es after (Some s) = IsMark text after (reading_onto older es s) → IsStageMarked text older es s after

-- the text is read up to a place behind a whole line; `line` is the number of the next one, and the entries are those behind `older`
pub record IsReadTo {A : Type 0} (text : List ℕ) (older : List Entry) (es : List (EntryRead A)) (stage : StageRead A) (at line : ℕ) : Type 0 where
  pub mark : IsMark text at (reading_onto older es stage)
  pub marked : IsStageMarked text older es stage at
  pub counted : line ≡ suc (length (split (take at text)).lines)

-- `count` full lines, with which a text goes on, lead from one stage to another and count among its lines, whatever entries are
-- before
abbrev pub ReadingGoesOnBy : {A : Type 0} → List ℕ → StageRead A → StageRead A → ℕ → Type 0
ReadingGoesOnBy {A = A} rest old new count =
    (text : List ℕ) (older : List Entry) (es : List (EntryRead A)) (at line : ℕ) → IsReadTo text older es old at line → rest ≡ drop at text
    → IsReadTo text older es new (at + 68 * count) (line + count)

-- the runs of each entry end within its length, which is at most a limit
abbrev pub AllKept : {A : Type 0} → ℕ → List (EntryRead A) → Type 0
AllKept limit [] = Unit {0}
AllKept limit (e ∷ es) = AllWithin e.kept.len (map run_of e.kept.runs) × (e.kept.len ≤ limit) × AllKept limit es
