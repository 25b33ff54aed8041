-- A text that is read a window at a time: what is read of it so far.
use Rattle.std.specs.Prelude.{◌≡◌, ◌≤◌, ◌+◌, ◌-◌, ◌*◌, ◌++◌, ℕ, Option, Result, IfOk, IfSome, List, length, take, drop}
use Rattle.bx_journal_format.specs.declared.read.lines.LinesRead.{LinesRead}
use Rattle.bx_journal_format.specs.declared.read.types.EntryRead.{EntryRead}
use Rattle.bx_journal_format.specs.declared.read.types.Front.{Front}
use Rattle.bx_journal_format.specs.declared.read.types.StageRead.{StageRead}
use Rattle.bx_journal_format.specs.Parsed.{told_by, IsStageMarked, reading_onto}
use Rattle.bx_journal_format.specs.Text.{Between, Entry}
use Rattle.bx_journal_format.specs.count.Mark.{IsMark}

-- the text is these older entries alone, the newest first, as a front tells
pub record IsFront (text : List ℕ) (older : List Entry) (front : Front) : Type 0 where
  pub mark : IsMark text front.at (record { entries = older; stage = Between })
  pub long : length text ≡ front.at
  pub count : front.count ≡ length older
  pub told : front.told ≡ told_by older
  pub few : front.count ≤ 65535

-- the text is read up to a place behind a whole line, and of the entries those behind `older`
pub record IsReadAt {A : Type 0} (text : List ℕ) (older : List Entry) (es : List (EntryRead A)) (stage : StageRead A) (at : ℕ) : Type 0 where
  pub mark : IsMark text at (reading_onto older es stage)
  pub marked : IsStageMarked text older es stage at

-- where a text is read up to a place with the one stage, it is so with the other
abbrev pub IsReadAlike : {A : Type 0} → StageRead A → StageRead A → Type 0
IsReadAlike {A = A} old new =
    (text : List ℕ) (older : List Entry) (es : List (EntryRead A)) (at : ℕ) → IsReadAt text older es old at → IsReadAt text older es new at

-- `count` full lines, with which a text goes on, lead from one stage to another, whatever entries are before
abbrev pub StageGoesOnBy : {A : Type 0} → List ℕ → StageRead A → StageRead A → ℕ → Type 0
StageGoesOnBy {A = A} rest old new count =
    (text : List ℕ) (older : List Entry) (es : List (EntryRead A)) (at : ℕ) → IsReadAt text older es old at → rest ≡ drop at text
    → IsReadAt text older es new (at + 68 * count)

-- all of a text of whole lines was read, behind a front of it that is these older entries
pub record IsReadUpTo {A : Type 0} (text : List ℕ) (older : List Entry) (front : Front) (r : LinesRead A) : Type 0 where
  pub count : front.count ≡ length older
  pub told : front.told ≡ told_by older
  pub long : length text ≡ r.at
  pub read : IsReadAt text older r.entries.items r.stage r.at

-- where a text was read behind a front, and a window goes on with it: both are read up to the place that the answer tells, if there is one
abbrev pub ReadsOn : {A E : Type 0} → Front → LinesRead A → List ℕ → Result (Option (LinesRead A)) E → Type 0
ReadsOn front old window result =
    (text : List ℕ) (older : List Entry) → IsReadUpTo text older front old
    → IfOk result (λ found. IfSome found (λ r. IsReadUpTo (text ++ take (r.at - old.at) window) older front r))
