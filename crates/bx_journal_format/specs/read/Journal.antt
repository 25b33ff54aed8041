-- A text that was read, with its places.
use Rattle.std.specs.Prelude.{◌≡◌, ◌+◌, ◌<◌, ◌≤◌, ◌^◌, ℕ, List, [], drop, take, length}
use Rattle.bx_journal_format.specs.declared.read.types.Front.{Front}
use Rattle.bx_journal_format.specs.declared.read.whole.JournalRead.{JournalRead}
use Rattle.bx_journal_format.specs.count.Mark.{IsMark}
use Rattle.bx_journal_format.specs.Parsed.{told_by, IsStageMarked, reading_of, reading_onto}
use Rattle.bx_journal_format.specs.Text.{Between, Entry, Reads, split}

pub record HasPlaces {A : Type 0} (text : List ℕ) (older : List Entry) (j : JournalRead A) : Type 0 where
  pub mark : IsMark text j.whole (reading_onto older j.entries.items j.stage)
  pub marked : IsStageMarked text older j.entries.items j.stage j.whole
  pub rest : drop j.whole text ≡ (split text).rest

-- the text was read from behind its older entries on, which are the newest first, and its places are known
pub record HasReadBehind {A : Type 0} (text : List ℕ) (older : List Entry) (j : JournalRead A) : Type 0 where
  pub reads : Reads text (reading_onto older j.entries.items j.stage)
  pub places : HasPlaces text older j

-- the text is `bytes` behind a front, which is these older entries alone
pub record IsBehind (text : List ℕ) (older : List Entry) (front : Front) (bytes : List ℕ) : Type 0 where
  pub mark : IsMark text front.at (record { entries = older; stage = Between })
  pub rest : bytes ≡ drop front.at text
  pub count : front.count ≡ length older
  pub told : front.told ≡ told_by older
  pub many : front.lines ≡ length (split (take front.at text)).lines
  pub lines : front.lines ≤ front.at
  pub few : front.count ≤ 65535
  pub countable : length text + 1 < 2 ^ 64

-- the text was read, and its places are known
pub record HasRead {A : Type 0} (text : List ℕ) (j : JournalRead A) : Type 0 where
  pub reads : Reads text (reading_of j.entries.items j.stage)
  pub places : HasPlaces text [] j
