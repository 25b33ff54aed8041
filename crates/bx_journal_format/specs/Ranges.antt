-- The runs of a record as ranges, in decimal.
use Rattle.std.specs.Prelude.{ℕ, ◌+◌, ◌-◌, ◌==◌, List, [], ◌++◌, length, drop, flat_map, if◌then◌else◌, codes, decimal, ◌≡◌, ◌⊎◌, ◌≤◌, Bool, true, false, ◌∷◌, take}
use Rattle.bx_journal_format.specs.Kept.{Run}
use Rattle.bx_journal_format.specs.declared.read.ranges.Ranging.{Ranging}
use Rattle.bx_journal_format.specs.declared.read.ranges.RangedLines.{RangedLines}
use Rattle.bx_journal_format.specs.Spelled.{runs_behind}
use Rattle.bx_journal_format.specs.Text.{split}

-- behind a comma the addresses of the first and the last byte of a run; nothing of a run of no bytes
abbrev pub range_text : Run → List ℕ
range_text run = if length run.bytes == 0 then [] else codes "," ++ decimal run.at ++ codes "-" ++ decimal (run.at + length run.bytes - 1)

-- the ranges of runs in their order, with commas between them
abbrev pub ranges_text : List Run → List ℕ
ranges_text runs = drop 1 (flat_map range_text runs)

-- ranges with a comma before each are put without the first comma; whether there is one
abbrev pub ArePut : Bool → List ℕ → List ℕ → Type 0
ArePut true ranges text = ranges ≡ codes "," ++ text
ArePut false ranges text = (ranges ≡ []) × (text ≡ [])

-- the runs are these and a last one, or there is none yet
abbrev pub EndIn : List Run → List Run → ℕ → List ℕ → Type 0
EndIn runs front at bytes = (runs ≡ front ++ record { at = at; bytes = bytes } ∷ []) ⊎ ((runs ≡ []) × (front ≡ []) × (at ≡ 0) × (bytes ≡ []))

-- of these runs the ranges of all but the last are put
pub record AreRanged (runs : List Run) (r : Ranging) (text : List ℕ) : Type 0 where
  pub front : List Run
  pub bytes : List ℕ
  pub count : length bytes ≡ r.count
  pub are : EndIn runs front r.at bytes
  pub put : ArePut r.is_behind (flat_map range_text front) text

-- the range of the last run is put behind what stands before it
abbrev pub PutsRange : Ranging → List ℕ → List ℕ → Bool → Type 0
PutsRange r old new is_behind = (before ranges bytes : List ℕ) → length bytes ≡ r.count → ArePut r.is_behind ranges (before ++ old)
    → ArePut is_behind (ranges ++ range_text (record { at = r.at; bytes = bytes })) (before ++ new)

-- lines of an entry of this length lead from runs whose ranges are put to others
abbrev pub RangesOn : ℕ → List (List ℕ) → Ranging → List ℕ → List ℕ → Ranging → Type 0
RangesOn len lines from old new to = (runs : List Run) (before : List ℕ) → AreRanged runs from (before ++ old)
    → AreRanged (runs_behind len runs lines) to (before ++ new)

-- the whole lines at the start of a window do
pub record IsRangedIn (window : List ℕ) (len : ℕ) (from : Ranging) (old new : List ℕ) (l : RangedLines) : Type 0 where
  pub leads : RangesOn len (split (take l.taken window)).lines from old new l.ranging
  pub whole : (split (take l.taken window)).rest ≡ []
  pub within : l.taken ≤ length window

-- and the range of the last run ends them
abbrev pub EndsRanges : Ranging → List ℕ → List ℕ → Type 0
EndsRanges r old new = (runs : List Run) (before : List ℕ) → AreRanged runs r (before ++ old) → before ++ new ≡ ranges_text runs
