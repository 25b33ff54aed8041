-- What a line does at its place, and what is made of it.
use Rattle.std.specs.Prelude.{◌≡◌, ◌<◌, ◌+◌, ℕ, suc, Option, None, Some, MatchOption, List, [], ◌∷◌, length, take}
use Rattle.bx_journal_format.specs.declared.format.line.SavedLine.{SavedLine}
use Rattle.bx_journal_format.specs.declared.format.version.Version.{Version}
use Rattle.bx_journal_format.specs.declared.read.classify.Event.{Event}
use Rattle.bx_journal_format.specs.declared.read.classify.Event.TheVariants.{Begun, Saved, Complete, Committed}
use Rattle.bx_journal_format.specs.declared.read.count.Place.TheVariants.{Between as BetweenPlace, Saving as SavingPlace, Ending as EndingPlace}
use Rattle.bx_journal_format.specs.declared.read.count.Tally.{Tally}
use Rattle.bx_journal_format.specs.Kept.{Run, Kept, with_run}
use Rattle.bx_journal_format.specs.Line.{save_line, saved_in}
use Rattle.bx_journal_format.specs.Text.{Entry, Stage, Between, Saving, Ending, Reading, begins, next_at}

-- whether the line begins an entry of this version behind these, and the length that it tells: nothing is saved yet
abbrev pub BeginsAs : List Entry → Version → List ℕ → Option ℕ → Type 0
BeginsAs es v line found = MatchOption found (begins es v line ≡ None) (λ len. begins es v line ≡ Some (Saving v (record { len = len; runs = [] })))

-- what a saved line gives
abbrev pub run_in : SavedLine → Run
run_in l = record { at = l.at; bytes = take l.count l.bytes }

-- what an entry keeps, with a run more
abbrev pub kept_with : Kept → Run → Kept
kept_with s p = record { len = s.len; runs = with_run s.runs p }

-- what a line is that leads from a stage behind these entries to a reading
abbrev pub IsEvent : List Entry → Stage → List ℕ → Reading → Event → Type 0
IsEvent es stage line q (Begun v len) =
    (stage ≡ Between) × (q ≡ record { entries = es; stage = Saving v (record { len = len; runs = [] }) }) × (length es < 65535)
IsEvent es stage line q (Saved l) = (v : Version) × (s : Kept)
    × (stage ≡ Saving v s) × (q ≡ record { entries = es; stage = Saving v (kept_with s (run_in l)) }) × (saved_in s.len line ≡ Some (run_in l))
IsEvent es stage line q (Complete v) =
    (s : Kept) × (stage ≡ Saving v s) × (q ≡ record { entries = es; stage = Ending v s }) × (line ≡ save_line (suc (length es)))
IsEvent es stage line q (Committed after) = (v : Version) × (s : Kept)
    × (stage ≡ Ending v s) × (q ≡ record { entries = record { saved = s; after = after } ∷ es; stage = Between })

-- where a line leads, and what it is
pub record LeadsAs (es : List Entry) (stage : Stage) (line : List ℕ) (event : Event) : Type 0 where
  pub reading : Reading
  pub leads : next_at es stage line ≡ Some reading
  pub is : IsEvent es stage line reading event

-- what a line is, if it is in place
abbrev pub IsClassified : List Entry → Stage → List ℕ → Option Event → Type 0
IsClassified es stage line found = MatchOption found (next_at es stage line ≡ None) (LeadsAs es stage line)

-- the tally behind a line
abbrev pub tally_behind : Tally → Event → Tally
tally_behind t (Begun v len) = record { count = t.count; told = t.told; place = SavingPlace v len }
tally_behind t (Saved l) = t
tally_behind t (Complete v) = record { count = t.count; told = t.told; place = EndingPlace v }
tally_behind t (Committed after) = record { count = t.count + 1; told = after; place = BetweenPlace }
