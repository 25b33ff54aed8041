-- Where the reading of a text stops.
use Rattle.std.specs.Prelude.{◌≡◌, ◌⊎◌, ℕ, None, List, ◌∷◌, ◌++◌}
use Rattle.bx_journal_format.specs.read.Plain.{HasNoNewline}
use Rattle.bx_journal_format.specs.Text.{Reading, IsRest, next}

-- The next line of what follows a reading is out of place, or it has no newline and can't stand there
abbrev pub StopsAt : Reading → List ℕ → Type 0
StopsAt r text = ((line behind : List ℕ) × (text ≡ line ++ 10 ∷ behind) × HasNoNewline line × (next r line ≡ None))
    ⊎ (HasNoNewline text × (IsRest r.entries r.stage text → ⊥))
