-- Texts of finished entries alone.
use Rattle.std.specs.Prelude.{◌≡◌, ℕ, is_some, IsTrue, List, [], ◌∷◌}
use Rattle.bx_journal_format.specs.Text.{Entry, Between, Reads, split}

-- the text is these finished entries alone
pub record IsFinished (text : List ℕ) (entries : List Entry) : Type 0 where
  pub reads : Reads text (record { entries = entries; stage = Between })
  pub whole : (split text).rest ≡ []

-- each entry tells the length after its change
abbrev pub AllTell : List Entry → Type 0
AllTell [] = Unit {0}
AllTell (e ∷ entries) = IsTrue (is_some e.after) × AllTell entries
